-- Tests that decide something, loops that ask whether every element of a list passes one, and what is stored or read of a list.
use Rattle.std.specs.Prelude.{◌≡◌, ℕ, ◌<◌, ◌≤◌, Bool, true, false, T, List, ◌++◌, map, length, get_or, take, replicate, ℤ, ◌≤ℤ◌, Decides, int_le, nat_le, slice_index_or, unsigned_abs, refl}
use Rattle.std.proofs.Common.{⊎_elim, sym, ap, subst, ◌∙◌, arith, length-take, take_all, get_or-take}
use borrow.Author.Tests.{clash}
use Rattle.std.specs.Int.Signed.{le_z_yes}
use Rattle.std.specs.List.{AllByRecursion}
use Rattle.std.proofs.ByRecursion.{All-get_or, All-from_get_or, Decides-by_and}
use Rattle.std.proofs.lemmas.List.{take_at, get_or-map, get_or_past}
use Rattle.std.proofs.lemmas.Bool.{leb-true, le-leb, cases_lt}
use Rattle.std.proofs.lemmas.Bool.Decides.{Decides-at}
use Rattle.model.specs.Limits.{InRange, all_in_range}

pub Decides-yes : {P : Type 0} → P → Decides true P
Decides-yes p = ((λ e. p), (λ q. refl))

pub Decides-no : {P : Type 0} → (P → ⊥) → Decides false P
Decides-no n = ((λ e. absurd (clash e)), (λ p. absurd (n p)))

pub Decides-le : (a b : ℤ) → Decides (int_le a b) (a ≤ℤ b)
Decides-le a b = ((λ e. le_z_yes (subst T (sym e) tt)), (λ h. true_of (int_le a b) h.le))
  where
    true_of : (t : Bool) → T t → t ≡ true
    true_of true h = refl
    true_of false h = absurd h

pub Decides-le_at : (x y a b : ℤ) → x ≡ a → y ≡ b → Decides (int_le x y) (a ≤ℤ b)
Decides-le_at x y a b p q = Decides-at (int_le x y) (int_le a b) (ap (λ z. int_le z y) p ∙ ap (int_le a) q) (Decides-le a b)

pub Decides-leb : (a b : ℕ) → Decides (nat_le a b) (a ≤ b)
Decides-leb a b = (leb-true a b, le-leb a b)

pub Decides-in_range : (entries : List ℤ) → Decides (all_in_range entries) (AllByRecursion InRange entries)
Decides-in_range entries = Decides-by_and _ InRange all_in_range (λ entry. Decides-leb (unsigned_abs entry) 1000000000000) refl (λ _ _. refl) entries

module _ {X : Type 0} (P : X → Type 0) (xs : List X) where
  -- an element fails
  pub stops : (i : ℕ) (d : X) → i < length xs → (P (slice_index_or xs i d) → ⊥) → Decides false (AllByRecursion P xs)
  stops i d within fails = Decides-no (λ all. fails (All-get_or P xs i d within all))

  -- every element has passed
  pub ends : (n : ℕ) → length xs ≤ n → AllByRecursion P (take n xs) → Decides true (AllByRecursion P xs)
  ends n past all = Decides-yes (subst (AllByRecursion P) (take_all n xs past) all)

-- what holds of each element and of the default holds at any place
pub All-at : {X : Type 0} (P : X → Type 0) (xs : List X) (d : X) → AllByRecursion P xs → P d → (k : ℕ) → P (slice_index_or xs k d)
All-at P xs d all past k =
    ⊎_elim (λ within. All-get_or P xs k d within all) (λ after. subst P (sym (get_or_past xs k d after)) past) (cases_lt k (length xs))

-- what holds of each element of a list holds at each of its places in a list that begins with it
pub front_each : {X : Type 0} (P : X → Type 0) (xs ys : List X) (d : X) → take (length xs) ys ≡ xs → AllByRecursion P xs → (k : ℕ) → k < length xs → P (slice_index_or ys k d)
front_each P xs ys d front all k within =
    subst P (ap (λ zs. get_or zs k d) (sym front) ∙ get_or-take (length xs) ys k d within) (All-get_or P xs k d within all)

-- what holds at each of the first n places holds of each element of the front
pub All-front : {X : Type 0} (P : X → Type 0) (ys : List X) (n : ℕ) (d : X) → ((k : ℕ) → k < n → P (slice_index_or ys k d)) → AllByRecursion P (take n ys)
All-front P ys n d each =
    All-from_get_or P (take n ys) d (λ k within. let below : k < n = omega (arith, rw length-take at within) in subst P (sym (get_or-take n ys k d below)) (each k below))

-- the front of what is filled up
pub front_filled : {X : Type 0} (xs ys : List X) (n : ℕ) (x : X) → length xs ≤ 8 → ys ≡ take 8 xs ++ replicate n x → take (length xs) ys ≡ xs
front_filled xs ys n x few same = ap (take (length xs)) (same ∙ ap (λ zs. zs ++ replicate n x) (take_all 8 xs few)) ∙ take_at xs (replicate n x) (length xs) refl

-- an element that was read, in the list of what the elements stand for
pub read_mapped : {X Y : Type 0} (f : X → Y) (xs : List X) (k : ℕ) (x : X) → k < length xs → x ≡ slice_index_or xs k x → slice_index_or (map f xs) k (f x) ≡ f x
read_mapped f xs k x within is = get_or-map f xs k x (f x) within ∙ ap f (sym is)
