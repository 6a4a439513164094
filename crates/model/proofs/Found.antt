-- What a search found, as a decision, and what an array that was made by place holds.
use Rattle.std.specs.Prelude.{◌≡◌, ℕ, zero, suc, ◌+◌, ◌<◌, ◌≤◌, Bool, true, false, List, [], ◌∷◌, map, length, Decides, MatchBool, slice_index_or}
use Rattle.std.proofs.Common.{⊎_elim, refl, sym, ap, subst, ◌∙◌, arith}
use Rattle.std.specs.List.{AllByRecursion, AllWithin, HoldsAt, range_with_len}
use Rattle.std.specs.Array.{IsFromFnResult, IsFromFnResultFrom}
use Rattle.std.specs.Fn.{Called}
use denote.Param.Members.{Mut}
use Rattle.std.proofs.ByRecursion.{All-get_or}
use Rattle.std.proofs.lemmas.List.FromFn.{length-range_with_len, get_or-range_with_len}
use Rattle.std.proofs.lemmas.Bool.{cases_lt}
use Rattle.std.proofs.lemmas.Bool.Decides.{Decides-like}
use Rattle.model.specs.Each.{Decides-yes, Decides-no}

module _ {X : Type 0} (P : X → Type 0) where
  each : (xs : List X) → AllWithin P xs 0 (length xs) → AllByRecursion P xs
  each [] within = tt
  each (x ∷ xs) within = (within 0 x (omega arith) (omega arith), each xs (λ k d low high. within (suc k) d (omega arith) (omega arith)))

  some : (xs : List X) (k : ℕ) → k < length xs → X
  some [] k below = absurd (omega arith)
  some (x ∷ xs) k below = x

  -- every element passes, or one at some place fails
  pub Decides-all : (xs : List X) (r : Bool) → MatchBool r (AllWithin P xs 0 (length xs)) ((k : ℕ) × (k < length xs) × HoldsAt (λ x. P x → ⊥) xs k) → Decides r (AllByRecursion P xs)
  Decides-all xs true found = Decides-yes (each xs found)
  Decides-all xs false found = let d = some xs found.0 found.1 in Decides-no (λ all. found.2 d (All-get_or P xs found.0 d found.1 all))

-- the same of what the elements stand for
pub Decides-all_mapped : {X Y : Type 0} (P : Y → Type 0) (f : X → Y) (xs : List X) (r : Bool) → MatchBool r (AllWithin (λ x. P (f x)) xs 0 (length xs)) ((k : ℕ) × (k < length xs) × HoldsAt (λ x. P (f x) → ⊥) xs k) → Decides r (AllByRecursion P (map f xs))
Decides-all_mapped P f xs r found = Decides-like r (there xs) (back xs) (Decides-all (λ x. P (f x)) xs r found)
  where
    there : (xs : List _) → AllByRecursion (λ x. P (f x)) xs → AllByRecursion P (map f xs)
    there [] all = tt
    there (x ∷ xs) all = (all.0, there xs all.1)

    back : (xs : List _) → AllByRecursion P (map f xs) → AllByRecursion (λ x. P (f x)) xs
    back [] all = tt
    back (x ∷ xs) all = (all.0, back xs all.1)

number_at : (n i : ℕ) → i < n → slice_index_or (range_with_len 0 n) i 0 ≡ i
number_at n i below =
    let zero : 0 + i ≡ i = omega arith in
    get_or-range_with_len 0 n i 0 below ∙ zero

-- the same of the numbers below n
pub Decides-below : (P : ℕ → Type 0) (n : ℕ) (r : Bool) → MatchBool r (AllWithin P (range_with_len 0 n) 0 (length (range_with_len 0 n))) ((k : ℕ) × (k < length (range_with_len 0 n)) × HoldsAt (λ i. P i → ⊥) (range_with_len 0 n) k) → Decides r ((i : ℕ) → i < n → P i)
Decides-below P n true found = Decides-yes (λ i below. subst P (number_at n i below) (found i 0 (omega arith) (omega (arith, length-range_with_len 0 n))))
Decides-below P n false found =
    let below : found.0 < n = omega (arith, found.1, length-range_with_len 0 n) in
    Decides-no (λ all. subst (λ i. P i → ⊥) (number_at n found.0 below) (found.2 0) (all found.0 below))

-- each element of an array made by calls is what f says, where each call gives that and changes nothing
module _ {F B : Type 0} (g : Mut F (ℕ × Unit {0}) B) (f : ℕ → B) (start : F) (ys : List B) (gives : (i : ℕ) (y : B) (q : F) → Called g start (i, tt) y q → (q ≡ start) × (y ≡ f i)) where
  walked : (n i : ℕ) (p : F) → p ≡ start → IsFromFnResultFrom g p ys i n → (k : ℕ) (d : B) → i ≤ k → k < i + n → slice_index_or ys k d ≡ f k
  walked zero i p same calls k d low high = absurd (omega arith)
  walked (suc n) i p same calls k d low high =
      let one = gives i calls.1 calls.0 (subst (λ state. Called g state (i, tt) calls.1 calls.0) same calls.3) in
      ⊎_elim
      (λ later. walked n (i + 1) calls.0 one.0 calls.4 k d (omega arith) (omega arith))
      (λ here. let at : k ≡ i = omega arith in ap (λ j. slice_index_or ys j d) at ∙ calls.2.1 d ∙ one.1 ∙ ap f (sym at))
      (cases_lt i k)

  pub made_by_place : (n : ℕ) → IsFromFnResult g start ys n → (i : ℕ) (d : B) → i < n → slice_index_or ys i d ≡ f i
  made_by_place n made i d below = walked n 0 start refl made.each i d (omega arith) (omega arith)
