-- The rows of a flat list, taken from its front one by one, and what multipliers add, one row more at a time.
use Rattle.std.proofs.Common.{◌≡◌, ℕ, zero, suc, ◌+◌, ◌-◌, ◌/◌, ◌<◌, ◌≤◌, Bool, ◌&&◌, ◌⊎◌, inl, inr, List, [], ◌∷◌, ◌++◌, map, length, get_or, take, drop, ℤ, pos, ◌+ℤ◌, ◌*ℤ◌, Decides, sym, refl, ap, ◌∙◌, subst, add-one, arith, get_or-take}
use native.Mathlib.Nat.{div-eq_of_lt, div-eq-sub-div}
use lib.IntN.{+ℤ_idl, +ℤ_idr, +ℤ_assoc}
use Rattle.std.proofs.lemmas.List.{length-append, length-drop, length-take-le, take-take, take_at, drop_at}
use Rattle.std.proofs.ByRecursion.{All-take}
use Rattle.std.proofs.lemmas.Bool.Decides.{same_from_decides}
use Rattle.std.specs.List.{AllByRecursion}
use Rattle.model.specs.Each.{Decides-le}
use Rattle.preferences.specs.Constraints.{Constraint, InRowLimit, Keeps, all_keep, effective, lift}
use Rattle.preferences.specs.RowList.{row_at_front, rows_at_front, rows_in}

pub rows_in_none : (d : ℕ) (numbers : List ℤ) → length numbers < d + 1 → rows_in d numbers ≡ []
rows_in_none d numbers short = ap (λ n. rows_at_front d n numbers) (div-eq_of_lt short)

pub rows_in_more : (d : ℕ) (numbers : List ℤ) → d + 1 ≤ length numbers → rows_in d numbers ≡ row_at_front d numbers ∷ rows_in d (drop (d + 1) numbers)
rows_in_more d numbers long =
    let some : 0 < d + 1 = omega arith in
    let count : length numbers / (d + 1) ≡ suc (length (drop (d + 1) numbers) / (d + 1)) = div-eq-sub-div some long ∙ add-one ((length numbers - (d + 1)) / (d + 1)) ∙ ap (λ n. suc (n / (d + 1))) (sym (length-drop (d + 1) numbers)) in
    ap (λ n. rows_at_front d n numbers) count

pub rows_in_count : (d : ℕ) (numbers : List ℤ) → length (rows_in d numbers) ≡ length numbers / (d + 1)
rows_in_count d numbers = counted (length numbers / (d + 1)) numbers
  where
    counted : (n : ℕ) (ns : List ℤ) → length (rows_at_front d n ns) ≡ n
    counted zero ns = refl
    counted (suc n) ns = ap suc (counted n (drop (d + 1) ns))

pub same_constraint : (cs ds : List ℤ) (b e : ℤ) → cs ≡ ds → b ≡ e → ◌≡◌ {A = Constraint} (record { coefficients = cs; bound = b }) (record { coefficients = ds; bound = e })
same_constraint cs ds b e p q = ap (λ xs. record { coefficients = xs; bound = b }) p ∙ ap (λ z. record { coefficients = ds; bound = z }) q

-- a row that is cut out of the list is the row at its front
pub row_cut : (d : ℕ) (numbers : List ℤ) → row_at_front d (take (d + 1) numbers) ≡ row_at_front d numbers
row_cut d numbers =
    let below : d < d + 1 = omega arith in
    same_constraint _ _ _ _ (take-take d (d + 1) numbers (omega arith)) (get_or-take (d + 1) numbers d (pos 0) below)

-- what is read of a row at the front
pub front_read : (d : ℕ) (rest front : List ℤ) → d + 1 ≤ length rest → front ≡ take (d + 1) rest → AllByRecursion InRowLimit rest → (d + 1 ≤ length front) × AllByRecursion InRowLimit front
front_read d rest front long same all =
    (omega (arith, ap length same, length-take-le (d + 1) rest long), rw same (All-take InRowLimit (d + 1) rest all))

-- one row taken off the front
pub row_taken : (d : ℕ) (numbers front back : List ℤ) (row : Constraint) → numbers ≡ front ++ back → length front ≡ d + 1 → row ≡ row_at_front d front → rows_in d numbers ≡ row ∷ rows_in d back
row_taken d numbers front back row parts long read =
    let cut : take (d + 1) numbers ≡ front = ap (take (d + 1)) parts ∙ take_at front back (d + 1) long in
    let left : drop (d + 1) numbers ≡ back = ap (drop (d + 1)) parts ∙ drop_at front back (d + 1) long in
    let room : d + 1 ≤ length numbers = omega (arith, ap length parts, length-append front back) in
    rows_in_more d numbers room
    ∙ ap (λ r. r ∷ rows_in d (drop (d + 1) numbers)) (sym (read ∙ ap (row_at_front d) (sym cut) ∙ row_cut d numbers))
    ∙ ap (λ xs. row ∷ rows_in d xs) left

-- the numbers of the row that is taken are within their limit, and those that are left
pub limits_taken : (numbers front back : List ℤ) → numbers ≡ front ++ back → AllByRecursion InRowLimit numbers → AllByRecursion InRowLimit front × AllByRecursion InRowLimit back
limits_taken numbers front back parts all = parted front (subst (AllByRecursion InRowLimit) parts all)
  where
    parted : (xs : List ℤ) → AllByRecursion InRowLimit (xs ++ back) → AllByRecursion InRowLimit xs × AllByRecursion InRowLimit back
    parted [] held = (tt, held)
    parted (x ∷ xs) held = let rest = parted xs held.1 in ((held.0, rest.0), rest.1)

-- whether a weight keeps the first row, and the others
pub keep_first : (weight : List ℕ) (row : Constraint) (rows : List Constraint) (r : Bool) → Decides r (Keeps weight row) → all_keep weight (row ∷ rows) ≡ (r && all_keep weight rows)
keep_first weight row rows r decides = ap (λ t. t && all_keep weight rows) (same_from_decides _ r (Decides-le _ _) decides)

-- whether a weight keeps the row that is taken, and those that are left
pub keep_taken : (weight : List ℕ) (d : ℕ) (numbers front back : List ℤ) (row : Constraint) (r : Bool) → numbers ≡ front ++ back → length front ≡ d + 1 → row ≡ row_at_front d front → Decides r (Keeps weight row) → all_keep weight (rows_in d numbers) ≡ (r && all_keep weight (rows_in d back))
keep_taken weight d numbers front back row r parts long read decides =
    ap (all_keep weight) (row_taken d numbers front back row parts long read) ∙ keep_first weight row (rows_in d back) r decides

-- one row and its multiplier, taken off the front
pub lift_taken : {X : Type 0} (f : X → Constraint) {xs ys : List X} {ms ns : List ℕ} {x : X} {m : ℕ} (i : ℕ) → xs ≡ x ∷ ys → ms ≡ m ∷ ns → lift (map f xs) ms i ≡ (pos m *ℤ effective (f x) i) +ℤ lift (map f ys) ns i
lift_taken f {ys} {ms} {x} i rows multipliers = ap (λ zs. lift (map f zs) ms i) rows ∙ ap (λ ns. lift (map f (x ∷ ys)) ns i) multipliers

-- where the rows or the multipliers are at their end
pub lift_done : {X : Type 0} (f : X → Constraint) (xs : List X) (ms : List ℕ) (i : ℕ) → (length xs ≡ 0) ⊎ (length ms ≡ 0) → lift (map f xs) ms i ≡ pos 0
lift_done f [] ms i h = refl
lift_done f (x ∷ xs) [] i h = refl
lift_done f (x ∷ xs) (m ∷ ms) i (inl h) = absurd (omega arith)
lift_done f (x ∷ xs) (m ∷ ms) i (inr h) = absurd (omega arith)

-- one row more at the end of those that are taken
lift-suc : (rows : List Constraint) (ms : List ℕ) (k i : ℕ) (r : Constraint) → k < length rows → k < length ms → lift (take (suc k) rows) (take (suc k) ms) i ≡ lift (take k rows) (take k ms) i +ℤ (pos (get_or ms k 0) *ℤ effective (get_or rows k r) i)
lift-suc [] ms k i r h g = absurd (omega arith)
lift-suc (row ∷ rows) [] k i r h g = absurd (omega arith)
lift-suc (row ∷ rows) (m ∷ ms) zero i r h g = +ℤ_idr (pos m *ℤ effective row i) ∙ sym (+ℤ_idl (pos m *ℤ effective row i))
lift-suc (row ∷ rows) (m ∷ ms) (suc k) i r h g =
    ap (λ z. (pos m *ℤ effective row i) +ℤ z) (lift-suc rows ms k i r (omega arith) (omega arith))
    ∙ sym (+ℤ_assoc (pos m *ℤ effective row i) (lift (take k rows) (take k ms) i) (pos (get_or ms k 0) *ℤ effective (get_or rows k r) i))

pub lift_more : (rows : List Constraint) (ms : List ℕ) (k i : ℕ) (r : Constraint) → k < length rows → k < length ms → lift (take (k + 1) rows) (take (k + 1) ms) i ≡ lift (take k rows) (take k ms) i +ℤ (pos (get_or ms k 0) *ℤ effective (get_or rows k r) i)
lift_more rows ms k i r h g = rw add-one (lift-suc rows ms k i r h g)
