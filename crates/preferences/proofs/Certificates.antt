-- Why multipliers of rows prove something of every admissible weight: what they add at the figures, weighed, is never positive.
use Rattle.std.specs.Prelude.{◌≡◌, ℕ, zero, suc, ◌*◌, ◌<◌, List, [], ◌∷◌, length, get_or, replicate, ℤ, pos, negsuc, ◌+ℤ◌, ◌*ℤ◌, neg_ℤ, ◌≤ℤ◌, slice_index_or, refl}
use Rattle.std.proofs.Common.{sym, ap, ◌∙◌, mul-zero, arith}
use Rattle.std.proofs.lemmas.Int.{ints}
use Rattle.std.proofs.Math.IntN.{+ℤ_idl, +ℤ_invr, *ℤ_comm, *ℤ-zero, zero-*ℤ}
use Rattle.std.specs.List.{AllByRecursion}
use Rattle.model.specs.Weighing.{total, weighed}
use Rattle.model.proofs.Weighed.{times_add, spread, spread_add, spread_times, spread_same, spread_nonneg, weighed-spread}
use Rattle.preferences.specs.Constraints.{Constraint, Keeps, effective, lift}

negative : (n : ℕ) → neg_ℤ (pos n) ≤ℤ pos 0
negative zero = omega (arith, ints)
negative (suc n) = omega (arith, ints)

times_nonpos : (n : ℕ) (z : ℤ) → z ≤ℤ pos 0 → (pos n *ℤ z) ≤ℤ pos 0
times_nonpos n (pos a) h =
    let none : a ≡ 0 = omega (arith, ints) in
    omega (arith, ints, ap (λ k. n * k) none, mul-zero n)
times_nonpos n (negsuc a) h = negative (n * suc a)

-- a row's effective coefficients, weighed by a weight that keeps the row
pub effective_weighed : (weight : List ℕ) (row : Constraint) → Keeps weight row → spread weight (effective row) ≤ℤ pos 0
effective_weighed weight row keeps =
    let sum = total weight in
    let bound = row.bound in
    let parts : spread weight (effective row) ≡ weighed weight row.coefficients +ℤ (pos sum *ℤ neg_ℤ bound) = spread_add weight (λ i. get_or row.coefficients i (pos 0)) (λ i. neg_ℤ bound) ∙ ap (λ z. z +ℤ spread weight (λ i. neg_ℤ bound)) (sym (weighed-spread weight row.coefficients)) ∙ ap (λ z. weighed weight row.coefficients +ℤ z) (spread_same weight (neg_ℤ bound)) in
    let cancel : (pos sum *ℤ bound) +ℤ (pos sum *ℤ neg_ℤ bound) ≡ pos 0 = sym (times_add sum bound (neg_ℤ bound)) ∙ ap (λ z. pos sum *ℤ z) (+ℤ_invr bound) ∙ *ℤ-zero (pos sum) in
    at_most (weighed weight row.coefficients) (bound *ℤ pos sum) (pos sum *ℤ bound) (pos sum *ℤ neg_ℤ bound) (spread weight (effective row)) keeps (*ℤ_comm bound (pos sum)) parts cancel
  where
    at_most : (w b c n s : ℤ) → w ≤ℤ b → b ≡ c → s ≡ w +ℤ n → c +ℤ n ≡ pos 0 → s ≤ℤ pos 0
    at_most w b c n s h e p q = omega (arith, ints)

-- what a multiplier of a row adds, weighed by a weight that keeps the row
pub row_weighed : (weight : List ℕ) (row : Constraint) (m : ℕ) → Keeps weight row → spread weight (λ i. pos m *ℤ effective row i) ≤ℤ pos 0
row_weighed weight row m keeps =
    rw (spread_times weight m (effective row)) (times_nonpos m (spread weight (effective row)) (effective_weighed weight row keeps))

nothing_weighed : (weight : List ℕ) → spread weight (λ i. pos 0) ≤ℤ pos 0
nothing_weighed weight = rw (spread_same weight (pos 0), *ℤ-zero (pos (total weight))) (omega (arith, ints))

-- what all the multipliers add, weighed by a weight that keeps every row
pub lift_weighed : (weight : List ℕ) (rows : List Constraint) (multipliers : List ℕ) → AllByRecursion (Keeps weight) rows → spread weight (lift rows multipliers) ≤ℤ pos 0
lift_weighed weight [] multipliers keep = nothing_weighed weight
lift_weighed weight (row ∷ rows) [] keep = nothing_weighed weight
lift_weighed weight (row ∷ rows) (m ∷ multipliers) keep =
    let first = row_weighed weight row m keep.0 in
    let rest = lift_weighed weight rows multipliers keep.1 in
    rw (spread_add weight (λ i. pos m *ℤ effective row i) (lift rows multipliers)) (both _ _ first rest)
  where
    both : (a b : ℤ) → a ≤ℤ pos 0 → b ≤ℤ pos 0 → (a +ℤ b) ≤ℤ pos 0
    both a b f g = omega (arith, ints)

-- a difference that is not negative, weighed, together with something that is not positive
pub left_weighed : (weight : List ℕ) (difference : List ℤ) (added : ℕ → ℤ) → spread weight added ≤ℤ pos 0 → pos 0 ≤ℤ spread weight (λ i. slice_index_or difference i (pos 0) +ℤ added i) → pos 0 ≤ℤ weighed weight difference
left_weighed weight difference added low all =
    left (weighed weight difference) (spread weight (λ i. get_or difference i (pos 0))) (spread weight added) (spread weight (λ i. slice_index_or difference i (pos 0) +ℤ added i)) (weighed-spread weight difference) (spread_add weight (λ i. get_or difference i (pos 0)) added) all low
  where
    left : (w d l s : ℤ) → w ≡ d → s ≡ d +ℤ l → pos 0 ≤ℤ s → l ≤ℤ pos 0 → pos 0 ≤ℤ w
    left w d l s e p f g = omega (arith, ints)

-- so a difference that is nowhere negative together with what the rows add is not negative, weighed
pub shown_weighed : (weight : List ℕ) (rows : List Constraint) (difference : List ℤ) (multipliers : List ℕ) → AllByRecursion (Keeps weight) rows → ((i : ℕ) → i < length weight → pos 0 ≤ℤ (slice_index_or difference i (pos 0) +ℤ lift rows multipliers i)) → pos 0 ≤ℤ weighed weight difference
shown_weighed weight rows difference multipliers keep each =
    left_weighed weight difference (lift rows multipliers) (lift_weighed weight rows multipliers keep) (spread_nonneg weight (λ i. slice_index_or difference i (pos 0) +ℤ lift rows multipliers i) each)

-- zeros add nothing
pub lift_zeros : (rows : List Constraint) (n i : ℕ) → lift rows (replicate n 0) i ≡ pos 0
lift_zeros [] n i = refl
lift_zeros (row ∷ rows) zero i = refl
lift_zeros (row ∷ rows) (suc n) i = ap (λ z. z +ℤ lift rows (replicate n 0) i) (zero-*ℤ (effective row i)) ∙ +ℤ_idl (lift rows (replicate n 0) i) ∙ lift_zeros rows n i
