-- Linear constraints on weights, and what multipliers of them show.
use Rattle.std.specs.Prelude.{◌≡◌, ℕ, zero, suc, ◌<◌, ◌≤◌, Bool, true, ◌&&◌, List, [], ◌∷◌, length, ℤ, pos, ◌+ℤ◌, ◌-ℤ◌, ◌*ℤ◌, ◌≤ℤ◌, ◌==◌, int_le, slice_index_or, unsigned_abs}
use Rattle.std.specs.Int.Signed.{non_neg}
use Rattle.std.specs.List.{AllByRecursion}
use Rattle.model.specs.Weighing.{total, weighed}

-- a row: a coefficient for each figure, and a bound
pub record Constraint : Type 0 where
  pub coefficients : List ℤ
  pub bound : ℤ

-- a coefficient or a bound is −10,000 to 10,000
abbrev pub InRowLimit : ℤ → Type 0
InRowLimit z = unsigned_abs z ≤ 10000

-- a weight keeps a row when the sum of coefficient times part is at most the bound times the sum of all parts
abbrev pub Keeps : List ℕ → Constraint → Type 0
Keeps weight row = weighed weight row.coefficients ≤ℤ (row.bound *ℤ pos (total weight))

-- a weight of d figures is admissible under the rows when it keeps each of them
abbrev pub Admissible : ℕ → List Constraint → List ℕ → Type 0
Admissible d rows weight = (length weight ≡ d) × (0 < total weight) × AllByRecursion (Keeps weight) rows

-- the effective coefficient of a row at a figure: the coefficient less the bound
abbrev pub effective : Constraint → ℕ → ℤ
effective row i = slice_index_or row.coefficients i (pos 0) -ℤ row.bound

-- what the multipliers add at a figure: the sum over the rows of multiplier times effective coefficient
abbrev pub lift : List Constraint → List ℕ → ℕ → ℤ
lift [] multipliers i = pos 0
lift (row ∷ rows) [] i = pos 0
lift (row ∷ rows) (multiplier ∷ multipliers) i = (pos multiplier *ℤ effective row i) +ℤ lift rows multipliers i

-- The answer to a proper weight, as a test.
abbrev pub all_keep : List ℕ → List Constraint → Bool
all_keep weight [] = true
all_keep weight (row ∷ rows) = int_le (weighed weight row.coefficients) (row.bound *ℤ pos (total weight)) && all_keep weight rows

abbrev pub admits : ℕ → List Constraint → List ℕ → Bool
admits d rows weight = length weight == d && all_keep weight rows

-- whether a weight keeps one row, as a test
abbrev pub keeps : List ℕ → Constraint → Bool
keeps weight row = int_le (weighed weight row.coefficients) (row.bound *ℤ pos (total weight))

-- no value at the first n places is negative
abbrev pub none_negative : (ℕ → ℤ) → ℕ → Bool
none_negative value zero = true
none_negative value (suc n) = non_neg (value n) && none_negative value n

-- multipliers, one for each row, show a difference of d figures when at each figure the difference and what they add are together not negative
abbrev pub shows : ℕ → List Constraint → List ℤ → List ℕ → Bool
shows d rows difference multipliers =
    (length difference == d) && (length multipliers == length rows && none_negative (λ i. slice_index_or difference i (pos 0) +ℤ lift rows multipliers i) d)
