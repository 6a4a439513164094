-- Rows that are given as one flat list of numbers: the coefficients of a row and then its bound, row after row.
use Rattle.std.specs.Prelude.{◌≡◌, ℕ, zero, suc, ◌+◌, ◌/◌, ◌%◌, ◌≤◌, List, [], ◌∷◌, length, take, drop, ℤ, pos, slice_index_or}
use Rattle.std.specs.List.{AllByRecursion}
use Rattle.preferences.specs.Constraints.{Constraint, InRowLimit}

-- the first row of a list
abbrev pub row_at_front : ℕ → List ℤ → Constraint
row_at_front d numbers = record { coefficients = take d numbers; bound = slice_index_or numbers d (pos 0) }

-- the first n rows of a list
abbrev pub rows_at_front : ℕ → ℕ → List ℤ → List Constraint
rows_at_front d zero numbers = []
rows_at_front d (suc n) numbers = row_at_front d numbers ∷ rows_at_front d n (drop (d + 1) numbers)

-- all the rows of a list of whole rows
abbrev pub rows_in : ℕ → List ℤ → List Constraint
rows_in d numbers = rows_at_front d (length numbers / (d + 1)) numbers

-- a list of rows: whole rows, at most 16 of them, each number within its limit
pub record IsRowList (d : ℕ) (numbers : List ℤ) : Type 0 where
  pub whole : length numbers % (d + 1) ≡ 0
  pub few : length numbers / (d + 1) ≤ 16
  pub limits : AllByRecursion InRowLimit numbers
