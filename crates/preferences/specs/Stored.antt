-- What the stored rows stand for.
use Rattle.std.specs.Prelude.{◌≡◌, ℕ, List, map, ℤ, vec_items}
use Rattle.model.specs.Meaning.{Meaning}
use Rattle.model.specs.Values.{parts_of}
use Rattle.model.specs.declared.preference.Preference.{Ghosts}
use Rattle.preferences.specs.Constraints.{Constraint}
use Rattle.preferences.specs.Making.{rows_meaning}
use Rattle.preferences.specs.RowList.{row_at_front, rows_in}
use Rattle.preferences.specs.StoredRow.{constraint_of}
use Rattle.preferences.specs.declared.further_row.FurtherRow.{FurtherRow}
use Rattle.preferences.specs.declared.rows.Rows.{Rows}

abbrev pub constraints_of : Rows → List Constraint
constraints_of rows = map constraint_of (vec_items rows.rows)

abbrev pub meaning_of : Rows → Meaning
meaning_of rows = rows_meaning rows.dims (constraints_of rows) (parts_of rows.sample)

-- rows hold what they were made of
pub record Holds (d : ℕ) (numbers : List ℤ) (sample : List ℕ) (rows : Rows) : Type 0 where
  pub figures : rows.dims ≡ d
  pub constraints : constraints_of rows ≡ rows_in d numbers
  pub weight : parts_of rows.sample ≡ sample

-- a further row holds what it was made of: the preference below, of d figures, its row and its sample
pub record Tops {P : Type 0} {g : Ghosts P} (d : ℕ) (below : P) (numbers : List ℤ) (sample : List ℕ) (further : FurtherRow P g) : Type 0 where
  pub stands_on : further.below ≡ below
  pub constraint : constraint_of further.row ≡ row_at_front d numbers
  pub weight : parts_of further.sample ≡ sample
