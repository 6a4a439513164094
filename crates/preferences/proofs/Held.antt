-- What the invariant of stored rows says of the constraints that they stand for.
use Rattle.std.proofs.Common.{◌≡◌, length, vec_items, vec_len, sym, ◌∙◌}
use Rattle.std.proofs.lemmas.List.{length-map}
use Rattle.preferences.specs.Stored.{constraints_of}
use Rattle.preferences.specs.StoredRow.{constraint_of}
use Rattle.preferences.specs.declared.rows.Rows.{Rows}

pub constraints_count : (rows : Rows) → vec_len rows.rows ≡ length (constraints_of rows)
constraints_count rows = rows.rows.ok.0 ∙ sym (length-map (vec_items rows.rows) constraint_of)
