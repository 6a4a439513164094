use Rattle.std.proofs.Common.{length, vec_items, sym, ap, ◌∙◌, arith}
use Rattle.std.proofs.lemmas.List.{length-map}
use Rattle.preferences.specs.StoredRow.{constraint_of}
use Rattle.preferences.proofs.Lists.{rows_in_count}
use Rattle.preferences.proofs.Rules.{rows_lawful}
use Rattle.preferences.proofs.rows.Rows.new.Goals as goal

pub invariant_of-result : goal.invariant_of-result
invariant_of-result c =
    let rows = c.in_ok-rows.rows in
    let list = c.in_ok-list.list in
    let count = rows.ok.0 ∙ sym (length-map (vec_items rows) constraint_of) ∙ ap length c.in_ok-rows.ensures ∙ rows_in_count list.dims list.numbers.now in
    record { few = omega (arith, count, list.few); lawful = rows_lawful _ _ _ }
