use Rattle.std.proofs.Common.{◌≡◌, ◌+ℤ◌, ◌≤ℤ◌, pos, length, map, subst, sym, ap, ◌∙◌, arith, rules}
use Rattle.std.specs.Prelude.{ℕ, ◌<◌, Decides, slice_index_or}
use Rattle.model.specs.Values.{entries_of}
use Rattle.preferences.specs.Constraints.{lift}
use Rattle.preferences.specs.Stored.{constraints_of}
use Rattle.preferences.specs.StoredRow.{constraint_of}
use Rattle.preferences.proofs.Held.{constraints_count}
use Rattle.preferences.proofs.Judged.{judgement_told}
use Rattle.preferences.proofs.Rules.{Decides-shows}
use Rattle.preferences.proofs.rows.asked.RowsPreference.judge.Goals as goal

pub returns : goal.returns
returns c =
    let self = c.args.self.now in
    let difference = entries_of c.args.difference.now in
    let multipliers = c.args.multipliers.now in
    let width : length difference ≡ self.dims = sym (ap length c.entries.ensures) ∙ c.if-entries-self.false in
    let count : length multipliers ≡ length (constraints_of self) = c.if-multipliers-len.false ∙ c.len.ensures ∙ constraints_count self in
    let shown = subst (λ rows. Decides c.show.result ((i : ℕ) → i < length difference → pos 0 ≤ℤ (slice_index_or difference i (pos 0) +ℤ lift (map constraint_of rows) multipliers i))) c.as_slice.ensures.value c.show.ensures in
    judgement_told _ _ _ _ c.from.ensures (search rules) shown (Decides-shows self.dims (constraints_of self) difference multipliers) (λ h. (width, count, λ i below. h i (omega (arith, width)))) (λ h i below. h.2 i (omega (arith, width)))
