use Rattle.std.proofs.Common.{◌≡◌, map, length, subst, sym, ap, ◌∙◌, rules, tests}
use Rattle.std.specs.Prelude.{Decides}
use Rattle.std.specs.List.{AllByRecursion}
use Rattle.std.proofs.lemmas.Iterator.{cases_from_all, YieldsList-from_slice}
use Rattle.model.specs.Values.{parts_of}
use Rattle.model.proofs.Found.{Decides-all_mapped}
use Rattle.preferences.specs.Constraints.{Keeps, all_keep}
use Rattle.preferences.specs.Stored.{constraints_of}
use Rattle.preferences.specs.StoredRow.{constraint_of}
use Rattle.preferences.proofs.Judged.{width_and}
use Rattle.preferences.proofs.Rules.{Decides-keep}
use Rattle.preferences.proofs.rows.asked.RowsPreference.admits.Goals as goal

pub returns-then-parts-self : goal.returns-then-parts-self
returns-then-parts-self c =
    let weight = parts_of c.args.weight.now in
    let rows = constraints_of c.args.self.now in
    let width : length weight ≡ c.args.self.now.dims = sym (ap length c.parts.ensures) ∙ c.if-parts-self.true in
    let kept = Decides-all_mapped (Keeps weight) constraint_of c.deref.result.now c.all.result (cases_from_all c.all.new.self _ c.all.result (λ row. Keeps weight (constraint_of row)) (λ row. Keeps weight (constraint_of row) → ⊥) c.all.ensures.ran (YieldsList-from_slice {s = c.iter.result} _ c.iter.ensures.rest) (λ x q k. search (rules, tests)) (λ x q k. search (rules, tests))) in
    width_and c.all.result (all_keep weight rows) _ _ width (subst (λ held. Decides c.all.result (AllByRecursion (Keeps weight) (map constraint_of held))) c.deref.ensures.value kept) (Decides-keep weight rows)
