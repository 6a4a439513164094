use Rattle.std.proofs.Common.{ℕ, length, ℤ, pos, ◌+ℤ◌, ◌≤ℤ◌, ap, arith, rules, tests}
use Rattle.std.proofs.lemmas.Iterator.{cases_from_all, YieldsList-from_range}
use Rattle.std.specs.Prelude.{slice_index_or, map}
use Rattle.model.specs.Values.{entries_of}
use Rattle.model.proofs.Found.{Decides-below}
use Rattle.preferences.specs.Constraints.{lift}
use Rattle.preferences.specs.StoredRow.{constraint_of}
use Rattle.preferences.proofs.rows.multiplied.Multiplied.show.Goals as goal

pub returns : goal.returns
returns c =
    let entries = entries_of c.args.difference.now in
    let self = c.args.self.now in
    let at : ℕ → ℤ = λ i. slice_index_or entries i (pos 0) +ℤ lift (map constraint_of self.rows.now) self.multipliers.now i in
    Decides-below (λ i. pos 0 ≤ℤ at i) (length entries) c.all.result
    (cases_from_all c.all.new.self _ c.all.result (λ i. pos 0 ≤ℤ at i) (λ i. pos 0 ≤ℤ at i → ⊥) c.all.ensures.ran (YieldsList-from_range 0 (length entries) (length entries) (ap (λ xs. record { start = 0; end = length xs }) c.entries.ensures) (omega arith)) (λ x q k. search (rules, tests)) (λ x q k. search (rules, tests)))
