use Rattle.std.proofs.Common.{◌∙◌, rules}
use Rattle.model.specs.Values.{entries_of}
use Rattle.model.specs.Stored.{entries_ranged}
use Rattle.preferences.specs.StoredRow.{constraint_of}
use Rattle.preferences.proofs.FurtherRows.{judged_below, judged_out}
use Rattle.preferences.proofs.further_row.asked.FurtherRowPreference.judge.Goals as goal

pub returns-in-Some : goal.returns-in-Some
returns-in-Some g c =
    let self = c.args.self.now in
    let sum = c.in-Some.sum in
    c.judge.ensures
    ∙ judged_below (g.P.Preference.meaning self.below) (constraint_of self.row) (entries_of c.args.difference.now) c.args.multipliers.now (entries_of sum) (search rules) c.in-Some.ensures (entries_ranged sum).range

pub returns-in-None : goal.returns-in-None
returns-in-None g c =
    let self = c.args.self.now in
    judged_out (g.P.Preference.meaning self.below) (constraint_of self.row) (entries_of c.args.difference.now) c.args.multipliers.now (search rules) c.in-None.ensures
