use Rattle.preferences.proofs.FurtherRows.{further_judges, room_kept}
use Rattle.preferences.proofs.further_row.FurtherRow.new.Goals as goal

pub invariant_of-result : goal.invariant_of-result
invariant_of-result g c =
    record { room = room_kept (g.P.Preference.meaning c.args.below) c.args.numbers.now c.args.sample.now c.in-Ok.ensures.0; judges = further_judges (g.P.Preference.meaning c.args.below) (g.met.P.Preference.lawful c.args.below) _ _ }
