use Rattle.std.proofs.Common.{rules}
use Rattle.std.specs.Prelude.{Decides}
use Rattle.std.specs.List.{AllByRecursion}
use Rattle.std.proofs.lemmas.Bool.Decides.{Decides-at}
use Rattle.model.specs.Values.{parts_of}
use Rattle.preferences.specs.Constraints.{Keeps, all_keep}
use Rattle.preferences.specs.RowList.{rows_in}
use Rattle.preferences.proofs.Rules.{Decides-keep}
use Rattle.preferences.proofs.rows.flat.RowList.sample.Goals as goal

pub returns : goal.returns
returns c =
    let rows = rows_in c.args.self.now.dims c.args.self.now.numbers.now in
    let weight = c.in_ok-weight.weight in
    let kept : Decides c.keeps.result (AllByRecursion (Keeps (parts_of weight)) rows) = Decides-at _ (all_keep (parts_of weight) rows) c.keeps.ensures (Decides-keep (parts_of weight) rows) in
    search rules
