use Rattle.std.proofs.Common.{nat_lt, rules, tests}
use Rattle.std.proofs.lemmas.Bool.Decides.{Decides-at}
use Rattle.std.proofs.lemmas.Iterator.{YieldsList-from_slice}
use Rattle.std.proofs.lemmas.Iterator.Search.{any_from_yields_List}
use Rattle.model.proofs.Sums.{Decides-positive}
use Rattle.model.proofs.weight.methods.any_positive.Goals as goal

pub returns : goal.returns
returns c =
    let parts = c.args.parts.now in
    Decides-at _ _ (any_from_yields_List (λ part. nat_lt 0 part) _ _ c.any.result c.any.ensures.ran (YieldsList-from_slice {s = c.iter.result} parts c.iter.ensures.rest) (λ x b q k. search (rules, tests))) (Decides-positive parts)
