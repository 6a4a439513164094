use Rattle.std.proofs.Common.{◌≤◌, length, rules, tests, arith}
use Rattle.std.proofs.lemmas.Iterator.Adapters.{fits_from_length, at_most_from_yields_List}
use Rattle.std.proofs.lemmas.Iterator.{YieldsList-from_slice}
use Rattle.variants.proofs.cover_sheet.order.count_set.Goals as goal

pub sum-requires-clause-fits : goal.sum-requires-clause-fits
sum-requires-clause-fits c =
    let few : length c.args.marks.now ≤ 8 = omega arith in
    fits_from_length _ _ 8 _ (at_most_from_yields_List (YieldsList-from_slice c.args.marks.now cc) few) c.map.ensures.closure (omega arith) (λ x r q k. search (rules, tests))
