use Rattle.std.proofs.Common.{nat_le, ◌∙◌, rules, tests}
use Rattle.std.proofs.lemmas.Iterator.{YieldsList-from_slice, YieldsList-from_zip}
use Rattle.std.proofs.lemmas.Iterator.Search.{all_from_yields_List}
use Rattle.std.specs.Iterator.Adapters.{zip_first, zip_second}
use Rattle.model.specs.Orders.{no_greater_apart}
use Rattle.model.proofs.Pairs.{no_greater_zip}
use Rattle.model.proofs.figures.order.none_greater.Goals as goal

pub returns-then-figures-others : goal.returns-then-figures-others
returns-then-figures-others c =
    let figures = c.args.figures.now in
    let others = c.args.others.now in
    let pairs = YieldsList-from_zip {s = c.zip.result} (YieldsList-from_slice {s = zip_first c.zip.result} figures cc) (YieldsList-from_slice {s = zip_second c.zip.result} others cc) in
    all_from_yields_List (λ p. nat_le p.0 p.1) c.all.new.self _ c.all.result c.all.ensures.ran pairs (λ x b q k. search (rules, tests))
    ∙ no_greater_zip figures others c.if-figures-others.true

pub returns-else-figures-others : goal.returns-else-figures-others
returns-else-figures-others c = let apart = no_greater_apart c.args.figures.now c.args.others.now c.if-figures-others.false in search (rules, tests)
