use Rattle.std.proofs.Common.{◌≡◌, ◌*◌, arith}
use Rattle.std.specs.Iterator.Adapters.{zip_first, zip_second}
use Rattle.std.specs.Slice.Iter.{iter_rest}
use Rattle.model.specs.Values.{figures_of, parts_of}
use Rattle.model.specs.Stored.{parts_limits, parts_count, figures_limits}
use Rattle.model.proofs.Sums.{at_an_end, score_taken, score_done, score_limit}
use Rattle.model.proofs.scoring.score.Goals as goal

pub overflow_add-sum : goal.overflow_add-sum
overflow_add-sum c =
    let weight = c.args.weight.now in
    let figures = c.args.figures.now in
    let next = score_taken c.in-Some.ensures.steps.0 c.in-Some.ensures.steps.1 in
    let limit = score_limit (parts_of weight) (figures_of figures) (parts_limits weight) (figures_limits figures) in
    let product : c.from.result * c.from-in-loop-part.result ≡ c.in-Some.part.now * c.in-Some.figure.now = cc in
    omega (arith, parts_count weight, weight.parts.most, c.loop-part.invariant)

pub returns : goal.returns
returns c =
    let left = score_done (iter_rest (zip_first c.loop-part.part-iterator)) (iter_rest (zip_second c.loop-part.part-iterator)) (at_an_end c.in-None.ensures.steps) in
    omega (arith, c.loop-part.invariant)
