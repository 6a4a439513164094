use Rattle.std.proofs.Common.{◌≡◌, ◌+◌}
use Rattle.std.specs.Iterator.Adapters.{zip_first, zip_second}
use Rattle.std.specs.Slice.Iter.{iter_rest}
use Rattle.model.specs.Values.{figures_of, parts_of}
use Rattle.model.specs.Weighing.{score}
use Rattle.model.proofs.scoring.score.Given as goal

-- what is summed, and what is left to sum, make the score
abbrev pub invariant-loop-part : goal.invariant-loop-part
invariant-loop-part l =
    l.sum + score (iter_rest (zip_first l.part-iterator)) (iter_rest (zip_second l.part-iterator)) ≡ score (parts_of l.weight) (figures_of l.figures)
