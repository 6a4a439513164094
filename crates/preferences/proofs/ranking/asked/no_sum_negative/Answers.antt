use Rattle.std.proofs.Common.{length, ap, add-one, arith, below_more}
use borrow.Author.Differences.{ints}
use Rattle.model.specs.Each.{Decides-no}
use Rattle.preferences.proofs.Rankings.{next_sum}
use Rattle.preferences.proofs.ranking.asked.no_sum_negative.Goals as goal

pub returns-then-sum-lt0 : goal.returns-then-sum-lt0
returns-then-sum-lt0 c =
    let at = c.loop-entry.entry-index in
    let next = next_sum c.args.difference.now c.entries-entries.result.now at c.entries-entries.ensures c.loop-entry-test.true in
    Decides-no (λ each. let here = each at (omega (arith, ap length c.entries-entries.ensures)) in omega (arith, ints, next.0, next.1, next.2, c.loop-entry.invariant.0, c.loop-entry.invariant.1))

pub loop-entry-preserved : goal.loop-entry-preserved
loop-entry-preserved c =
    let next = next_sum c.args.difference.now c.entries-entries.result.now c.loop-entry.entry-index c.entries-entries.ensures c.loop-entry-test.true in (
      rw add-one (omega (arith, ints, next.0, next.1, next.2, c.loop-entry.invariant.0, c.loop-entry.invariant.1)),
      omega (arith, ints, next.0, next.1, c.loop-entry.invariant.1),
      below_more _ _ c.loop-entry.invariant.2 (omega (arith, ints, next.0, next.1, next.2, c.loop-entry.invariant.0, c.loop-entry.invariant.1)),
    )
