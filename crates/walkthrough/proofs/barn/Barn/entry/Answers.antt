use Rattle.std.proofs.Common.{◌≡◌, ◌+◌, ◌*◌, ◌≤◌, get_or, ℤ, nat_abs, sym, ◌∙◌, arith, lit<, w32, Fits, rules}
use Rattle.model.proofs.Machine.{Added, added, same_sum}
use Rattle.model.proofs.Mixtures.{difference_at_more}
use Rattle.walkthrough.proofs.barn.Barn.entry.Goals as goal

-- one pair more
step : (c : goal.After-less) (sum : ℤ) → sum ≡ c.loop-pair.sum → nat_abs sum ≤ 4294967296000000 * c.loop-pair.pair-index → Added sum c.from.result c.less.result (4294967296000000 * c.loop-pair.pair-index + 4294967296 * 1000000)
step c sum is size =
    let fits : Fits w32 (get_or c.args.claim.mixture.now c.loop-pair.pair-index (record { variant = 0; share = 0 })).share = search rules in
    let share : nat_abs c.from.result ≤ 4294967296 = rw c.from.ensures (omega (arith, fits.fits)) in
    added sum c.from.result c.less.result (4294967296000000 * c.loop-pair.pair-index) 4294967296 1000000 size share c.less.ensures.size (lit< tt) (lit< tt) (omega (arith, c.args.claim.short))

pub overflow_mul-sum : goal.overflow_mul-sum
overflow_mul-sum c = (step c _ c.loop-pair.sum-is c.loop-pair.invariant.size).product

pub overflow_add-sum : goal.overflow_add-sum
overflow_add-sum c = (step c _ c.loop-pair.sum-is c.loop-pair.invariant.size).fits

pub loop-pair-preserved : goal.loop-pair-preserved
loop-pair-preserved c =
    let more = difference_at_more c.args.self.now c.args.claim.target c.args.claim.mixture.now c.loop-pair.pair-index c.args.index (record { variant = 0; share = 0 }) c.loop-pair-test.true in
    let next = step c _ c.loop-pair.sum-is c.loop-pair.invariant.size in
    record {
      value = next.value ∙ same_sum _ _ _ _ _ _ c.loop-pair.invariant.value c.from.ensures c.less.ensures.value ∙ sym more;
      size = rw next.value (omega (arith, next.size));
    }
