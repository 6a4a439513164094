use Rattle.std.proofs.Common.{◌≡◌, ◌+ℤ◌, length, ap, arith, w64, to_z, of_z}
use borrow.Author.Differences.{ints}
use Rattle.std.specs.Iterator.Adapters.{zip_first, zip_second}
use Rattle.std.specs.Slice.Iter.{iter_rest}
use Rattle.model.proofs.Sums.{at_an_end}
use Rattle.model.proofs.Machine.{one_less_left}
use Rattle.preferences.specs.StoredRow.{constraint_of}
use Rattle.preferences.proofs.Lists.{lift_taken, lift_done}
use Rattle.preferences.proofs.rows.multiplied.Multiplied.lift.Goals as goal

pub loop-row-preserved : goal.loop-row-preserved
loop-row-preserved c =
    let added = c.times-sum.result in
    let room = c.loop-row.invariant.1 in
    let size = c.times-sum.ensures.size in
    let taken = ap length c.in-Some.ensures.steps.0 in
    let next : to_z w64 (of_z w64 (to_z w64 c.loop-row.sum-bits +ℤ to_z w64 (of_z w64 added))) ≡ to_z w64 c.loop-row.sum-bits +ℤ added = omega (arith, ints, room, size, taken) in
    let left = lift_taken constraint_of c.args.index c.in-Some.ensures.steps.0 c.in-Some.ensures.steps.1 in
    (one_less_left _ _ _ _ _ _ _ next c.times-sum.ensures.value left c.loop-row.invariant.0, omega (arith, ints, room, size, taken))

pub returns-clause-value : goal.returns-clause-value
returns-clause-value c =
    let none = lift_done constraint_of (iter_rest (zip_first c.loop-row.row-iterator)) (iter_rest (zip_second c.loop-row.row-iterator)) c.args.index (at_an_end c.in-None.ensures.steps) in
    omega (arith, ints, c.loop-row.invariant.0)
