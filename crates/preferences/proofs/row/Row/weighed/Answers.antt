use Rattle.std.proofs.Common.{◌≡◌, ◌+◌, ◌*◌, ◌≤◌, length, ℤ, pos, nat_abs, ◌*ℤ◌, ap, subst, arith, lit<, le_refl}
use borrow.Author.Differences.{ints}
use Rattle.std.specs.Iterator.Adapters.{zip_first, zip_second}
use Rattle.std.specs.List.{AllByRecursion}
use Rattle.std.specs.Slice.Iter.{iter_rest}
use Rattle.model.specs.Limits.{InLimit}
use Rattle.model.proofs.Machine.{Added, added, one_less_left}
use Rattle.model.proofs.Sums.{at_an_end, weighed_taken, weighed_done}
use Rattle.preferences.specs.Constraints.{InRowLimit}
use Rattle.preferences.proofs.row.Row.weighed.Goals as goal

-- the part and the coefficient of this turn are within their limits
taken : (c : goal.After-from-in-loop-part) → (nat_abs c.from.result ≤ 1000000) × (nat_abs c.from-in-loop-part.result ≤ 10000)
taken c =
    let parts = subst (AllByRecursion InLimit) c.in-Some.ensures.steps.0 c.loop-part.invariant.2 in
    let coefficients = subst (AllByRecursion InRowLimit) c.in-Some.ensures.steps.1 c.loop-part.invariant.3 in
    let coefficient = coefficients.0 in
    (rw c.from.ensures parts.0, omega (arith, ints))

-- one product more
step : (c : goal.After-from-in-loop-part) (sum : ℤ) → sum ≡ c.loop-part.sum → nat_abs sum ≤ 80000000000 → Added sum c.from.result c.from-in-loop-part.result (nat_abs sum + 1000000 * 10000)
step c sum is size =
    added sum c.from.result c.from-in-loop-part.result (nat_abs sum) 1000000 10000 (le_refl (nat_abs sum)) (taken c).0 (taken c).1 (lit< tt) (lit< tt) (omega (arith, size))

pub overflow_add-sum : goal.overflow_add-sum
overflow_add-sum c = (step c _ c.loop-part.sum-is (omega (arith, c.loop-part.invariant.1))).fits

pub loop-part-preserved : goal.loop-part-preserved
loop-part-preserved c =
    let next = step c _ c.loop-part.sum-is (omega (arith, c.loop-part.invariant.1)) in
    let parts = subst (AllByRecursion InLimit) c.in-Some.ensures.steps.0 c.loop-part.invariant.2 in
    let coefficients = subst (AllByRecursion InRowLimit) c.in-Some.ensures.steps.1 c.loop-part.invariant.3 in
    let left = weighed_taken c.in-Some.ensures.steps.0 c.in-Some.ensures.steps.1 in
    let limit = coefficients.0 in
    let coefficient : c.from-in-loop-part.result ≡ c.in-Some.coefficient.now = omega (arith, ints) in
    let product : c.from.result *ℤ c.from-in-loop-part.result ≡ pos c.in-Some.part.now *ℤ c.in-Some.coefficient.now = cc in (
      one_less_left _ _ _ _ _ _ _ next.value product left c.loop-part.invariant.0,
      rw next.value (omega (arith, next.size, c.loop-part.invariant.1, ap length c.in-Some.ensures.steps.0)),
      parts.1,
      coefficients.1,
    )

pub returns : goal.returns
returns c =
    let none = weighed_done (iter_rest (zip_first c.loop-part.part-iterator)) (iter_rest (zip_second c.loop-part.part-iterator)) (at_an_end c.in-None.ensures.steps) in
    record { value = omega (arith, ints, c.loop-part.invariant.0); size = omega (arith, c.loop-part.invariant.1) }
