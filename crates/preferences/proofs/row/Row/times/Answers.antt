use Rattle.std.proofs.Common.{◌*◌, ◌≤◌, nat_abs, ◌∙◌, arith, lit<}
use Rattle.model.proofs.Machine.{Times, times}
use Rattle.preferences.proofs.row.Row.times.Goals as goal

product : (c : goal.After-effective) → Times c.from.result c.effective.result (4294967296 * 20000)
product c =
    let multiplier : nat_abs c.from.result ≤ 4294967296 = rw c.from.ensures (omega (arith, c.ranges.multiplier.fits)) in
    times c.from.result c.effective.result 4294967296 20000 multiplier c.effective.ensures.size (lit< tt) (lit< tt) (lit< tt)

pub overflow_mul-result : goal.overflow_mul-result
overflow_mul-result c = (product c).fits

pub returns : goal.returns
returns c =
    let value = (product c).value in
    record { value = value ∙ cc; size = rw value (product c).size }
