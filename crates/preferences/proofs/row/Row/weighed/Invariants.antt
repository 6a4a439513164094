use Rattle.std.proofs.Common.{◌≡◌, ◌+◌, ◌*◌, ◌≤◌, length, nat_abs, ◌+ℤ◌}
use Rattle.std.specs.Iterator.Adapters.{zip_first, zip_second}
use Rattle.std.specs.List.{AllByRecursion}
use Rattle.std.specs.Slice.Iter.{iter_rest}
use Rattle.model.specs.Limits.{InLimit}
use Rattle.model.specs.Values.{parts_of}
use Rattle.model.specs.Weighing.{weighed}
use Rattle.preferences.specs.Constraints.{InRowLimit}
use Rattle.preferences.specs.StoredRow.{constraint_of}
use Rattle.preferences.proofs.row.Row.weighed.Given as goal

-- what is summed, and what is left to sum, make the weighed sum; there is room for what is left
abbrev pub invariant-loop-part : goal.invariant-loop-part
invariant-loop-part l =
    (l.sum +ℤ weighed (iter_rest (zip_first l.part-iterator)) (iter_rest (zip_second l.part-iterator)) ≡ weighed (parts_of l.weight) (constraint_of l.self).coefficients)
    × (nat_abs l.sum + 10000000000 * length (iter_rest (zip_first l.part-iterator)) ≤ 80000000000)
    × AllByRecursion InLimit (iter_rest (zip_first l.part-iterator))
    × AllByRecursion InRowLimit (iter_rest (zip_second l.part-iterator))
