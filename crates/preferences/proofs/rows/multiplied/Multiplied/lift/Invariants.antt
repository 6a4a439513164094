use Rattle.std.proofs.Common.{◌≡◌, ◌+◌, ◌*◌, ◌≤◌, map, length, nat_abs, ◌+ℤ◌}
use Rattle.std.specs.Iterator.Adapters.{zip_first, zip_second}
use Rattle.std.specs.Slice.Iter.{iter_rest}
use Rattle.preferences.specs.Constraints.{lift}
use Rattle.preferences.specs.StoredRow.{constraint_of}
use Rattle.preferences.proofs.rows.multiplied.Multiplied.lift.Given as goal

-- what is summed, and what is left to sum, make what the multipliers add; there is room for what is left
abbrev pub invariant-loop-row : goal.invariant-loop-row
invariant-loop-row l =
    (l.sum +ℤ lift (map constraint_of (iter_rest (zip_first l.row-iterator))) (iter_rest (zip_second l.row-iterator)) l.index ≡ lift (map constraint_of l.self.rows.now) l.self.multipliers.now l.index)
    × (nat_abs l.sum + 85899345920000 * length (iter_rest (zip_first l.row-iterator)) ≤ 85899345920000 * 16)
