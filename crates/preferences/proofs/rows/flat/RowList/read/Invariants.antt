use Rattle.std.proofs.Common.{◌≡◌, ◌+◌, ◌++◌, map, vec_items}
use Rattle.std.specs.List.{AllByRecursion}
use Rattle.std.specs.Slice.Iter.{chunks_exact_rest, chunks_exact_size}
use Rattle.preferences.specs.Constraints.{InRowLimit}
use Rattle.preferences.specs.RowList.{rows_in}
use Rattle.preferences.specs.StoredRow.{constraint_of}
use Rattle.preferences.proofs.rows.flat.RowList.read.Given as goal

-- the rows held, and those that are left
abbrev pub invariant-loop-numbers : goal.invariant-loop-numbers
invariant-loop-numbers l =
    (chunks_exact_size l.numbers-iterator ≡ l.self.dims + 1)
    × AllByRecursion InRowLimit (chunks_exact_rest l.numbers-iterator)
    × (map constraint_of (vec_items l.held) ++ rows_in l.self.dims (chunks_exact_rest l.numbers-iterator) ≡ rows_in l.self.dims l.self.numbers.now)
