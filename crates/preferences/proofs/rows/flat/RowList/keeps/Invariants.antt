use Rattle.std.proofs.Common.{◌≡◌, ◌+◌}
use Rattle.std.specs.List.{AllByRecursion}
use Rattle.std.specs.Slice.Iter.{chunks_exact_rest, chunks_exact_size}
use Rattle.model.specs.Values.{parts_of}
use Rattle.preferences.specs.Constraints.{InRowLimit, all_keep}
use Rattle.preferences.specs.RowList.{rows_in}
use Rattle.preferences.proofs.rows.flat.RowList.keeps.Given as goal

-- the rows that are left decide
abbrev pub invariant-loop-numbers : goal.invariant-loop-numbers
invariant-loop-numbers l =
    (chunks_exact_size l.numbers-iterator ≡ l.self.dims + 1)
    × AllByRecursion InRowLimit (chunks_exact_rest l.numbers-iterator)
    × (all_keep (parts_of l.weight) (rows_in l.self.dims (chunks_exact_rest l.numbers-iterator)) ≡ all_keep (parts_of l.weight) (rows_in l.self.dims l.self.numbers.now))
