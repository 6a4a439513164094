use Rattle.std.proofs.Common.{◌≡◌, ℕ, suc, ◌*◌, ◌<◌, ◌≤◌, pos, nat_abs, ◌≤ℤ◌}
use Rattle.model.specs.Values.{entries_of}
use Rattle.preferences.specs.Rankings.{first_sum}
use Rattle.preferences.proofs.ranking.asked.no_sum_negative.Given as goal

abbrev pub invariant-loop-entry : goal.invariant-loop-entry
invariant-loop-entry l =
    (l.sum ≡ first_sum (entries_of l.difference) l.entry-index)
    × (nat_abs l.sum ≤ 1000000000000 * l.entry-index)
    × ((n : ℕ) → n < l.entry-index → pos 0 ≤ℤ first_sum (entries_of l.difference) (suc n))
