-- Entries that no ground refuses.
use Rattle.std.proofs.Common.{◌≡◌, List, length, ℤ}
use Rattle.std.specs.Prelude.{Ok, Err, Result, MatchOption}
use Rattle.std.specs.Result.{result_ok}
use Rattle.std.specs.List.{AllByRecursion}
use Rattle.model.specs.Limits.{IsFigureCount, InRange, difference_grounds}
use Rattle.model.specs.Refusals.{Unopposed, Checked}
use Rattle.model.specs.Values.{entries_of}
use Rattle.model.specs.declared.difference.Difference.{Difference}
use Rattle.model.specs.declared.refusal.Refusal.{Refusal}
use Rattle.model.proofs.Tables.{unopposed, unopposed_end}

-- 1 to 8 entries within the range are not refused
pub difference_unopposed : (entries : List ℤ) → IsFigureCount (length entries) → AllByRecursion InRange entries → Unopposed (difference_grounds entries)
difference_unopposed entries count range = unopposed _ _ _ (λ wrong. wrong count) (unopposed _ _ _ (λ wrong. wrong range) unopposed_end)

-- entries of the right number as a difference, where they are within the range
pub difference_or_none : (entries : List ℤ) (made : Result Difference Refusal) → IsFigureCount (length entries) → Checked (difference_grounds entries) made (λ difference. entries_of difference ≡ entries) → MatchOption (result_ok made) (AllByRecursion InRange entries → ⊥) (λ difference. entries_of difference ≡ entries)
difference_or_none entries (Ok difference) count checked = checked.1
difference_or_none entries (Err refusal) count checked = λ range. difference_unopposed entries count range refusal checked.meets
