-- A further row: one row more over any preference, which it contains.
use Rattle.std.specs.Prelude.{◌≡◌, ℕ, ◌+◌, cond, ◌&&◌, List, [], ◌∷◌, map, length, ℤ, pos, ◌+ℤ◌, ◌*ℤ◌, slice_index_or}
use Rattle.std.specs.List.{range_with_len, AllByRecursion}
use Rattle.model.specs.Limits.{IsFigureCount, InRange, IsMultiplierCount, all_in_range}
use Rattle.model.specs.Meaning.{Meaning, SampleOf}
use Rattle.model.specs.Refusals.{line, end}
use Rattle.model.specs.declared.judgement.Judgement.{Judgement}
use Rattle.model.specs.declared.refusal.Refusal.{Refusal}
use Rattle.preferences.specs.Constraints.{Constraint, InRowLimit, Keeps, effective, keeps}
use Rattle.preferences.specs.Making.{rows_meaning}
use Rattle.preferences.specs.RowList.{row_at_front}

-- a difference with a multiple of the row's effective coefficients added at each figure
abbrev pub with_row : Constraint → ℕ → List ℤ → List ℤ
with_row row multiplier difference = map (λ i. slice_index_or difference i (pos 0) +ℤ (pos multiplier *ℤ effective row i)) (range_with_len 0 (length difference))

-- The first multiplier is the further row's. Where what it makes of the difference is beyond the range, that is the judgement; otherwise the preference below judges it with the remaining multipliers.
abbrev pub further_judged : Meaning → Constraint → List ℤ → List ℕ → Judgement
further_judged below row difference [] = Judgement.NotShown
further_judged below row difference (multiplier ∷ multipliers) =
    cond (all_in_range (with_row row multiplier difference)) (below.judged (with_row row multiplier difference) multipliers) Judgement.OutOfRange

-- one row more over a preference: a weight must be admissible below and keep the row
abbrev pub further_meaning : Meaning → Constraint → List ℕ → Meaning
further_meaning below row sample =
    record {
      dims = below.dims;
      multipliers = below.multipliers + 1;
      sample = sample;
      admissible = λ weight. below.admissible weight × Keeps weight row;
      admits = λ weight. below.admits weight && keeps weight row;
      judged = further_judged below row;
    }

-- numbers that may be a further row: a coefficient for each figure and a bound, each within its limit, where there is room for one multiplier more
pub record OneRow (below : Meaning) (numbers : List ℤ) : Type 0 where
  pub whole : length numbers ≡ below.dims + 1
  pub limits : AllByRecursion InRowLimit numbers
  pub room : IsMultiplierCount (below.multipliers + 1)

-- a further row is refused where the preference below has not 1 to 8 figures, the numbers may not be a row over it, or the sample is no proper weight or not admissible
abbrev pub further_grounds : Meaning → List ℤ → List ℕ → Refusal → Type 0
further_grounds below numbers sample =
    line Refusal.FigureCount (IsFigureCount below.dims → ⊥)
    (line Refusal.Rows (OneRow below numbers → ⊥)
    (line Refusal.Sample (SampleOf (further_meaning below (row_at_front below.dims numbers) sample) sample → ⊥)
    end))

-- A further row over rows says what the rows say with that row in front: the same weights are admissible, and the judgement is the same while the first sum is within the range.
pub record JoinsRows (d : ℕ) (row : Constraint) (rows : List Constraint) (sample : List ℕ) : Type 0 where
  pub admissible : (weight : List ℕ) → (further_meaning (rows_meaning d rows sample) row sample).admissible weight → (rows_meaning d (row ∷ rows) sample).admissible weight
  pub conversely : (weight : List ℕ) → (rows_meaning d (row ∷ rows) sample).admissible weight → (further_meaning (rows_meaning d rows sample) row sample).admissible weight
  pub judged : (difference : List ℤ) (multiplier : ℕ) (multipliers : List ℕ) → AllByRecursion InRange (with_row row multiplier difference) → (further_meaning (rows_meaning d rows sample) row sample).judged difference (multiplier ∷ multipliers) ≡ (rows_meaning d (row ∷ rows) sample).judged difference (multiplier ∷ multipliers)
