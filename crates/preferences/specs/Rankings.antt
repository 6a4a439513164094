-- Rankings: the figures stand in the order of their weight, so that none counts more than the one before it.
use Rattle.std.specs.Prelude.{◌≡◌, ℕ, zero, suc, ◌-◌, ◌<◌, ◌≤◌, Bool, true, ◌&&◌, List, [], ◌∷◌, length, replicate, ℤ, pos, ◌+ℤ◌, ◌==◌, nat_le, slice_index}
use Rattle.model.specs.Limits.{IsFigureCount}
use Rattle.model.specs.Meaning.{Meaning}
use Rattle.model.specs.Refusals.{line, end}
use Rattle.model.specs.Weighing.{total}
use Rattle.model.specs.declared.refusal.Refusal.{Refusal}
use Rattle.preferences.specs.Constraints.{none_negative}
use Rattle.model.specs.Judging.{judgement}

-- the parts of a weight never rise from first to last
abbrev pub NeverRises : List ℕ → Type 0
NeverRises weight = (i : ℕ) → suc i < length weight → slice_index weight (suc i) ≤ slice_index weight i

-- a weight of d figures is admissible under a ranking when its parts never rise
abbrev pub Ranked : ℕ → List ℕ → Type 0
Ranked d weight = (length weight ≡ d) × (0 < total weight) × NeverRises weight

-- The answer to a proper weight, as a test: none of the first n steps from part to part rises.
abbrev pub no_step_rises : List ℕ → ℕ → Bool
no_step_rises weight zero = true
no_step_rises weight (suc n) = nat_le (slice_index weight (suc n)) (slice_index weight n) && no_step_rises weight n

abbrev pub never_rises : List ℕ → Bool
never_rises weight = no_step_rises weight (length weight - 1)

abbrev pub ranking_admits : ℕ → List ℕ → Bool
ranking_admits d weight = length weight == d && never_rises weight

-- the sum of the first n entries
abbrev pub first_sum : List ℤ → ℕ → ℤ
first_sum entries zero = pos 0
first_sum [] (suc n) = pos 0
first_sum (entry ∷ entries) (suc n) = entry +ℤ first_sum entries n

-- a difference of d figures is shown, with no multipliers, when the sums of its first entry, of its first two, and so on to all d are not negative
abbrev pub ranking_shows : ℕ → List ℤ → List ℕ → Bool
ranking_shows d difference multipliers =
    (length difference == d) && (length multipliers == 0 && none_negative (λ n. first_sum difference (suc n)) d)

-- the ranking of d figures
abbrev pub ranking_meaning : ℕ → Meaning
ranking_meaning d =
    record {
      dims = d;
      multipliers = 0;
      sample = replicate d 1;
      admissible = Ranked d;
      admits = ranking_admits d;
      judged = λ difference multipliers. judgement (ranking_shows d difference multipliers);
    }

-- a ranking is refused where d is not 1 to 8
abbrev pub ranking_grounds : ℕ → Refusal → Type 0
ranking_grounds d =
    line Refusal.FigureCount (IsFigureCount d → ⊥)
    end
