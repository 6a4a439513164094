-- The making of a preference of rows: what it means, and the grounds on which it is refused.
use Rattle.std.specs.Prelude.{ℕ, cond, List, length, ℤ}
use Rattle.model.specs.Limits.{IsFigureCount, Proper}
use Rattle.model.specs.Meaning.{Meaning}
use Rattle.model.specs.Refusals.{line, end}
use Rattle.model.specs.declared.judgement.Judgement.{Judgement}
use Rattle.model.specs.declared.refusal.Refusal.{Refusal}
use Rattle.preferences.specs.Constraints.{Constraint, Admissible, admits, shows}
use Rattle.preferences.specs.RowList.{IsRowList, rows_in}

-- the preference of these rows over d figures
abbrev pub rows_meaning : ℕ → List Constraint → List ℕ → Meaning
rows_meaning d rows sample =
    record {
      dims = d;
      multipliers = length rows;
      sample = sample;
      admissible = Admissible d rows;
      admits = admits d rows;
      judged = λ difference multipliers. cond (shows d rows difference multipliers) Judgement.Shown Judgement.NotShown;
    }

-- a sample that rows can be made with: a proper weight of d figures that is admissible under them
pub record GoodSample (d : ℕ) (numbers : List ℤ) (sample : List ℕ) : Type 0 where
  pub proper : Proper d sample
  pub admissible : Admissible d (rows_in d numbers) sample

-- rows are refused where d is not 1 to 8, the numbers are no list of rows, or the sample is no proper weight or not admissible
abbrev pub rows_grounds : ℕ → List ℤ → List ℕ → Refusal → Type 0
rows_grounds d numbers sample =
    line Refusal.FigureCount (IsFigureCount d → ⊥)
    (line Refusal.Rows (IsRowList d numbers → ⊥)
    (line Refusal.Sample (GoodSample d numbers sample → ⊥)
    end))
