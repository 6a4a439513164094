-- The grounds on which a preference refuses a question, for every kind. A preference whose number of figures is not 1 to 8 has no weight and no difference, so every question to it has the wrong width.
use Rattle.std.specs.Prelude.{◌≡◌, ℕ, ◌<◌, List, length, ℤ}
use Rattle.std.specs.List.{AllByRecursion}
use Rattle.model.specs.Limits.{IsFigureCount, InLimit, InRange}
use Rattle.model.specs.Meaning.{Meaning, Safe}
use Rattle.model.specs.Refusals.{line, end}
use Rattle.model.specs.Weighing.{total}
use Rattle.model.specs.declared.judgement.Judgement.{Judgement}
use Rattle.model.specs.declared.refusal.Refusal.{Refusal}

-- is this weight admissible?
abbrev pub weight_question : Meaning → List ℕ → Refusal → Type 0
weight_question m weight =
    line Refusal.Width ((IsFigureCount m.dims × (length weight ≡ m.dims)) → ⊥)
    (line Refusal.Part ((AllByRecursion InLimit weight × (0 < total weight)) → ⊥)
    end)

-- do these multipliers show this difference?
abbrev pub difference_question : Meaning → List ℤ → List ℕ → Refusal → Type 0
difference_question m difference multipliers =
    line Refusal.Width ((IsFigureCount m.dims × (length difference ≡ m.dims)) → ⊥)
    (line Refusal.ProofLength ((length multipliers ≡ m.multipliers) → ⊥)
    (line Refusal.ProofNumber (AllByRecursion InLimit multipliers → ⊥)
    (line Refusal.OutOfRange (AllByRecursion InRange difference → ⊥)
    end)))

-- The right judgement of a question that no ground meets: what the preference's rule says, and a shown difference is safe.
pub record Judges (m : Meaning) (difference : List ℤ) (multipliers : List ℕ) (judgement : Judgement) : Type 0 where
  pub rule : judgement ≡ m.judged difference multipliers
  pub safe : judgement ≡ Judgement.Shown → Safe m difference
