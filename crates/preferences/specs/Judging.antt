-- What the laws of a preference ask of its judgements.
use Rattle.std.specs.Prelude.{◌≡◌, ℕ, List, replicate, ℤ, pos, ◌≤ℤ◌}
use Rattle.std.specs.List.{AllByRecursion}
use Rattle.model.specs.Limits.{Ranged}
use Rattle.model.specs.Meaning.{Meaning, Certificate, Safe}
use Rattle.model.specs.declared.judgement.Judgement.{Judgement}

-- The laws of a preference that speak of its judgements: a difference that a certificate shows is safe, and zeros show every difference without a negative entry.
pub record JudgesLawfully (m : Meaning) : Type 0 where
  pub safe : (difference : List ℤ) (multipliers : List ℕ) → Ranged m.dims difference → Certificate m multipliers → m.judged difference multipliers ≡ Judgement.Shown → Safe m difference
  pub zeros : (difference : List ℤ) → Ranged m.dims difference → AllByRecursion (λ entry. pos 0 ≤ℤ entry) difference → m.judged difference (replicate m.multipliers 0) ≡ Judgement.Shown
