-- What a preference means, and the laws that every kind of preference keeps.
use Rattle.std.specs.Prelude.{◌≡◌, ℕ, ◌<◌, Bool, true, List, length, replicate, ℤ, pos, ◌≤ℤ◌}
use Rattle.std.specs.List.{AllByRecursion}
use Rattle.model.specs.Limits.{InLimit, Proper, Ranged}
use Rattle.model.specs.Weighing.{total, weighed}
use Rattle.model.specs.declared.judgement.Judgement.{Judgement}

-- The meaning of a preference: how many figures it weighs, how many multipliers a certificate for it has, a sample weight, which weights of any size are admissible, its answer to a proper weight, and its judgement of a difference with multipliers.
pub record Meaning : Type 1 where
  pub dims : ℕ
  pub multipliers : ℕ
  pub sample : List ℕ
  pub admissible : List ℕ → Type 0
  pub admits : List ℕ → Bool
  pub judged : List ℤ → List ℕ → Judgement

-- a certificate for m: as many multipliers as m takes, each within the limit
pub record Certificate (m : Meaning) (multipliers : List ℕ) : Type 0 where
  pub count : length multipliers ≡ m.multipliers
  pub limits : AllByRecursion InLimit multipliers

-- a weight that may be the sample of m: a proper weight that is admissible
pub record SampleOf (m : Meaning) (weight : List ℕ) : Type 0 where
  pub proper : Proper m.dims weight
  pub admissible : m.admissible weight

-- a difference is safe under m: weighed by an admissible weight of any size it is not negative
abbrev pub Safe : Meaning → List ℤ → Type 0
Safe m difference = (weight : List ℕ) → m.admissible weight → pos 0 ≤ℤ weighed weight difference

-- The laws.
pub record Lawful (m : Meaning) : Type 0 where
  -- an admissible weight has dims parts
  pub width : (weight : List ℕ) → m.admissible weight → length weight ≡ m.dims
  -- that are not all zero
  pub some : (weight : List ℕ) → m.admissible weight → 0 < total weight
  -- a proper weight that is admitted is admissible
  pub sound : (weight : List ℕ) → Proper m.dims weight → m.admits weight ≡ true → m.admissible weight
  -- a proper weight that is admissible is admitted
  pub exact : (weight : List ℕ) → Proper m.dims weight → m.admissible weight → m.admits weight ≡ true
  -- a difference that a certificate shows is safe
  pub safe : (difference : List ℤ) (multipliers : List ℕ) → Ranged m.dims difference → Certificate m multipliers → m.judged difference multipliers ≡ Judgement.Shown → Safe m difference
  -- zeros show every difference without a negative entry
  pub zeros : (difference : List ℤ) → Ranged m.dims difference → AllByRecursion (λ entry. pos 0 ≤ℤ entry) difference → m.judged difference (replicate m.multipliers 0) ≡ Judgement.Shown
