-- The limits of what is handed in, and the grounds on which a list of numbers is refused. The definitions themselves range over weights of every size.
use Rattle.std.specs.Prelude.{◌≡◌, ℕ, ◌<◌, ◌≤◌, Bool, true, ◌&&◌, List, [], ◌∷◌, length, ℤ, nat_le, unsigned_abs}
use Rattle.std.specs.List.{AllByRecursion}
use Rattle.model.specs.Refusals.{line, end}
use Rattle.model.specs.Weighing.{total}
use Rattle.model.specs.declared.refusal.Refusal.{Refusal}

-- a comparison has 1 to 8 figures
abbrev pub IsFigureCount : ℕ → Type 0
IsFigureCount d = (1 ≤ d) × (d ≤ 8)

-- how many multipliers a preference that is made over another may take: at most 64
abbrev pub IsMultiplierCount : ℕ → Type 0
IsMultiplierCount n = n ≤ 64

-- a figure, an entered weight's part, a share and a multiplier are at most 1,000,000
abbrev pub InLimit : ℕ → Type 0
InLimit n = n ≤ 1000000

-- the range of a difference: an entry is at most 1,000,000,000,000 in size
abbrev pub InRange : ℤ → Type 0
InRange z = unsigned_abs z ≤ 1000000000000

-- every entry is within the range, as a test
abbrev pub all_in_range : List ℤ → Bool
all_in_range [] = true
all_in_range (entry ∷ entries) = nat_le (unsigned_abs entry) 1000000000000 && all_in_range entries

-- a weight of d figures that may be entered: d parts within the limit, not all zero
pub record Proper (d : ℕ) (weight : List ℕ) : Type 0 where
  pub width : length weight ≡ d
  pub limits : AllByRecursion InLimit weight
  pub some : 0 < total weight

-- a difference of d figures that may be judged: d entries within the range
pub record Ranged (d : ℕ) (difference : List ℤ) : Type 0 where
  pub width : length difference ≡ d
  pub range : AllByRecursion InRange difference

-- figures are refused where they are not 1 to 8, or one is above the limit
abbrev pub figures_grounds : List ℕ → Refusal → Type 0
figures_grounds figures =
    line Refusal.FigureCount (IsFigureCount (length figures) → ⊥)
    (line Refusal.Part (AllByRecursion InLimit figures → ⊥)
    end)

-- a weight is refused where its parts are not 1 to 8, one is above the limit, or all are zero
abbrev pub weight_grounds : List ℕ → Refusal → Type 0
weight_grounds weight =
    line Refusal.Width (IsFigureCount (length weight) → ⊥)
    (line Refusal.Part ((AllByRecursion InLimit weight × (0 < total weight)) → ⊥)
    end)

-- a difference is refused where its entries are not 1 to 8, or one is beyond the range
abbrev pub difference_grounds : List ℤ → Refusal → Type 0
difference_grounds difference =
    line Refusal.Width (IsFigureCount (length difference) → ⊥)
    (line Refusal.OutOfRange (AllByRecursion InRange difference → ⊥)
    end)
