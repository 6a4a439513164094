-- A claim names a target and a mixture of other variants, and says that the target is never better than the mixture. What it says is put as a difference, figure by figure.
use Rattle.std.specs.Prelude.{ℕ, ◌-◌, cond, List, [], ◌∷◌, map, length, ℤ, pos, ◌+ℤ◌, ◌-ℤ◌, ◌*ℤ◌, nat_lt, slice_index, slice_index_or}
use Rattle.std.specs.List.{range_with_len}
use Rattle.model.specs.declared.share.Share.{Share}

-- the figures of the variant with a number; numbers count from 1
abbrev pub figures_at : List (List ℕ) → ℕ → List ℕ
figures_at figures number = cond (nat_lt 0 number) (slice_index_or figures (number - 1) []) []

-- a claim's difference at a figure: the sum over the pairs of share times (target's figure less the named variant's)
abbrev pub difference_at : List (List ℕ) → ℕ → List Share → ℕ → ℤ
difference_at figures target [] i = pos 0
difference_at figures target (pair ∷ mixture) i =
    (pos pair.share *ℤ (pos (slice_index (figures_at figures target) i) -ℤ pos (slice_index (figures_at figures pair.variant) i))) +ℤ difference_at figures target mixture i

-- a claim's difference, at each figure of the target
abbrev pub difference : List (List ℕ) → ℕ → List Share → List ℤ
difference figures target mixture = map (difference_at figures target mixture) (range_with_len 0 (length (figures_at figures target)))
