-- A claim's difference, one pair more at a time.
use Rattle.std.proofs.Common.{◌≡◌, ℕ, zero, suc, ◌+◌, ◌-◌, ◌<◌, List, [], ◌∷◌, length, get_or, take, ℤ, pos, ◌+ℤ◌, ◌-ℤ◌, ◌*ℤ◌, sym, ap, ◌∙◌, add-one, arith}
use lib.IntN.{+ℤ_idl, +ℤ_idr, +ℤ_assoc}
use Rattle.std.proofs.lemmas.Bool.{lt-ltb, cond-true}
use Rattle.model.specs.Claims.{figures_at, difference_at}
use Rattle.model.specs.declared.share.Share.{Share}

-- a number from 1 names a place
pub figures_at_place : (figures : List (List ℕ)) (number : ℕ) → 0 < number → figures_at figures number ≡ get_or figures (number - 1) []
figures_at_place figures number some = cond-true _ _ _ (lt-ltb 0 number some)

-- what a pair adds at a figure
abbrev pub pair_at : List (List ℕ) → ℕ → Share → ℕ → ℤ
pair_at figures target pair i =
    pos pair.share *ℤ (pos (get_or (figures_at figures target) i 0) -ℤ pos (get_or (figures_at figures pair.variant) i 0))

difference_at-suc : (figures : List (List ℕ)) (target : ℕ) (mixture : List Share) (k i : ℕ) (d : Share) → k < length mixture → difference_at figures target (take (suc k) mixture) i ≡ difference_at figures target (take k mixture) i +ℤ pair_at figures target (get_or mixture k d) i
difference_at-suc figures target [] k i d h = absurd (omega arith)
difference_at-suc figures target (pair ∷ mixture) zero i d h = +ℤ_idr (pair_at figures target pair i) ∙ sym (+ℤ_idl (pair_at figures target pair i))
difference_at-suc figures target (pair ∷ mixture) (suc k) i d h =
    ap (λ z. pair_at figures target pair i +ℤ z) (difference_at-suc figures target mixture k i d (omega arith))
    ∙ sym (+ℤ_assoc (pair_at figures target pair i) (difference_at figures target (take k mixture) i) (pair_at figures target (get_or mixture k d) i))

pub difference_at_more : (figures : List (List ℕ)) (target : ℕ) (mixture : List Share) (k i : ℕ) (d : Share) → k < length mixture → difference_at figures target (take (k + 1) mixture) i ≡ difference_at figures target (take k mixture) i +ℤ pair_at figures target (get_or mixture k d) i
difference_at_more figures target mixture k i d h = rw add-one (difference_at-suc figures target mixture k i d h)
