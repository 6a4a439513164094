-- Worked cases of the kinds of preference, as facts about their definitions.
use Rattle.std.specs.Prelude.{◌≡◌, true, false, [], ◌∷◌, pos, negsuc}
use Rattle.model.specs.Meaning.{Meaning}
use Rattle.model.specs.declared.judgement.Judgement.{Judgement}
use Rattle.preferences.specs.Constraints.{Constraint}
use Rattle.preferences.specs.FurtherRows.{further_meaning}
use Rattle.preferences.specs.Making.{rows_meaning}
use Rattle.preferences.specs.Rankings.{ranking_meaning}

-- the barn's row, (−1, 1) with bound 0: the first figure counts at least as much as the second
abbrev pub barn_row : Constraint
barn_row = record { coefficients = negsuc 0 ∷ (pos 1 ∷ []); bound = pos 0 }

abbrev pub barn : Meaning
barn = rows_meaning 2 (barn_row ∷ []) (1 ∷ (1 ∷ []))

-- the row (−10, 0) with bound −6: the first figure counts for at least six tenths
abbrev pub share_row : Constraint
share_row = record { coefficients = negsuc 9 ∷ (pos 0 ∷ []); bound = negsuc 5 }

abbrev pub share : Meaning
share = rows_meaning 2 (share_row ∷ []) (3 ∷ (2 ∷ []))

abbrev pub ranking : Meaning
ranking = ranking_meaning 2

-- that row over a ranking
abbrev pub share_over_ranking : Meaning
share_over_ranking = further_meaning ranking share_row (3 ∷ (2 ∷ []))

pub record WorkedCases : Type 0 where
  -- the barn's row shows (16, −6) with 6 and with 16, and not with 5 or 17
  pub barn_6 : barn.judged (pos 16 ∷ (negsuc 5 ∷ [])) (6 ∷ []) ≡ Judgement.Shown
  pub barn_16 : barn.judged (pos 16 ∷ (negsuc 5 ∷ [])) (16 ∷ []) ≡ Judgement.Shown
  pub barn_5 : barn.judged (pos 16 ∷ (negsuc 5 ∷ [])) (5 ∷ []) ≡ Judgement.NotShown
  pub barn_17 : barn.judged (pos 16 ∷ (negsuc 5 ∷ [])) (17 ∷ []) ≡ Judgement.NotShown
  -- a ranking shows (16, −6), and not (−1, 5)
  pub ranking_falls : ranking.judged (pos 16 ∷ (negsuc 5 ∷ [])) [] ≡ Judgement.Shown
  pub ranking_rises : ranking.judged (negsuc 0 ∷ (pos 5 ∷ [])) [] ≡ Judgement.NotShown
  -- the row (−10, 0, bound −6) admits (3, 2), and not (1, 1)
  pub share_kept : share.admissible (3 ∷ (2 ∷ []))
  pub share_admits : share.admits (3 ∷ (2 ∷ [])) ≡ true
  pub share_not_kept : share.admissible (1 ∷ (1 ∷ [])) → ⊥
  pub share_refuses : share.admits (1 ∷ (1 ∷ [])) ≡ false
  -- that row over a ranking shows (4, −6) with 1, and the ranking alone does not
  pub further_shows : share_over_ranking.judged (pos 4 ∷ (negsuc 5 ∷ [])) (1 ∷ []) ≡ Judgement.Shown
  pub ranking_alone : ranking.judged (pos 4 ∷ (negsuc 5 ∷ [])) [] ≡ Judgement.NotShown
