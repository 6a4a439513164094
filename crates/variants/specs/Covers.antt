-- Cover sheets: their limits, their figures and their order.
use Rattle.std.specs.Prelude.{ℕ, ◌-◌, ◌≤◌, Bool, true, not, ◌&&◌, ◌||◌, List, [], ◌∷◌, count_by, nat_le}
use Rattle.model.specs.Refusals.{line, end}
use Rattle.model.specs.declared.refusal.Refusal.{Refusal}
use Rattle.variants.specs.declared.cover_terms.CoverTerms.{CoverTerms}

-- terms within their limits
pub record CoverLimits (terms : CoverTerms) : Type 0 where
  pub premium : terms.premium ≤ 1000000
  pub share : terms.own_share ≤ 1000000
  pub sum : terms.sum_covered ≤ 1000000
  pub days : terms.waiting_days ≤ 3650

-- a cover sheet is refused where a term is above its limit
abbrev pub cover_grounds : CoverTerms → Refusal → Type 0
cover_grounds terms =
    line Refusal.Part (CoverLimits terms → ⊥)
    end

-- how many marks are set
abbrev pub marks_set : List Bool → ℕ
marks_set marks = count_by (λ mark. mark) marks

-- the five figures: premium, own share, 1,000,000 less the sum covered, days, and the number of marks set
abbrev pub cover_figures : CoverTerms → List ℕ
cover_figures terms =
    terms.premium ∷ (terms.own_share ∷ ((1000000 - terms.sum_covered) ∷ (terms.waiting_days ∷ (marks_set terms.exclusions ∷ []))))

-- each mark that is set is set in the others too
abbrev pub set_too : List Bool → List Bool → Bool
set_too [] others = true
set_too (mark ∷ marks) [] = not mark && set_too marks []
set_too (mark ∷ marks) (other ∷ others) = (not mark || other) && set_too marks others

-- at least as good: premium, own share and days are no greater, the sum covered is no smaller, and each mark is set in the other too
abbrev pub cover_better : CoverTerms → CoverTerms → Bool
cover_better x y =
    nat_le x.premium y.premium
    && (nat_le x.own_share y.own_share
    && (nat_le x.waiting_days y.waiting_days
    && (nat_le y.sum_covered x.sum_covered
    && set_too x.exclusions y.exclusions)))
