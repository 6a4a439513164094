-- A score, a total and a weighed difference, one part more at a time.
use Rattle.std.proofs.Common.{◌≡◌, ℕ, zero, suc, ◌+◌, ◌*◌, ◌<◌, ◌≤◌, ◌⊎◌, ⊎_elim, inl, inr, List, [], ◌∷◌, length, get_or, take, ℤ, pos, ◌+ℤ◌, ◌*ℤ◌, sym, refl, ap, ◌∙◌, mul-zero, mul-le-mul, add-one, arith}
use lib.IntN.{+ℤ_idl, +ℤ_idr, +ℤ_assoc, *ℤ-zero}
use Rattle.std.specs.Prelude.{Decides, nat_lt}
use Rattle.std.specs.List.{AllByRecursion, list_any}
use Rattle.std.proofs.lemmas.Bool.Decides.{Decides-like, Decides-or, Decides-ltb}
use Rattle.model.specs.Each.{Decides-no}
use Rattle.model.specs.Limits.{InLimit}
use Rattle.model.specs.Weighing.{score, total, weighed}

-- two lists that are gone through together are done where one is at its end
pub at_an_end : {I J : Type 0} {P : I → Type 0} {Q : J → Type 0} {m n : ℕ} → ((x : I) × ((m ≡ 0) × P x)) ⊎ ((y : J) × ((n ≡ 0) × Q y)) → (m ≡ 0) ⊎ (n ≡ 0)
at_an_end (inl h) = inl h.1.0
at_an_end (inr h) = inr h.1.0

-- one part and its figure, taken off the front
pub score_taken : {w v xs ys : List ℕ} {p x : ℕ} → w ≡ p ∷ v → xs ≡ x ∷ ys → score w xs ≡ p * x + score v ys
score_taken {v} {xs} {p} parts figures = ap (λ w. score w xs) parts ∙ ap (score (p ∷ v)) figures

-- where the parts or the figures are at their end
pub score_done : (w xs : List ℕ) → (length w ≡ 0) ⊎ (length xs ≡ 0) → score w xs ≡ 0
score_done [] xs h = refl
score_done (p ∷ w) [] h = refl
score_done (p ∷ w) (x ∷ xs) (inl h) = absurd (omega arith)
score_done (p ∷ w) (x ∷ xs) (inr h) = absurd (omega arith)

-- one part more at the end of those that are taken
score-suc : (w xs : List ℕ) (i : ℕ) → i < length w → score (take (suc i) w) xs ≡ score (take i w) xs + get_or w i 0 * get_or xs i 0
score-suc [] xs i h = absurd (omega arith)
score-suc (p ∷ w) [] zero h = omega (arith, mul-zero p)
score-suc (p ∷ w) [] (suc i) h = omega (arith, mul-zero (get_or w i 0))
score-suc (p ∷ w) (x ∷ xs) zero h = omega arith
score-suc (p ∷ w) (x ∷ xs) (suc i) h = let e = score-suc w xs i (omega arith) in omega arith

pub score_more : (w xs : List ℕ) (i : ℕ) → i < length w → score (take (i + 1) w) xs ≡ score (take i w) xs + get_or w i 0 * get_or xs i 0
score_more w xs i h = rw add-one (score-suc w xs i h)

-- numbers within the limit
pub score_limit : (w xs : List ℕ) → AllByRecursion InLimit w → AllByRecursion InLimit xs → score w xs ≤ 1000000000000 * length w
score_limit [] xs parts figures = omega arith
score_limit (p ∷ w) [] parts figures = omega arith
score_limit (p ∷ w) (x ∷ xs) parts figures =
    let product : p * x ≤ 1000000 * 1000000 = mul-le-mul parts.0 figures.0 in
    omega (arith, score_limit w xs parts.1 figures.1)

-- some part is greater than 0
pub Decides-positive : (w : List ℕ) → Decides (list_any (λ part. nat_lt 0 part) w) (0 < total w)
Decides-positive [] = Decides-no (λ h. omega arith)
Decides-positive (part ∷ w) =
    Decides-like _ (⊎_elim (λ h. omega arith) (λ h. omega arith)) (first part) (Decides-or _ _ (Decides-ltb 0 part) (Decides-positive w))
  where
    first : (p : ℕ) → 0 < p + total w → (0 < p) ⊎ (0 < total w)
    first zero h = inr (omega arith)
    first (suc p) h = inl (omega arith)

total-suc : (w : List ℕ) (i : ℕ) → i < length w → total (take (suc i) w) ≡ total (take i w) + get_or w i 0
total-suc [] i h = absurd (omega arith)
total-suc (p ∷ w) zero h = omega arith
total-suc (p ∷ w) (suc i) h = let e = total-suc w i (omega arith) in omega arith

pub total_more : (w : List ℕ) (i : ℕ) → i < length w → total (take (i + 1) w) ≡ total (take i w) + get_or w i 0
total_more w i h = rw add-one (total-suc w i h)

-- the front of a weight has no greater total
pub total-take : (w : List ℕ) (i : ℕ) → total (take i w) ≤ total w
total-take w zero = omega arith
total-take [] (suc i) = omega arith
total-take (p ∷ w) (suc i) = let h = total-take w i in omega arith

pub total_limit : (w : List ℕ) → AllByRecursion InLimit w → total w ≤ 1000000 * length w
total_limit [] parts = omega arith
total_limit (p ∷ w) parts = omega (arith, total_limit w parts.1, parts.0)

-- one part and its entry, taken off the front
pub weighed_taken : {w v : List ℕ} {zs ys : List ℤ} {p : ℕ} {z : ℤ} → w ≡ p ∷ v → zs ≡ z ∷ ys → weighed w zs ≡ (pos p *ℤ z) +ℤ weighed v ys
weighed_taken {v} {zs} {p} parts entries = ap (λ w. weighed w zs) parts ∙ ap (weighed (p ∷ v)) entries

-- where the parts or the entries are at their end
pub weighed_done : (w : List ℕ) (zs : List ℤ) → (length w ≡ 0) ⊎ (length zs ≡ 0) → weighed w zs ≡ pos 0
weighed_done [] zs h = refl
weighed_done (p ∷ w) [] h = refl
weighed_done (p ∷ w) (z ∷ zs) (inl h) = absurd (omega arith)
weighed_done (p ∷ w) (z ∷ zs) (inr h) = absurd (omega arith)

weighed-suc : (w : List ℕ) (zs : List ℤ) (i : ℕ) → i < length w → weighed (take (suc i) w) zs ≡ weighed (take i w) zs +ℤ (pos (get_or w i 0) *ℤ get_or zs i (pos 0))
weighed-suc [] zs i h = absurd (omega arith)
weighed-suc (p ∷ w) [] zero h = sym (+ℤ_idl (pos p *ℤ pos 0) ∙ *ℤ-zero (pos p))
weighed-suc (p ∷ w) [] (suc i) h = sym (+ℤ_idl (pos (get_or w i 0) *ℤ pos 0) ∙ *ℤ-zero (pos (get_or w i 0)))
weighed-suc (p ∷ w) (z ∷ zs) zero h = +ℤ_idr (pos p *ℤ z) ∙ sym (+ℤ_idl (pos p *ℤ z))
weighed-suc (p ∷ w) (z ∷ zs) (suc i) h = ap (λ s. (pos p *ℤ z) +ℤ s) (weighed-suc w zs i (omega arith)) ∙ sym (+ℤ_assoc (pos p *ℤ z) (weighed (take i w) zs) (pos (get_or w i 0) *ℤ get_or zs i (pos 0)))

pub weighed_more : (w : List ℕ) (zs : List ℤ) (i : ℕ) → i < length w → weighed (take (i + 1) w) zs ≡ weighed (take i w) zs +ℤ (pos (get_or w i 0) *ℤ get_or zs i (pos 0))
weighed_more w zs i h = rw add-one (weighed-suc w zs i h)
