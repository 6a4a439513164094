-- What a further row adds to a difference, and why a further row keeps the laws where the preference below keeps them.
use Rattle.std.specs.Prelude.{◌≡◌, ℕ, suc, ◌+◌, ◌-◌, ◌<◌, ◌≤◌, Bool, true, false, cond, List, [], ◌∷◌, length, take, drop, replicate, ℤ, pos, ◌+ℤ◌, ◌*ℤ◌, ◌≤ℤ◌, slice_index, slice_index_or, refl}
use Rattle.std.proofs.Common.{⊎_elim, inl, inr, sym, ap, ◌∙◌, subst, add-one, arith}
use Rattle.std.proofs.Math.IntN.{+ℤ_idr, +ℤ_assoc, zero-*ℤ}
use Rattle.std.specs.List.{AllByRecursion}
use Rattle.std.proofs.lemmas.List.FromFn.{length-map-range_with_len, get_or-map-range_with_len, fill_by_all}
use Rattle.std.proofs.lemmas.List.{ext_get_or, get_or-take, length-take-le, take_rest}
use Rattle.std.proofs.lemmas.Bool.{cond-true, cond-false, cases_lt}
use Rattle.std.proofs.lemmas.Bool.Decides.{Decides-like, same_from_decides}
use Rattle.model.specs.Limits.{InRange, Ranged, all_in_range}
use Rattle.model.specs.Meaning.{Meaning, Certificate, Lawful, Safe}
use Rattle.model.specs.Refusals.{Unopposed}
use Rattle.model.specs.Weighing.{weighed}
use Rattle.model.specs.declared.judgement.Judgement.{Judgement}
use Rattle.model.specs.declared.refusal.Refusal.{Refusal}
use Rattle.model.specs.Each.{Decides-in_range, Decides-no}
use Rattle.model.proofs.Weighed.{spread_alike, weighed-spread}
use Rattle.preferences.specs.Constraints.{Constraint, Keeps, effective, lift, shows}
use Rattle.preferences.specs.FurtherRows.{with_row, further_judged, further_meaning, further_grounds, JoinsRows}
use Rattle.model.specs.Judging.{judgement}
use Rattle.preferences.specs.Judging.{JudgesLawfully}
use Rattle.preferences.proofs.Certificates.{row_weighed, left_weighed}
use Rattle.preferences.proofs.Rules.{Decides-shows}

pub with_row-length : (row : Constraint) (m : ℕ) (difference : List ℤ) → length (with_row row m difference) ≡ length difference
with_row-length row m difference = length-map-range_with_len _ 0 (length difference)

with_row_at : (row : Constraint) (m : ℕ) (difference : List ℤ) (i : ℕ) → i < length difference → slice_index_or (with_row row m difference) i (pos 0) ≡ slice_index_or difference i (pos 0) +ℤ (pos m *ℤ effective row i)
with_row_at row m difference i below = get_or-map-range_with_len (λ k. slice_index_or difference k (pos 0) +ℤ (pos m *ℤ effective row k)) 0 (length difference) i i (pos 0) below (omega arith)

-- a list that begins with these sums
pub with_row_filled : (row : Constraint) (m : ℕ) (difference sums : List ℤ) → length difference ≤ length sums → ((i : ℕ) → i < length difference → slice_index_or sums i (pos 0) ≡ slice_index_or difference i (pos 0) +ℤ (pos m *ℤ effective row i)) → take (length difference) sums ≡ with_row row m difference
with_row_filled row m difference sums room each =
    fill_by_all _ (take (length difference) sums) (length difference) (pos 0) (length-take-le (length difference) sums room) (λ i below. get_or-take (length difference) sums i (pos 0) below ∙ each i below)

-- no multiple of a row adds nothing
with_row_none : (row : Constraint) (difference : List ℤ) → with_row row 0 difference ≡ difference
with_row_none row difference =
    ext_get_or (pos 0) _ _ (with_row-length row 0 difference) (λ i below. with_row_at row 0 difference i (omega (arith, with_row-length row 0 difference)) ∙ ap (λ z. slice_index_or difference i (pos 0) +ℤ z) (zero-*ℤ (effective row i)) ∙ +ℤ_idr (slice_index_or difference i (pos 0)))

-- where a weight keeps the row, a difference with the row added that is not negative, weighed, leaves the difference so
with_row_weighed : (weight : List ℕ) (row : Constraint) (m : ℕ) (difference : List ℤ) → length weight ≡ length difference → Keeps weight row → pos 0 ≤ℤ weighed weight (with_row row m difference) → pos 0 ≤ℤ weighed weight difference
with_row_weighed weight row m difference same keeps nonneg =
    left_weighed weight difference (λ i. pos m *ℤ effective row i) (row_weighed weight row m keeps)
    (rw (sym (spread_alike weight _ _ (λ i below. with_row_at row m difference i (omega arith))), sym (weighed-spread weight (with_row row m difference))) nonneg)

-- shown after the range was checked
range_kept : (t : Bool) (j : Judgement) → cond t j Judgement.OutOfRange ≡ Judgement.Shown → (t ≡ true) × (j ≡ Judgement.Shown)
range_kept true j h = (refl, h)
range_kept false j h = (cc, cc)

module _ (below : Meaning) (row : Constraint) (difference : List ℤ) where
  -- the first multiplier and the others
  first_taken : (multipliers : List ℕ) → 0 < length multipliers → further_judged below row difference multipliers ≡ cond (all_in_range (with_row row (slice_index multipliers 0) difference)) (below.judged (with_row row (slice_index multipliers 0) difference) (drop 1 multipliers)) Judgement.OutOfRange
  first_taken [] some = absurd (omega arith)
  first_taken (m ∷ multipliers) some = refl

  -- within the range the preference below judges, with the other multipliers as they are lent
  pub judged_below : (multipliers : List ℕ) (sum : List ℤ) → 0 < length multipliers → sum ≡ with_row row (slice_index multipliers 0) difference → AllByRecursion InRange sum → below.judged sum (take (length multipliers - 1) (drop 1 multipliers)) ≡ further_judged below row difference multipliers
  judged_below multipliers sum some same range =
      ap (λ zs. below.judged zs (take (length multipliers - 1) (drop 1 multipliers))) same
      ∙ ap (below.judged (with_row row (slice_index multipliers 0) difference)) (take_rest multipliers 1)
      ∙ sym (first_taken multipliers some ∙ cond-true _ _ _ ((Decides-in_range _).1 (subst (AllByRecursion InRange) same range)))

  pub judged_out : (multipliers : List ℕ) → 0 < length multipliers → (AllByRecursion InRange (with_row row (slice_index multipliers 0) difference) → ⊥) → Judgement.OutOfRange ≡ further_judged below row difference multipliers
  judged_out multipliers some out =
      sym (first_taken multipliers some ∙ cond-false _ _ _ (same_from_decides _ false (Decides-in_range (with_row row (slice_index multipliers 0) difference)) (Decides-no out)))

module _ (below : Meaning) (lawful : Lawful below) (row : Constraint) (sample : List ℕ) where
  further_safe : (difference : List ℤ) (multipliers : List ℕ) → Ranged below.dims difference → Certificate (further_meaning below row sample) multipliers → further_judged below row difference multipliers ≡ Judgement.Shown → Safe (further_meaning below row sample) difference
  further_safe difference [] ranged certificate shown weight admissible = absurd (omega (arith, certificate.count))
  further_safe difference (m ∷ multipliers) ranged certificate shown weight admissible =
      let sum = with_row row m difference in
      let parts = range_kept (all_in_range sum) (below.judged sum multipliers) shown in
      let within : Ranged below.dims sum = record { width = with_row-length row m difference ∙ ranged.width; range = (Decides-in_range sum).0 parts.0 } in
      let rest : Certificate below multipliers = record { count = omega (arith, certificate.count); limits = certificate.limits.1 } in
      with_row_weighed weight row m difference (omega (arith, lawful.width weight admissible.0, ranged.width)) admissible.1 (lawful.safe sum multipliers within rest parts.1 weight admissible.0)

  further_zeros : (difference : List ℤ) → Ranged below.dims difference → AllByRecursion (λ entry. pos 0 ≤ℤ entry) difference → further_judged below row difference (replicate (below.multipliers + 1) 0) ≡ Judgement.Shown
  further_zeros difference ranged none =
      rw (add-one below.multipliers, with_row_none row difference)
      (cond-true (all_in_range difference) _ _ ((Decides-in_range difference).1 ranged.range) ∙ lawful.zeros difference ranged none)

  pub further_judges : JudgesLawfully (further_meaning below row sample)
  further_judges = record { safe = further_safe; zeros = further_zeros }

-- where no ground meets the making, there is room for one multiplier more
pub room_kept : (below : Meaning) (numbers : List ℤ) (sample : List ℕ) → Unopposed (further_grounds below numbers sample) → below.multipliers + 1 ≤ 64
room_kept below numbers sample free =
    ⊎_elim (λ within. omega arith) (λ over. absurd (free Refusal.Rows (inr (inl (refl, λ one. omega (arith, one.room)))))) (cases_lt below.multipliers 64)

-- at a figure, the sum with what the rows add is the difference with what they add together with the further row in front
module _ (row : Constraint) (rows : List Constraint) (difference : List ℤ) (m : ℕ) (multipliers : List ℕ) where
  joined_at : (i : ℕ) → i < length difference → slice_index_or (with_row row m difference) i (pos 0) +ℤ lift rows multipliers i ≡ slice_index_or difference i (pos 0) +ℤ lift (row ∷ rows) (m ∷ multipliers) i
  joined_at i below =
      ap (λ z. z +ℤ lift rows multipliers i) (with_row_at row m difference i below)
      ∙ +ℤ_assoc (slice_index_or difference i (pos 0)) (pos m *ℤ effective row i) (lift rows multipliers i)

  joined_shows : (d : ℕ) → shows d rows (with_row row m difference) multipliers ≡ shows d (row ∷ rows) difference (m ∷ multipliers)
  joined_shows d =
      let sum = with_row row m difference in
      let long = with_row-length row m difference in
      same_from_decides (shows d rows sum multipliers) (shows d (row ∷ rows) difference (m ∷ multipliers)) (Decides-shows d rows sum multipliers)
      (Decides-like (shows d (row ∷ rows) difference (m ∷ multipliers))
      (λ h. (long ∙ h.0, omega (arith, h.1), λ i below. subst (λ z. pos 0 ≤ℤ z) (sym (joined_at i (omega (arith, h.0)))) (h.2 i below)))
      (λ h. (sym long ∙ h.0, ap suc h.1, λ i below. subst (λ z. pos 0 ≤ℤ z) (joined_at i (omega (arith, h.0))) (h.2 i below)))
      (Decides-shows d (row ∷ rows) difference (m ∷ multipliers)))

pub joins_rows : (d : ℕ) (row : Constraint) (rows : List Constraint) (sample : List ℕ) → JoinsRows d row rows sample
joins_rows d row rows sample =
    record {
      admissible = λ weight h. (h.0.0, h.0.1, (h.1, h.0.2));
      conversely = λ weight h. ((h.0, h.1, h.2.1), h.2.0);
      judged = λ difference m multipliers within. cond-true _ _ _ ((Decides-in_range (with_row row m difference)).1 within) ∙ ap judgement (joined_shows row rows difference m multipliers d);
    }
