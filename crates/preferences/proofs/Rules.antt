-- The tests of rows decide what they are to decide, and rows keep the laws of a preference.
use Rattle.std.specs.Prelude.{◌≡◌, ℕ, ◌<◌, cond, List, length, replicate, ℤ, pos, negsuc, ◌+ℤ◌, ◌≤ℤ◌, Decides, slice_index_or, refl}
use Rattle.std.proofs.Common.{arith}
use Rattle.std.proofs.lemmas.Int.{ints}
use Rattle.std.specs.Int.Signed.{non_neg}
use Rattle.std.specs.List.{AllByRecursion}
use Rattle.std.proofs.ByRecursion.{All-get_or, Decides-by_and}
use Rattle.std.proofs.lemmas.List.{length-replicate}
use Rattle.std.proofs.lemmas.Bool.{cond-true}
use Rattle.std.proofs.lemmas.Bool.Decides.{Decides-and, Decides-eqb, Decides-below_and, Decides-like}
use Rattle.model.specs.Limits.{Ranged}
use Rattle.model.specs.Meaning.{Lawful, Safe}
use Rattle.model.specs.Weighing.{total, weighed}
use Rattle.model.specs.declared.judgement.Judgement.{Judgement}
use Rattle.model.specs.Each.{Decides-le, Decides-yes, Decides-no}
use Rattle.preferences.specs.Constraints.{Constraint, Keeps, Admissible, lift, keeps, all_keep, admits, none_negative, shows}
use Rattle.preferences.specs.Making.{rows_meaning}
use Rattle.preferences.proofs.Certificates.{shown_weighed, lift_zeros}
use Rattle.preferences.proofs.Judged.{judgement_shown, judgement_not_shown, shown_holds}

Decides-nonneg : (z : ℤ) → Decides (non_neg z) (pos 0 ≤ℤ z)
Decides-nonneg (pos n) = Decides-yes (omega (arith, ints))
Decides-nonneg (negsuc n) = Decides-no (λ h. h.le)

pub Decides-keeps : (weight : List ℕ) (row : Constraint) → Decides (keeps weight row) (Keeps weight row)
Decides-keeps weight row = Decides-le (weighed weight row.coefficients) _

pub Decides-keep : (weight : List ℕ) (rows : List Constraint) → Decides (all_keep weight rows) (AllByRecursion (Keeps weight) rows)
Decides-keep weight rows =
    Decides-by_and _ (Keeps weight) (all_keep weight) (Decides-keeps weight) refl (λ _ _. refl) rows

pub Decides-none_negative : (value : ℕ → ℤ) (n : ℕ) → Decides (none_negative value n) ((i : ℕ) → i < n → pos 0 ≤ℤ value i)
Decides-none_negative value n = Decides-below_and (λ i. non_neg (value i)) (λ i. pos 0 ≤ℤ value i) (none_negative value) (λ i. Decides-nonneg (value i)) refl (λ _. refl) n

-- multipliers, one for each row, show a difference of d figures: the test's meaning
abbrev pub Shows : ℕ → List Constraint → List ℤ → List ℕ → Type 0
Shows d rows difference multipliers =
    (length difference ≡ d) × (length multipliers ≡ length rows) × ((i : ℕ) → i < d → pos 0 ≤ℤ (slice_index_or difference i (pos 0) +ℤ lift rows multipliers i))

pub Decides-shows : (d : ℕ) (rows : List Constraint) (difference : List ℤ) (multipliers : List ℕ) → Decides (shows d rows difference multipliers) (Shows d rows difference multipliers)
Decides-shows d rows difference multipliers =
    Decides-like (shows d rows difference multipliers) (λ h. (h.0, h.1.0, h.1.1)) (λ h. (h.0, (h.1, h.2)))
    (Decides-and _ _ (Decides-eqb (length difference) d) (Decides-and _ _ (Decides-eqb (length multipliers) (length rows)) (Decides-none_negative (λ i. slice_index_or difference i (pos 0) +ℤ lift rows multipliers i) d)))

-- the judgement where the rule holds, and where it does not
pub judged_shown : (d : ℕ) (rows : List Constraint) (difference : List ℤ) (multipliers : List ℕ) → Shows d rows difference multipliers → Judgement.Shown ≡ cond (shows d rows difference multipliers) Judgement.Shown Judgement.NotShown
judged_shown d rows difference multipliers h = judgement_shown _ (Decides-shows d rows difference multipliers) h

pub judged_not_shown : (d : ℕ) (rows : List Constraint) (difference : List ℤ) (multipliers : List ℕ) → (Shows d rows difference multipliers → ⊥) → Judgement.NotShown ≡ cond (shows d rows difference multipliers) Judgement.Shown Judgement.NotShown
judged_not_shown d rows difference multipliers h = judgement_not_shown _ (Decides-shows d rows difference multipliers) h

-- an admitted proper weight is admissible, and the reverse
pub Decides-admits : (d : ℕ) (rows : List Constraint) (weight : List ℕ) → 0 < total weight → Decides (admits d rows weight) (Admissible d rows weight)
Decides-admits d rows weight some =
    Decides-like (admits d rows weight) (λ h. (h.0, some, h.1)) (λ h. (h.0, h.2))
    (Decides-and _ _ (Decides-eqb (length weight) d) (Decides-keep weight rows))

-- zeros show a difference without a negative entry
rows_zeros : (d : ℕ) (rows : List Constraint) (sample : List ℕ) (difference : List ℤ) → Ranged d difference → AllByRecursion (λ entry. pos 0 ≤ℤ entry) difference → (rows_meaning d rows sample).judged difference (replicate (length rows) 0) ≡ Judgement.Shown
rows_zeros d rows sample difference ranged none =
    cond-true (shows d rows difference zeros) _ _ ((Decides-shows d rows difference zeros).1 (ranged.width, length-replicate (length rows) 0, each))
  where
    zeros : List ℕ
    zeros = replicate (length rows) 0

    zero_added : (z : ℤ) → pos 0 ≤ℤ z → pos 0 ≤ℤ (z +ℤ pos 0)
    zero_added z h = omega (arith, ints)

    each : (i : ℕ) → i < d → pos 0 ≤ℤ (slice_index_or difference i (pos 0) +ℤ lift rows (replicate (length rows) 0) i)
    each i below = rw (lift_zeros rows (length rows) i) (zero_added (slice_index_or difference i (pos 0)) (All-get_or (λ z. pos 0 ≤ℤ z) difference i (pos 0) (omega (arith, ranged.width)) none))

-- a shown difference is safe
rows_safe : (d : ℕ) (rows : List Constraint) (sample : List ℕ) (difference : List ℤ) (multipliers : List ℕ) → (rows_meaning d rows sample).judged difference multipliers ≡ Judgement.Shown → Safe (rows_meaning d rows sample) difference
rows_safe d rows sample difference multipliers shown weight admissible =
    let rule = (Decides-shows d rows difference multipliers).0 (shown_holds (shows d rows difference multipliers) shown) in
    shown_weighed weight rows difference multipliers admissible.2 (λ i below. rule.2 i (omega (arith, admissible.0)))

pub rows_lawful : (d : ℕ) (rows : List Constraint) (sample : List ℕ) → Lawful (rows_meaning d rows sample)
rows_lawful d rows sample =
    record {
      width = λ weight h. h.0;
      some = λ weight h. h.1;
      sound = λ weight proper. (Decides-admits d rows weight proper.some).0;
      exact = λ weight proper. (Decides-admits d rows weight proper.some).1;
      safe = λ difference multipliers ranged certificate. rows_safe d rows sample difference multipliers;
      zeros = rows_zeros d rows sample;
    }
