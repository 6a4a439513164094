-- Why sums of first entries prove something of every weight whose parts never rise, and the laws of a ranking.
use Rattle.std.specs.Prelude.{◌≡◌, ℕ, zero, suc, ◌+◌, ◌-◌, ◌<◌, ◌≤◌, List, [], ◌∷◌, length, replicate, ℤ, pos, ◌+ℤ◌, ◌*ℤ◌, ◌≤ℤ◌, Bool, true, false, nat_le, Decides, slice_index, slice_index_or, unsigned_abs, refl}
use Rattle.std.proofs.Common.{sym, ap, subst, ◌∙◌, add-one, arith}
use Rattle.std.proofs.lemmas.Int.{ints}
use Rattle.std.proofs.Math.IntN.{+ℤ_idl, +ℤ_idr, +ℤ_assoc, *ℤ-zero}
use Rattle.std.specs.List.{AllByRecursion, IsAllAdjacentAnswer}
use borrow.Author.Tests.{both_ways}
use Rattle.std.proofs.lemmas.Bool.{leb-true, le-leb}
use Rattle.std.proofs.lemmas.List.{get_or-replicate, length-replicate}
use Rattle.std.proofs.lemmas.Bool.Decides.{Decides-and, Decides-eqb, Decides-below_and, Decides-like}
use Rattle.model.specs.Limits.{InLimit, Ranged}
use Rattle.model.specs.Meaning.{SampleOf, Lawful, Safe}
use Rattle.model.specs.Weighing.{total, weighed}
use Rattle.model.specs.declared.judgement.Judgement.{Judgement}
use Rattle.model.specs.Stored.{lent_entries_few, lent_range}
use Rattle.model.specs.Values.{entries_of}
use Rattle.model.specs.declared.difference.Difference.{Difference}
use Rattle.model.specs.Each.{Decides-leb, Decides-yes, Decides-no}
use Rattle.model.proofs.Weighed.{times_add, add_times, times_nonneg}
use Rattle.preferences.specs.Rankings.{NeverRises, Ranked, no_step_rises, never_rises, ranking_admits, first_sum, ranking_shows, ranking_meaning}
use Rattle.preferences.proofs.Judged.{judgement_shown, shown_holds}
use Rattle.preferences.proofs.Rules.{Decides-none_negative}

next_part : (part : ℕ) (parts : List ℕ) → NeverRises (part ∷ parts) → slice_index parts 0 ≤ part
next_part part [] falls = omega arith
next_part part (next ∷ parts) falls = falls 0 (omega arith)

-- Summation by parts. What the entries before added up to, s, counts with the part before, p, which is no smaller: of it (p less part) times s is left over, and the rest goes on with the sum of one entry more.
by_parts : (p : ℕ) (s : ℤ) (weight : List ℕ) (difference : List ℤ) → pos 0 ≤ℤ s → slice_index weight 0 ≤ p → NeverRises weight → ((n : ℕ) → n < length difference → pos 0 ≤ℤ (s +ℤ first_sum difference (suc n))) → pos 0 ≤ℤ ((pos p *ℤ s) +ℤ weighed weight difference)
by_parts p s [] difference nonneg le falls each = rw +ℤ_idr (times_nonneg p s nonneg)
by_parts p s (part ∷ parts) [] nonneg le falls each = rw +ℤ_idr (times_nonneg p s nonneg)
by_parts p s (part ∷ parts) (entry ∷ entries) nonneg le falls each =
    let over : p ≡ part + (p - part) = omega arith in
    let here : pos 0 ≤ℤ (s +ℤ entry) = omega (arith, ints, each 0 (omega arith)) in
    let rest = by_parts part (s +ℤ entry) parts entries here (next_part part parts falls) (λ i below. falls (suc i) (omega arith)) (λ n below. regroup s entry (first_sum entries (suc n)) (each (suc n) (omega arith))) in
    joined (pos p *ℤ s) (pos part *ℤ s) (pos (p - part) *ℤ s) (pos part *ℤ entry) (pos part *ℤ (s +ℤ entry)) (weighed parts entries) (ap (λ n. pos n *ℤ s) over ∙ add_times part (p - part) s) (times_add part s entry) (times_nonneg (p - part) s nonneg) rest
  where
    regroup : (a b c : ℤ) → pos 0 ≤ℤ (a +ℤ (b +ℤ c)) → pos 0 ≤ℤ ((a +ℤ b) +ℤ c)
    regroup a b c h = omega (arith, ints)

    joined : (ps qs ks qz qsz w : ℤ) → ps ≡ qs +ℤ ks → qsz ≡ qs +ℤ qz → pos 0 ≤ℤ ks → pos 0 ≤ℤ (qsz +ℤ w) → pos 0 ≤ℤ (ps +ℤ (qz +ℤ w))
    joined ps qs ks qz qsz w e f g h = omega (arith, ints)

pub falls_weighed : (weight : List ℕ) (difference : List ℤ) → NeverRises weight → ((n : ℕ) → n < length difference → pos 0 ≤ℤ first_sum difference (suc n)) → pos 0 ≤ℤ weighed weight difference
falls_weighed weight difference falls each =
    let start = by_parts (slice_index weight 0) (pos 0) weight difference (omega (arith, ints)) (omega arith) falls (λ n below. rw +ℤ_idl (each n below)) in
    rw (*ℤ-zero (pos (slice_index weight 0)), +ℤ_idl (weighed weight difference)) at start

-- sums of entries that are not negative
first_sum_nonneg : (entries : List ℤ) (n : ℕ) → AllByRecursion (λ entry. pos 0 ≤ℤ entry) entries → pos 0 ≤ℤ first_sum entries n
first_sum_nonneg entries zero all = omega (arith, ints)
first_sum_nonneg [] (suc n) all = omega (arith, ints)
first_sum_nonneg (entry ∷ entries) (suc n) all = let first = all.0 in let rest = first_sum_nonneg entries n all.1 in omega (arith, ints)

-- one entry more
pub first_sum-suc : (entries : List ℤ) (i : ℕ) → i < length entries → first_sum entries (suc i) ≡ first_sum entries i +ℤ slice_index_or entries i (pos 0)
first_sum-suc [] i below = absurd (omega arith)
first_sum-suc (entry ∷ entries) zero below = +ℤ_idr entry ∙ sym (+ℤ_idl entry)
first_sum-suc (entry ∷ entries) (suc i) below =
    ap (λ z. entry +ℤ z) (first_sum-suc entries i (omega arith)) ∙ sym (+ℤ_assoc entry (first_sum entries i) (slice_index_or entries i (pos 0)))

-- a turn of the sums of a difference: room for its entry, and what it adds
pub next_sum : (difference : Difference) (entries : List ℤ) (at : ℕ) → entries ≡ entries_of difference → at < length entries → (length entries ≤ 8) × (unsigned_abs (slice_index_or entries at (pos 0)) ≤ 1000000000000) × (first_sum (entries_of difference) (suc at) ≡ first_sum (entries_of difference) at +ℤ slice_index_or entries at (pos 0))
next_sum difference entries at same within =
    let more = first_sum-suc (entries_of difference) at (omega (arith, ap length same)) in
    (lent_entries_few difference entries same, lent_range difference entries same at, more ∙ ap (λ zs. first_sum (entries_of difference) at +ℤ slice_index_or zs at (pos 0)) (sym same))

pub Decides-never_rises : (weight : List ℕ) → Decides (never_rises weight) (NeverRises weight)
Decides-never_rises weight =
    Decides-like (never_rises weight) (λ h i below. h i (omega arith)) (λ h i below. h i (omega arith))
    (Decides-below_and (λ i. _) (λ i. slice_index weight (suc i) ≤ slice_index weight i) (no_step_rises weight) (λ i. Decides-leb (slice_index weight (suc i)) (slice_index weight i)) refl (λ _. refl) (length weight - 1))

-- each part was found to be no greater than the one before it
pub Decides-adjacent : (weight : List ℕ) (r : Bool) → IsAllAdjacentAnswer (λ before part b. b ≡ nat_le part before) weight r → Decides r (NeverRises weight)
Decides-adjacent weight true h = Decides-yes (λ i below. leb-true _ _ (sym (subst (λ k. true ≡ nat_le (slice_index_or weight k 0) (slice_index weight i)) (add-one i) (h i 0 (omega arith)))))
Decides-adjacent weight false h = Decides-no (λ falls. both_ways _ (sym (h.2 0)) (le-leb _ _ (subst (λ k. slice_index weight k ≤ slice_index weight h.0) (sym (add-one h.0)) (falls h.0 (omega (arith, h.1))))))

Decides-ranked : (d : ℕ) (weight : List ℕ) → 0 < total weight → Decides (ranking_admits d weight) (Ranked d weight)
Decides-ranked d weight some =
    Decides-like (ranking_admits d weight) (λ h. (h.0, some, h.1)) (λ h. (h.0, h.2))
    (Decides-and _ _ (Decides-eqb (length weight) d) (Decides-never_rises weight))

-- a difference of d figures is shown with no multipliers: the test's meaning
abbrev pub RankingShows : ℕ → List ℤ → List ℕ → Type 0
RankingShows d difference multipliers =
    (length difference ≡ d) × (length multipliers ≡ 0) × ((n : ℕ) → n < d → pos 0 ≤ℤ first_sum difference (suc n))

pub Decides-ranking_shows : (d : ℕ) (difference : List ℤ) (multipliers : List ℕ) → Decides (ranking_shows d difference multipliers) (RankingShows d difference multipliers)
Decides-ranking_shows d difference multipliers =
    Decides-like (ranking_shows d difference multipliers) (λ h. (h.0, h.1.0, h.1.1)) (λ h. (h.0, (h.1, h.2)))
    (Decides-and _ _ (Decides-eqb (length difference) d) (Decides-and _ _ (Decides-eqb (length multipliers) 0) (Decides-none_negative (λ n. first_sum difference (suc n)) d)))

ranking_safe : (d : ℕ) (difference : List ℤ) (multipliers : List ℕ) → (ranking_meaning d).judged difference multipliers ≡ Judgement.Shown → Safe (ranking_meaning d) difference
ranking_safe d difference multipliers shown weight ranked =
    let rule = (Decides-ranking_shows d difference multipliers).0 (shown_holds (ranking_shows d difference multipliers) shown) in
    falls_weighed weight difference ranked.2 (λ n below. rule.2 n (omega (arith, rule.0)))

ranking_zeros : (d : ℕ) (difference : List ℤ) → Ranged d difference → AllByRecursion (λ entry. pos 0 ≤ℤ entry) difference → (ranking_meaning d).judged difference [] ≡ Judgement.Shown
ranking_zeros d difference ranged none =
    sym (judgement_shown _ (Decides-ranking_shows d difference []) (ranged.width, refl, λ n below. first_sum_nonneg difference (suc n) none))

pub ranking_lawful : (d : ℕ) → Lawful (ranking_meaning d)
ranking_lawful d =
    record {
      width = λ weight h. h.0;
      some = λ weight h. h.1;
      sound = λ weight proper. (Decides-ranked d weight proper.some).0;
      exact = λ weight proper. (Decides-ranked d weight proper.some).1;
      safe = λ difference multipliers ranged certificate. ranking_safe d difference multipliers;
      zeros = ranking_zeros d;
    }

-- all ones may be the sample of a ranking
ones_total : (d : ℕ) → total (replicate d 1) ≡ d
ones_total zero = refl
ones_total (suc d) = omega (arith, ones_total d)

ones_limits : (d : ℕ) → AllByRecursion InLimit (replicate d 1)
ones_limits zero = tt
ones_limits (suc d) = (omega arith, ones_limits d)

ones_fall : (d : ℕ) → NeverRises (replicate d 1)
ones_fall d i below =
    let within : suc i < d = omega (arith, length-replicate {A = ℕ} d 1) in
    omega (arith, get_or-replicate {A = ℕ} d (suc i) 1 0 within, get_or-replicate {A = ℕ} d i 1 0 (omega arith))

pub ones_good : (d : ℕ) → 1 ≤ d → SampleOf (ranking_meaning d) (replicate d 1)
ones_good d some =
    let positive : 0 < total (replicate d 1) = omega (arith, ones_total d) in
    record {
      proper = record { width = length-replicate d 1; limits = ones_limits d; some = positive };
      admissible = (length-replicate d 1, positive, ones_fall d);
    }
