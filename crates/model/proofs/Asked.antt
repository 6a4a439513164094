-- A question that no ground meets, and what the laws say of its answer.
use Rattle.std.proofs.Common.{◌≡◌, ℕ, ◌<◌, ◌≤◌, Bool, List, [], ◌∷◌, length, ℤ, Decides, sym, ap, ◌∙◌, subst, inl, inr, arith}
use Rattle.std.specs.List.{AllByRecursion}
use Rattle.model.specs.Limits.{IsFigureCount, InLimit, InRange, Proper, Ranged, weight_grounds}
use Rattle.model.specs.Meaning.{Meaning, Lawful}
use Rattle.model.specs.Questions.{weight_question, difference_question, Judges}
use Rattle.model.specs.Refusals.{Refuses, Unopposed}
use Rattle.model.specs.Values.{parts_of, entries_of}
use Rattle.model.specs.Weighing.{total}
use Rattle.model.specs.declared.difference.Difference.{Difference}
use Rattle.model.specs.declared.judgement.Judgement.{Judgement}
use Rattle.model.specs.declared.refusal.Refusal.{Refusal}
use Rattle.model.specs.declared.weight.Weight.{Weight}
use Rattle.model.specs.Stored.{made_proper, parts_count, entries_ranged, entries_count}
use Rattle.model.proofs.Tables.{unopposed, unopposed_end}

-- a weight that is not all zero has a part
some_part : (weight : List ℕ) → 0 < total weight → 1 ≤ length weight
some_part [] h = absurd (omega arith)
some_part (part ∷ parts) h = omega arith

-- a proper weight of at most 8 figures is not refused
pub proper_made : (d : ℕ) (weight : List ℕ) (r : Refusal) → d ≤ 8 → Proper d weight → Refuses (weight_grounds weight) r → ⊥
proper_made d weight r few proper refuses = met refuses.meets
  where
    met : weight_grounds weight r → ⊥
    met (inl h) = h.1 (some_part weight proper.some, omega (arith, proper.width))
    met (inr (inl h)) = h.1 (proper.limits, proper.some)
    met (inr (inr h)) = h

module _ (m : Meaning) (lawful : Lawful m) where
  pub weight_asked : (weight : Weight) (parts : List ℕ) (said : Bool) → parts_of weight ≡ parts → length parts ≡ m.dims → said ≡ m.admits (parts_of weight) → Unopposed (weight_question m parts) × Decides said (m.admissible parts)
  weight_asked weight parts said same width says =
      let proper = made_proper weight parts m.dims same width in
      let answer : said ≡ m.admits parts = says ∙ ap m.admits same in
      let count : IsFigureCount m.dims = (omega (arith, weight.parts.least, parts_count weight, ap length same), omega (arith, weight.parts.most, parts_count weight, ap length same)) in (
        unopposed _ _ _ (λ wrong. wrong (count, width)) (unopposed _ _ _ (λ wrong. wrong (proper.limits, proper.some)) unopposed_end),
        ((λ h. lawful.sound parts proper (sym answer ∙ h)), (λ h. answer ∙ lawful.exact parts proper h)),
      )

  pub difference_asked : (difference : Difference) (entries : List ℤ) (multipliers : List ℕ) (judgement : Judgement) → entries_of difference ≡ entries → length entries ≡ m.dims → length multipliers ≡ m.multipliers → AllByRecursion InLimit multipliers → judgement ≡ m.judged (entries_of difference) multipliers → Unopposed (difference_question m entries multipliers) × Judges m entries multipliers judgement
  difference_asked difference entries multipliers judgement same width count limits says =
      let held = entries_ranged difference in
      let ranged : Ranged m.dims entries = record { width = width; range = subst (AllByRecursion InRange) same held.range } in
      let answer : judgement ≡ m.judged entries multipliers = says ∙ ap (λ zs. m.judged zs multipliers) same in
      let dims : IsFigureCount m.dims = (omega (arith, difference.entries.least, entries_count difference, ap length same), omega (arith, difference.entries.most, entries_count difference, ap length same)) in (
        unopposed _ _ _ (λ wrong. wrong (dims, width)) (unopposed _ _ _ (λ wrong. wrong count) (unopposed _ _ _ (λ wrong. wrong limits) (unopposed _ _ _ (λ wrong. wrong ranged.range) unopposed_end))),
        record { rule = answer; safe = λ h. lawful.safe entries multipliers ranged (record { count = count; limits = limits }) (sym answer ∙ h) },
      )
