-- Items in a row, one more at a time.
use Rattle.std.proofs.Common.{◌≡◌, ℕ, ◌+◌, ◌<◌, List, [], ◌∷◌, ◌++◌, length, take, get_or, Option, None, Some, codes, refl, sym, ap, ◌∙◌, append-nil}
use Rattle.std.proofs.Output.{then_text_assoc}
use Rattle.std.proofs.lemmas.List.{take_more}
use Rattle.std.specs.Fmt.{◌++?◌}
use Rattle.report.specs.Texts.{spaced_text}

before_nothing : (o : Option (List ℕ)) → o ++? Some [] ≡ o
before_nothing None = refl
before_nothing (Some text) = ap Some (append-nil text)

after_nothing : (o : Option (List ℕ)) → Some [] ++? o ≡ o
after_nothing None = refl
after_nothing (Some text) = refl

module _ {X : Type 0} (text : X → Option (List ℕ)) where
  one_more : (xs : List X) (x : X) → spaced_text text (xs ++ x ∷ []) ≡ spaced_text text xs ++? (Some (codes " ") ++? text x)
  one_more [] x = ap (λ o. Some (codes " ") ++? o) (before_nothing (text x)) ∙ sym (after_nothing (Some (codes " ") ++? text x))
  one_more (y ∷ xs) x =
      ap (λ o. Some (codes " ") ++? (text y ++? o)) (one_more xs x)
      ∙ ap (λ o. Some (codes " ") ++? o) (sym (then_text_assoc (text y) (spaced_text text xs) _))
      ∙ sym (then_text_assoc (Some (codes " ")) (text y ++? spaced_text text xs) _)

  pub spaced_text_more : (xs : List X) (k : ℕ) (x : X) → k < length xs → x ≡ get_or xs k x → spaced_text text (take (k + 1) xs) ≡ spaced_text text (take k xs) ++? (Some (codes " ") ++? text x)
  spaced_text_more xs k x within is =
      ap (spaced_text text) (take_more xs k x within ∙ ap (λ y. take k xs ++ y ∷ []) (sym is)) ∙ one_more (take k xs) x
