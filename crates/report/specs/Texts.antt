-- What is written of numbers and of answers, byte for byte.
use Rattle.std.specs.Prelude.{ℕ, List, [], ◌∷◌, ◌++◌, Option, Some, Result, Ok, Err, codes, decimal}
use Rattle.std.specs.Fmt.{◌++?◌}
use Rattle.model.specs.Refusals.{number}
use Rattle.model.specs.declared.judgement.Judgement.{Judgement}
use Rattle.model.specs.declared.judgement.Judgement.TheVariants.{OutOfRange, Shown, NotShown}
use Rattle.model.specs.declared.refusal.Refusal.{Refusal}

-- each item after a space; it says nothing if it says nothing of an item
abbrev pub spaced_text : {X : Type 0} → (X → Option (List ℕ)) → List X → Option (List ℕ)
spaced_text text [] = Some []
spaced_text text (item ∷ items) = Some (codes " ") ++? text item ++? spaced_text text items

-- what a preference said, with the words for what shows nothing
abbrev pub outcome_text : Result Judgement Refusal → List ℕ → List ℕ
outcome_text (Ok Shown) nothing = codes "shown: no admissible weight makes it negative"
outcome_text (Ok NotShown) nothing = codes "not shown: " ++ nothing
outcome_text (Ok OutOfRange) nothing = codes "out of range: " ++ nothing
outcome_text (Err refusal) nothing = codes "refused " ++ decimal (number refusal)
