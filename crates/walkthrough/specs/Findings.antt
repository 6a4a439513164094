-- What the checking of a claim finds.
use Rattle.std.specs.Prelude.{◌≡◌, ℕ, List, vec_items}
use Rattle.model.specs.Claims.{difference}
use Rattle.model.specs.Meaning.{Meaning}
use Rattle.model.specs.Questions.{difference_question, Judges}
use Rattle.model.specs.Refusals.{Checked}
use Rattle.model.specs.declared.share.Share.{Share}
use Rattle.walkthrough.specs.declared.claims.Finding.{Finding}

-- the claim's difference, and the right answer of the preference to it
pub record Found (m : Meaning) (figures : List (List ℕ)) (target : ℕ) (mixture : List Share) (multipliers : List ℕ) (finding : Finding) : Type 0 where
  pub entries : vec_items finding.difference ≡ difference figures target mixture
  pub answer : Checked (difference_question m (difference figures target mixture) multipliers) finding.judgement (Judges m (difference figures target mixture) multipliers)
