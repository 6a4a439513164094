-- Judgements of a rule that is a test.
use Rattle.std.specs.Prelude.{◌≡◌, ℕ, Bool, true, false, ◌&&◌, Decides, ◌==◌, refl}
use Rattle.std.proofs.Common.{sym, ap, ◌∙◌}
use Rattle.std.proofs.lemmas.Bool.{cond-true, cond-false, eq-eqb}
use Rattle.std.proofs.lemmas.Bool.Decides.{same_from_decides, Decides-like}
use Rattle.model.specs.declared.judgement.Judgement.{Judgement}
use Rattle.model.specs.Each.{Decides-no}
use Rattle.model.specs.Judging.{judgement}

-- the judgement where the rule holds, and where it does not
pub judgement_shown : {P : Type 0} (t : Bool) → Decides t P → P → Judgement.Shown ≡ judgement t
judgement_shown t decides p = sym (cond-true t _ _ (decides.1 p))

pub judgement_not_shown : {P : Type 0} (t : Bool) → Decides t P → (P → ⊥) → Judgement.NotShown ≡ judgement t
judgement_not_shown t decides n = sym (cond-false t _ _ (same_from_decides t false decides (Decides-no n)))

-- the judgement of two tests, where the rule of the one is the rule of the other
pub judgement_same : {P Q : Type 0} (r t : Bool) → Decides r P → Decides t Q → (P → Q) → (Q → P) → judgement r ≡ judgement t
judgement_same r t says decides there back = ap judgement (same_from_decides r t says (Decides-like t back there decides))

-- the same of a judgement that was made of what the one test said
pub judgement_told : {P Q : Type 0} (made : Judgement) (said r t : Bool) → made ≡ judgement said → said ≡ r → Decides r P → Decides t Q → (P → Q) → (Q → P) → made ≡ judgement t
judgement_told made said r t told same says decides there back = told ∙ ap judgement same ∙ judgement_same r t says decides there back

-- what is shown keeps the rule
pub shown_holds : (t : Bool) → judgement t ≡ Judgement.Shown → t ≡ true
shown_holds true h = refl
shown_holds false h = cc

-- a test under which the width is right already
pub width_and : {P : Type 0} (r t : Bool) (n d : ℕ) → n ≡ d → Decides r P → Decides t P → r ≡ (n == d && t)
width_and r t n d same says decides = same_from_decides r t says decides ∙ sym (ap (λ b. b && t) (eq-eqb n d same))
