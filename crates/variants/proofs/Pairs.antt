-- Marks and others, in the pairs that `zip` gives.
use Rattle.std.specs.Prelude.{◌≡◌, Bool, not, ◌||◌, List, [], ◌∷◌, length, refl}
use Rattle.std.proofs.Common.{arith}
use Rattle.std.specs.List.{list_all, zip}
use Rattle.variants.specs.Covers.{set_too}

-- as many others as marks: the test of each pair is `set_too`
pub set_too-zip : (marks others : List Bool) → length marks ≡ length others → list_all (λ p. not p.0 || p.1) (zip marks others) ≡ set_too marks others
set_too-zip [] others same = refl
set_too-zip (mark ∷ marks) [] same = absurd (omega arith)
set_too-zip (mark ∷ marks) (other ∷ others) same = rw (set_too-zip marks others (omega arith))
