-- Exclusion marks: how many are set, and which are set in others too.
use Rattle.std.specs.Prelude.{◌≡◌, ℕ, ◌+◌, ◌<◌, ◌≤◌, Bool, true, false, cond, not, ◌&&◌, ◌||◌, List, [], ◌∷◌, length, drop, slice_index_or}
use Rattle.std.proofs.Common.{arith}
use borrow.Author.Tests.{clash}
use Rattle.std.proofs.lemmas.List.{drop_more}
use Rattle.std.proofs.lemmas.List.Sums.{sum_by-cons}
use Rattle.variants.specs.Covers.{marks_set, set_too}

one_more : (mark : Bool) (marks : List Bool) → marks_set (mark ∷ marks) ≡ cond mark 1 0 + marks_set marks
one_more mark marks = sum_by-cons (λ m. cond m 1 0) mark marks

-- no more are set where each is set in the others too
pub set_too_fewer : (marks others : List Bool) → set_too marks others ≡ true → marks_set marks ≤ marks_set others
set_too_fewer [] others all = omega arith
set_too_fewer (true ∷ marks) [] all = absurd (clash all)
set_too_fewer (false ∷ marks) [] all = omega (arith, one_more false marks, set_too_fewer marks [] all)
set_too_fewer (true ∷ marks) (true ∷ others) all = omega (arith, one_more true marks, one_more true others, set_too_fewer marks others all)
set_too_fewer (true ∷ marks) (false ∷ others) all = absurd (clash all)
set_too_fewer (false ∷ marks) (true ∷ others) all = omega (arith, one_more false marks, one_more true others, set_too_fewer marks others all)
set_too_fewer (false ∷ marks) (false ∷ others) all = omega (arith, one_more false marks, one_more false others, set_too_fewer marks others all)

-- one mark at a time
pub set_too-drop : (marks others : List Bool) (i : ℕ) → i < length marks → i < length others → set_too (drop i marks) (drop i others) ≡ ((not (slice_index_or marks i false) || slice_index_or others i false) && set_too (drop (i + 1) marks) (drop (i + 1) others))
set_too-drop marks others i h k = rw (drop_more marks i false h, drop_more others i false k)
