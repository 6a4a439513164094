-- The test that no figure is greater, place by place.
use Rattle.std.specs.Prelude.{◌≡◌, ℕ, ◌+◌, ◌<◌, true, false, ◌&&◌, List, [], ◌∷◌, length, drop, ◌≢◌, nat_le, slice_index, refl}
use Rattle.std.proofs.Common.{arith}
use borrow.Author.Tests.{clash}
use Rattle.std.proofs.lemmas.List.{drop_more}
use Rattle.std.proofs.lemmas.Bool.{and_parts, leb-true, and_right}
use Rattle.model.specs.Variants.{NoGreater, no_greater}

pub no_greater_holds : (xs ys : List ℕ) → no_greater xs ys ≡ true → NoGreater xs ys
no_greater_holds [] [] h = tt
no_greater_holds [] (y ∷ ys) h = absurd (clash h)
no_greater_holds (x ∷ xs) [] h = absurd (clash h)
no_greater_holds (x ∷ xs) (y ∷ ys) h =
    let both = and_parts (nat_le x y) (no_greater xs ys) h in
    (leb-true x y both.0, no_greater_holds xs ys both.1)

pub no_greater_apart : (xs ys : List ℕ) → (length xs ≢ length ys) → no_greater xs ys ≡ false
no_greater_apart [] [] h = absurd (h refl)
no_greater_apart [] (y ∷ ys) h = refl
no_greater_apart (x ∷ xs) [] h = refl
no_greater_apart (x ∷ xs) (y ∷ ys) h = and_right (nat_le x y) (no_greater xs ys) (no_greater_apart xs ys (λ e. h (omega arith)))

pub no_greater-drop : (xs ys : List ℕ) (i : ℕ) → i < length xs → i < length ys → no_greater (drop i xs) (drop i ys) ≡ (nat_le (slice_index xs i) (slice_index ys i) && no_greater (drop (i + 1) xs) (drop (i + 1) ys))
no_greater-drop xs ys i h k = rw (drop_more xs i 0 h, drop_more ys i 0 k)
