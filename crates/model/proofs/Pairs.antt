-- Tests of two lists place by place, as tests of the list of pairs.
use Rattle.std.specs.Prelude.{◌≡◌, ℕ, ◌&&◌, List, [], ◌∷◌, length, nat_le, refl}
use Rattle.std.proofs.Common.{ap, arith}
use Rattle.std.specs.List.{list_all, zip}
use Rattle.model.specs.Variants.{no_greater}

pub no_greater_zip : (xs ys : List ℕ) → length xs ≡ length ys → list_all (λ p. nat_le p.0 p.1) (zip xs ys) ≡ no_greater xs ys
no_greater_zip [] [] same = refl
no_greater_zip [] (y ∷ ys) same = absurd (omega arith)
no_greater_zip (x ∷ xs) [] same = absurd (omega arith)
no_greater_zip (x ∷ xs) (y ∷ ys) same = ap (λ rest. nat_le x y && rest) (no_greater_zip xs ys (omega arith))
