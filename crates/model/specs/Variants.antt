-- How the figures of two variants compare, place by place.
use Rattle.std.specs.Prelude.{ℕ, ◌≤◌, Bool, true, false, ◌&&◌, List, [], ◌∷◌, nat_le}
use Rattle.std.specs.List.{AllZip}

-- as many figures, and none greater than the other's at its place
abbrev pub NoGreater : List ℕ → List ℕ → Type 0
NoGreater xs ys = AllZip (λ x y. x ≤ y) xs ys

-- the same as a test
abbrev pub no_greater : List ℕ → List ℕ → Bool
no_greater [] [] = true
no_greater [] (y ∷ ys) = false
no_greater (x ∷ xs) [] = false
no_greater (x ∷ xs) (y ∷ ys) = nat_le x y && no_greater xs ys
