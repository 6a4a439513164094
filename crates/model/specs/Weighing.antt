-- What a weight makes of figures and of differences. Figures, weights and differences are lists, place by place; lower figures are better.
use Rattle.std.specs.Prelude.{ℕ, ◌+◌, ◌*◌, List, [], ◌∷◌, ℤ, pos, ◌+ℤ◌, ◌*ℤ◌}

-- the score of figures under a weight: the sum of part times figure
abbrev pub score : List ℕ → List ℕ → ℕ
score [] figures = 0
score (part ∷ parts) [] = 0
score (part ∷ parts) (figure ∷ figures) = part * figure + score parts figures

-- the total of a weight: the sum of its parts
abbrev pub total : List ℕ → ℕ
total [] = 0
total (part ∷ parts) = part + total parts

-- a difference weighed: the sum of part times entry
abbrev pub weighed : List ℕ → List ℤ → ℤ
weighed [] entries = pos 0
weighed (part ∷ parts) [] = pos 0
weighed (part ∷ parts) (entry ∷ entries) = (pos part *ℤ entry) +ℤ weighed parts entries
