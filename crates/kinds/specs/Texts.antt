-- What is printed of a question's multipliers, byte for byte.
use Rattle.std.specs.Prelude.{ℕ, List, [], ◌∷◌, Option, Some, codes, decimal}
use Rattle.std.specs.Fmt.{◌++?◌}
use Rattle.report.specs.Texts.{spaced_text}

abbrev pub multipliers_text : List ℕ → Option (List ℕ)
multipliers_text [] = Some (codes "without multipliers")
multipliers_text (first ∷ more) = Some (codes "with multipliers") ++? spaced_text (λ n. Some (decimal n)) (first ∷ more)
