-- The lists that figures, weights and differences stand for.
use Rattle.std.specs.Prelude.{ℕ, List, ℤ}
use Rattle.model.specs.Numbers.{numbers_of}
use Rattle.model.specs.declared.difference.Difference.{Difference}
use Rattle.model.specs.declared.figures.Figures.{Figures}
use Rattle.model.specs.declared.weight.Weight.{Weight}

abbrev pub figures_of : Figures → List ℕ
figures_of figures = numbers_of figures.values

abbrev pub parts_of : Weight → List ℕ
parts_of weight = numbers_of weight.parts

abbrev pub entries_of : Difference → List ℤ
entries_of difference = numbers_of difference.entries
