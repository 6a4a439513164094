-- The list that numbers for each figure stand for: as many of the stored numbers as the count says.
use Rattle.std.specs.Prelude.{List, take}
use Rattle.model.specs.declared.per_figure.PerFigure.{PerFigure}

abbrev pub numbers_of : {T : Type 0} → PerFigure T → List T
numbers_of held = take held.count held.numbers
