-- The figures that each kind of variant stands for.
use Rattle.std.specs.Prelude.{ℕ, List}
use Rattle.model.specs.Values.{figures_of}
use Rattle.variants.specs.declared.plain_sheet.PlainSheet.{PlainSheet}

abbrev pub plain_figures : PlainSheet → List ℕ
plain_figures sheet = figures_of sheet.figures
