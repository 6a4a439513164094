-- What a stored row stands for.
use Rattle.model.specs.Numbers.{numbers_of}
use Rattle.preferences.specs.Constraints.{Constraint}
use Rattle.preferences.specs.declared.row.Row.{Row}

abbrev pub constraint_of : Row → Constraint
constraint_of row = record { coefficients = numbers_of row.coefficients; bound = row.bound }
