-- What an error says where it is printed.
use Rattle.std.specs.Prelude.{ℕ, List, ◌++◌, codes}
use Rattle.std.specs.Fmt.{decimal}
use Rattle.model.specs.Refusals.{number}
use Rattle.model.specs.declared.make_error.MakeError.{MakeError}
use Rattle.model.specs.declared.make_error.MakeError.TheVariants.{Refused, Memory}

-- the ground's number, or that memory was wanting
abbrev pub error_text : MakeError → List ℕ
error_text (Refused refusal) = codes "refused " ++ decimal (number refusal)
error_text Memory = codes "out of memory"
