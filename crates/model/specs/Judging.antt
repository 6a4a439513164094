-- What is said of a rule that has no range.
use Rattle.std.specs.Prelude.{Bool, cond}
use Rattle.model.specs.declared.judgement.Judgement.{Judgement}

-- shown where the rule holds
abbrev pub judgement : Bool → Judgement
judgement holds = cond holds Judgement.Shown Judgement.NotShown
