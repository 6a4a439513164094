use Rattle.std.proofs.Common.{take, Ok}
use Rattle.std.specs.Fmt.{DisplaysOnOk}
use Rattle.report.specs.Texts.{spaced_text}
use Rattle.report.proofs.spaced.SpacedDisplay.fmt.Given as goal

abbrev pub invariant-loop-item : goal.invariant-loop-item
invariant-loop-item g l =
    DisplaysOnOk g.W.Write.write_str_gives l.fn.f (Ok tt) (spaced_text g.T.Display.output (take l.item-index l.self.0.now)) l.f
