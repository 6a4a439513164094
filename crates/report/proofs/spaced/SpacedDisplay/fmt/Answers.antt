use Rattle.std.proofs.Common.{Ok, sym}
use Rattle.std.proofs.Output.{displays_on_IsOk_append, displays_on_ok_of_eq}
use Rattle.report.proofs.Texts.{spaced_text_more}
use Rattle.report.proofs.spaced.SpacedDisplay.fmt.Goals as goal

pub loop-item-preserved : goal.loop-item-preserved
loop-item-preserved g c =
    let took = g.W.Write.write_str_gives in
    let before = c.args.f.now in
    let after = c.write.new.self in
    let more = spaced_text_more g.T.Display.output c.args.self.now.0.now c.loop-item.item-index c.item-item.result c.loop-item-test.true c.item-item.is in
    displays_on_ok_of_eq took before after (Ok tt) _ _ (sym more) (displays_on_IsOk_append took before c.loop-item.f after (Ok tt) (Ok tt) _ _ (λ ok. ok) c.loop-item.invariant c.in_ok-write.ensures.writes)
