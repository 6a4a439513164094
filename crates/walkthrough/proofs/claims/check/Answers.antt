use Rattle.std.proofs.Common.{◌∙◌}
use Rattle.walkthrough.proofs.claims.check.Goals as goal

pub returns : goal.returns
returns g c =
    let made = c.in_ok-difference.ensures in
    record {
      entries = made;
      answer = rw (c.as_slice.ensures.value ∙ made) at c.ask_difference-judgement.ensures;
    }
