use Rattle.std.proofs.Common.{◌&&◌, sym, ap, ◌∙◌, arith}
use Rattle.std.specs.Slice.Iter.{chunks_exact_rest}
use Rattle.model.specs.Values.{parts_of}
use Rattle.preferences.specs.Constraints.{all_keep}
use Rattle.preferences.specs.RowList.{rows_in}
use Rattle.preferences.specs.StoredRow.{constraint_of}
use Rattle.preferences.proofs.Lists.{keep_taken, limits_taken, rows_in_none}
use Rattle.preferences.proofs.rows.flat.RowList.keeps.Goals as goal

pub returns-then-not-keeps : goal.returns-then-not-keeps
returns-then-not-keeps c =
    let weight = parts_of c.args.weight.now in
    let steps = c.in-Some.ensures.steps in
    let taken = keep_taken weight c.args.self.now.dims _ c.in-Some.numbers.now (chunks_exact_rest c.next.new.self) (constraint_of c.read.result) c.keeps.result steps.1.0 (steps.1.1 ∙ c.loop-numbers.invariant.0) c.read.ensures c.keeps.ensures in
    sym (sym c.loop-numbers.invariant.2 ∙ taken ∙ ap (λ t. t && all_keep weight (rows_in c.args.self.now.dims (chunks_exact_rest c.next.new.self))) c.if-not-keeps.true)

pub loop-numbers-preserved : goal.loop-numbers-preserved
loop-numbers-preserved c =
    let weight = parts_of c.args.weight.now in
    let steps = c.in-Some.ensures.steps in
    let taken = keep_taken weight c.args.self.now.dims _ c.in-Some.numbers.now (chunks_exact_rest c.next.new.self) (constraint_of c.read.result) c.keeps.result steps.1.0 (steps.1.1 ∙ c.loop-numbers.invariant.0) c.read.ensures c.keeps.ensures in (
      steps.0 ∙ c.loop-numbers.invariant.0,
      (limits_taken _ c.in-Some.numbers.now (chunks_exact_rest c.next.new.self) steps.1.0 c.loop-numbers.invariant.1).1,
      sym (taken ∙ ap (λ t. t && all_keep weight (rows_in c.args.self.now.dims (chunks_exact_rest c.next.new.self))) c.if-not-keeps.false) ∙ c.loop-numbers.invariant.2,
    )

pub returns : goal.returns
returns c =
    let none = rows_in_none c.args.self.now.dims (chunks_exact_rest c.loop-numbers.numbers-iterator) (omega (arith, c.in-None.ensures.steps.1.0, c.loop-numbers.invariant.0)) in
    sym (sym c.loop-numbers.invariant.2 ∙ ap (all_keep (parts_of c.args.weight.now)) none)
