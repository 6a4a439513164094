use Rattle.std.proofs.Common.{[], ◌∷◌, ◌++◌, map, vec_items, sym, ap, ◌∙◌, arith}
use Rattle.std.proofs.lemmas.List.{append_assoc, append-nil, map_push}
use Rattle.std.specs.Slice.Iter.{chunks_exact_rest}
use Rattle.preferences.specs.RowList.{rows_in}
use Rattle.preferences.specs.StoredRow.{constraint_of}
use Rattle.preferences.proofs.Lists.{row_taken, limits_taken, rows_in_none}
use Rattle.preferences.proofs.rows.flat.RowList.read.Goals as goal

pub loop-numbers-preserved : goal.loop-numbers-preserved
loop-numbers-preserved c =
    let d = c.args.self.now.dims in
    let steps = c.in-Some.ensures.steps in
    let row = c.read.result in
    let rest = chunks_exact_rest c.next.new.self in
    let before = map constraint_of (vec_items c.loop-numbers.held) in
    let taken = row_taken d _ c.in-Some.numbers.now rest (constraint_of row) steps.1.0 (steps.1.1 ∙ c.loop-numbers.invariant.0) c.read.ensures in
    let pushed = ap (map constraint_of) c.in_ok-push.ensures.items ∙ map_push constraint_of (vec_items c.loop-numbers.held) row in (
      steps.0 ∙ c.loop-numbers.invariant.0,
      (limits_taken _ c.in-Some.numbers.now rest steps.1.0 c.loop-numbers.invariant.1).1,
      ap (λ xs. xs ++ rows_in d rest) pushed ∙ append_assoc before (constraint_of row ∷ []) (rows_in d rest) ∙ ap (λ xs. before ++ xs) (sym taken) ∙ c.loop-numbers.invariant.2,
    )

pub returns : goal.returns
returns c =
    let held = map constraint_of (vec_items c.loop-numbers.held) in
    let none = rows_in_none c.args.self.now.dims (chunks_exact_rest c.loop-numbers.numbers-iterator) (omega (arith, c.in-None.ensures.steps.1.0, c.loop-numbers.invariant.0)) in
    sym (ap (λ xs. held ++ xs) none ∙ append-nil held) ∙ c.loop-numbers.invariant.2
