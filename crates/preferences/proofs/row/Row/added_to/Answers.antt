use Rattle.std.proofs.Common.{◌≡◌, ℕ, ℤ, ◌<◌, ◌≤◌, length, take, get_or, pos, ◌+ℤ◌, ◌*ℤ◌, ap, ◌∙◌, subst, arith, rules}
use Rattle.std.specs.Prelude.{MatchOption, cond, nat_lt}
use Rattle.std.proofs.lemmas.Bool.{lt-ltb, cond-true}
use Rattle.std.specs.Result.{result_ok}
use Rattle.std.specs.List.{AllByRecursion}
use Rattle.model.specs.Limits.{InRange, IsFigureCount}
use Rattle.model.specs.Values.{entries_of}
use Rattle.model.proofs.Found.{made_by_place}
use Rattle.model.proofs.Ranged.{difference_or_none}
use Rattle.model.specs.Stored.{entries_count}
use Rattle.preferences.specs.Constraints.{effective}
use Rattle.preferences.specs.FurtherRows.{with_row}
use Rattle.preferences.specs.StoredRow.{constraint_of}
use Rattle.preferences.proofs.FurtherRows.{with_row-length, with_row_filled}
use Rattle.preferences.proofs.row.Row.added_to.Goals as goal

pub returns : goal.returns
returns c =
    let difference = c.args.difference.now in
    let row = constraint_of c.args.self.now in
    let entries = entries_of difference in
    let sums = c.from_fn-sums.result in
    let few : length entries ≤ 8 = omega (arith, entries_count difference, difference.entries.most) in
    let room : length entries ≤ length sums = omega (arith, few, c.from_fn-sums.ensures.items.long) in
    let sum : ℕ → ℤ = λ i. get_or entries i (pos 0) +ℤ (pos c.args.multiplier *ℤ effective row i) in
    let made : ℕ → ℤ = λ i. cond (nat_lt i (length entries)) (sum i) (pos 0) in
    let each : (i : ℕ) → i < length entries → get_or sums i (pos 0) ≡ sum i = λ i below. made_by_place _ made _ sums (λ k y q called. search rules) 8 c.from_fn-sums.ensures.items i (pos 0) (omega (arith, few)) ∙ cond-true _ _ _ (lt-ltb i (length entries) below) in
    let filled = with_row_filled row c.args.multiplier entries sums room each in
    let lent : take (length c.entries.result.now) sums ≡ with_row row c.args.multiplier entries = ap (λ zs. take (length zs) sums) c.entries.ensures ∙ filled in
    let count : IsFigureCount (length (take (length c.entries.result.now) sums)) = (omega (arith, ap length lent, with_row-length row c.args.multiplier entries, entries_count difference, difference.entries.least), omega (arith, ap length lent, with_row-length row c.args.multiplier entries, few)) in
    rw c.ok.ensures.value (subst (λ zs. MatchOption (result_ok c.new.result) (AllByRecursion InRange zs → ⊥) (λ sum. entries_of sum ≡ zs)) lent (difference_or_none _ c.new.result count c.new.ensures))
