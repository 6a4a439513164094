use Rattle.std.specs.Prelude.{nat_le}
use Rattle.std.proofs.Common.{rules, tests}
use Rattle.std.proofs.lemmas.List.Sorted.{answers_always}
use Rattle.preferences.proofs.Rankings.{Decides-adjacent}
use Rattle.preferences.proofs.ranking.asked.never_rises.Goals as goal

pub returns : goal.returns
returns c = Decides-adjacent c.args.parts.now c.is_sorted_by.result (c.is_sorted_by.ensures.cases (λ before part. nat_le part before) (answers_always _ _ _ (λ f a r g h. search (rules, tests))))
