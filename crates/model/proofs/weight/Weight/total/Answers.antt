use Rattle.std.proofs.Common.{◌≡◌, sum_by, rules, tests, arith, refl, sym, ap, ◌∙◌}
use Rattle.std.proofs.lemmas.Iterator.Adapters.{fits_from_length, at_most_from_yields_List}
use Rattle.std.proofs.lemmas.Iterator.{YieldsList-from_slice}
use Rattle.std.proofs.lemmas.List.Recursion.{is_sum_by}
use Rattle.model.specs.Weighing.{total}
use Rattle.model.specs.Stored.{lent_few, parts_limits, parts_count}
use Rattle.model.specs.Values.{parts_of}
use Rattle.model.proofs.Sums.{total_limit}
use Rattle.model.proofs.weight.Weight.total.Goals as goal

pub sum-requires-clause-fits : goal.sum-requires-clause-fits
sum-requires-clause-fits c =
    fits_from_length _ _ 8 _ (at_most_from_yields_List (YieldsList-from_slice c.parts.result.now cc) (lent_few c.args.self.now c.parts.result.now c.parts.ensures)) c.map.ensures.closure (omega arith) (λ x r q k. search (rules, tests))

pub returns : goal.returns
returns c =
    let same : sum_by (λ part. part) c.parts.result.now ≡ total (parts_of c.args.self.now) = sym (is_sum_by total (λ part. part) refl (λ _ _. refl) c.parts.result.now) ∙ ap total c.parts.ensures in
    let value : c.sum.result ≡ total (parts_of c.args.self.now) = search (rules, same) in
    record {
      value = omega (arith, value);
      bound = omega (arith, total_limit (parts_of c.args.self.now) (parts_limits c.args.self.now), parts_count c.args.self.now, c.args.self.now.parts.most);
    }
