use Rattle.std.proofs.Common.{◌≡◌, length, sym, ap, ◌∙◌, arith}
use Rattle.std.proofs.lemmas.Bool.{eqb-true}
use Rattle.model.specs.Values.{entries_of}
use Rattle.preferences.proofs.Judged.{judgement_same}
use Rattle.preferences.proofs.Rankings.{Decides-ranking_shows}
use Rattle.preferences.proofs.ranking.asked.RankingPreference.judge.Goals as goal

pub returns : goal.returns
returns c =
    let difference = entries_of c.args.difference.now in
    let width : length difference ≡ c.args.self.now.dims = sym (ap length c.entries.ensures) ∙ c.if-entries-self.false in
    let none : length c.args.multipliers.now ≡ 0 = eqb-true _ _ (sym c.if-not-is_empty.ensures) in
    c.from.ensures ∙ judgement_same _ _ c.no_sum_negative.ensures (Decides-ranking_shows c.args.self.now.dims difference c.args.multipliers.now) (λ h. (width, none, λ n below. h n (omega (arith, width)))) (λ h n below. h.2 n (omega (arith, width)))
