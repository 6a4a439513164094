use Rattle.std.proofs.Common.{◌≡◌, ◌-◌, take, replicate, ap, ◌∙◌, arith}
use Rattle.std.proofs.lemmas.List.{take-replicate}
use Rattle.preferences.proofs.ranking.asked.RankingPreference.sample.Goals as goal

pub returns : goal.returns
returns c =
    let dims = c.args.self.now.dims in
    let all : dims - 0 ≡ dims = omega arith in
    ap (λ n. take n (replicate 8 1)) all ∙ take-replicate dims 8 1 c.args.self.now.most
