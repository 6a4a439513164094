use Rattle.preferences.proofs.Rankings.{ranking_lawful}
use Rattle.preferences.proofs.ranking.Ranking.new.Goals as goal

pub invariant_of-result-clause-lawful : goal.invariant_of-result-clause-lawful
invariant_of-result-clause-lawful c = ranking_lawful _
