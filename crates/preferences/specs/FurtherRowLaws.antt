-- A further row keeps the laws of a preference where the one below does, as far as they speak of weights.
use Rattle.std.specs.Prelude.{Decides, List, ℕ}
use Rattle.std.proofs.lemmas.Bool.Decides.{Decides-and}
use Rattle.model.specs.Each.{Decides-le}
use Rattle.model.specs.Limits.{Proper}
use Rattle.model.specs.Meaning.{Meaning, Lawful}
use Rattle.model.specs.Weighing.{weighed}
use Rattle.preferences.specs.Constraints.{Constraint, Keeps}
use Rattle.preferences.specs.FurtherRows.{further_meaning}
use Rattle.preferences.specs.Judging.{JudgesLawfully}

module _ (below : Meaning) (lawful : Lawful below) (row : Constraint) (sample : List ℕ) where
  further_admits : (weight : List ℕ) → Proper below.dims weight → Decides ((further_meaning below row sample).admits weight) (below.admissible weight × Keeps weight row)
  further_admits weight proper =
      Decides-and (below.admits weight) _ (lawful.sound weight proper, lawful.exact weight proper) (Decides-le (weighed weight row.coefficients) _)

  pub further_lawful : JudgesLawfully (further_meaning below row sample) → Lawful (further_meaning below row sample)
  further_lawful judges =
      record {
        width = λ weight h. lawful.width weight h.0;
        some = λ weight h. lawful.some weight h.0;
        sound = λ weight proper. (further_admits weight proper).0;
        exact = λ weight proper. (further_admits weight proper).1;
        safe = judges.safe;
        zeros = judges.zeros;
      }
