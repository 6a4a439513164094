-- What is printed of a claim and of what its checking finds, byte for byte.
use Rattle.std.specs.Prelude.{ℕ, List, ◌++◌, flat_map, Option, Some, codes, decimal, vec_items}
use Rattle.std.specs.Fmt.{◌++?◌, signed_decimal}
use Rattle.model.specs.declared.share.Share.{Share}
use Rattle.report.specs.Texts.{spaced_text, outcome_text}
use Rattle.walkthrough.specs.declared.claims.Claim.{Claim}
use Rattle.walkthrough.specs.declared.claims.Finding.{Finding}

abbrev pub pair_text : Share → List ℕ
pair_text pair = codes " sheet " ++ (decimal pair.variant ++ (codes " share " ++ (decimal pair.share ++ codes ",")))

abbrev pub claim_text : Claim → Option (List ℕ)
claim_text claim =
    Some (codes "a claim against sheet ") ++? Some (decimal claim.target) ++? Some (codes " by") ++? Some (flat_map pair_text claim.mixture.now)
    ++? Some (codes " with multipliers") ++? spaced_text (λ n. Some (decimal n)) claim.multipliers.now

abbrev pub finding_text : Finding → Option (List ℕ)
finding_text finding =
    Some (codes "  the difference is")
    ++? spaced_text (λ z. Some (signed_decimal z)) (vec_items finding.difference)
    ++? Some (codes "\n  ") ++? Some (outcome_text finding.judgement (codes "these multipliers show nothing"))
