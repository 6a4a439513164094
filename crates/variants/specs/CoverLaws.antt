-- Cover sheets keep the laws of a kind of variant.
use Rattle.std.specs.Prelude.{◌≡◌, ◌≤◌, true, length}
use Rattle.std.proofs.Common.{arith}
use Rattle.std.proofs.lemmas.Bool.{and_parts, leb-true}
use Rattle.std.proofs.lemmas.List.Sums.{count_by-le-length}
use Rattle.std.specs.List.{AllByRecursion}
use Rattle.model.specs.Limits.{InLimit}
use Rattle.model.specs.Variants.{NoGreater}
use Rattle.variants.specs.Covers.{cover_figures, cover_better}
use Rattle.variants.specs.Marks.{set_too_fewer}
use Rattle.variants.specs.declared.cover_terms.CoverTerms.{CoverTerms}

pub cover_limits : (terms : CoverTerms) → terms.premium ≤ 1000000 → terms.own_share ≤ 1000000 → terms.waiting_days ≤ 3650 → length terms.exclusions ≤ 8 → AllByRecursion InLimit (cover_figures terms)
cover_limits terms premium share days marks =
    let few = count_by-le-length (λ mark. mark) terms.exclusions in
    (premium, (share, (omega arith, (omega arith, (omega arith, tt)))))

pub cover_order : (x y : CoverTerms) → cover_better x y ≡ true → NoGreater (cover_figures x) (cover_figures y)
cover_order x y better =
    let premium = and_parts _ _ better in
    let share = and_parts _ _ premium.1 in
    let days = and_parts _ _ share.1 in
    let sum = and_parts _ _ days.1 in
    let marks = set_too_fewer x.exclusions y.exclusions sum.1 in
    let no_less = leb-true _ _ sum.0 in
    (leb-true _ _ premium.0, (leb-true _ _ share.0, (omega arith, (leb-true _ _ days.0, (marks, tt)))))
