use Rattle.std.proofs.Common.{◌≡◌, ◌*◌, ◌≤◌, take, nat_abs}
use Rattle.model.specs.Claims.{difference_at}
use Rattle.walkthrough.proofs.barn.Barn.entry.Given as goal

abbrev pub invariant-loop-pair : goal.invariant-loop-pair
invariant-loop-pair l = record {
  value : l.sum ≡ difference_at l.self l.claim.target (take l.pair-index l.claim.mixture.now) l.index;
  size : nat_abs l.sum ≤ 4294967296000000 * l.pair-index;
}
