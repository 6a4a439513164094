use Rattle.std.proofs.Common.{◌≡◌, ◌*◌, ◌≤◌, pos, ◌*ℤ◌, nat_abs, ap, ◌∙◌, arith, lit<, w64, to_z, of_z}
use borrow.Author.Differences.{ints}
use Rattle.model.specs.Values.{parts_of}
use Rattle.model.specs.Weighing.{total}
use Rattle.model.proofs.Machine.{same_back, product_size}
use Rattle.preferences.proofs.row.Row.allowed.Goals as goal

-- the bound times the total, as the machine has it
product : (c : goal.After-from) → to_z w64 (of_z w64 c.from.result) *ℤ to_z w64 c.total-total.result ≡ c.args.self.now.bound *ℤ pos (total (parts_of c.args.weight.now))
product c =
    let bounded = c.args.self.now.bounded in
    let bound : to_z w64 (of_z w64 c.from.result) ≡ c.args.self.now.bound = omega (arith, ints) in
    let sum : to_z w64 c.total-total.result ≡ pos c.total-total.result = omega (arith, ints) in
    ap (λ z. z *ℤ to_z w64 c.total-total.result) bound ∙ ap (λ z. c.args.self.now.bound *ℤ z) (sum ∙ ap pos c.total-total.ensures.value)

size : (c : goal.After-from) → nat_abs (c.args.self.now.bound *ℤ pos (total (parts_of c.args.weight.now))) ≤ 10000 * 8000000
size c = product_size c.args.self.now.bound _ 10000 8000000 c.args.self.now.bounded (omega (arith, c.total-total.ensures.value))

pub returns : goal.returns
returns c =
    let same = ap (λ z. to_z w64 (of_z w64 z)) (product c) ∙ same_back _ (10000 * 8000000) (size c) (lit< tt) in
    record { value = same; size = rw same (size c) }
