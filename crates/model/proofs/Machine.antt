-- Signed sums of products in 64 bits, where the sizes leave room.
use Rattle.std.proofs.Common.{◌≡◌, ℕ, zero, suc, ◌+◌, ◌*◌, ◌^◌, ◌<◌, ◌≤◌, ℤ, pos, negsuc, ◌+ℤ◌, ◌*ℤ◌, neg_ℤ, nat_abs, sym, refl, ap, ◌∙◌, subst, mul-le-mul, arith, w64, SFits, to_z, of_z}
use borrow.Author.Differences.{ints}
use Rattle.std.proofs.lemmas.Int.{to_z-of_z}

abbrev back : ℤ → ℤ
back z = to_z w64 (of_z w64 z)

pub fits : (z : ℤ) (n : ℕ) → nat_abs z ≤ n → n < 2 ^ 63 → SFits w64 z
fits z n h k = omega (arith, ints)

pub same_back : (z : ℤ) (n : ℕ) → nat_abs z ≤ n → n < 2 ^ 63 → to_z w64 (of_z w64 z) ≡ z
same_back z n h k = to_z-of_z w64 z (fits z n h k)

negative_size : (n : ℕ) → nat_abs (neg_ℤ (pos n)) ≡ n
negative_size zero = refl
negative_size (suc n) = refl

pub product_size : (a b : ℤ) (m n : ℕ) → nat_abs a ≤ m → nat_abs b ≤ n → nat_abs (a *ℤ b) ≤ m * n
product_size (pos a) (pos b) m n h k = mul-le-mul h k
product_size (pos a) (negsuc b) m n h k = rw (negative_size (a * suc b)) (mul-le-mul h k)
product_size (negsuc a) (pos b) m n h k = rw (negative_size (suc a * b)) (mul-le-mul h k)
product_size (negsuc a) (negsuc b) m n h k = mul-le-mul h k

pub sum_size : (a b : ℤ) (m n : ℕ) → nat_abs a ≤ m → nat_abs b ≤ n → nat_abs (a +ℤ b) ≤ m + n
sum_size a b m n h k = omega (arith, ints)

-- a product that has room: what the machine computes is exact
pub record Times (a b : ℤ) (limit : ℕ) : Type 0 where
  pub fits : SFits w64 (to_z w64 (of_z w64 a) *ℤ to_z w64 (of_z w64 b))
  pub value : to_z w64 (of_z w64 (to_z w64 (of_z w64 a) *ℤ to_z w64 (of_z w64 b))) ≡ a *ℤ b
  pub size : nat_abs (a *ℤ b) ≤ limit

pub times : (a b : ℤ) (m n : ℕ) → nat_abs a ≤ m → nat_abs b ≤ n → m < 2 ^ 63 → n < 2 ^ 63 → m * n < 2 ^ 63 → Times a b (m * n)
times a b m n a≤ b≤ m< n< room =
    let factors : back a *ℤ back b ≡ a *ℤ b = ap (λ x. x *ℤ back b) (same_back a m a≤ m<) ∙ ap (λ x. a *ℤ x) (same_back b n b≤ n<) in
    let size = product_size a b m n a≤ b≤ in
    let product : SFits w64 (a *ℤ b) = fits (a *ℤ b) (m * n) size room in
    record { fits = subst (SFits w64) (sym factors) product; value = ap back factors ∙ to_z-of_z w64 (a *ℤ b) product; size = size }

-- a sum and a product of equal terms
pub same_sum : (s t a b e f : ℤ) → s ≡ t → a ≡ b → e ≡ f → s +ℤ (a *ℤ e) ≡ t +ℤ (b *ℤ f)
same_sum s t a b e f p q r = cc

-- what is summed and what is left, after one more term
pub one_less_left : (next sum term part left rest all : ℤ) → next ≡ sum +ℤ term → term ≡ part → left ≡ part +ℤ rest → sum +ℤ left ≡ all → next +ℤ rest ≡ all
one_less_left next sum term part left rest all a b c d = omega (arith, ints)

-- a product added to a sum that has room for it: what the machine computes is exact
pub record Added (s a b : ℤ) (limit : ℕ) : Type 0 where
  pub product : SFits w64 (to_z w64 (of_z w64 a) *ℤ to_z w64 (of_z w64 b))
  pub fits : SFits w64 (s +ℤ to_z w64 (of_z w64 (to_z w64 (of_z w64 a) *ℤ to_z w64 (of_z w64 b))))
  pub value : to_z w64 (of_z w64 (s +ℤ to_z w64 (of_z w64 (to_z w64 (of_z w64 a) *ℤ to_z w64 (of_z w64 b))))) ≡ s +ℤ (a *ℤ b)
  pub size : nat_abs (s +ℤ (a *ℤ b)) ≤ limit

pub added : (s a b : ℤ) (k m n : ℕ) → nat_abs s ≤ k → nat_abs a ≤ m → nat_abs b ≤ n → m < 2 ^ 63 → n < 2 ^ 63 → k + m * n < 2 ^ 63 → Added s a b (k + m * n)
added s a b k m n s≤ a≤ b≤ m< n< room =
    let product = times a b m n a≤ b≤ m< n< (omega arith) in
    let terms : s +ℤ back (back a *ℤ back b) ≡ s +ℤ (a *ℤ b) = ap (λ x. s +ℤ x) product.value in
    let size : nat_abs (s +ℤ (a *ℤ b)) ≤ k + m * n = sum_size s (a *ℤ b) k (m * n) s≤ product.size in
    let sum_fits : SFits w64 (s +ℤ (a *ℤ b)) = fits (s +ℤ (a *ℤ b)) (k + m * n) size room in
    record {
      product = product.fits;
      fits = subst (SFits w64) (sym terms) sum_fits;
      value = ap back terms ∙ to_z-of_z w64 (s +ℤ (a *ℤ b)) sum_fits;
      size = size;
    }
