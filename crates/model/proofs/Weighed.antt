-- Weighed sums: linear in what is weighed, and not negative where none of it is.
use Rattle.std.proofs.Common.{◌≡◌, ℕ, zero, suc, ◌+◌, ◌<◌, List, [], ◌∷◌, length, get_or, ℤ, pos, negsuc, ◌+ℤ◌, ◌*ℤ◌, ◌≤ℤ◌, sym, refl, ap, ◌∙◌, arith}
use borrow.Author.Differences.{ints}
use lib.IntN.{+ℤ_idl, *ℤ-zero, zero-*ℤ, suc_ℤ-*ℤ}
use Rattle.model.specs.Weighing.{total, weighed}

swap_middle : (x y a b : ℤ) → (x +ℤ y) +ℤ (a +ℤ b) ≡ (x +ℤ a) +ℤ (y +ℤ b)
swap_middle x y a b = omega (arith, ints)

past : (x y z : ℤ) → (x +ℤ y) +ℤ z ≡ (x +ℤ z) +ℤ y
past x y z = omega (arith, ints)

-- a natural number times a sum
pub times_add : (n : ℕ) (a b : ℤ) → pos n *ℤ (a +ℤ b) ≡ (pos n *ℤ a) +ℤ (pos n *ℤ b)
times_add zero a b = zero-*ℤ (a +ℤ b) ∙ sym (ap (λ z. z +ℤ (pos 0 *ℤ b)) (zero-*ℤ a) ∙ +ℤ_idl (pos 0 *ℤ b) ∙ zero-*ℤ b)
times_add (suc n) a b =
    suc_ℤ-*ℤ (pos n) (a +ℤ b)
    ∙ ap (λ z. z +ℤ (a +ℤ b)) (times_add n a b)
    ∙ swap_middle (pos n *ℤ a) (pos n *ℤ b) a b
    ∙ sym (ap (λ z. z +ℤ (pos (suc n) *ℤ b)) (suc_ℤ-*ℤ (pos n) a) ∙ ap (λ z. ((pos n *ℤ a) +ℤ a) +ℤ z) (suc_ℤ-*ℤ (pos n) b))

-- a sum of natural numbers times an integer
pub add_times : (m n : ℕ) (z : ℤ) → pos (m + n) *ℤ z ≡ (pos m *ℤ z) +ℤ (pos n *ℤ z)
add_times zero n z =
    let none : zero + n ≡ n = omega arith in
    ap (λ k. pos k *ℤ z) none ∙ sym (ap (λ y. y +ℤ (pos n *ℤ z)) (zero-*ℤ z) ∙ +ℤ_idl (pos n *ℤ z))
add_times (suc m) n z =
    let one : suc m + n ≡ suc (m + n) = omega arith in
    ap (λ k. pos k *ℤ z) one
    ∙ suc_ℤ-*ℤ (pos (m + n)) z
    ∙ ap (λ y. y +ℤ z) (add_times m n z)
    ∙ past (pos m *ℤ z) (pos n *ℤ z) z
    ∙ sym (ap (λ y. y +ℤ (pos n *ℤ z)) (suc_ℤ-*ℤ (pos m) z))

-- two natural numbers times an integer, in either order
pub times_swap : (m n : ℕ) (z : ℤ) → pos m *ℤ (pos n *ℤ z) ≡ pos n *ℤ (pos m *ℤ z)
times_swap zero n z = zero-*ℤ (pos n *ℤ z) ∙ sym (ap (λ y. pos n *ℤ y) (zero-*ℤ z) ∙ *ℤ-zero (pos n))
times_swap (suc m) n z =
    suc_ℤ-*ℤ (pos m) (pos n *ℤ z)
    ∙ ap (λ y. y +ℤ (pos n *ℤ z)) (times_swap m n z)
    ∙ sym (times_add n (pos m *ℤ z) z)
    ∙ ap (λ y. pos n *ℤ y) (sym (suc_ℤ-*ℤ (pos m) z))

pub times_nonneg : (n : ℕ) (z : ℤ) → pos 0 ≤ℤ z → pos 0 ≤ℤ (pos n *ℤ z)
times_nonneg n (pos a) h = omega (arith, ints)
times_nonneg n (negsuc a) h = absurd h.le

-- the sum of part times value, for values that are given by place
abbrev pub spread : List ℕ → (ℕ → ℤ) → ℤ
spread [] value = pos 0
spread (part ∷ parts) value = (pos part *ℤ value 0) +ℤ spread parts (λ i. value (suc i))

-- values that are alike at each part
pub spread_alike : (w : List ℕ) (f g : ℕ → ℤ) → ((i : ℕ) → i < length w → f i ≡ g i) → spread w f ≡ spread w g
spread_alike [] f g same = refl
spread_alike (p ∷ w) f g same =
    ap (λ z. (pos p *ℤ z) +ℤ spread w (λ i. f (suc i))) (same 0 (omega arith))
    ∙ ap (λ z. (pos p *ℤ g 0) +ℤ z) (spread_alike w (λ i. f (suc i)) (λ i. g (suc i)) (λ i below. same (suc i) (omega arith)))

pub spread_add : (w : List ℕ) (f g : ℕ → ℤ) → spread w (λ i. f i +ℤ g i) ≡ spread w f +ℤ spread w g
spread_add [] f g = refl
spread_add (p ∷ w) f g =
    ap (λ z. z +ℤ spread w (λ i. f (suc i) +ℤ g (suc i))) (times_add p (f 0) (g 0))
    ∙ ap (λ z. ((pos p *ℤ f 0) +ℤ (pos p *ℤ g 0)) +ℤ z) (spread_add w (λ i. f (suc i)) (λ i. g (suc i)))
    ∙ swap_middle (pos p *ℤ f 0) (pos p *ℤ g 0) (spread w (λ i. f (suc i))) (spread w (λ i. g (suc i)))

pub spread_times : (w : List ℕ) (n : ℕ) (f : ℕ → ℤ) → spread w (λ i. pos n *ℤ f i) ≡ pos n *ℤ spread w f
spread_times [] n f = sym (*ℤ-zero (pos n))
spread_times (p ∷ w) n f =
    ap (λ z. z +ℤ spread w (λ i. pos n *ℤ f (suc i))) (times_swap p n (f 0))
    ∙ ap (λ z. (pos n *ℤ (pos p *ℤ f 0)) +ℤ z) (spread_times w n (λ i. f (suc i)))
    ∙ sym (times_add n (pos p *ℤ f 0) (spread w (λ i. f (suc i))))

-- one value at every place
pub spread_same : (w : List ℕ) (z : ℤ) → spread w (λ i. z) ≡ pos (total w) *ℤ z
spread_same [] z = sym (zero-*ℤ z)
spread_same (p ∷ w) z = ap (λ y. (pos p *ℤ z) +ℤ y) (spread_same w z) ∙ sym (add_times p (total w) z)

pub spread_nonneg : (w : List ℕ) (f : ℕ → ℤ) → ((i : ℕ) → i < length w → pos 0 ≤ℤ f i) → pos 0 ≤ℤ spread w f
spread_nonneg [] f h = omega (arith, ints)
spread_nonneg (p ∷ w) f h =
    let first = times_nonneg p (f 0) (h 0 (omega arith)) in
    let rest = spread_nonneg w (λ i. f (suc i)) (λ i k. h (suc i) (omega arith)) in
    omega (arith, ints)

-- a difference weighed is such a sum, past its end too
pub weighed-spread : (w : List ℕ) (zs : List ℤ) → weighed w zs ≡ spread w (λ i. get_or zs i (pos 0))
weighed-spread [] zs = refl
weighed-spread (p ∷ w) [] = sym (ap (λ z. z +ℤ spread w (λ i. pos 0)) (*ℤ-zero (pos p)) ∙ +ℤ_idl (spread w (λ i. pos 0)) ∙ spread_same w (pos 0) ∙ *ℤ-zero (pos (total w)))
weighed-spread (p ∷ w) (z ∷ zs) = ap (λ y. (pos p *ℤ z) +ℤ y) (weighed-spread w zs)
