-- Products of whole numbers: the laws of a ring, and order under a positive factor.
use Rattle.std.proofs.Common.{◌≡◌, ℕ, ◌+◌, ◌*◌, ◌<◌, ◌≤◌, [], ◌∷◌, ℤ, pos, ◌+ℤ◌, ◌-ℤ◌, ◌*ℤ◌, neg_ℤ, ◌≤ℤ◌, ◌<ℤ◌, arith, refl, sym, subst₂, mul-le-mul_right}
use Rattle.std.proofs.Common.{le_of_mul-le-mul_right, mul-lt-mul_of_pos_right, lt_of_mul-lt-mul_right}
use native.Mathlib.Nat.{eq_of_mul-eq-mul_right}
use borrow.Author.Differences.{up, down, same_in, product_is, at_most_in, below_in, le_out, lt_out, same_out}
use Rattle.tdl_ring.proofs.Integers.{integers}
use Rattle.tdl_ring.proofs.Quoting.{by_ring, ring}

-- times is associative, and factors change places
pub times_assoc : (a b c : ℤ) → (a *ℤ b) *ℤ c ≡ a *ℤ (b *ℤ c)
times_assoc a b c = by_ring integers (a ∷ b ∷ c ∷ []) (search ring depth 12) refl

pub times_left_comm : (a b c : ℤ) → a *ℤ (b *ℤ c) ≡ b *ℤ (a *ℤ c)
times_left_comm a b c = by_ring integers (a ∷ b ∷ c ∷ []) (search ring depth 12) refl

pub times_right_comm : (a b c : ℤ) → (a *ℤ b) *ℤ c ≡ (a *ℤ c) *ℤ b
times_right_comm a b c = by_ring integers (a ∷ b ∷ c ∷ []) (search ring depth 12) refl

pub times_exchange : (a b c d : ℤ) → (a *ℤ b) *ℤ (c *ℤ d) ≡ (a *ℤ c) *ℤ (b *ℤ d)
times_exchange a b c d = by_ring integers (a ∷ b ∷ c ∷ d ∷ []) (search ring depth 12) refl

-- times distributes over plus and minus
pub times_plus : (a b c : ℤ) → a *ℤ (b +ℤ c) ≡ (a *ℤ b) +ℤ (a *ℤ c)
times_plus a b c = by_ring integers (a ∷ b ∷ c ∷ []) (search ring depth 12) refl

pub plus_times : (a b c : ℤ) → (a +ℤ b) *ℤ c ≡ (a *ℤ c) +ℤ (b *ℤ c)
plus_times a b c = by_ring integers (a ∷ b ∷ c ∷ []) (search ring depth 12) refl

pub minus_times : (a b c : ℤ) → (a -ℤ b) *ℤ c ≡ (a *ℤ c) -ℤ (b *ℤ c)
minus_times a b c = by_ring integers (a ∷ b ∷ c ∷ []) (search ring depth 12) refl

-- one is neutral
pub times_one : (a : ℤ) → a *ℤ pos 1 ≡ a
times_one a = by_ring integers (a ∷ []) (search ring depth 12) refl

pub one_times : (a : ℤ) → pos 1 *ℤ a ≡ a
one_times a = by_ring integers (a ∷ []) (search ring depth 12) refl

-- the sign goes with either factor
pub negate_times : (a b : ℤ) → neg_ℤ a *ℤ b ≡ neg_ℤ (a *ℤ b)
negate_times a b = by_ring integers (a ∷ b ∷ []) (search ring depth 12) refl

pub times_negate : (a b : ℤ) → a *ℤ neg_ℤ b ≡ neg_ℤ (a *ℤ b)
times_negate a b = by_ring integers (a ∷ b ∷ []) (search ring depth 12) refl

-- a positive factor is struck out of an equation
pub times_cancel : (a b : ℤ) (k : ℕ) → 0 < k → a *ℤ pos k ≡ b *ℤ pos k → a ≡ b
times_cancel a b k h e =
    let l = product_is a (pos k) in
    let r = product_is b (pos k) in
    let s = same_out _ _ e in
    let u : up a * k ≡ up b * k = omega arith in
    let v : down a * k ≡ down b * k = omega arith in
    let eq : (m n : ℕ) → m * k ≡ n * k → m ≡ n = λ m n e. strike m n k h e in
    same_in _ _ (λ i. eq _ _ u i + sym (eq _ _ v) i)
  where
    strike : (m n k : ℕ) → 0 < k → m * k ≡ n * k → m ≡ n
    strike m n k h e = eq_of_mul-eq-mul_right k h m n e

-- a positive factor keeps ≤
pub times_le : (a b : ℤ) (k : ℕ) → a ≤ℤ b → (a *ℤ pos k) ≤ℤ (b *ℤ pos k)
times_le a b k h =
    let l = product_is a (pos k) in
    let r = product_is b (pos k) in
    at_most_in _ _ (omega (arith, mul-le-mul_right k (le_out a b h)))

-- and is struck out of it
pub times_le_cancel : (a b : ℤ) (k : ℕ) → 0 < k → (a *ℤ pos k) ≤ℤ (b *ℤ pos k) → a ≤ℤ b
times_le_cancel a b k p h =
    let l = product_is a (pos k) in
    let r = product_is b (pos k) in
    let o = le_out _ _ h in
    let m : (up a + down b) * k ≤ (up b + down a) * k = omega arith in
    at_most_in _ _ (le_of_mul-le-mul_right m p)

-- a positive factor keeps <
pub times_lt : (a b : ℤ) (k : ℕ) → 0 < k → a <ℤ b → (a *ℤ pos k) <ℤ (b *ℤ pos k)
times_lt a b k p h =
    let l = product_is a (pos k) in
    let r = product_is b (pos k) in
    below_in _ _ (omega (arith, mul-lt-mul_of_pos_right (lt_out a b h) p))

-- and is struck out of it
pub times_lt_cancel : (a b : ℤ) (k : ℕ) → (a *ℤ pos k) <ℤ (b *ℤ pos k) → a <ℤ b
times_lt_cancel a b k h =
    let l = product_is a (pos k) in
    let r = product_is b (pos k) in
    let o = lt_out _ _ h in
    let m : (up a + down b) * k < (up b + down a) * k = omega arith in
    below_in _ _ (lt_of_mul-lt-mul_right k m)

-- numbers that are a and b over k and c and d over j are in the same order
pub scaled_le : (a b c d : ℤ) (k j : ℕ) → 0 < j → a *ℤ pos k ≡ c *ℤ pos j → b *ℤ pos k ≡ d *ℤ pos j → a ≤ℤ b → c ≤ℤ d
scaled_le a b c d k j p e f h = times_le_cancel c d j p (subst₂ ◌≤ℤ◌ e f (times_le a b k h))

pub scaled_lt : (a b c d : ℤ) (k j : ℕ) → 0 < k → a *ℤ pos k ≡ c *ℤ pos j → b *ℤ pos k ≡ d *ℤ pos j → a <ℤ b → c <ℤ d
scaled_lt a b c d k j p e f h = times_lt_cancel c d j (subst₂ ◌<ℤ◌ e f (times_lt a b k p h))
