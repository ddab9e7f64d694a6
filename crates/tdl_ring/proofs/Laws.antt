-- What follows from the laws of a commutative ring.
use Rattle.std.proofs.Common.{◌≡◌, ℤ, neg_ℤ, sym, ap, ◌∙◌}
use lib.IntN.{+ℤ_invr}
use Rattle.tdl_ring.specs.Ring.{CommutativeRing}

module _ {A : Type 0} (R : CommutativeRing A) where
  infixl 60 ◌⊕◌
  infixl 70 ◌⊗◌
  open R use {
    zero as 𝟘,
    one as 𝟙,
    plus as ◌⊕◌,
    times as ◌⊗◌,
    negate as opposite,
    plus_assoc,
    plus_comm,
    plus_zero,
    plus_negate,
    times_assoc,
    times_comm,
    times_one,
    times_plus,
  }

  -- zero is neutral on the left
  pub zero_plus : (a : A) → 𝟘 ⊕ a ≡ a
  zero_plus a = plus_comm 𝟘 a ∙ plus_zero a

  -- an opposite on the left
  pub negate_plus : (a : A) → opposite a ⊕ a ≡ 𝟘
  negate_plus a = plus_comm (opposite a) a ∙ plus_negate a

  -- the first and the second of three summands change places
  pub plus_left_comm : (a b c : A) → a ⊕ (b ⊕ c) ≡ b ⊕ (a ⊕ c)
  plus_left_comm a b c = sym (plus_assoc a b c) ∙ ap (λ x. x ⊕ c) (plus_comm a b) ∙ plus_assoc b a c

  -- two sums, pair by pair
  pub plus_exchange : (a b c d : A) → (a ⊕ b) ⊕ (c ⊕ d) ≡ (a ⊕ c) ⊕ (b ⊕ d)
  plus_exchange a b c d = plus_assoc a b (c ⊕ d) ∙ ap (λ x. a ⊕ x) (plus_left_comm b c d) ∙ sym (plus_assoc a c (b ⊕ d))

  -- one is neutral on the left
  pub one_times : (a : A) → 𝟙 ⊗ a ≡ a
  one_times a = times_comm 𝟙 a ∙ times_one a

  -- the first and the second of three factors change places
  pub times_left_comm : (a b c : A) → a ⊗ (b ⊗ c) ≡ b ⊗ (a ⊗ c)
  times_left_comm a b c = sym (times_assoc a b c) ∙ ap (λ x. x ⊗ c) (times_comm a b) ∙ times_assoc b a c

  -- two products, pair by pair
  pub times_exchange : (a b c d : A) → (a ⊗ b) ⊗ (c ⊗ d) ≡ (a ⊗ c) ⊗ (b ⊗ d)
  times_exchange a b c d = times_assoc a b (c ⊗ d) ∙ ap (λ x. a ⊗ x) (times_left_comm b c d) ∙ sym (times_assoc a c (b ⊗ d))

  -- times distributes from the right
  pub plus_times : (a b c : A) → (a ⊕ b) ⊗ c ≡ (a ⊗ c) ⊕ (b ⊗ c)
  plus_times a b c = times_comm (a ⊕ b) c ∙ times_plus c a b ∙ ap (λ x. x ⊕ (c ⊗ b)) (times_comm c a) ∙ ap (λ x. (a ⊗ c) ⊕ x) (times_comm c b)

  -- what is added on the right can be taken off
  pub plus_cancel : (a b c : A) → a ⊕ c ≡ b ⊕ c → a ≡ b
  plus_cancel a b c e = sym (back a) ∙ ap (λ x. x ⊕ opposite c) e ∙ back b
    where
      back : (x : A) → (x ⊕ c) ⊕ opposite c ≡ x
      back x = plus_assoc x c (opposite c) ∙ ap (λ y. x ⊕ y) (plus_negate c) ∙ plus_zero x

  -- the one that sums to zero with b is its opposite
  pub negate_unique : (a b : A) → a ⊕ b ≡ 𝟘 → a ≡ opposite b
  negate_unique a b e = plus_cancel a (opposite b) b (e ∙ sym (negate_plus b))

  -- anything times zero
  pub times_zero : (a : A) → a ⊗ 𝟘 ≡ 𝟘
  times_zero a = plus_cancel (a ⊗ 𝟘) 𝟘 (a ⊗ 𝟘) (sym (times_plus a 𝟘 𝟘) ∙ ap (λ x. a ⊗ x) (plus_zero 𝟘) ∙ sym (zero_plus (a ⊗ 𝟘)))

  -- zero times anything
  pub zero_times : (a : A) → 𝟘 ⊗ a ≡ 𝟘
  zero_times a = times_comm 𝟘 a ∙ times_zero a

  -- the opposite of zero
  pub negate_zero : opposite 𝟘 ≡ 𝟘
  negate_zero = sym (negate_unique 𝟘 𝟘 (plus_zero 𝟘))

  -- the opposite of a sum
  pub negate_sum : (a b : A) → opposite (a ⊕ b) ≡ opposite a ⊕ opposite b
  negate_sum a b =
      sym (negate_unique (opposite a ⊕ opposite b) (a ⊕ b) (plus_exchange (opposite a) (opposite b) a b ∙ ap (λ x. x ⊕ (opposite b ⊕ b)) (negate_plus a)
      ∙ zero_plus (opposite b ⊕ b) ∙ negate_plus b))

  -- the opposite of a product
  pub negate_product : (a b : A) → opposite (a ⊗ b) ≡ opposite a ⊗ b
  negate_product a b = sym (negate_unique (opposite a ⊗ b) (a ⊗ b) (sym (plus_times (opposite a) a b) ∙ ap (λ x. x ⊗ b) (negate_plus a) ∙ zero_times b))

  -- the opposite of a whole number
  pub whole_negate : (n : ℤ) → R.whole (neg_ℤ n) ≡ opposite (R.whole n)
  whole_negate n = negate_unique (R.whole (neg_ℤ n)) (R.whole n)
      (plus_comm (R.whole (neg_ℤ n)) (R.whole n) ∙ sym (R.whole_plus n (neg_ℤ n)) ∙ ap R.whole (+ℤ_invr n) ∙ R.whole_zero)

  -- a difference of nothing is an equation
  pub equal_by_difference : (a b : A) → R.minus a b ≡ 𝟘 → a ≡ b
  equal_by_difference a b e = plus_cancel a b (opposite b) (sym (R.minus_is a b) ∙ e ∙ sym (plus_negate b))

  -- equal things differ by nothing
  pub minus_same : (a b : A) → a ≡ b → R.minus a b ≡ 𝟘
  minus_same a b e = R.minus_is a b ∙ ap (λ x. x ⊕ opposite b) e ∙ plus_negate b
