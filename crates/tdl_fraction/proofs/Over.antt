-- The working view of a rational number: it is n over d, in whatever terms. A rule for every operation, and 'equal over, so equal'.
use Rattle.std.proofs.Common.{◌≡◌, ℕ, zero, suc, ◌+◌, ◌*◌, ◌/◌, ◌<◌, ◌&&◌, Bool, true, false, T, ltb, eqb, ℤ, pos, negsuc, ◌+ℤ◌, ◌-ℤ◌, ◌*ℤ◌, neg_ℤ, nat_abs}
use Rattle.std.proofs.Common.{◌≤ℤ◌, ◌<ℤ◌, ◌↔◌, arith, refl, sym, ap, ap₂, ◌∙◌, subst, subst₂, mul-pos, mul-one, rules, tests}
use Rattle.std.specs.Int.{IsGcd, ◌∣◌, int_div_euclid}
use Rattle.std.proofs.lemmas.Int.{ints}
use lib.IntN.{*ℤ_comm, neg_ℤ-neg_ℤ}
use lib.Dec.{T_prop}
use lib.Signed.{le_z_yes, lt_z_yes, le_z, lt_z}
use borrow.Author.Differences.{false_is_le, false_is_lt, lt_T, le_T, product_is, sum_is_lem, at_most_in, below_in}
use native.Mathlib.Nat.{div-mul_cancel, div-mul-le_self, lt-div-mul-add}
use Rattle.std.proofs.lemmas.Int.{unsigned_abs-mul}
use Rattle.tdl_fraction.specs.Divisor.{gcd, div_z, is_lowest}
use Rattle.tdl_fraction.specs.LowestTerms.{IsGcd-gcd}
use Rattle.tdl_fraction.specs.Rational.{Rational, frac, whole, ◌+ℚ◌, ◌-ℚ◌, ◌*ℚ◌, ◌/ℚ◌, neg_ℚ, flip, inverse, le_ℚ, lt_ℚ, ◌≤ℚ◌, ◌<ℚ◌, floor, ceil, le_ℚ_yes}
use Rattle.tdl_fraction.specs.Rational.{yes_le_ℚ, lt_ℚ_yes, yes_lt_ℚ}
use Rattle.tdl_fraction.proofs.Integers.{times_assoc, times_exchange, times_right_comm, plus_times, minus_times, negate_times, times_cancel, times_one}
use Rattle.tdl_fraction.proofs.Integers.{scaled_le, scaled_lt, times_le, times_lt, times_le_cancel, times_lt_cancel}
use Rattle.tdl_fraction.proofs.Coprime.{gcd_is, same_denominators}

-- q is n over d
pub record Over (n : ℤ) (d : ℕ) (q : Rational) : Type 0 where
  pub positive : 0 < d
  pub cross : q.num *ℤ pos d ≡ n *ℤ pos q.den

lowest_parts : (n : ℤ) (d : ℕ) → T (is_lowest n d) → (0 < d) × (gcd (nat_abs n) d ≡ 1)
lowest_parts n d h = search (tests, rules)

-- a denominator is positive, and shares no factor with the numerator
pub den_positive : (q : Rational) → 0 < q.den
den_positive q = (lowest_parts q.num q.den q.lowest).0

pub num_den_coprime : (q : Rational) → gcd (nat_abs q.num) q.den ≡ 1
num_den_coprime q = (lowest_parts q.num q.den q.lowest).1

-- equal numerators and denominators make equal numbers
pub same_parts : (p q : Rational) → p.num ≡ q.num → p.den ≡ q.den → p ≡ q
same_parts p q e f =
    let made : (n : ℤ) (d : ℕ) → T (is_lowest n d) → Rational = λ n d t. record { num = n; den = d; lowest = t } in
    subst₂ (λ n d. (t : T (is_lowest n d)) → p ≡ made n d t) e f (λ t. ap (made p.num p.den) (T_prop (is_lowest p.num p.den) p.lowest t)) q.lowest

-- ---- equal over, so equal
cross_same : (a b n p q d : ℤ) → a *ℤ d ≡ n *ℤ p → b *ℤ d ≡ n *ℤ q → (a *ℤ q) *ℤ d ≡ (b *ℤ p) *ℤ d
cross_same a b n p q d e f = times_right_comm a q d ∙ ap (λ x. x *ℤ q) e ∙ times_right_comm n p q ∙ ap (λ x. x *ℤ p) (sym f) ∙ times_right_comm b d p

absolute_times : (a : ℤ) (k : ℕ) → nat_abs (a *ℤ pos k) ≡ nat_abs a * k
absolute_times a k = unsigned_abs-mul a (pos k)

-- equal numbers, by their cross products
pub same_from_cross : (p q : Rational) → p.num *ℤ pos q.den ≡ q.num *ℤ pos p.den → p ≡ q
same_from_cross p q e =
    let a : nat_abs p.num * q.den ≡ nat_abs q.num * p.den = sym (absolute_times p.num q.den) ∙ ap nat_abs e ∙ absolute_times q.num p.den in
    let d : p.den ≡ q.den = same_denominators (nat_abs p.num) (nat_abs q.num) p.den q.den (den_positive p) (den_positive q) (num_den_coprime p)
    (num_den_coprime q) a in
    same_parts p q (times_cancel p.num q.num q.den (den_positive q) (e ∙ ap (λ (x : ℕ). q.num *ℤ pos x) d)) d

-- numbers that are n over d are equal
pub same_over : {n : ℤ} {d : ℕ} {p q : Rational} → Over n d p → Over n d q → p ≡ q
same_over {n} {d} {p} {q} a b =
    same_from_cross p q (times_cancel _ _ d a.positive (cross_same p.num q.num n (pos p.den) (pos q.den) (pos d) a.cross b.cross))

-- a number is its numerator over its denominator
pub Over-self : (q : Rational) → Over q.num q.den q
Over-self q = record { positive = den_positive q; cross = refl }

over_reduced : (a n : ℤ) (g d : ℤ) → a *ℤ g ≡ n → a *ℤ (d *ℤ g) ≡ n *ℤ d
over_reduced a n g d e = ap (λ x. a *ℤ x) (*ℤ_comm d g) ∙ sym (times_assoc a g d) ∙ ap (λ x. x *ℤ d) e

-- a quotient that leaves no rest, times the divisor
pub div_z_times : (n : ℤ) (g : ℕ) → g ∣ nat_abs n → div_z n g *ℤ pos g ≡ n
div_z_times (pos n) g h = ap pos (div-mul_cancel g h)
div_z_times (negsuc n) g h = negate_times (pos (suc n / g)) (pos g) ∙ ap (λ (x : ℕ). neg_ℤ (pos x)) (div-mul_cancel g h)

-- the numerator and the denominator of n over d, times the common divisor
pub frac_num : (n : ℤ) (d : ℕ) → 0 < d → (frac n d).num *ℤ pos (gcd (nat_abs n) d) ≡ n
unfolding frac
frac_num n zero h = absurd (omega arith)
frac_num n (suc k) h = div_z_times n (gcd (nat_abs n) (suc k)) (IsGcd-gcd (nat_abs n) (suc k)).0

pub frac_den : (n : ℤ) (d : ℕ) → 0 < d → (frac n d).den * gcd (nat_abs n) d ≡ d
unfolding frac
frac_den n zero h = absurd (omega arith)
frac_den n (suc k) h = div-mul_cancel (gcd (nat_abs n) (suc k)) (IsGcd-gcd (nat_abs n) (suc k)).1

pub Over-frac : (n : ℤ) (d : ℕ) → 0 < d → Over n d (frac n d)
Over-frac n d h = record {
  positive = h;
  cross = ap (λ (x : ℕ). (frac n d).num *ℤ pos x) (sym (frac_den n d h))
      ∙ over_reduced (frac n d).num n (pos (gcd (nat_abs n) d)) (pos (frac n d).den) (frac_num n d h);
}

-- and nothing else is n over d
pub frac_over : {n : ℤ} {d : ℕ} {q : Rational} → Over n d q → q ≡ frac n d
frac_over {n} {d} h = same_over h (Over-frac n d h.positive)

pub frac-self : (q : Rational) → frac q.num q.den ≡ q
frac-self q = sym (frac_over (Over-self q))

swap_over : (r a n p d b : ℤ) → r *ℤ b ≡ a *ℤ p → n *ℤ b ≡ a *ℤ d → (r *ℤ d) *ℤ b ≡ (n *ℤ p) *ℤ b
swap_over r a n p d b e f = times_right_comm r d b ∙ ap (λ x. x *ℤ d) e ∙ times_right_comm a p d ∙ ap (λ x. x *ℤ p) (sym f) ∙ times_right_comm n b p

-- from one pair to another of equal cross products
pub Over-as : {a : ℤ} {b : ℕ} {n : ℤ} {d : ℕ} {q : Rational} → Over a b q → 0 < d → n *ℤ pos b ≡ a *ℤ pos d → Over n d q
Over-as {a} {b} {n} {d} {q} h p e = record {
  positive = p;
  cross = times_cancel _ _ b h.positive (swap_over q.num a n (pos q.den) (pos d) (pos b) h.cross e);
}

-- two pairs for one number have equal cross products
pub cross_over : {a : ℤ} {b : ℕ} {n : ℤ} {d : ℕ} {q : Rational} → Over a b q → Over n d q → n *ℤ pos b ≡ a *ℤ pos d
cross_over {a} {b} {n} {d} {q} h k = times_cancel _ _ q.den (den_positive q) (both q.num a n (pos q.den) (pos d) (pos b) h.cross k.cross)
  where
    both : (r a n p d b : ℤ) → r *ℤ b ≡ a *ℤ p → r *ℤ d ≡ n *ℤ p → (n *ℤ b) *ℤ p ≡ (a *ℤ d) *ℤ p
    both r a n p d b e f = times_right_comm n b p ∙ ap (λ x. x *ℤ b) (sym f) ∙ times_right_comm r d b ∙ ap (λ x. x *ℤ d) e ∙ times_right_comm a p d

-- numbers of equal cross products are equal
pub same_cross_over : {n : ℤ} {d : ℕ} {p : Rational} {m : ℤ} {e : ℕ} {q : Rational} → Over n d p → Over m e q → n *ℤ pos e ≡ m *ℤ pos d → p ≡ q
same_cross_over h k c = same_over h (Over-as k h.positive c)

pub frac_same : (n : ℤ) (d : ℕ) (m : ℤ) (e : ℕ) → 0 < d → 0 < e → n *ℤ pos e ≡ m *ℤ pos d → frac n d ≡ frac m e
frac_same n d m e p q h = sym (frac_over (Over-as (Over-frac m e q) p h))

-- numerator and denominator times a positive number
pub Over-scaled : {n : ℤ} {d : ℕ} {q : Rational} (k : ℕ) → Over n d q → 0 < k → Over (n *ℤ pos k) (d * k) q
Over-scaled {n} {d} k h p = Over-as h (mul-pos h.positive p) (scale n (pos d) (pos k))
  where
    scale : (n d k : ℤ) → (n *ℤ k) *ℤ d ≡ n *ℤ (d *ℤ k)
    scale n d k = times_right_comm n k d ∙ times_assoc n d k

-- ---- the operations
rearranged : (n e p q d : ℤ) → (n *ℤ e) *ℤ (p *ℤ q) ≡ (n *ℤ p) *ℤ (q *ℤ e)
rearranged n e p q d = times_exchange n e p q ∙ ap (λ x. (n *ℤ p) *ℤ x) (*ℤ_comm e q)

summand : (a n p q d e : ℤ) → a *ℤ d ≡ n *ℤ p → (n *ℤ e) *ℤ (p *ℤ q) ≡ (a *ℤ q) *ℤ (d *ℤ e)
summand a n p q d e h = rearranged n e p q d ∙ ap (λ x. x *ℤ (q *ℤ e)) (sym h) ∙ times_exchange a d q e

other_summand : (b m p q d e : ℤ) → b *ℤ e ≡ m *ℤ q → (m *ℤ d) *ℤ (p *ℤ q) ≡ (b *ℤ p) *ℤ (d *ℤ e)
other_summand b m p q d e h = ap (λ x. (m *ℤ d) *ℤ x) (*ℤ_comm p q) ∙ summand b m q p e d h ∙ ap (λ x. (b *ℤ p) *ℤ x) (*ℤ_comm e d)

sum_cross : (a b n m p q d e : ℤ) → a *ℤ d ≡ n *ℤ p → b *ℤ e ≡ m *ℤ q → (n *ℤ e +ℤ m *ℤ d) *ℤ (p *ℤ q) ≡ (a *ℤ q +ℤ b *ℤ p) *ℤ (d *ℤ e)
sum_cross a b n m p q d e h k =
    plus_times (n *ℤ e) (m *ℤ d) (p *ℤ q) ∙ ap₂ ◌+ℤ◌ (summand a n p q d e h) (other_summand b m p q d e k) ∙ sym (plus_times (a *ℤ q) (b *ℤ p) (d *ℤ e))

difference_cross : (a b n m p q d e : ℤ) → a *ℤ d ≡ n *ℤ p → b *ℤ e ≡ m *ℤ q → (n *ℤ e -ℤ m *ℤ d) *ℤ (p *ℤ q) ≡ (a *ℤ q -ℤ b *ℤ p) *ℤ (d *ℤ e)
difference_cross a b n m p q d e h k =
    minus_times (n *ℤ e) (m *ℤ d) (p *ℤ q) ∙ ap₂ ◌-ℤ◌ (summand a n p q d e h) (other_summand b m p q d e k) ∙ sym (minus_times (a *ℤ q) (b *ℤ p) (d *ℤ e))

product_cross : (a b n m p q d e : ℤ) → a *ℤ d ≡ n *ℤ p → b *ℤ e ≡ m *ℤ q → (n *ℤ m) *ℤ (p *ℤ q) ≡ (a *ℤ b) *ℤ (d *ℤ e)
product_cross a b n m p q d e h k = times_exchange n m p q ∙ ap₂ ◌*ℤ◌ (sym h) (sym k) ∙ times_exchange a d b e

module _ {n : ℤ} {d : ℕ} {p : Rational} {m : ℤ} {e : ℕ} {q : Rational} (h : Over n d p) (k : Over m e q) where
  -- n over d plus m over e
  pub Over-plus : Over (n *ℤ pos e +ℤ m *ℤ pos d) (d * e) (p +ℚ q)
  unfolding ◌+ℚ◌
  Over-plus =
      let both : 0 < p.den * q.den = mul-pos (den_positive p) (den_positive q) in
      Over-as (Over-frac (p.num *ℤ pos q.den +ℤ q.num *ℤ pos p.den) (p.den * q.den) both) (mul-pos h.positive k.positive)
      (sum_cross p.num q.num n m (pos p.den) (pos q.den) (pos d) (pos e) h.cross k.cross)

  pub Over-minus : Over (n *ℤ pos e -ℤ m *ℤ pos d) (d * e) (p -ℚ q)
  unfolding ◌-ℚ◌
  Over-minus =
      let both : 0 < p.den * q.den = mul-pos (den_positive p) (den_positive q) in
      Over-as (Over-frac (p.num *ℤ pos q.den -ℤ q.num *ℤ pos p.den) (p.den * q.den) both) (mul-pos h.positive k.positive)
      (difference_cross p.num q.num n m (pos p.den) (pos q.den) (pos d) (pos e) h.cross k.cross)

  pub Over-times : Over (n *ℤ m) (d * e) (p *ℚ q)
  unfolding ◌*ℚ◌
  Over-times =
      let both : 0 < p.den * q.den = mul-pos (den_positive p) (den_positive q) in
      Over-as (Over-frac (p.num *ℤ q.num) (p.den * q.den) both) (mul-pos h.positive k.positive)
      (product_cross p.num q.num n m (pos p.den) (pos q.den) (pos d) (pos e) h.cross k.cross)

-- on one denominator
pub Over-plus_same : {n m : ℤ} {d : ℕ} {p q : Rational} → Over n d p → Over m d q → Over (n +ℤ m) d (p +ℚ q)
Over-plus_same {n} {m} {d} h k = Over-as (Over-plus h k) h.positive (joined n m (pos d))
  where
    joined : (n m d : ℤ) → (n +ℤ m) *ℤ (d *ℤ d) ≡ (n *ℤ d +ℤ m *ℤ d) *ℤ d
    joined n m d = sym (times_assoc (n +ℤ m) d d) ∙ ap (λ x. x *ℤ d) (plus_times n m d)

pub Over-minus_same : {n m : ℤ} {d : ℕ} {p q : Rational} → Over n d p → Over m d q → Over (n -ℤ m) d (p -ℚ q)
Over-minus_same {n} {m} {d} h k = Over-as (Over-minus h k) h.positive (joined n m (pos d))
  where
    joined : (n m d : ℤ) → (n -ℤ m) *ℤ (d *ℤ d) ≡ (n *ℤ d -ℤ m *ℤ d) *ℤ d
    joined n m d = sym (times_assoc (n -ℤ m) d d) ∙ ap (λ x. x *ℤ d) (minus_times n m d)

pub Over-neg : {n : ℤ} {d : ℕ} {q : Rational} → Over n d q → Over (neg_ℤ n) d (neg_ℚ q)
unfolding neg_ℚ
Over-neg {n} {d} {q} h = Over-as (Over-frac (neg_ℤ q.num) q.den (den_positive q)) h.positive (turned q.num n (pos q.den) (pos d) h.cross)
  where
    turned : (a n p d : ℤ) → a *ℤ d ≡ n *ℤ p → neg_ℤ n *ℤ p ≡ neg_ℤ a *ℤ d
    turned a n p d e = negate_times n p ∙ ap neg_ℤ (sym e) ∙ sym (negate_times a d)

pub Over-whole : (n : ℤ) → Over n 1 (whole n)
unfolding whole
Over-whole n = Over-frac n 1 (omega arith)

-- zero over anything
pub Over-zero : (d : ℕ) → 0 < d → Over (pos 0) d (whole (pos 0))
Over-zero d h = Over-as (Over-whole (pos 0)) h (ap pos (omega arith))

-- ---- inverses
flipped : (a n p d : ℤ) → a *ℤ d ≡ n *ℤ p → p *ℤ n ≡ d *ℤ a
flipped a n p d e = *ℤ_comm p n ∙ sym e ∙ *ℤ_comm a d

not_below_zero : (a d k : ℕ) → 0 < d → negsuc a *ℤ pos d ≡ pos k → ⊥
not_below_zero a d k h e =
    let m : 0 < suc a * d = mul-pos (omega arith) h in
    omega (arith, ints)

-- a number with a positive numerator is over a positive one only
positive_numerator : (n : ℕ) (d : ℕ) (q : Rational) → 0 < n → Over (pos n) d q → (a : ℤ) → q.num ≡ a → (k : ℕ) × (0 < k) × (q.num ≡ pos k)
positive_numerator n d q h o (pos a) e = (a, above a n d q.den h (den_positive q) (same_pos _ _ (sym (ap (λ x. x *ℤ pos d) e) ∙ o.cross)), e)
  where
    same_pos : (a b : ℕ) → pos a ≡ pos b → a ≡ b
    same_pos a b e = ap nat_abs e

    above : (a n d p : ℕ) → 0 < n → 0 < p → a * d ≡ n * p → 0 < a
    above zero n d p h k e = let m : 0 < n * p = mul-pos h k in absurd (omega arith)
    above (suc a) n d p h k e = omega arith
positive_numerator n d q h o (negsuc a) e = absurd (not_below_zero a d (n * q.den) o.positive (sym (ap (λ x. x *ℤ pos d) e) ∙ o.cross))

Over-flip : (n : ℕ) (d : ℕ) (q : Rational) (h : 0 < n) (o : Over (pos n) d q) (a : ℤ) → q.num ≡ a → Over (pos d) n (flip q.den a)
unfolding flip
Over-flip n d q h o (pos a) e =
    let same : pos a *ℤ pos d ≡ pos n *ℤ pos q.den = ap (λ x. x *ℤ pos d) (sym e) ∙ o.cross in
    let k = positive_numerator n d q h o (pos a) e in
    let above : 0 < a = subst (λ (x : ℕ). 0 < x) (ap nat_abs (sym k.2 ∙ e)) k.1 in
    Over-as (Over-frac (pos q.den) a above) h (sym (flipped (pos a) (pos n) (pos q.den) (pos d) same))
Over-flip n d q h o (negsuc a) e =
    let k = positive_numerator n d q h o (negsuc a) e in
    absurd (lib.IntN.pos-ne-negsuc k.0 a (sym k.2 ∙ e))

-- one over n over d is d over n
pub Over-inverse : {n d : ℕ} {q : Rational} → 0 < n → Over (pos n) d q → Over (pos d) n (inverse q)
unfolding inverse
Over-inverse {n} {d} {q} h o = Over-flip n d q h o q.num refl

Over-flip_negative : (n : ℕ) (d : ℕ) (q : Rational) (o : Over (negsuc n) d q) (a : ℤ) → q.num ≡ a → Over (neg_ℤ (pos d)) (suc n) (flip q.den a)
unfolding flip
Over-flip_negative n d q o (pos a) e = absurd (not_below_zero n q.den (a * d) (den_positive q) (sym (ap (λ x. x *ℤ pos d) (sym e) ∙ o.cross)))
Over-flip_negative n d q o (negsuc a) e =
    let same : negsuc a *ℤ pos d ≡ negsuc n *ℤ pos q.den = ap (λ x. x *ℤ pos d) (sym e) ∙ o.cross in
    let turned = λ (m k : ℕ). negate_times (pos m) (pos (suc k)) ∙ ap neg_ℤ (*ℤ_comm (pos m) (pos (suc k))) in
    Over-as (Over-frac (neg_ℤ (pos q.den)) (suc a) (omega arith)) (omega arith)
    (turned d a ∙ same ∙ sym (turned q.den n))

pub Over-inverse_negative : {n d : ℕ} {q : Rational} → Over (negsuc n) d q → Over (neg_ℤ (pos d)) (suc n) (inverse q)
unfolding inverse
Over-inverse_negative {n} {d} {q} o = Over-flip_negative n d q o q.num refl

-- over zero a fraction is zero
pub frac-zero : (n : ℤ) → frac n 0 ≡ whole (pos 0)
unfolding frac
frac-zero n = sym (frac_over (Over-whole (pos 0)) ∙ sym (frac_over {n = pos 0} {d = 1} (record { positive = omega arith; cross = refl })))

numerator_zero : (d : ℕ) (q : Rational) → Over (pos 0) d q → q.num ≡ pos 0
numerator_zero d q o = times_cancel q.num (pos 0) d o.positive (o.cross ∙ ap pos (omega arith))

-- one over zero is zero
pub inverse-zero : inverse (whole (pos 0)) ≡ whole (pos 0)
unfolding inverse flip
inverse-zero = ap (λ x. flip (whole (pos 0)).den x) (numerator_zero 1 (whole (pos 0)) (Over-whole (pos 0))) ∙ frac-zero (pos (whole (pos 0)).den)

pub Over-divide : {n : ℤ} {d : ℕ} {p : Rational} {m e : ℕ} {q : Rational} → Over n d p → Over (pos m) e q → 0 < m → Over (n *ℤ pos e) (d * m) (p /ℚ q)
unfolding ◌/ℚ◌
Over-divide h k a = Over-times h (Over-inverse a k)

-- ---- lowest terms
-- numerator and denominator, where they share no factor
pub frac_num_lowest : (n : ℤ) (d : ℕ) → 0 < d → gcd (nat_abs n) d ≡ 1 → (frac n d).num ≡ n
frac_num_lowest n d h c = sym (times_one (frac n d).num) ∙ ap (λ (x : ℕ). (frac n d).num *ℤ pos x) (sym c) ∙ frac_num n d h

pub frac_den_lowest : (n : ℤ) (d : ℕ) → 0 < d → gcd (nat_abs n) d ≡ 1 → (frac n d).den ≡ d
frac_den_lowest n d h c = sym (mul-one (frac n d).den) ∙ ap (λ x. (frac n d).den * x) (sym c) ∙ frac_den n d h

-- the same with any greatest common divisor g
pub frac_num_by : (n : ℤ) (d g : ℕ) → 0 < d → IsGcd (nat_abs n) d g → (frac n d).num *ℤ pos g ≡ n
frac_num_by n d g h c = ap (λ (x : ℕ). (frac n d).num *ℤ pos x) (sym (gcd_is (nat_abs n) d g c)) ∙ frac_num n d h

pub frac_den_by : (n : ℤ) (d g : ℕ) → 0 < d → IsGcd (nat_abs n) d g → (frac n d).den * g ≡ d
frac_den_by n d g h c = ap (λ x. (frac n d).den * x) (sym (gcd_is (nat_abs n) d g c)) ∙ frac_den n d h

-- a value with num n and den d is n over d
pub Rational-from_lowest : (n : ℤ) (d : ℕ) → 0 < d → gcd (nat_abs n) d ≡ 1 → (q : Rational) × (q.num ≡ n) × (q.den ≡ d) × (frac n d ≡ q)
Rational-from_lowest n d h c = (frac n d, frac_num_lowest n d h c, frac_den_lowest n d h c, refl)

-- the fact in the type, from its two parts
pub is_lowest_from : (n : ℤ) (d : ℕ) → 0 < d → gcd (nat_abs n) d ≡ 1 → T (is_lowest n d)
is_lowest_from n d h c = both d (gcd (nat_abs n) d) h c
  where
    both : (m k : ℕ) → 0 < m → k ≡ 1 → T (ltb 0 m && eqb k 1)
    both m k p e = search (tests, rules)

-- ---- order
cross_order : (a n p d q e : ℤ) → a *ℤ d ≡ n *ℤ p → (n *ℤ e) *ℤ (p *ℤ q) ≡ (a *ℤ q) *ℤ (d *ℤ e)
cross_order a n p d q e h = summand a n p q d e h

module _ {n : ℤ} {d : ℕ} {p : Rational} {m : ℤ} {e : ℕ} {q : Rational} (h : Over n d p) (k : Over m e q) where
  left_cross : (n *ℤ pos e) *ℤ (pos (p.den * q.den)) ≡ (p.num *ℤ pos q.den) *ℤ pos (d * e)
  left_cross = summand p.num n (pos p.den) (pos q.den) (pos d) (pos e) h.cross

  right_cross : (m *ℤ pos d) *ℤ (pos (p.den * q.den)) ≡ (q.num *ℤ pos p.den) *ℤ pos (d * e)
  right_cross = other_summand q.num m (pos p.den) (pos q.den) (pos d) (pos e) k.cross

  -- the order is that of the cross products
  pub le_from_cross : (n *ℤ pos e) ≤ℤ (m *ℤ pos d) → p ≤ℚ q
  unfolding le_ℚ
  le_from_cross o =
      le_ℚ_yes (scaled_le (n *ℤ pos e) (m *ℤ pos d) (p.num *ℤ pos q.den) (q.num *ℤ pos p.den) (p.den * q.den) (d * e)
      (mul-pos h.positive k.positive) left_cross right_cross o).le

  pub cross_from_le : p ≤ℚ q → (n *ℤ pos e) ≤ℤ (m *ℤ pos d)
  unfolding le_ℚ
  cross_from_le o = scaled_le (p.num *ℤ pos q.den) (q.num *ℤ pos p.den) (n *ℤ pos e) (m *ℤ pos d) (d * e) (p.den * q.den)
      (mul-pos (den_positive p) (den_positive q)) (sym left_cross) (sym right_cross) (le_z_yes (yes_le_ℚ o))

  pub lt_from_cross : (n *ℤ pos e) <ℤ (m *ℤ pos d) → p <ℚ q
  unfolding lt_ℚ
  lt_from_cross o =
      lt_ℚ_yes (scaled_lt (n *ℤ pos e) (m *ℤ pos d) (p.num *ℤ pos q.den) (q.num *ℤ pos p.den) (p.den * q.den) (d * e)
      (mul-pos (den_positive p) (den_positive q)) left_cross right_cross o).lt

  pub cross_from_lt : p <ℚ q → (n *ℤ pos e) <ℤ (m *ℤ pos d)
  unfolding lt_ℚ
  cross_from_lt o = scaled_lt (p.num *ℤ pos q.den) (q.num *ℤ pos p.den) (n *ℤ pos e) (m *ℤ pos d) (d * e) (p.den * q.den) (mul-pos h.positive k.positive)
      (sym left_cross) (sym right_cross) (lt_z_yes (yes_lt_ℚ o))

  pub le_over : ((n *ℤ pos e) ≤ℤ (m *ℤ pos d)) ↔ (p ≤ℚ q)
  le_over = (le_from_cross, cross_from_le)

  pub lt_over : ((n *ℤ pos e) <ℤ (m *ℤ pos d)) ↔ (p <ℚ q)
  lt_over = (lt_from_cross, cross_from_lt)

-- on one denominator the order is that of the numerators
module _ {n m : ℤ} {d : ℕ} {p q : Rational} (h : Over n d p) (k : Over m d q) where
  pub le_from_num : n ≤ℤ m → p ≤ℚ q
  le_from_num o = le_from_cross h k (times_le n m d o)

  pub num_from_le : p ≤ℚ q → n ≤ℤ m
  num_from_le o = times_le_cancel n m d h.positive (cross_from_le h k o)

  pub lt_from_num : n <ℤ m → p <ℚ q
  lt_from_num o = lt_from_cross h k (times_lt n m d h.positive o)

  pub num_from_lt : p <ℚ q → n <ℤ m
  num_from_lt o = times_lt_cancel n m d (cross_from_lt h k o)

  -- and so is equality
  pub same_from_num : n ≡ m → p ≡ q
  same_from_num o = same_over (subst (λ x. Over x d p) o h) k

  pub num_from_same : p ≡ q → n ≡ m
  num_from_same o = times_cancel n m d h.positive (cross_over k (subst (λ x. Over n d x) o h))

-- ---- the tests
so_from_T : (b : Bool) → T b → b ≡ true
so_from_T true t = refl
so_from_T false t = absurd t

T_from_so : (b : Bool) → b ≡ true → T b
T_from_so b e = subst T (sym e) tt

not_le : (a b : ℤ) → le_z a b ≡ false → T (lt_z b a)
not_le a b e = omega (arith, ints)

le_not : (a b : ℤ) → T (lt_z b a) → le_z a b ≡ false
le_not a b t = sym (false_is_le a b (lt_T b a t))

not_lt : (a b : ℤ) → lt_z a b ≡ false → T (le_z b a)
not_lt a b e = omega (arith, ints)

lt_not : (a b : ℤ) → T (le_z b a) → lt_z a b ≡ false
lt_not a b t = sym (false_is_lt a b (le_T b a t))

-- a test answers true exactly where its order holds, and false exactly where the reverse one does
pub le_ℚ-true : (p q : Rational) → (le_ℚ p q ≡ true) ↔ (p ≤ℚ q)
le_ℚ-true p q = (λ e. le_ℚ_yes (T_from_so (le_ℚ p q) e), λ h. so_from_T (le_ℚ p q) (yes_le_ℚ h))

pub lt_ℚ-true : (p q : Rational) → (lt_ℚ p q ≡ true) ↔ (p <ℚ q)
lt_ℚ-true p q = (λ e. lt_ℚ_yes (T_from_so (lt_ℚ p q) e), λ h. so_from_T (lt_ℚ p q) (yes_lt_ℚ h))

pub le_ℚ-false : (p q : Rational) → (le_ℚ p q ≡ false) ↔ (q <ℚ p)
unfolding le_ℚ lt_ℚ
le_ℚ-false p q =
    let a = p.num *ℤ pos q.den in
    let b = q.num *ℤ pos p.den in
    (λ e. lt_ℚ_yes (not_le a b e), λ h. le_not a b (yes_lt_ℚ h))

pub lt_ℚ-false : (p q : Rational) → (lt_ℚ p q ≡ false) ↔ (q ≤ℚ p)
unfolding le_ℚ lt_ℚ
lt_ℚ-false p q =
    let a = p.num *ℤ pos q.den in
    let b = q.num *ℤ pos p.den in
    (λ e. le_ℚ_yes (not_lt a b e), λ h. lt_not a b (yes_le_ℚ h))

-- ---- rounding down
-- the quotient rounded down, between the number and one below it
pub quotient_below : (n : ℤ) (d : ℕ) → 0 < d → (int_div_euclid n (pos d) *ℤ pos d) ≤ℤ n
quotient_below (pos a) d h = at_most_in _ _ (omega (arith, div-mul-le_self a d))
quotient_below (negsuc a) d h =
    let l : a < (a / d) * d + d = lt-div-mul-add h in
    let p = product_is (negsuc (a / d)) (pos d) in
    at_most_in _ _ (omega arith)

pub quotient_above : (n : ℤ) (d : ℕ) → 0 < d → n <ℤ ((int_div_euclid n (pos d) +ℤ pos 1) *ℤ pos d)
quotient_above (pos a) d h =
    let l : a < (a / d) * d + d = lt-div-mul-add h in
    below_in _ _ (omega arith)
quotient_above (negsuc a) d h =
    let l = div-mul-le_self a d in
    let p = product_is (negsuc (a / d)) (pos d) in
    let s = sum_is_lem (negsuc (a / d) *ℤ pos d) (pos 1 *ℤ pos d) in
    subst (λ x. negsuc a <ℤ x) (sym (plus_times (negsuc (a / d)) (pos 1) (pos d))) (below_in _ _ (omega arith))

le_lt : (a b c : ℤ) → a ≤ℤ b → b <ℤ c → a <ℤ c
le_lt a b c h k = below_in a c (omega (arith, ints))

squeezed : (a b : ℤ) → a <ℤ (b +ℤ pos 1) → b <ℤ (a +ℤ pos 1) → a ≡ b
squeezed a b h k = omega (arith, ints)

-- and it alone
pub quotient_unique : (n : ℤ) (d : ℕ) (k : ℤ) → 0 < d → (k *ℤ pos d) ≤ℤ n → n <ℤ ((k +ℤ pos 1) *ℤ pos d) → int_div_euclid n (pos d) ≡ k
quotient_unique n d k p h l =
    let f = int_div_euclid n (pos d) in
    squeezed f k
    (times_lt_cancel f (k +ℤ pos 1) d (le_lt _ _ _ (quotient_below n d p) l))
    (times_lt_cancel k (f +ℤ pos 1) d (le_lt _ _ _ h (quotient_above n d p)))

-- the floor of n over d is the quotient rounded down
pub Over-floor : {n : ℤ} {d : ℕ} {q : Rational} → Over n d q → floor q ≡ int_div_euclid n (pos d)
unfolding floor
Over-floor {n} {d} {q} h =
    let f = int_div_euclid n (pos d) in
    quotient_unique q.num q.den f (den_positive q)
    (scaled_le (f *ℤ pos d) n (f *ℤ pos q.den) q.num q.den d h.positive (times_right_comm f (pos d) (pos q.den)) (sym h.cross) (quotient_below n d h.positive))
    (scaled_lt n ((f +ℤ pos 1) *ℤ pos d) q.num ((f +ℤ pos 1) *ℤ pos q.den) q.den d (den_positive q) (sym h.cross)
    (times_right_comm (f +ℤ pos 1) (pos d) (pos q.den)) (quotient_above n d h.positive))

-- and the ceiling that of the opposite, turned back
pub Over-ceil : {n : ℤ} {d : ℕ} {q : Rational} → Over n d q → ceil q ≡ neg_ℤ (int_div_euclid (neg_ℤ n) (pos d))
unfolding ceil
Over-ceil h = ap neg_ℤ (Over-floor (Over-neg h))
