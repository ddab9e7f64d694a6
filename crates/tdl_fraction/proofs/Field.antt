-- The rationals are a commutative ring with inverses.
use Rattle.std.proofs.Common.{◌≡◌, ◌≢◌, ℕ, zero, suc, ◌*◌, ◌<◌, [], ◌∷◌, ℤ, pos, negsuc, ◌+ℤ◌, ◌-ℤ◌, ◌*ℤ◌, neg_ℤ, arith, refl, sym, ap, ap₂, ◌∙◌, subst}
use lib.Dec.{T, T_prop}
use lib.IntN.{ℤ_set}
use native.Mathlib.Nat.{ℕ_set}
use mathlib.Core.Bool.{Bool}
use Rattle.tdl_ring.specs.Ring.{CommutativeRing}
use Rattle.tdl_ring.proofs.Integers.{integers}
use Rattle.tdl_ring.proofs.Quoting.{by_ring, ring}
use Rattle.tdl_fraction.specs.Rational.{Rational, frac, whole, ◌+ℚ◌, ◌-ℚ◌, ◌*ℚ◌, ◌/ℚ◌, neg_ℚ, inverse}
use Rattle.tdl_fraction.proofs.Over.{Over, den_positive, Over-self, Over-frac, Over-plus, Over-minus, Over-times, Over-neg, Over-whole, Over-zero}
use Rattle.tdl_fraction.proofs.Over.{Over-plus_same, Over-minus_same, Over-inverse, Over-inverse_negative, same_over, same_cross_over, frac_over, frac-zero}
use Rattle.tdl_fraction.proofs.Over.{inverse-zero}

-- ---- the equations between cross products
module _ (a b c p q r : ℤ) where
  sum_turned : (a *ℤ q +ℤ b *ℤ p) *ℤ (q *ℤ p) ≡ (b *ℤ p +ℤ a *ℤ q) *ℤ (p *ℤ q)
  sum_turned = by_ring integers (a ∷ b ∷ p ∷ q ∷ []) (search ring depth 12) refl

  sums : ((a *ℤ q +ℤ b *ℤ p) *ℤ r +ℤ c *ℤ (p *ℤ q)) *ℤ (p *ℤ (q *ℤ r)) ≡ (a *ℤ (q *ℤ r) +ℤ (b *ℤ r +ℤ c *ℤ q) *ℤ p) *ℤ ((p *ℤ q) *ℤ r)
  sums = by_ring integers (a ∷ b ∷ c ∷ p ∷ q ∷ r ∷ []) (search ring depth 12) refl

  product_turned : (a *ℤ b) *ℤ (q *ℤ p) ≡ (b *ℤ a) *ℤ (p *ℤ q)
  product_turned = by_ring integers (a ∷ b ∷ p ∷ q ∷ []) (search ring depth 12) refl

  products : ((a *ℤ b) *ℤ c) *ℤ (p *ℤ (q *ℤ r)) ≡ (a *ℤ (b *ℤ c)) *ℤ ((p *ℤ q) *ℤ r)
  products = by_ring integers (a ∷ b ∷ c ∷ p ∷ q ∷ r ∷ []) (search ring depth 12) refl

  distributed : (a *ℤ (b *ℤ r +ℤ c *ℤ q)) *ℤ ((p *ℤ q) *ℤ (p *ℤ r)) ≡ ((a *ℤ b) *ℤ (p *ℤ r) +ℤ (a *ℤ c) *ℤ (p *ℤ q)) *ℤ (p *ℤ (q *ℤ r))
  distributed = by_ring integers (a ∷ b ∷ c ∷ p ∷ q ∷ r ∷ []) (search ring depth 12) refl

  difference : (a *ℤ q -ℤ b *ℤ p) *ℤ (p *ℤ q) ≡ (a *ℤ q +ℤ neg_ℤ b *ℤ p) *ℤ (p *ℤ q)
  difference = by_ring integers (a ∷ b ∷ p ∷ q ∷ []) (search ring depth 12) refl

  opposites : (a *ℤ p +ℤ neg_ℤ a *ℤ p) *ℤ pos 1 ≡ pos 0 *ℤ (p *ℤ p)
  opposites = by_ring integers (a ∷ p ∷ []) (search ring depth 12) refl

  nothing_added : (a *ℤ pos 1 +ℤ pos 0 *ℤ p) *ℤ p ≡ a *ℤ (p *ℤ pos 1)
  nothing_added = by_ring integers (a ∷ p ∷ []) (search ring depth 12) refl

  by_one : (a *ℤ pos 1) *ℤ p ≡ a *ℤ (p *ℤ pos 1)
  by_one = by_ring integers (a ∷ p ∷ []) (search ring depth 12) refl

  ratio : (a *ℤ p) *ℤ pos 1 ≡ pos 1 *ℤ (p *ℤ a)
  ratio = by_ring integers (a ∷ p ∷ []) (search ring depth 12) refl

  negative_ratio : (neg_ℤ a *ℤ neg_ℤ p) *ℤ pos 1 ≡ pos 1 *ℤ (p *ℤ a)
  negative_ratio = by_ring integers (a ∷ p ∷ []) (search ring depth 12) refl

-- ---- the laws
pub +ℚ_comm : (x y : Rational) → x +ℚ y ≡ y +ℚ x
+ℚ_comm x y =
    let a = Over-self x in
    let b = Over-self y in
    same_cross_over (Over-plus a b) (Over-plus b a) (sum_turned x.num y.num (pos 0) (pos x.den) (pos y.den) (pos 0))

pub +ℚ_assoc : (x y z : Rational) → (x +ℚ y) +ℚ z ≡ x +ℚ (y +ℚ z)
+ℚ_assoc x y z =
    let a = Over-self x in
    let b = Over-self y in
    let c = Over-self z in
    same_cross_over (Over-plus (Over-plus a b) c) (Over-plus a (Over-plus b c)) (sums x.num y.num z.num (pos x.den) (pos y.den) (pos z.den))

pub *ℚ_comm : (x y : Rational) → x *ℚ y ≡ y *ℚ x
*ℚ_comm x y =
    let a = Over-self x in
    let b = Over-self y in
    same_cross_over (Over-times a b) (Over-times b a) (product_turned x.num y.num (pos 0) (pos x.den) (pos y.den) (pos 0))

pub *ℚ_assoc : (x y z : Rational) → (x *ℚ y) *ℚ z ≡ x *ℚ (y *ℚ z)
*ℚ_assoc x y z =
    let a = Over-self x in
    let b = Over-self y in
    let c = Over-self z in
    same_cross_over (Over-times (Over-times a b) c) (Over-times a (Over-times b c)) (products x.num y.num z.num (pos x.den) (pos y.den) (pos z.den))

-- times distributes over plus, from either side
pub *ℚ-plus : (x y z : Rational) → x *ℚ (y +ℚ z) ≡ (x *ℚ y) +ℚ (x *ℚ z)
*ℚ-plus x y z =
    let a = Over-self x in
    let b = Over-self y in
    let c = Over-self z in
    same_cross_over (Over-times a (Over-plus b c)) (Over-plus (Over-times a b) (Over-times a c))
    (distributed x.num y.num z.num (pos x.den) (pos y.den) (pos z.den))

pub plus-*ℚ : (x y z : Rational) → (x +ℚ y) *ℚ z ≡ (x *ℚ z) +ℚ (y *ℚ z)
plus-*ℚ x y z = *ℚ_comm (x +ℚ y) z ∙ *ℚ-plus z x y ∙ ap₂ ◌+ℚ◌ (*ℚ_comm z x) (*ℚ_comm z y)

-- a difference is a sum with the opposite
pub -ℚ_is : (x y : Rational) → x -ℚ y ≡ x +ℚ neg_ℚ y
-ℚ_is x y =
    let a = Over-self x in
    let b = Over-self y in
    same_cross_over (Over-minus a b) (Over-plus a (Over-neg b)) (difference x.num y.num (pos 0) (pos x.den) (pos y.den) (pos 0))

pub +ℚ-neg : (x : Rational) → x +ℚ neg_ℚ x ≡ whole (pos 0)
+ℚ-neg x = let a = Over-self x in same_cross_over (Over-plus a (Over-neg a)) (Over-whole (pos 0)) (opposites x.num (pos 0) (pos 0) (pos x.den) (pos 0) (pos 0))

-- zero and one are neutral
pub +ℚ-zero : (x : Rational) → x +ℚ whole (pos 0) ≡ x
+ℚ-zero x = let a = Over-self x in same_cross_over (Over-plus a (Over-whole (pos 0))) a (nothing_added x.num (pos 0) (pos 0) (pos x.den) (pos 0) (pos 0))

pub zero-+ℚ : (x : Rational) → whole (pos 0) +ℚ x ≡ x
zero-+ℚ x = +ℚ_comm (whole (pos 0)) x ∙ +ℚ-zero x

pub *ℚ-one : (x : Rational) → x *ℚ whole (pos 1) ≡ x
*ℚ-one x = let a = Over-self x in same_cross_over (Over-times a (Over-whole (pos 1))) a (by_one x.num (pos 0) (pos 0) (pos x.den) (pos 0) (pos 0))

pub one-*ℚ : (x : Rational) → whole (pos 1) *ℚ x ≡ x
one-*ℚ x = *ℚ_comm (whole (pos 1)) x ∙ *ℚ-one x

-- ---- whole numbers among the rationals
pub whole-plus : (m n : ℤ) → whole (m +ℤ n) ≡ whole m +ℚ whole n
whole-plus m n = same_over (Over-whole (m +ℤ n)) (Over-plus_same (Over-whole m) (Over-whole n))

pub whole-minus : (m n : ℤ) → whole (m -ℤ n) ≡ whole m -ℚ whole n
whole-minus m n = same_over (Over-whole (m -ℤ n)) (Over-minus_same (Over-whole m) (Over-whole n))

pub whole-times : (m n : ℤ) → whole (m *ℤ n) ≡ whole m *ℚ whole n
whole-times m n = same_over (Over-whole (m *ℤ n)) (Over-times (Over-whole m) (Over-whole n))

pub whole-neg : (n : ℤ) → whole (neg_ℤ n) ≡ neg_ℚ (whole n)
whole-neg n = same_over (Over-whole (neg_ℤ n)) (Over-neg (Over-whole n))

-- the rationals, for the ring solver
abbrev pub rationals : CommutativeRing Rational
rationals = record {
  zero = whole (pos 0);
  one = whole (pos 1);
  plus = ◌+ℚ◌;
  times = ◌*ℚ◌;
  negate = neg_ℚ;
  minus = ◌-ℚ◌;
  whole = whole;
  plus_assoc = +ℚ_assoc;
  plus_comm = +ℚ_comm;
  plus_zero = +ℚ-zero;
  plus_negate = +ℚ-neg;
  minus_is = -ℚ_is;
  times_assoc = *ℚ_assoc;
  times_comm = *ℚ_comm;
  times_one = *ℚ-one;
  times_plus = *ℚ-plus;
  whole_zero = refl;
  whole_one = refl;
  whole_plus = whole-plus;
  whole_times = whole-times;
}

-- ---- what the ring laws give
pub +ℚ-minus : (x y : Rational) → (x +ℚ y) -ℚ y ≡ x
+ℚ-minus x y = by_ring rationals (x ∷ y ∷ []) (search ring depth 12) refl

pub plus-whole_neg : (x : Rational) (n : ℤ) → x +ℚ whole (neg_ℤ n) ≡ x -ℚ whole n
plus-whole_neg x n = ap (λ y. x +ℚ y) (whole-neg n) ∙ sym (-ℚ_is x (whole n))

pub -ℚ-plus : (x y : Rational) → (x -ℚ y) +ℚ y ≡ x
-ℚ-plus x y = by_ring rationals (x ∷ y ∷ []) (search ring depth 12) refl

pub -ℚ_self : (x : Rational) → x -ℚ x ≡ whole (pos 0)
-ℚ_self x = by_ring rationals (x ∷ []) (search ring depth 12) refl

pub neg_ℚ-neg_ℚ : (x : Rational) → neg_ℚ (neg_ℚ x) ≡ x
neg_ℚ-neg_ℚ x = by_ring rationals (x ∷ []) (search ring depth 12) refl

pub minus-*ℚ : (x y z : Rational) → (x -ℚ y) *ℚ z ≡ (x *ℚ z) -ℚ (y *ℚ z)
minus-*ℚ x y z = by_ring rationals (x ∷ y ∷ z ∷ []) (search ring depth 12) refl

pub *ℚ-zero : (x : Rational) → x *ℚ whole (pos 0) ≡ whole (pos 0)
*ℚ-zero x = by_ring rationals (x ∷ []) (search ring depth 12) refl

-- ---- inverses
pub zero_from_num : (x : Rational) → x.num ≡ pos 0 → x ≡ whole (pos 0)
zero_from_num x e = same_over (subst (λ (n : ℤ). Over n x.den x) e (Over-self x)) (Over-zero x.den (den_positive x))

inverse_by_num : (x : Rational) (a : ℤ) → x.num ≡ a → x ≢ whole (pos 0) → x *ℚ inverse x ≡ whole (pos 1)
inverse_by_num x (pos zero) e h = absurd (h (zero_from_num x e))
inverse_by_num x (pos (suc n)) e h =
    let a : Over (pos (suc n)) x.den x = subst (λ (m : ℤ). Over m x.den x) e (Over-self x) in
    same_cross_over (Over-times a (Over-inverse (omega arith) a)) (Over-whole (pos 1)) (ratio (pos (suc n)) (pos 0) (pos 0) (pos x.den) (pos 0) (pos 0))
inverse_by_num x (negsuc n) e h =
    let a : Over (negsuc n) x.den x = subst (λ (m : ℤ). Over m x.den x) e (Over-self x) in
    same_cross_over (Over-times a (Over-inverse_negative a)) (Over-whole (pos 1)) (negative_ratio (pos (suc n)) (pos 0) (pos 0) (pos x.den) (pos 0) (pos 0))

-- a number other than zero times its inverse is one
pub *ℚ-inverse : (x : Rational) → x ≢ whole (pos 0) → x *ℚ inverse x ≡ whole (pos 1)
*ℚ-inverse x h = inverse_by_num x x.num refl h

-- what is multiplied can be divided out, and what is divided multiplied back
pub *ℚ-divide : (x y : Rational) → y ≢ whole (pos 0) → (x *ℚ y) /ℚ y ≡ x
unfolding ◌/ℚ◌
*ℚ-divide x y h = *ℚ_assoc x y (inverse y) ∙ ap (λ z. x *ℚ z) (*ℚ-inverse y h) ∙ *ℚ-one x

pub /ℚ-times : (x y : Rational) → y ≢ whole (pos 0) → (x /ℚ y) *ℚ y ≡ x
unfolding ◌/ℚ◌
/ℚ-times x y h = *ℚ_assoc x (inverse y) y ∙ ap (λ z. x *ℚ z) (*ℚ_comm (inverse y) y ∙ *ℚ-inverse y h) ∙ *ℚ-one x

-- a factor other than zero is struck out
pub *ℚ_cancel : (x y z : Rational) → z ≢ whole (pos 0) → x *ℚ z ≡ y *ℚ z → x ≡ y
*ℚ_cancel x y z h e = sym (*ℚ-divide x z h) ∙ ap (λ w. w /ℚ z) e ∙ *ℚ-divide y z h

pub +ℚ_cancel : (x y z : Rational) → x +ℚ z ≡ y +ℚ z → x ≡ y
+ℚ_cancel x y z e = sym (+ℚ-minus x z) ∙ ap (λ w. w -ℚ z) e ∙ +ℚ-minus y z

pub inverse-one : inverse (whole (pos 1)) ≡ whole (pos 1)
inverse-one = same_over (Over-inverse (omega arith) (Over-whole (pos 1))) (Over-whole (pos 1))

pub /ℚ-one : (x : Rational) → x /ℚ whole (pos 1) ≡ x
unfolding ◌/ℚ◌
/ℚ-one x = ap (λ z. x *ℚ z) inverse-one ∙ *ℚ-one x

pub zero-/ℚ : (y : Rational) → whole (pos 0) /ℚ y ≡ whole (pos 0)
unfolding ◌/ℚ◌
zero-/ℚ y = *ℚ_comm (whole (pos 0)) (inverse y) ∙ *ℚ-zero (inverse y)

-- a quotient is a product with the inverse, and takes sums apart
pub /ℚ_is : (x y : Rational) → x /ℚ y ≡ x *ℚ inverse y
unfolding ◌/ℚ◌
/ℚ_is x y = refl

pub plus-/ℚ : (x y z : Rational) → (x +ℚ y) /ℚ z ≡ (x /ℚ z) +ℚ (y /ℚ z)
unfolding ◌/ℚ◌
plus-/ℚ x y z = plus-*ℚ x y (inverse z)

pub minus-/ℚ : (x y z : Rational) → (x -ℚ y) /ℚ z ≡ (x /ℚ z) -ℚ (y /ℚ z)
unfolding ◌/ℚ◌
minus-/ℚ x y z = minus-*ℚ x y (inverse z)

-- ---- n over d by these
pub frac-quotient : (n : ℤ) (d : ℕ) → frac n d ≡ whole n /ℚ whole (pos d)
unfolding ◌/ℚ◌
frac-quotient n zero = frac-zero n ∙ sym (ap (λ z. whole n *ℚ z) inverse-zero ∙ *ℚ-zero (whole n))
frac-quotient n (suc k) =
    same_cross_over (Over-frac n (suc k) (omega arith)) (Over-times (Over-whole n) (Over-inverse (omega arith) (Over-whole (pos (suc k)))))
    (shifted n (pos (suc k)))
  where
    shifted : (n d : ℤ) → n *ℤ (pos 1 *ℤ d) ≡ (n *ℤ pos 1) *ℤ d
    shifted n d = by_ring integers (n ∷ d ∷ []) (search ring depth 12) refl

pub frac-one : (n : ℤ) → frac n 1 ≡ whole n
unfolding whole
frac-one n = refl

pub frac-plus : (n m : ℤ) (d : ℕ) → 0 < d → frac n d +ℚ frac m d ≡ frac (n +ℤ m) d
frac-plus n m d h = frac_over (Over-plus_same (Over-frac n d h) (Over-frac m d h))

pub frac-times : (n m : ℤ) (d e : ℕ) → 0 < d → 0 < e → frac n d *ℚ frac m e ≡ frac (n *ℤ m) (d * e)
frac-times n m d e h k = frac_over (Over-times (Over-frac n d h) (Over-frac m e k))

-- the rationals are a set
pub Rational-set : IsSet Rational
Rational-set = hlevel (ℤ_set, ℕ_set, is_lowest_prop)
  where
    is_lowest_prop : (b : Bool) → IsProp (T b)
    is_lowest_prop b = T_prop b
