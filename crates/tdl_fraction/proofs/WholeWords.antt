-- What the program's words come to where whole numbers move a fraction: they are the parts of the result.
use Rattle.std.specs.Prelude.{◌≡◌, ℕ, zero, suc, ◌*◌, ◌/◌, ◌^◌, ◌<◌, ◌≤◌, ℤ, pos, neg_ℤ, nat_abs, ◌+ℤ◌, ◌-ℤ◌, ◌*ℤ◌, FitsSigned}
use Rattle.std.proofs.Common.{to_z, of_z, w64, sym, ap, ap₂, ◌∙◌, subst, arith}
use Rattle.std.proofs.lemmas.Int.{ints, to_z-of_z}
use Rattle.std.proofs.Math.Nat.{div-le_self}
use mir.Syntax.{w128}
use Rattle.tdl_fraction.specs.Divisor.{gcd}
use Rattle.tdl_fraction.specs.Rational.{Rational, frac, whole, ◌+ℚ◌, ◌-ℚ◌, ◌*ℚ◌, ◌/ℚ◌}
use Rattle.tdl_fraction.specs.Range.{InRange}
use Rattle.tdl_fraction.proofs.Over.{den_positive}
use Rattle.tdl_fraction.proofs.Field.{plus-whole_neg}
use Rattle.tdl_fraction.proofs.Quotients.{shortened}
use Rattle.tdl_fraction.proofs.Wholes.{plus_whole_parts, whole_minus_parts, times_plus_parts, divided_parts, whole_from_den}
use Rattle.tdl_fraction.proofs.Words128.{near_fits, near_is, sum_is, sum_fits, difference_is, times_seen, times_near, times_fits}

-- a signed word is itself in 128 bits
pub widened : (n : ℤ) → FitsSigned w64 n → to_z w128 (of_z w128 (to_z w64 (of_z w64 n))) ≡ n
widened n f = omega (arith, ints)

-- its size is small
word_near : (n : ℤ) → FitsSigned w64 n → nat_abs n ≤ 2 ^ 80
word_near n f = omega (arith, ints)

-- and a multiple of it
abbrev multiple : ℤ → ℕ → ℤ
multiple n d = to_z w128 (of_z w128 (to_z w64 (of_z w64 n))) *ℤ to_z w128 d

multiple_seen : (n : ℤ) (d : ℕ) → FitsSigned w64 n → d ≤ 2 ^ 44 → multiple n d ≡ n *ℤ pos d
multiple_seen n d f h = ap (λ n. to_z w128 (of_z w128 n) *ℤ to_z w128 d) (to_z-of_z w64 n f) ∙ times_seen n d (word_near n f) h

pub multiple_fits : (n : ℤ) (d : ℕ) → FitsSigned w64 n → d ≤ 2 ^ 44 → FitsSigned w128 (multiple n d)
multiple_fits n d f h = rw (multiple_seen n d f h) (near_fits _ (times_near n d (word_near n f) h))

-- a sum with a multiple, and a difference
plus_multiple : (a n : ℤ) (d : ℕ) → nat_abs a ≤ 2 ^ 124 → FitsSigned w64 n → d ≤ 2 ^ 44
    → to_z w128 (of_z w128 (to_z w128 (of_z w128 a) +ℤ to_z w128 (of_z w128 (multiple n d)))) ≡ a +ℤ n *ℤ pos d
plus_multiple a n d near f h =
    ap (λ b. to_z w128 (of_z w128 (to_z w128 (of_z w128 a) +ℤ to_z w128 (of_z w128 b)))) (multiple_seen n d f h)
    ∙ sum_is a (n *ℤ pos d) near (times_near n d (word_near n f) h)

multiple_minus : (a n : ℤ) (d : ℕ) → nat_abs a ≤ 2 ^ 124 → FitsSigned w64 n → d ≤ 2 ^ 44
    → to_z w128 (of_z w128 (to_z w128 (of_z w128 (multiple n d)) -ℤ to_z w128 (of_z w128 a))) ≡ n *ℤ pos d -ℤ a
multiple_minus a n d near f h =
    ap (λ b. to_z w128 (of_z w128 (to_z w128 (of_z w128 b) -ℤ to_z w128 (of_z w128 a)))) (multiple_seen n d f h)
    ∙ difference_is (n *ℤ pos d) a (times_near n d (word_near n f) h) near

-- ---- a whole number added, or taken from
module _ (x : Rational) (c a : ℤ) (d : ℕ) (fits : FitsSigned w64 c) (in_range : InRange x) (num : a ≡ x.num) (den : d ≡ x.den) where
  near : nat_abs a ≤ 2 ^ 124
  near = rw num (omega arith)

  fine : d ≤ 2 ^ 44
  fine = rw den (omega arith)

  pub plus_whole_num : to_z w128 (of_z w128 (to_z w128 (of_z w128 a) +ℤ to_z w128 (of_z w128 (multiple c d)))) ≡ (x +ℚ whole c).num
  plus_whole_num = plus_multiple a c d near fits fine ∙ ap₂ (λ a d. a +ℤ c *ℤ pos d) num den ∙ (plus_whole_parts x c).0

  pub plus_whole_den : d ≡ (x +ℚ whole c).den
  plus_whole_den = den ∙ (plus_whole_parts x c).1

  pub whole_minus_num : to_z w128 (of_z w128 (to_z w128 (of_z w128 (multiple c d)) -ℤ to_z w128 (of_z w128 a))) ≡ (whole c -ℚ x).num
  whole_minus_num = multiple_minus a c d near fits fine ∙ ap₂ (λ a d. c *ℤ pos d -ℤ a) num den ∙ (whole_minus_parts x c).0

  pub whole_minus_den : d ≡ (whole c -ℚ x).den
  whole_minus_den = den ∙ (whole_minus_parts x c).1

-- ---- a product with a whole number, and another more
module _ (x : Rational) (times : ℕ) (plus a : ℤ) (t d e : ℕ) (small : times ≤ 2 ^ 44) (fits : FitsSigned w64 plus) (in_range : InRange x) (num : a ≡ x.num)
    (den : e ≡ x.den) (factor : t ≡ times / gcd times e) (rest : d ≡ e / gcd times e) where
  own_near : nat_abs a ≤ 2 ^ 80
  own_near = rw num (omega arith)

  own_factor_small : t ≤ 2 ^ 44
  own_factor_small = rw factor (omega (arith, div-le_self times (gcd times e)))

  rest_small : d ≤ 2 ^ 44
  rest_small = rw (rest, den) (omega (arith, div-le_self x.den (gcd times x.den)))

  abbrev product : ℤ
  product = to_z w128 (of_z w128 a) *ℤ to_z w128 t

  pub product_fits : FitsSigned w128 product
  product_fits = times_fits a t own_near own_factor_small

  pub rest_fits : FitsSigned w128 (multiple plus d)
  rest_fits = multiple_fits plus d fits rest_small

  product_near : nat_abs product ≤ 2 ^ 124
  product_near = rw (times_seen a t own_near own_factor_small) (times_near a t own_near own_factor_small)

  multiple_near : nat_abs (multiple plus d) ≤ 2 ^ 124
  multiple_near = rw (multiple_seen plus d fits rest_small) (times_near plus d (word_near plus fits) rest_small)

  pub scaled_fits : FitsSigned w128 (to_z w128 (of_z w128 product) +ℤ to_z w128 (of_z w128 (multiple plus d)))
  scaled_fits = rw (near_is product product_near, near_is (multiple plus d) multiple_near) (sum_fits product (multiple plus d) product_near multiple_near)

  pub scaled_num : to_z w128 (of_z w128 (to_z w128 (of_z w128 product) +ℤ to_z w128 (of_z w128 (multiple plus d)))) ≡ (x *ℚ whole (pos times) +ℚ whole plus).num
  scaled_num =
      plus_multiple product plus d product_near fits rest_small
      ∙ ap₂ (λ p d. p +ℤ plus *ℤ pos d) (times_seen a t own_near own_factor_small ∙ ap₂ (λ a t. a *ℤ pos t) num (factor ∙ ap (λ e. times / gcd times e) den))
      (rest ∙ ap (λ e. e / gcd times e) den)
      ∙ (times_plus_parts x times plus).0

  pub scaled_den : d ≡ (x *ℚ whole (pos times) +ℚ whole plus).den
  scaled_den = rest ∙ ap (λ e. e / gcd times e) den ∙ (times_plus_parts x times plus).1

-- ---- and all divided by a whole number: n over d is the product, and e what is left of the divisor
module _ (x : Rational) (times : ℕ) (plus n : ℤ) (over d e : ℕ) (positive : 0 < over)
    (in_range : InRange ((x *ℚ whole (pos times) +ℚ whole plus) /ℚ whole (pos over)))
    (word : FitsSigned w64 plus) (num : n ≡ (x *ℚ whole (pos times) +ℚ whole (to_z w64 (of_z w64 plus))).num) (fits : FitsSigned w128 n)
    (own : d ≡ (x *ℚ whole (pos times) +ℚ whole (to_z w64 (of_z w64 plus))).den) (den : e ≡ (frac (to_z w128 (of_z w128 n)) over).den) where
  abbrev scaled : Rational
  scaled = x *ℚ whole (pos times) +ℚ whole plus

  seen : x *ℚ whole (pos times) +ℚ whole (to_z w64 (of_z w64 plus)) ≡ scaled
  seen = ap (λ p. x *ℚ whole (pos times) +ℚ whole p) (to_z-of_z w64 plus word)

  reduced : frac (to_z w128 (of_z w128 n)) over ≡ frac scaled.num over
  reduced = ap (λ n. frac n over) (to_z-of_z w128 n fits ∙ num ∙ ap (λ x. x.num) seen)

  pub divided_den : d * e ≡ (scaled /ℚ whole (pos over)).den
  divided_den = ap₂ ◌*◌ (own ∙ ap (λ x. x.den) seen) (den ∙ ap (λ x. x.den) reduced) ∙ (divided_parts scaled over positive).1

  pub divided_small : d * e ≤ 2 ^ 44
  divided_small = rw divided_den in_range.fine

  pub factor_small : e ≤ 2 ^ 44
  factor_small = factor d (subst (λ k. 0 < k) (sym (own ∙ ap (λ x. x.den) seen)) (den_positive scaled)) divided_small
    where
      factor : (d : ℕ) → 0 < d → d * e ≤ 2 ^ 44 → e ≤ 2 ^ 44
      factor zero p h = absurd (omega arith)
      factor (suc d) p h = omega arith

  pub divided_num : (m : ℤ) → FitsSigned w128 m → m ≡ (frac (to_z w128 (of_z w128 n)) over).num → to_z w128 (of_z w128 m) ≡ (scaled /ℚ whole (pos over)).num
  divided_num m f e = to_z-of_z w128 m f ∙ e ∙ ap (λ x. x.num) reduced ∙ (divided_parts scaled over positive).0

-- ---- a whole number y, as it is passed
module _ (x y : Rational) (b : ℤ) (in_range : InRange y) (num : b ≡ y.num) (one : y.den ≡ 1) where
  whole_near : nat_abs b ≤ 2 ^ 36
  whole_near = rw num (omega (arith, in_range.near, one))

  pub plus_passed : x +ℚ whole (to_z w64 (of_z w64 (to_z w128 (of_z w128 b)))) ≡ x +ℚ y
  plus_passed = ap (λ n. x +ℚ whole n) (shortened b whole_near ∙ num) ∙ ap (λ z. x +ℚ z) (sym (whole_from_den y one))

  pub minus_passed : x +ℚ whole (to_z w64 (of_z w64 (pos 0 -ℤ to_z w64 (of_z w64 (to_z w128 (of_z w128 b)))))) ≡ x -ℚ y
  minus_passed =
      ap (λ n. x +ℚ whole n) (turned b whole_near ∙ ap neg_ℤ num) ∙ plus-whole_neg x y.num ∙ ap (λ z. x -ℚ z) (sym (whole_from_den y one))
    where
      turned : (n : ℤ) → nat_abs n ≤ 2 ^ 36 → to_z w64 (of_z w64 (pos 0 -ℤ to_z w64 (of_z w64 (to_z w128 (of_z w128 n))))) ≡ neg_ℤ n
      turned n h = omega (arith, ints)
