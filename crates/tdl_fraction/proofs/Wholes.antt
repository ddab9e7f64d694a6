-- A number with whole numbers added, multiplied or divided by: its parts, in lowest terms by few divisions.
use Rattle.std.proofs.Common.{◌≡◌, ℕ, ◌*◌, ◌/◌, ◌<◌, [], ◌∷◌, ℤ, pos, ◌+ℤ◌, ◌-ℤ◌, ◌*ℤ◌, neg_ℤ, nat_abs, arith, refl, sym, ap, ap₂, ◌∙◌, subst}
use Rattle.std.specs.Int.{◌∣◌}
use Rattle.std.proofs.lemmas.Int.{ints, unsigned_abs-mul}
use native.Mathlib.Nat.{dvd-mul_left, dvd-mul_right, dvd_trans, eq-one_of_dvd-one, div-mul_cancel, mul-pos}
use Rattle.tdl_ring.proofs.Integers.{integers}
use Rattle.tdl_ring.proofs.Quoting.{by_ring, ring}
use Rattle.tdl_fraction.specs.Divisor.{gcd}
use Rattle.tdl_fraction.specs.LowestTerms.{IsGcd-gcd, coprime_quotients, positive_quotient}
use Rattle.tdl_fraction.specs.Rational.{Rational, frac, whole, ◌+ℚ◌, ◌-ℚ◌, ◌*ℚ◌, ◌/ℚ◌}
use Rattle.tdl_fraction.proofs.Integers.{plus_times}
use Rattle.tdl_fraction.proofs.Coprime.{gcd_comm, product_coprime, divisor_coprime}
use Rattle.tdl_fraction.proofs.Over.{Over, den_positive, num_den_coprime, Over-self, Over-frac, Over-as, Over-plus, Over-plus_same, Over-minus_same}
use Rattle.tdl_fraction.proofs.Over.{Over-times}
use Rattle.tdl_fraction.proofs.Over.{same_cross_over, frac-self, Over-whole, Over-divide, frac_over, div_z_times, frac_num, frac_num_lowest, frac_den_lowest}

-- ---- no common factor
-- what divides two numbers divides their sum
divides_sum : (k : ℕ) (x y : ℤ) → k ∣ nat_abs x → k ∣ nat_abs y → k ∣ nat_abs (x +ℤ y)
divides_sum k x y h l =
    let e = plus_times _ _ (pos k) ∙ ap₂ ◌+ℤ◌ (div_z_times x k h) (div_z_times y k l) in
    subst (λ m. k ∣ m) (sym (unsigned_abs-mul _ (pos k)) ∙ ap nat_abs e) (dvd-mul_left k _)

-- a multiple of d more makes no common factor with d
shifted_coprime : (n m : ℤ) (d : ℕ) → gcd (nat_abs n) d ≡ 1 → gcd (nat_abs (n +ℤ m *ℤ pos d)) d ≡ 1
shifted_coprime n m d c =
    let sum = n +ℤ m *ℤ pos d in
    let k = gcd (nat_abs sum) d in
    let g = IsGcd-gcd (nat_abs sum) d in
    let in_multiple : k ∣ nat_abs (neg_ℤ m *ℤ pos d) =
    subst (λ x. k ∣ x) (sym (unsigned_abs-mul (neg_ℤ m) (pos d))) (dvd_trans k g.1 (dvd-mul_left d (nat_abs (neg_ℤ m)))) in
    let in_n : k ∣ nat_abs n = subst (λ x. k ∣ nat_abs x) (back n m (pos d)) (divides_sum k sum (neg_ℤ m *ℤ pos d) g.0 in_multiple) in
    eq-one_of_dvd-one (subst (λ x. k ∣ x) c ((IsGcd-gcd (nat_abs n) d).2 k in_n g.1))
  where
    back : (n m d : ℤ) → (n +ℤ m *ℤ d) +ℤ neg_ℤ m *ℤ d ≡ n
    back n m d = by_ring integers (n ∷ m ∷ d ∷ []) (search ring depth 12) refl

-- ---- sums and differences
whole_over : (c : ℤ) (d : ℕ) → 0 < d → Over (c *ℤ pos d) d (whole c)
whole_over c d h = Over-as (Over-whole c) h (by_one c (pos d))
  where
    by_one : (c d : ℤ) → (c *ℤ d) *ℤ pos 1 ≡ c *ℤ d
    by_one c d = by_ring integers (c ∷ d ∷ []) (search ring depth 12) refl

-- the parts of n over d
parts_over : (n : ℤ) (d : ℕ) (q : Rational) → Over n d q → gcd (nat_abs n) d ≡ 1 → (n ≡ q.num) × (d ≡ q.den)
parts_over n d q o c =
    (sym (ap (λ x. x.num) (frac_over o) ∙ frac_num_lowest n d o.positive c), sym (ap (λ x. x.den) (frac_over o) ∙ frac_den_lowest n d o.positive c))

-- of the sum with a whole number
pub plus_whole_parts : (x : Rational) (c : ℤ) → (x.num +ℤ c *ℤ pos x.den ≡ (x +ℚ whole c).num) × (x.den ≡ (x +ℚ whole c).den)
plus_whole_parts x c =
    parts_over _ _ (x +ℚ whole c) (Over-plus_same (Over-self x) (whole_over c x.den (den_positive x)))
    (shifted_coprime x.num c x.den (num_den_coprime x))

-- and of the difference from one
pub whole_minus_parts : (x : Rational) (c : ℤ) → (c *ℤ pos x.den -ℤ x.num ≡ (whole c -ℚ x).num) × (x.den ≡ (whole c -ℚ x).den)
whole_minus_parts x c =
    let turned : gcd (nat_abs (neg_ℤ x.num)) x.den ≡ 1 = ap (λ n. gcd n x.den) (same_size x.num) ∙ num_den_coprime x in
    parts_over _ _ (whole c -ℚ x) (Over-minus_same (whole_over c x.den (den_positive x)) (Over-self x))
    (ap (λ n. gcd (nat_abs n) x.den) (around x.num (c *ℤ pos x.den)) ∙ shifted_coprime (neg_ℤ x.num) c x.den turned)
  where
    same_size : (n : ℤ) → nat_abs (neg_ℤ n) ≡ nat_abs n
    same_size n = omega (arith, ints)

    around : (n m : ℤ) → m -ℤ n ≡ neg_ℤ n +ℤ m
    around n m = by_ring integers (n ∷ m ∷ []) (search ring depth 12) refl

-- ---- products
-- of the product with t * g, whose factor g the denominator has too, and a whole number more
scaled_over : (x : Rational) (t d g : ℕ) (p : ℤ) → 0 < d → d * g ≡ x.den → Over (x.num *ℤ pos t +ℤ p *ℤ pos d) d (x *ℚ whole (pos (t * g)) +ℚ whole p)
scaled_over x t d g p h e =
    let o : Over x.num (d * g) x = subst (λ k. Over x.num k x) (sym e) (Over-self x) in
    Over-as (Over-plus (Over-times o (Over-whole (pos (t * g)))) (Over-whole p)) h (common x.num (pos t) (pos d) (pos g) p)
  where
    common : (n t d g p : ℤ)
        → (n *ℤ t +ℤ p *ℤ d) *ℤ (((d *ℤ g) *ℤ pos 1) *ℤ pos 1) ≡ ((n *ℤ (t *ℤ g)) *ℤ pos 1 +ℤ p *ℤ ((d *ℤ g) *ℤ pos 1)) *ℤ d
    common n t d g p = by_ring integers (n ∷ t ∷ d ∷ g ∷ p ∷ []) (search ring depth 12) refl

-- the parts of the product with a whole number, and another more
module _ (x : Rational) (times : ℕ) (plus : ℤ) where
  abbrev g : ℕ
  g = gcd times x.den

  abbrev t : ℕ
  t = times / g

  abbrev d : ℕ
  d = x.den / g

  abbrev scaled : Rational
  scaled = x *ℚ whole (pos times) +ℚ whole plus

  times_plus_coprime : gcd (nat_abs (x.num *ℤ pos t +ℤ plus *ℤ pos d)) d ≡ 1
  times_plus_coprime =
      let own : gcd (nat_abs x.num) d ≡ 1 =
      gcd_comm _ _ ∙ divisor_coprime d x.den (nat_abs x.num) (subst (λ k. d ∣ k) (div-mul_cancel g (IsGcd-gcd times x.den).1) (dvd-mul_right d g))
      (gcd_comm _ _ ∙ num_den_coprime x) in
      let product : gcd (nat_abs (x.num *ℤ pos t)) d ≡ 1 =
      ap (λ k. gcd k d) (unsigned_abs-mul x.num (pos t)) ∙ product_coprime (nat_abs x.num) t d own (coprime_quotients times x.den (den_positive x)) in
      shifted_coprime (x.num *ℤ pos t) plus d product

  pub times_plus_parts : (x.num *ℤ pos t +ℤ plus *ℤ pos d ≡ scaled.num) × (d ≡ scaled.den)
  times_plus_parts =
      let divides = IsGcd-gcd times x.den in
      let o = scaled_over x t d g plus (positive_quotient x.den g (den_positive x) divides.1) (div-mul_cancel g divides.1) in
      let all = subst (λ k. Over (x.num *ℤ pos t +ℤ plus *ℤ pos d) d (x *ℚ whole (pos k) +ℚ whole plus)) (div-mul_cancel g divides.0) o in
      parts_over _ _ scaled all times_plus_coprime

-- ---- quotients
numerator_divides : (n : ℤ) (d : ℕ) → 0 < d → nat_abs (frac n d).num ∣ nat_abs n
numerator_divides n d h =
    subst (λ k. nat_abs (frac n d).num ∣ k) (sym (unsigned_abs-mul (frac n d).num (pos (gcd (nat_abs n) d))) ∙ ap nat_abs (frac_num n d h))
    (dvd-mul_right (nat_abs (frac n d).num) (gcd (nat_abs n) d))

-- by a whole number: that of the numerator in lowest terms, with both denominators
pub divided_parts : (q : Rational) (over : ℕ) → 0 < over
    → ((frac q.num over).num ≡ (q /ℚ whole (pos over)).num) × (q.den * (frac q.num over).den ≡ (q /ℚ whole (pos over)).den)
divided_parts q over h =
    let f = frac q.num over in
    let divided = Over-frac q.num over h in
    let o = Over-as (Over-divide (Over-self q) (Over-whole (pos over)) h) (mul-pos (den_positive q) (den_positive f))
    (crossed f.num (pos over) q.num (pos f.den) (pos q.den) divided.cross) in
    let own = divisor_coprime (nat_abs f.num) (nat_abs q.num) q.den (numerator_divides q.num over h) (num_den_coprime q) in
    parts_over _ _ (q /ℚ whole (pos over)) o
    (gcd_comm _ _ ∙ product_coprime q.den f.den (nat_abs f.num) (gcd_comm _ _ ∙ own) (gcd_comm _ _ ∙ num_den_coprime f))
  where
    crossed : (a o n p d : ℤ) → a *ℤ o ≡ n *ℤ p → a *ℤ (d *ℤ o) ≡ (n *ℤ pos 1) *ℤ (d *ℤ p)
    crossed a o n p d e =
        by_ring integers (a ∷ d ∷ o ∷ []) (search ring depth 12) refl ∙ ap (λ x. x *ℤ d) e
        ∙ by_ring integers (n ∷ p ∷ d ∷ []) (search ring depth 12) refl

-- ---- what other operations come to by these
-- a number over 1 is whole
pub whole_from_den : (y : Rational) → y.den ≡ 1 → y ≡ whole y.num
unfolding whole
whole_from_den y e = sym (frac-self y) ∙ ap (λ d. frac y.num d) e

common : (n m d e : ℤ) → (((n *ℤ m) *ℤ pos 1 +ℤ pos 0 *ℤ (d *ℤ pos 1)) *ℤ pos 1) *ℤ (d *ℤ e) ≡ (n *ℤ m) *ℤ (((d *ℤ pos 1) *ℤ pos 1) *ℤ e)
common n m d e = by_ring integers (n ∷ m ∷ d ∷ e ∷ []) (search ring depth 12) refl

-- to multiply by a number from 0 on, and to divide by one above 0
module _ (x y : Rational) (m : ℕ) (num : y.num ≡ pos m) where
  own : Over (pos m) y.den y
  own = subst (λ n. Over n y.den y) num (Over-self y)

  over_scaled : (t o : ℕ) → 0 < o → Over (((x.num *ℤ pos t) *ℤ pos 1 +ℤ pos 0 *ℤ pos (x.den * 1)) *ℤ pos 1) (((x.den * 1) * 1) * o)
      ((x *ℚ whole (pos t) +ℚ whole (pos 0)) /ℚ whole (pos o))
  over_scaled t o h = Over-divide (Over-plus (Over-times (Over-self x) (Over-whole (pos t))) (Over-whole (pos 0))) (Over-whole (pos o)) h

  pub times_as : (x *ℚ whole (pos m) +ℚ whole (pos 0)) /ℚ whole (pos y.den) ≡ x *ℚ y
  times_as = same_cross_over (over_scaled m y.den (den_positive y)) (Over-times (Over-self x) own) (common x.num (pos m) (pos x.den) (pos y.den))

  pub divide_as : 0 < m → (x *ℚ whole (pos y.den) +ℚ whole (pos 0)) /ℚ whole (pos m) ≡ x /ℚ y
  divide_as h = same_cross_over (over_scaled y.den m h) (Over-divide (Over-self x) own h) (common x.num (pos y.den) (pos x.den) (pos m))
