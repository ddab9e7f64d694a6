-- Units at a rate, counts of times and cycles of counts, as the program works them out.
use Rattle.std.proofs.Common.{◌≡◌, ℕ, ◌*◌, ◌/◌, ◌^◌, ◌<◌, ◌≤◌, ℤ, pos, neg_ℤ, ◌-ℤ◌, ◌*ℤ◌, nat_abs, FitsSigned, to_z, of_z, w64, sym, ap, ap₂, ◌∙◌, subst, arith}
use Rattle.std.specs.Int.{◌∣◌, int_div_euclid}
use Rattle.std.proofs.lemmas.Int.{ints, to_z_pos, unsigned_abs-mul}
use Rattle.std.proofs.Math.Nat.{mul_assoc, mul_comm, mul_right_comm, mul-le-mul_right, le-mul_of_pos_right, div-mul_cancel, mul-div_cancel}
use mir.Syntax.{w128}
use Rattle.tdl_fraction.specs.Rational.{Rational, frac, floor, ceil}
use Rattle.tdl_fraction.specs.Range.{InRange}
use Rattle.tdl_fraction.proofs.Over.{den_positive, Over-frac, Over-ceil}
use Rattle.tdl_fraction.proofs.Rounding.{floor-frac}
use Rattle.tdl_fraction.proofs.Words128.{near_fits, near_is}
use Rattle.tdl_fraction.proofs.Quotients.{floor_near, ceil_near, shortened}
use Rattle.tdl_grid.proofs.Sums.{read}
use Rattle.tdl_grid.proofs.Units.{count_size}

-- ---- the unit of a child at a rate
-- the numerator's size, as the program reads it
pub size_read : (r : Rational) (n : ℤ) (a : ℕ) → InRange r → n ≡ r.num → a ≡ nat_abs (read n) → a ≡ nat_abs r.num
size_read r n a is e f =
    let near : nat_abs r.num ≤ 2 ^ 124 = omega (arith, is.near, is.fine) in
    f ∙ ap (λ k. nat_abs (read k)) e ∙ ap nat_abs (near_is r.num near)

pub unit_made : (r : Rational) (u a d : ℕ) → nat_abs r.num ∣ u → a ≡ nat_abs r.num → d ≡ r.den → (p : ℕ) → r.num ≡ pos p → u / a * d * p ≡ u * r.den
unit_made r u a d on e f p num =
    let same : nat_abs r.num ≡ p = ap nat_abs num in
    let whole : u / p * p ≡ u = div-mul_cancel p (subst (λ k. k ∣ u) same on) in
    ap₂ (λ a d. u / a * d * p) (e ∙ same) f ∙ mul_right_comm (u / p) r.den p ∙ ap (λ k. k * r.den) whole

-- ---- a time as a count
sized : (a d k u : ℕ) → k * d ≡ u → a ≤ 2 ^ 36 * d → u ≤ 2 ^ 88 → a * k ≤ 2 ^ 124
sized a d k u e h small = omega (arith, mul-le-mul_right k h, mul_assoc (2 ^ 36) d k, mul_comm d k, e)

module _ (t : Rational) (u d : ℕ) (n : ℤ) (is : InRange t) (small : u ≤ 2 ^ 88) (on : t.den ∣ u) (num : n ≡ t.num) (den : d ≡ t.den) where
  shares : u / d * t.den ≡ u
  shares = ap (λ k. u / k * t.den) den ∙ div-mul_cancel t.den on

  product_seen : read n *ℤ to_z w128 (u / d) ≡ t.num *ℤ pos (u / d)
  product_seen =
      let near : nat_abs t.num ≤ 2 ^ 124 = omega (arith, is.near, is.fine) in
      let few : u / d < 2 ^ 127 = omega (arith, shares, small, le-mul_of_pos_right (u / d) (den_positive t)) in
      ap₂ ◌*ℤ◌ (ap read num ∙ near_is t.num near) (to_z_pos w128 (u / d) few)

  product_small : nat_abs (t.num *ℤ pos (u / d)) ≤ 2 ^ 124
  product_small = rw (unsigned_abs-mul t.num (pos (u / d))) (sized (nat_abs t.num) t.den (u / d) u shares is.near small)

  pub count_fits : FitsSigned w128 (read n *ℤ to_z w128 (u / d))
  count_fits = rw product_seen (near_fits (t.num *ℤ pos (u / d)) product_small)

  product_read : read (read n *ℤ to_z w128 (u / d)) ≡ t.num *ℤ pos (u / d)
  product_read = ap read product_seen ∙ near_is (t.num *ℤ pos (u / d)) product_small

  pub count_as : (x : ℕ) → x * t.den ≡ u → read (read n *ℤ to_z w128 (u / d)) ≡ t.num *ℤ pos x
  count_as x e =
      let same : u / d ≡ x = ap₂ ◌/◌ (sym e) den ∙ mul-div_cancel x (den_positive t) in
      product_read ∙ ap (λ (k : ℕ). t.num *ℤ pos k) same

  pub count_bound : nat_abs (read (read n *ℤ to_z w128 (u / d))) ≤ 2 ^ 126
  count_bound = rw product_read (omega (arith, product_small))

-- ---- the cycle of a count
pub word_fits : (q : ℤ) → nat_abs q ≤ 2 ^ 36 → FitsSigned w64 (read q)
word_fits q h = omega (arith, ints)

pub word_near : (q : ℤ) → nat_abs q ≤ 2 ^ 36 → nat_abs (to_z w64 (of_z w64 (read q))) ≤ 2 ^ 36
word_near q h = rw (shortened q h) h

back : (q : ℤ) → nat_abs (neg_ℤ q) ≤ 2 ^ 36 → pos 0 -ℤ read q ≡ neg_ℤ q
back q h = omega (arith, ints)

module _ (n : ℤ) (u : ℕ) (some : 0 < u) (small : u ≤ 2 ^ 88) (is : InRange (frac n u)) where
  near : nat_abs n ≤ 2 ^ 124
  near = omega (arith, count_size n u some is, small)

  pub count_back_fits : FitsSigned w128 (pos 0 -ℤ read n)
  count_back_fits = let h = near in omega (arith, ints)

  module _ (q : ℤ) where
    pub cycle_is : q ≡ int_div_euclid (read n) (to_z w128 u) → q ≡ floor (frac n u)
    cycle_is e = e ∙ ap₂ int_div_euclid (near_is n near) (to_z_pos w128 u (omega (arith, small))) ∙ sym (floor-frac n u some)

    pub cycle_near : q ≡ int_div_euclid (read n) (to_z w128 u) → nat_abs q ≤ 2 ^ 36
    cycle_near e = subst (λ k. nat_abs k ≤ 2 ^ 36) (sym (cycle_is e)) (floor_near (frac n u) is)

    -- rounded up: the other way round
    not_before_is : q ≡ int_div_euclid (read (pos 0 -ℤ read n)) (to_z w128 u) → neg_ℤ q ≡ ceil (frac n u)
    not_before_is e =
        let h = near in
        let opposite : read (pos 0 -ℤ read n) ≡ neg_ℤ n = omega (arith, ints) in
        ap neg_ℤ (e ∙ ap₂ int_div_euclid opposite (to_z_pos w128 u (omega (arith, small)))) ∙ sym (Over-ceil (Over-frac n u some))

    not_before_near : q ≡ int_div_euclid (read (pos 0 -ℤ read n)) (to_z w128 u) → nat_abs (neg_ℤ q) ≤ 2 ^ 36
    not_before_near e = subst (λ k. nat_abs k ≤ 2 ^ 36) (sym (not_before_is e)) (ceil_near (frac n u) is)

    pub opposite_fits : q ≡ int_div_euclid (read (pos 0 -ℤ read n)) (to_z w128 u) → FitsSigned w128 (pos 0 -ℤ read q)
    opposite_fits e = let h = not_before_near e in omega (arith, ints)

    pub opposite_word : q ≡ int_div_euclid (read (pos 0 -ℤ read n)) (to_z w128 u) → FitsSigned w64 (read (pos 0 -ℤ read q))
    opposite_word e = let h = not_before_near e in rw (back q h) (word_fits (neg_ℤ q) h)

    pub opposite_near : q ≡ int_div_euclid (read (pos 0 -ℤ read n)) (to_z w128 u) → nat_abs (to_z w64 (of_z w64 (read (pos 0 -ℤ read q)))) ≤ 2 ^ 36
    opposite_near e = let h = not_before_near e in rw (back q h) (word_near (neg_ℤ q) h)

    pub opposite_is : q ≡ int_div_euclid (read (pos 0 -ℤ read n)) (to_z w128 u) → to_z w64 (of_z w64 (read (pos 0 -ℤ read q))) ≡ ceil (frac n u)
    opposite_is e = let h = not_before_near e in ap (λ k. to_z w64 (of_z w64 (read k))) (back q h) ∙ shortened (neg_ℤ q) h ∙ not_before_is e
