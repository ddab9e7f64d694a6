-- How far a whole that hangs over what a cycle asks for at a rate hangs over the cycle.
use Rattle.std.proofs.Common.{◌≡◌, ℕ, ◌+◌, ◌*◌, ◌<◌, Bool, true, false, ltb, [], ◌∷◌, ℤ, pos, ◌+ℤ◌, ◌-ℤ◌, arith, refl, sym, ap, ◌∙◌, subst}
use Rattle.std.specs.Int.{div_ceil}
use Rattle.std.proofs.lemmas.Bool.Decides.{nat_tests}
use Rattle.tdl_ring.proofs.Quoting.{by_ring, ring}
use Rattle.tdl_fraction.specs.Rational.{Rational, whole, ◌+ℚ◌, ◌-ℚ◌, ◌*ℚ◌, ◌/ℚ◌, ◌≤ℚ◌, ◌<ℚ◌, floor, ceil, IsMultiple}
use Rattle.tdl_fraction.proofs.Over.{den_positive}
use Rattle.tdl_fraction.proofs.Field.{rationals, whole-plus, whole-minus, minus-*ℚ, plus-*ℚ}
use Rattle.tdl_fraction.proofs.Order.{≤ℚ_trans, ≤ℚ_from_same, le_divide, divide_le, plus_right_le, plus_left_le, minus_right_le, minus_left_le}
use Rattle.tdl_fraction.proofs.Rounding.{near_floor, near_ceil}
use Rattle.tdl_fraction.proofs.Multiples.{whole_multiple_one, whole_from_multiple, multiple_own}
use Rattle.tdl_fraction.proofs.Multiples.{multiple_times}
use Rattle.tdl_fraction.proofs.Rates.{rounded_by_rate}
use Rattle.tdl_expr.specs.Bounds.{upper, lower, broken}

-- the hang of a pattern at a rate, from the pattern's
abbrev pub hang_at_rate : Rational → ℕ → ℕ
hang_at_rate r h = div_ceil ((h + broken r) * lower r) (upper r)

-- ---- a number with the denominator of r, rounded
-- one off at most, and nothing where r is whole
module _ (r x : Rational) (on : IsMultiple (lower r) x) where
  whole_where : ltb 1 (lower r) ≡ false → IsMultiple 1 x
  whole_where e = subst (λ d. IsMultiple d x) (one (lower r) (den_positive r) e) on
    where
      one : (d : ℕ) → 0 < d → ltb 1 d ≡ false → d ≡ 1
      one d p e = grind (arith, nat_tests)

  pub floor_broken : x -ℚ whole (pos (broken r)) ≤ℚ whole (floor x)
  floor_broken = by (ltb 1 (lower r)) refl
    where
      nothing : (x : Rational) → x -ℚ whole (pos 0) ≡ x
      nothing x = by_ring rationals (x ∷ []) (search ring depth 12) refl

      by : (t : Bool) → ltb 1 (lower r) ≡ t → x -ℚ whole (pos (elim t [ true ↦ 1 | false ↦ 0 ])) ≤ℚ whole (floor x)
      by true e = near_floor x
      by false e = ≤ℚ_from_same (nothing x ∙ (whole_from_multiple x (whole_where e)).0)

  pub ceil_broken : whole (ceil x) ≤ℚ x +ℚ whole (pos (broken r))
  ceil_broken = by (ltb 1 (lower r)) refl
    where
      nothing : (x : Rational) → x +ℚ whole (pos 0) ≡ x
      nothing x = by_ring rationals (x ∷ []) (search ring depth 12) refl

      by : (t : Bool) → ltb 1 (lower r) ≡ t → whole (ceil x) ≤ℚ x +ℚ whole (pos (elim t [ true ↦ 1 | false ↦ 0 ]))
      by true e = near_ceil x
      by false e = ≤ℚ_from_same (sym ((whole_from_multiple x (whole_where e)).1) ∙ sym (nothing x))

-- and so a whole number at a rate
at_rate : (r : Rational) (n : ℤ) → IsMultiple (lower r) (whole n *ℚ r)
at_rate r n = subst (λ k. IsMultiple k (whole n *ℚ r)) (once (lower r)) (multiple_times (whole_multiple_one n) (multiple_own r))
  where
    once : (d : ℕ) → 1 * d ≡ d
    once d = omega arith

pub floor_at_rate : (r : Rational) (n : ℤ) → (whole n *ℚ r) -ℚ whole (pos (broken r)) ≤ℚ whole (floor (whole n *ℚ r))
floor_at_rate r n = floor_broken r (whole n *ℚ r) (at_rate r n)

pub ceil_at_rate : (r : Rational) (n : ℤ) → whole (ceil (whole n *ℚ r)) ≤ℚ (whole n *ℚ r) +ℚ whole (pos (broken r))
ceil_at_rate r n = ceil_broken r (whole n *ℚ r) (at_rate r n)

-- ---- and the hang that it leaves
module _ (r : Rational) (h : ℕ) (positive : whole (pos 0) <ℚ r) where
  -- the pattern's hang and what the rounding takes are within the new hang, at the rate
  enough : whole (pos (h + broken r)) ≤ℚ whole (pos (hang_at_rate r h)) *ℚ r
  enough = (divide_le (whole (pos (h + broken r))) (whole (pos (hang_at_rate r h))) r positive).0 (rounded_by_rate r (h + broken r) positive)

  pub hang_start : (c : ℤ) (t : Rational) → whole (floor (whole c *ℚ r) -ℤ pos h) ≤ℚ t → whole (c -ℤ pos (hang_at_rate r h)) ≤ℚ t /ℚ r
  hang_start c t low =
      let k = hang_at_rate r h in
      let u = whole c *ℚ r in
      let b = whole (pos (broken r)) in
      let below : u -ℚ whole (pos k) *ℚ r ≤ℚ (u -ℚ b) -ℚ whole (pos h) =
      subst (λ x. u -ℚ whole (pos k) *ℚ r ≤ℚ x) (ap (λ x. u -ℚ x) (whole-plus (pos h) (pos (broken r))) ∙ one_by_one u (whole (pos h)) b)
      (minus_left_le u enough) in
      let rounded : (u -ℚ b) -ℚ whole (pos h) ≤ℚ t =
      ≤ℚ_trans (minus_right_le (whole (pos h)) (floor_at_rate r c)) (subst (λ x. x ≤ℚ t) (whole-minus (floor u) (pos h)) low) in
      (le_divide (whole (c -ℤ pos k)) t r positive).1
      (subst (λ x. x ≤ℚ t) (sym (ap (λ x. x *ℚ r) (whole-minus c (pos k)) ∙ minus-*ℚ (whole c) (whole (pos k)) r)) (≤ℚ_trans below rounded))
    where
      one_by_one : (x y z : Rational) → x -ℚ (y +ℚ z) ≡ (x -ℚ z) -ℚ y
      one_by_one x y z = by_ring rationals (x ∷ y ∷ z ∷ []) (search ring depth 12) refl

  pub hang_stop : (c : ℤ) (t : Rational) → t ≤ℚ whole (ceil (whole c *ℚ r) +ℤ pos h) → t /ℚ r ≤ℚ whole (c +ℤ pos (hang_at_rate r h))
  hang_stop c t high =
      let k = hang_at_rate r h in
      let u = whole c *ℚ r in
      let b = whole (pos (broken r)) in
      let rounded : t ≤ℚ (u +ℚ b) +ℚ whole (pos h) =
      ≤ℚ_trans (subst (λ x. t ≤ℚ x) (whole-plus (ceil u) (pos h)) high) (plus_right_le (whole (pos h)) (ceil_at_rate r c)) in
      let above : (u +ℚ b) +ℚ whole (pos h) ≤ℚ u +ℚ whole (pos k) *ℚ r =
      subst (λ x. x ≤ℚ u +ℚ whole (pos k) *ℚ r) (ap (λ x. u +ℚ x) (whole-plus (pos h) (pos (broken r))) ∙ together u (whole (pos h)) b)
      (plus_left_le u enough) in
      (divide_le t (whole (c +ℤ pos k)) r positive).1
      (subst (λ x. t ≤ℚ x) (sym (ap (λ x. x *ℚ r) (whole-plus c (pos k)) ∙ plus-*ℚ (whole c) (whole (pos k)) r)) (≤ℚ_trans rounded above))
    where
      together : (x y z : Rational) → x +ℚ (y +ℚ z) ≡ (x +ℚ z) +ℚ y
      together x y z = by_ring rationals (x ∷ y ∷ z ∷ []) (search ring depth 12) refl
