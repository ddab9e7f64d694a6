-- Which weights of a sequence have passed by a count of its cycle, as the program works it out.
use Rattle.std.proofs.Common.{◌≡◌, ℕ, suc, ◌+◌, ◌*◌, ◌/◌, ◌^◌, ◌<◌, ◌≤◌, ℤ, pos, negsuc, ◌+ℤ◌, ◌-ℤ◌, ◌*ℤ◌, ◌≤ℤ◌, ◌<ℤ◌, nat_abs}
use Rattle.std.proofs.Common.{[], ◌∷◌, refl, sym, ap, ◌∙◌, subst, arith}
use Rattle.std.specs.Int.{div_ceil}
use Rattle.std.proofs.Math.Nat.{le_trans, mul-pos, mul_comm, suc-mul, div-mul-le_self, le_of_mul-le-mul_right, lt_of_mul-lt-mul_right}
use Rattle.std.proofs.lemmas.Int.{ints}
use Rattle.std.proofs.lemmas.Grind.{div_ceil_times}
use Rattle.tdl_ring.proofs.Integers.{integers}
use Rattle.tdl_ring.proofs.Quoting.{by_ring, ring}
use Rattle.tdl_fraction.specs.Rational.{frac, whole, ◌≤ℚ◌, floor, ceil}
use Rattle.tdl_fraction.proofs.Over.{Over-frac, Over-whole, Over-minus_same, Over-times, same_cross_over, num_from_le, le_from_num}
use Rattle.tdl_fraction.proofs.Order.{≤ℚ_trans}
use Rattle.tdl_fraction.proofs.Rounding.{floor-frac}
use Rattle.tdl_fraction.proofs.Words128.{near_fits}
use Rattle.tdl_fraction.specs.Arc.{IsInside}
use Rattle.tdl_meaning.specs.Pattern.{cycle_arc}
use Rattle.tdl_visits.specs.inside.Weights.{weights_at}
use Rattle.tdl_grid.specs.Span.{Span, IsCount, arc_of}
use Rattle.tdl_grid.proofs.Sums.{read, difference_read, count_small}
use Rattle.tdl_grid.proofs.Units.{Over-cycle}
use Rattle.tdl_grid.proofs.Starts.{ceil-frac}

-- a count between two that are one cycle apart
between : (n a b : ℤ) (u : ℕ) → a ≤ℤ n → n ≤ℤ b → b ≡ a +ℤ pos u → (k : ℕ) × (k ≤ u) × (n -ℤ a ≡ pos k)
between n a b u low high e = by_sign (n -ℤ a) refl
  where
    by_sign : (d : ℤ) → n -ℤ a ≡ d → (k : ℕ) × (k ≤ u) × (n -ℤ a ≡ pos k)
    by_sign (pos k) is = (k, omega (arith, ints), is)
    by_sign (negsuc k) is = absurd (omega (arith, ints))

-- the ends of a span of a cycle lie in the cycle
pub ends_inside : (c : ℤ) (u : ℕ) (a : Span) → 0 < u → a.start <ℤ a.stop → IsInside (arc_of u a) (cycle_arc c)
    → (frac a.start u ≤ℚ whole (c +ℤ pos 1)) × (whole c ≤ℚ frac a.stop u)
ends_inside c u a h rising inside =
    let ordered = le_from_num (Over-frac a.start u h) (Over-frac a.stop u h) (less a.start a.stop rising) in
    (≤ℚ_trans ordered inside.1, ≤ℚ_trans inside.0 ordered)
  where
    less : (m n : ℤ) → m <ℤ n → m ≤ℤ n
    less m n h = omega (arith, ints)

module _ (c n : ℤ) (W x : ℕ) (total : 0 < W) (some : 0 < x) (from : whole c ≤ℚ frac n (x * W)) (to : frac n (x * W) ≤ℚ whole (c +ℤ pos 1)) where
  unit : 0 < x * W
  unit = mul-pos some total

  -- the counts since the start of the cycle
  pub since : (k : ℕ) × (k ≤ x * W) × (n -ℤ c *ℤ pos (x * W) ≡ pos k)
  since =
      let u = x * W in
      between n (c *ℤ pos u) ((c +ℤ pos 1) *ℤ pos u) u (num_from_le (Over-cycle c u unit) (Over-frac n u unit) from)
      (num_from_le (Over-frac n u unit) (Over-cycle (c +ℤ pos 1) u unit) to) (next c (pos u))
    where
      next : (c u : ℤ) → (c +ℤ pos 1) *ℤ u ≡ c *ℤ u +ℤ u
      next c u = by_ring integers (c ∷ u ∷ []) (search ring depth 12) refl

  -- so many for each weight
  counted : weights_at c W (frac n (x * W)) ≡ frac (pos since.0) x
  counted =
      let after = Over-minus_same (Over-frac n (x * W) unit) (Over-cycle c (x * W) unit) in
      same_cross_over (Over-times after (Over-whole (pos W))) (Over-frac (n -ℤ c *ℤ pos (x * W)) x some)
      (crossed (n -ℤ c *ℤ pos (x * W)) (pos W) (pos x))
      ∙ ap (λ m. frac m x) since.2
    where
      crossed : (m W x : ℤ) → (m *ℤ W) *ℤ x ≡ m *ℤ ((x *ℤ W) *ℤ pos 1)
      crossed m W x = by_ring integers (m ∷ W ∷ x ∷ []) (search ring depth 12) refl

  pub ended_counts : pos (since.0 / x) ≡ floor (weights_at c W (frac n (x * W)))
  ended_counts = sym (ap floor counted ∙ floor-frac (pos since.0) x some)

  pub begun_counts : pos (div_ceil since.0 x) ≡ ceil (weights_at c W (frac n (x * W)))
  begun_counts = sym (ap ceil counted ∙ ceil-frac since.0 x some)

  -- no more than all
  pub few_ended_counts : since.0 / x ≤ W
  few_ended_counts = le_of_mul-le-mul_right (le_trans (div-mul-le_self since.0 x) (subst (λ n. since.0 ≤ n) (mul_comm x W) since.1)) some

  pub few_begun_counts : div_ceil since.0 x ≤ W
  few_begun_counts =
      let next : W * x + x ≡ (W + 1) * x = by_rule W x in
      let up = (div_ceil_times since.0 x some).1 in
      let below : div_ceil since.0 x * x < (W + 1) * x = omega (arith, up, since.1, mul_comm x W, next) in
      omega (arith, lt_of_mul-lt-mul_right x below)
    where
      by_rule : (W x : ℕ) → W * x + x ≡ (W + 1) * x
      by_rule W x = omega (arith, suc-mul W x, ap (λ n. n * x) (one W))
        where
          one : (W : ℕ) → suc W ≡ W + 1
          one W = omega arith

  -- as the program reads them, from a count r and that of the cycle's start b
  pub since_read : (r b : ℤ) → r ≡ n → b ≡ c *ℤ pos (x * W) → IsCount n → nat_abs c ≤ 2 ^ 36 → x * W ≤ 2 ^ 88 → read (read r -ℤ read b) ≡ pos since.0
  since_read r b e f near first small =
      let start = count_small c (x * W) first small in
      let size : IsCount (n -ℤ c *ℤ pos (x * W)) = subst IsCount (sym since.2) (within since.0 (x * W) since.1 small) in
      ap (λ k. read (read k -ℤ read b)) e ∙ ap (λ k. read (read n -ℤ read k)) f
      ∙ difference_read n (c *ℤ pos (x * W)) (near_fits n near) (near_fits (c *ℤ pos (x * W)) start) size ∙ since.2
    where
      within : (k u : ℕ) → k ≤ u → u ≤ 2 ^ 88 → IsCount (pos k)
      within k u h small = omega (arith, ints)
