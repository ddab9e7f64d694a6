-- The share of a step in counts, as the program works it out, and the counts of what is asked of the step.
use Rattle.std.proofs.Common.{◌≡◌, ℕ, ◌+◌, ◌*◌, ◌^◌, ◌<◌, ◌≤◌, Some, [], ◌∷◌, ℤ, pos, ◌+ℤ◌, ◌-ℤ◌, ◌*ℤ◌, ◌≤ℤ◌, ◌<ℤ◌, nat_abs}
use Rattle.std.proofs.Common.{FitsSigned, to_z, refl, ap, ◌∙◌, arith}
use Rattle.std.proofs.lemmas.Int.{ints, to_z-of_z, to_z_pos}
use Rattle.std.proofs.Math.Nat.{mul-pos, mul_comm, mul-le-mul_left, mul-le-mul_right, add-mul}
use mir.Syntax.{w128}
use Rattle.tdl_ring.proofs.Integers.{integers}
use Rattle.tdl_ring.proofs.Quoting.{by_ring, ring}
use Rattle.tdl_fraction.proofs.Words128.{near_fits, near_is}
use Rattle.tdl_grid.specs.Span.{Span, IsCount, IsSpan, met}
use Rattle.tdl_grid.specs.Step.{step_delay, share_span}
use Rattle.tdl_grid.proofs.Sums.{read, count_small, cycle_counts}
use Rattle.tdl_grid.proofs.SpanArcs.{met_part}
use Rattle.tdl_grid.proofs.Sequences.{start_later, stop_later}

-- so many counts into a cycle, up to its end
inside_cycle : (c : ℤ) (u k : ℕ) → nat_abs c ≤ 2 ^ 36 → nat_abs (c +ℤ pos 1) ≤ 2 ^ 36 → 0 < u → u ≤ 2 ^ 88 → k ≤ u → IsCount (c *ℤ pos u +ℤ pos k)
inside_cycle c u k near last h small within =
    let cycle = cycle_counts c u near last h small in
    let next : (c +ℤ pos 1) *ℤ pos u ≡ c *ℤ pos u +ℤ pos u = by_ring integers (c ∷ pos u ∷ []) (search ring depth 12) refl in
    between (c *ℤ pos u) ((c +ℤ pos 1) *ℤ pos u) k u next cycle.start_small cycle.stop_small within
  where
    between : (a b : ℤ) (k u : ℕ) → b ≡ a +ℤ pos u → IsCount a → IsCount b → k ≤ u → IsCount (a +ℤ pos k)
    between a b k u e ha hb within = omega (arith, ints)

-- a count of the cycle, and so many on
pub on_read : (r c : ℤ) (u k : ℕ) → r ≡ c *ℤ pos u → nat_abs c ≤ 2 ^ 36 → nat_abs (c +ℤ pos 1) ≤ 2 ^ 36 → 0 < u → u ≤ 2 ^ 88 → k ≤ u
    → read r +ℤ to_z w128 k ≡ c *ℤ pos u +ℤ pos k
on_read r c u k e near last h small within =
    let fits : k < 2 ^ 127 = omega arith in
    ap (λ a. read a +ℤ to_z w128 k) e ∙ rw (near_is (c *ℤ pos u) (count_small c u near small), to_z_pos w128 k fits)

pub on_passed : (r c : ℤ) (u k : ℕ) → r ≡ c *ℤ pos u → nat_abs c ≤ 2 ^ 36 → nat_abs (c +ℤ pos 1) ≤ 2 ^ 36 → 0 < u → u ≤ 2 ^ 88 → k ≤ u
    → read (read r +ℤ to_z w128 k) ≡ c *ℤ pos u +ℤ pos k
on_passed r c u k e near last h small within =
    ap read (on_read r c u k e near last h small within) ∙ near_is (c *ℤ pos u +ℤ pos k) (inside_cycle c u k near last h small within)

pub on_fits : (r c : ℤ) (u k : ℕ) → r ≡ c *ℤ pos u → nat_abs c ≤ 2 ^ 36 → nat_abs (c +ℤ pos 1) ≤ 2 ^ 36 → 0 < u → u ≤ 2 ^ 88 → k ≤ u
    → FitsSigned w128 (read r +ℤ to_z w128 k)
on_fits r c u k e near last h small within = rw (on_read r c u k e near last h small within) (near_fits _ (inside_cycle c u k near last h small within))

module _ (c : ℤ) (o w W x : ℕ) (hw : 0 < w) (within : o + w ≤ W) (hx : 0 < x) (small : x * W ≤ 2 ^ 88) (near : nat_abs c ≤ 2 ^ 36)
    (last : nat_abs (c +ℤ pos 1) ≤ 2 ^ 36) where
  -- the steps' weights, in counts
  pub unit_positive : 0 < x * W
  unit_positive = mul-pos hx (omega arith)

  pub own_small : x * w ≤ 2 ^ 88
  own_small = omega (arith, mul-le-mul_left {m = w} {n = W} x (omega arith))

  pub stop_within : o * x + w * x ≤ x * W
  stop_within = omega (arith, add-mul o w x, mul-le-mul_right x within, mul_comm x W)

  pub start_within : o * x ≤ x * W
  start_within = omega (arith, stop_within)

  pub share_counts : IsSpan (share_span c o w W x).start (share_span c o w W x).stop
  share_counts =
      let wide : 0 < w * x = mul-pos hw hx in
      record {
        ordered = rising (c *ℤ pos (x * W)) (o * x) (w * x) wide;
        start_small = inside_cycle c (x * W) (o * x) near last unit_positive small start_within;
        stop_small = inside_cycle c (x * W) (o * x + w * x) near last unit_positive small stop_within;
      }
    where
      rising : (a : ℤ) (k l : ℕ) → 0 < l → (a +ℤ pos k) <ℤ (a +ℤ pos (k + l))
      rising a k l h = omega (arith, ints)

  -- the delay, from the share's start and the own cycle's
  pub delay_read : (s own : ℤ) → s ≡ (share_span c o w W x).start → own ≡ c *ℤ pos (x * w) → read (read s -ℤ read own) ≡ step_delay c o w W x
  delay_read s own e f =
      let a = share_counts.start_small in
      let b = count_small c (x * w) near own_small in
      ap (λ k. read (read k -ℤ read own)) e ∙ ap (λ k. read (read (share_span c o w W x).start -ℤ read k)) f
      ∙ apart (share_span c o w W x).start (c *ℤ pos (x * w)) a b
    where
      apart : (a b : ℤ) → IsCount a → IsCount b → read (read a -ℤ read b) ≡ a -ℤ b
      apart a b h k = rw (near_is a h, near_is b k) (to_z-of_z w128 (a -ℤ b) (omega (arith, ints)))

  pub delay_small : nat_abs (step_delay c o w W x) ≤ 2 ^ 126
  delay_small = apart (share_span c o w W x).start (c *ℤ pos (x * w)) share_counts.start_small (count_small c (x * w) near own_small)
    where
      apart : (a b : ℤ) → IsCount a → IsCount b → nat_abs (a -ℤ b) ≤ 2 ^ 126
      apart a b h k = omega (arith, ints)

  pub delay_passed : (by : ℤ) → by ≡ step_delay c o w W x → read by ≡ step_delay c o w W x
  delay_passed by e = ap read e ∙ to_z-of_z w128 (step_delay c o w W x) (fits (step_delay c o w W x) delay_small)
    where
      fits : (n : ℤ) → nat_abs n ≤ 2 ^ 126 → FitsSigned w128 n
      fits n h = omega (arith, ints)

  -- what the share has of a span, so many counts earlier, lies in the step's own cycle
  pub asked_counts : (a own : Span) → met (share_span c o w W x) a ≡ Some own
      → IsCount (own.start -ℤ step_delay c o w W x) × IsCount (own.stop -ℤ step_delay c o w W x)
  asked_counts a own e =
      let part = met_part (share_span c o w W x) a own e in
      let cycle = cycle_counts c (x * w) near last (mul-pos hx hw) own_small in
      let start = start_later c (pos (x * w)) (step_delay c o w W x) (pos (o * x)) (pos (x * W)) refl in
      let stop = stop_later c (pos x) (pos o) (pos w) (pos W) in
      within_cycle (c *ℤ pos (x * w)) ((c +ℤ pos 1) *ℤ pos (x * w)) (step_delay c o w W x) (share_span c o w W x) own start stop part.0 part.1
      cycle.start_small cycle.stop_small
    where
      within_cycle : (m n by : ℤ) (s own : Span) → m +ℤ by ≡ s.start → n +ℤ by ≡ s.stop → (s.start ≤ℤ own.start) × (own.stop ≤ℤ s.stop)
          → own.start <ℤ own.stop → IsCount m → IsCount n → IsCount (own.start -ℤ by) × IsCount (own.stop -ℤ by)
      within_cycle m n by s own e f part ordered hm hn = (omega (arith, ints), omega (arith, ints))
