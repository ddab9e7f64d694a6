-- The first count that is not before a time, as the program works it out, and which wholes start in a window.
use Rattle.std.proofs.Common.{◌≡◌, ℕ, ◌+◌, ◌-◌, ◌*◌, ◌/◌, ◌%◌, ◌^◌, ◌<◌, ◌≤◌, Bool, true, false, ◌&&◌}
use Rattle.std.proofs.Common.{ℤ, pos, negsuc, neg_ℤ, ◌+ℤ◌, ◌-ℤ◌, ◌*ℤ◌, ◌≤ℤ◌, ◌<ℤ◌, nat_abs, FitsSigned, to_z}
use Rattle.std.proofs.Common.{[], ◌∷◌, refl, sym, ap, ap₂, ◌∙◌, subst, arith}
use Rattle.std.specs.Int.{div_ceil, int_div_euclid, int_rem_euclid}
use Rattle.std.proofs.Math.Nat.{mod-lt, mul-le-mul, mul-le-mul_right, mul-le-mul_left}
use Rattle.std.proofs.Math.Bool.{beq}
use Rattle.std.proofs.lemmas.Nat.{div-add-mod'}
use Rattle.std.proofs.lemmas.Int.{ints, to_z-of_z, to_z_pos}
use Rattle.std.proofs.lemmas.Grind.{div_ceil_times}
use mir.Syntax.{w128}
use lib.Signed.{lt_z, le_z}
use Rattle.tdl_ring.proofs.Integers.{integers}
use Rattle.tdl_ring.proofs.Quoting.{by_ring, ring}
use Rattle.tdl_fraction.specs.Rational.{Rational, frac, whole, ◌+ℚ◌, ◌-ℚ◌, ◌*ℚ◌, ◌≤ℚ◌, floor, ceil, le_ℚ, lt_ℚ}
use Rattle.tdl_fraction.specs.Range.{InRange}
use Rattle.tdl_fraction.proofs.Over.{Over-frac, Over-self, Over-whole, Over-plus, Over-times, same_cross_over}
use Rattle.tdl_fraction.proofs.Over.{le_from_cross, lt_from_cross, den_positive, Over-floor}
use Rattle.tdl_fraction.proofs.Over.{le_ℚ-true, le_ℚ-false, lt_ℚ-true, lt_ℚ-false}
use Rattle.tdl_fraction.proofs.Order.{times_pos_le, whole_positive, clash_ℚ}
use Rattle.tdl_fraction.proofs.Ranges.{in_range_above, in_range_below}
use Rattle.tdl_fraction.proofs.Rounding.{floor-frac, ceil-plus, ceil-whole, ceil_unique, ceil_monotone}
use Rattle.tdl_meaning.specs.Kinds.{place, is_between}
use Rattle.tdl_fraction.proofs.Words128.{near_is}
use Rattle.tdl_meaning.proofs.kinds.Gate.{starts_in_by}
use Rattle.tdl_grid.specs.Span.{IsCount, arc_of}
use Rattle.tdl_grid.specs.Item.{Item, passes_in}
use Rattle.tdl_grid.proofs.Sums.{read}
use Rattle.tdl_grid.proofs.Units.{time-earlier_cycles, not_before}

-- ---- what a quotient leaves
rest_is : (n : ℤ) (u : ℕ) → 0 < u → int_rem_euclid n (pos u) ≡ n -ℤ int_div_euclid n (pos u) *ℤ pos u
rest_is (pos a) u h = omega (arith, ints, div-add-mod' a u)
rest_is (negsuc a) u h = let below = mod-lt a h in omega (arith, ints, div-add-mod' a u)

rest_below : (n : ℤ) (u : ℕ) → 0 < u → (m : ℕ) × (m < u) × (int_rem_euclid n (pos u) ≡ pos m)
rest_below (pos a) u h = (a % u, mod-lt a h, refl)
rest_below (negsuc a) u h = (u - 1 - a % u, omega arith, refl)

-- ---- the first count that is not before a time
pub ceil-frac : (m d : ℕ) → 0 < d → ceil (frac (pos m) d) ≡ pos (div_ceil m d)
ceil-frac m d h =
    let bounds = div_ceil_times m d h in
    ceil_unique (frac (pos m) d) (pos (div_ceil m d))
    (le_from_cross (Over-frac (pos m) d h) (Over-whole (pos (div_ceil m d))) (above m (div_ceil m d) d bounds.0))
    (lt_from_cross (Over-whole (pos (div_ceil m d) -ℤ pos 1)) (Over-frac (pos m) d h) (beneath m (div_ceil m d) d bounds.1))
  where
    above : (m c d : ℕ) → m ≤ c * d → (pos m *ℤ pos 1) ≤ℤ (pos c *ℤ pos d)
    above m c d h = omega (arith, ints)

    beneath : (m c d : ℕ) → c * d < m + d → ((pos c -ℤ pos 1) *ℤ pos d) <ℤ (pos m *ℤ pos 1)
    beneath m c d h = rw (struck (pos c) (pos d)) (omega (arith, ints))
      where
        struck : (c d : ℤ) → (c -ℤ pos 1) *ℤ d ≡ c *ℤ d -ℤ d
        struck c d = by_ring integers (c ∷ d ∷ []) (search ring depth 12) refl

-- a time of a cycle's start f and r over d after it, in a unit of k times d and s: with what is no whole number of counts apart
apart : (f u n r k s d : ℤ) → n ≡ f *ℤ d +ℤ r → u ≡ k *ℤ d +ℤ s
    → (n *ℤ u) *ℤ (d *ℤ pos 1) ≡ ((r *ℤ s) *ℤ pos 1 +ℤ (f *ℤ u +ℤ r *ℤ k) *ℤ d) *ℤ (d *ℤ pos 1)
apart f u n r k s d e g = rw (e, g) (by_ring integers (f ∷ r ∷ k ∷ s ∷ d ∷ []) (search ring depth 24) refl)

pub count_from_is : (t : Rational) (u r : ℕ) → pos r ≡ t.num -ℤ floor t *ℤ pos t.den
    → ceil (t *ℚ whole (pos u)) ≡ floor t *ℤ pos u +ℤ pos (r * (u / t.den) + div_ceil (r * (u % t.den)) t.den)
count_from_is t u r e =
    let d = t.den in
    let h = den_positive t in
    let k = u / d in
    let s = u % d in
    let whole_counts = floor t *ℤ pos u +ℤ pos (r * k) in
    let num : t.num ≡ floor t *ℤ pos d +ℤ pos r = omega (arith, ints) in
    let unit : pos u ≡ pos k *ℤ pos d +ℤ pos s = ap pos (sym (div-add-mod' u d)) in
    let split : t *ℚ whole (pos u) ≡ frac (pos (r * s)) d +ℚ whole whole_counts =
    same_cross_over (Over-times (Over-self t) (Over-whole (pos u))) (Over-plus (Over-frac (pos (r * s)) d h) (Over-whole whole_counts))
    (apart (floor t) (pos u) t.num (pos r) (pos k) (pos s) (pos d) num unit) in
    ap ceil split ∙ ceil-plus (frac (pos (r * s)) d) whole_counts ∙ ap (λ c. c +ℤ whole_counts) (ceil-frac (r * s) d h)
    ∙ together (floor t *ℤ pos u) (r * k) (div_ceil (r * s) d)
  where
    together : (a : ℤ) (m c : ℕ) → pos c +ℤ (a +ℤ pos m) ≡ a +ℤ pos (m + c)
    together a m c = omega (arith, ints)

-- what the part of the cycle comes to
pub begun_small : (r u d : ℕ) → r < d → 0 < d → u ≤ 2 ^ 88 → d ≤ 2 ^ 44
    → (r * (u / d) ≤ 2 ^ 88) × (r * (u % d) ≤ 2 ^ 88) × (div_ceil (r * (u % d)) d ≤ 2 ^ 89)
begun_small r u d below h small fine =
    let divided = div-add-mod' u d in
    let rest = mod-lt u h in
    let times : r * (u / d) ≤ d * (u / d) = mul-le-mul_right (u / d) (omega arith) in
    let one : r ≤ 2 ^ 44 = omega arith in
    let other : u % d ≤ 2 ^ 44 = omega arith in
    let over : r * (u % d) ≤ 2 ^ 44 * 2 ^ 44 = mul-le-mul one other in
    let bounds = div_ceil_times (r * (u % d)) d h in
    (omega arith, omega arith, rounded (div_ceil (r * (u % d)) d) (r * (u % d)) d h fine over bounds.1)
  where
    rounded : (c m d : ℕ) → 0 < d → d ≤ 2 ^ 44 → m ≤ 2 ^ 88 → c * d < m + d → c ≤ 2 ^ 89
    rounded c m d h fine small most = let least : c * 1 ≤ c * d = mul-le-mul_left c (omega arith) in omega arith

pub count_from_small : (t : Rational) (u : ℕ) → InRange t → 0 < u → u ≤ 2 ^ 88 → nat_abs (ceil (t *ℚ whole (pos u))) ≤ 2 ^ 124
count_from_small t u is h small =
    let scale : (c : ℤ) → whole c *ℚ whole (pos u) ≡ whole (c *ℤ pos u) =
    λ c. same_cross_over (Over-times (Over-whole c) (Over-whole (pos u))) (Over-whole (c *ℤ pos u)) refl in
    let from = (times_pos_le (whole (neg_ℤ (pos (2 ^ 36)))) t (whole (pos u)) (whole_positive u h)).0 (in_range_above t is) in
    let to = (times_pos_le t (whole (pos (2 ^ 36))) (whole (pos u)) (whole_positive u h)).0 (in_range_below t is) in
    let low = ceil_monotone (subst (λ x. x ≤ℚ t *ℚ whole (pos u)) (scale (neg_ℤ (pos (2 ^ 36)))) from) in
    let high = ceil_monotone (subst (λ x. t *ℚ whole (pos u) ≤ℚ x) (scale (pos (2 ^ 36))) to) in
    within (ceil (t *ℚ whole (pos u))) u small
    (subst (λ n. n ≤ℤ ceil (t *ℚ whole (pos u))) (ceil-whole (neg_ℤ (pos (2 ^ 36)) *ℤ pos u)) low)
    (subst (λ n. ceil (t *ℚ whole (pos u)) ≤ℤ n) (ceil-whole (pos (2 ^ 36) *ℤ pos u)) high)
  where
    within : (c : ℤ) (u : ℕ) → u ≤ 2 ^ 88 → (neg_ℤ (pos (2 ^ 36)) *ℤ pos u) ≤ℤ c → c ≤ℤ (pos (2 ^ 36) *ℤ pos u) → nat_abs c ≤ 2 ^ 124
    within c u small low high = omega (arith, ints)

-- as the program reads it
pub rest_read : (t : Rational) (n r : ℤ) (d a : ℕ) → InRange t → n ≡ t.num → d ≡ t.den → r ≡ int_rem_euclid (read n) (to_z w128 d) → a ≡ nat_abs (read r)
    → pos a ≡ t.num -ℤ floor t *ℤ pos t.den
rest_read t n r d a is num den e f =
    let fine = is.fine in
    let near : nat_abs t.num ≤ 2 ^ 124 = omega (arith, is.near) in
    let small : t.den < 2 ^ 127 = omega arith in
    let below = rest_below t.num t.den (den_positive t) in
    let rest : r ≡ int_rem_euclid t.num (pos t.den) =
    e ∙ ap₂ int_rem_euclid (ap read num ∙ near_is t.num near) (ap (to_z w128) den ∙ to_z_pos w128 t.den small) in
    let size : a ≡ below.0 = f ∙ ap (λ k. nat_abs (read k)) (rest ∙ below.2) ∙ ap nat_abs (near_is (pos below.0) (within below.0 t.den below.1 fine)) in
    ap pos size ∙ sym below.2 ∙ rest_is t.num t.den (den_positive t) ∙ ap (λ q. t.num -ℤ q *ℤ pos t.den) (sym (Over-floor (Over-self t)))
  where
    within : (m d : ℕ) → m < d → d ≤ 2 ^ 44 → nat_abs (pos m) ≤ 2 ^ 124
    within m d h k = omega (arith, ints)

module _ (t : Rational) (u r c : ℕ) (n : ℤ) (is : InRange t) (h : 0 < u) (small : u ≤ 2 ^ 88) (rest : pos r ≡ t.num -ℤ floor t *ℤ pos t.den) (below : r < t.den)
    (d : ℕ) (den : d ≡ t.den) (up : c ≡ div_ceil (r * (u % d)) d) (cycles : n ≡ floor t *ℤ pos u) (near : nat_abs n ≤ 2 ^ 126) where
  begun_within : r * (u / d) + c ≤ 2 ^ 90
  begun_within =
      let fine : d ≤ 2 ^ 44 = omega (arith, is.fine, den) in
      let some : 0 < d = omega (arith, den_positive t, den) in
      let bounds = begun_small r u d (omega (arith, below, den)) some small fine in
      omega (arith, bounds.0, bounds.2, up)

  sum_seen : read n +ℤ to_z w128 (r * (u / d) + c) ≡ n +ℤ pos (r * (u / d) + c)
  sum_seen =
      let few : r * (u / d) + c < 2 ^ 127 = omega (arith, begun_within) in
      ap₂ ◌+ℤ◌ (to_z-of_z w128 n (fits n near)) (to_z_pos w128 _ few)
    where
      fits : (n : ℤ) → nat_abs n ≤ 2 ^ 126 → FitsSigned w128 n
      fits n h = omega (arith, ints)

  pub count_fits : FitsSigned w128 (read n +ℤ to_z w128 (r * (u / d) + c))
  count_fits = rw sum_seen (fits n (r * (u / d) + c) near begun_within)
    where
      fits : (n : ℤ) (k : ℕ) → nat_abs n ≤ 2 ^ 126 → k ≤ 2 ^ 90 → FitsSigned w128 (n +ℤ pos k)
      fits n k h g = omega (arith, ints)

  pub count_read : read (read n +ℤ to_z w128 (r * (u / d) + c)) ≡ ceil (t *ℚ whole (pos u))
  count_read =
      to_z-of_z w128 _ count_fits ∙ sum_seen ∙ ap₂ (λ m (k : ℕ). m +ℤ pos k) cycles
      (ap (λ k. r * (u / d) + k) up ∙ ap (λ k. r * (u / k) + div_ceil (r * (u % k)) k) den)
      ∙ sym (count_from_is t u r rest)

-- ---- windows
pub place_count : (n : ℤ) (u : ℕ) → 0 < u → place (frac n u) ≡ frac (int_rem_euclid n (pos u)) u
place_count n u h =
    let q = int_div_euclid n (pos u) in
    ap (λ c. frac n u -ℚ whole c) (floor-frac n u h) ∙ sym (time-earlier_cycles n q u h) ∙ ap (λ m. frac m u) (sym (rest_is n u h))

module _ (t : Rational) (n : ℤ) (u : ℕ) (h : 0 < u) where
  pub from_count : le_ℚ t (frac n u) ≡ le_z (ceil (t *ℚ whole (pos u))) n
  from_count = by (le_ℚ t (frac n u)) refl
    where
      by : (b : Bool) → le_ℚ t (frac n u) ≡ b → b ≡ le_z (ceil (t *ℚ whole (pos u))) n
      by true e = let k = (not_before t n u h).0 ((le_ℚ-true t (frac n u)).0 e) in grind (arith, ints)
      by false e =
          let k : ceil (t *ℚ whole (pos u)) ≤ℤ n → ⊥ = λ c. clash_ℚ ((le_ℚ-false t (frac n u)).0 e) ((not_before t n u h).1 c) in
          grind (arith, ints)

  pub before_count : lt_ℚ (frac n u) t ≡ lt_z n (ceil (t *ℚ whole (pos u)))
  before_count = by (lt_ℚ (frac n u) t) refl
    where
      by : (b : Bool) → lt_ℚ (frac n u) t ≡ b → b ≡ lt_z n (ceil (t *ℚ whole (pos u)))
      by true e =
          let k : ceil (t *ℚ whole (pos u)) ≤ℤ n → ⊥ = λ c. clash_ℚ ((lt_ℚ-true (frac n u) t).0 e) ((not_before t n u h).1 c) in
          grind (arith, ints)
      by false e = let k = (not_before t n u h).0 ((lt_ℚ-false (frac n u) t).0 e) in grind (arith, ints)

pub between_counts : (from to : Rational) (n : ℤ) (u : ℕ) → 0 < u → (let m = int_rem_euclid n (pos u) in
    (le_z (ceil (from *ℚ whole (pos u))) m && lt_z m (ceil (to *ℚ whole (pos u)))) ≡ is_between from to (place (frac n u)))
between_counts from to n u h =
    let m = int_rem_euclid n (pos u) in
    ap₂ ◌&&◌ (sym (from_count from m u h)) (sym (before_count to m u h)) ∙ ap (is_between from to) (sym (place_count n u h))

-- what the program tests is whether an item passes
pub passes_read : (from to : Rational) (inside : Bool) (u : ℕ) → 0 < u → (i : Item) (n first limit : ℤ) (b : Bool) → n ≡ i.whole.start → IsCount i.whole.start
    → first ≡ ceil (from *ℚ whole (pos u)) → nat_abs first ≤ 2 ^ 124 → limit ≡ ceil (to *ℚ whole (pos u)) → nat_abs limit ≤ 2 ^ 124
    → b ≡ (le_z (read first) (int_rem_euclid (read n) (pos u)) && lt_z (int_rem_euclid (read n) (pos u)) (read limit))
    → beq b inside ≡ passes_in u from to inside i
passes_read from to inside u h i n first limit b start near e small f few tested =
    let m = int_rem_euclid i.whole.start (pos u) in
    let rest : int_rem_euclid (read n) (pos u) ≡ m = ap (λ k. int_rem_euclid k (pos u)) (ap read start ∙ near_is i.whole.start near) in
    let counted : b ≡ is_between from to (place (frac i.whole.start u)) =
    tested ∙ ap₂ (λ k l. le_z k (int_rem_euclid (read n) (pos u)) && lt_z (int_rem_euclid (read n) (pos u)) l) (near_is first small ∙ e) (near_is limit few ∙ f)
    ∙ ap (λ k. le_z (ceil (from *ℚ whole (pos u))) k && lt_z k (ceil (to *ℚ whole (pos u)))) rest ∙ between_counts from to i.whole.start u h in
    ap (λ k. beq k inside) counted ∙ starts_in_by from to inside (arc_of u i.whole)
