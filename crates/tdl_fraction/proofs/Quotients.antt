-- The program's quotients, rounded down, at a fraction in range.
use Rattle.std.specs.Prelude.{◌≡◌, ℕ, ◌+◌, ◌*◌, ◌/◌, ◌^◌, ◌<◌, ◌≤◌, ℤ, pos, negsuc, neg_ℤ, nat_abs, ◌-ℤ◌}
use Rattle.std.specs.Int.{int_div_euclid}
use Rattle.std.proofs.Common.{sym, ap, ap₂, ◌∙◌, to_z, of_z, w64, arith}
use Rattle.std.proofs.lemmas.Int.{ints, to_z_pos}
use Rattle.std.proofs.Math.Nat.{div-lt_iff_lt-mul, div-one}
use mir.Syntax.{w128}
use Rattle.tdl_fraction.specs.Rational.{Rational, floor, ceil}
use Rattle.tdl_fraction.specs.Range.{InRange}
use Rattle.tdl_fraction.proofs.Over.{Over-self, Over-floor, Over-ceil, den_positive}
use Rattle.tdl_fraction.proofs.Words128.{near_is}

-- a quotient of a number that is at most 2^36 times the divisor
quotient_near : (n : ℤ) (d : ℕ) → 0 < d → nat_abs n ≤ 2 ^ 36 * d → nat_abs (int_div_euclid n (pos d)) ≤ 2 ^ 36
quotient_near (pos a) d p h =
    let above : a < (2 ^ 36 + 1) * d = omega arith in
    let below : a / d < 2 ^ 36 + 1 = (div-lt_iff_lt-mul p).1 above in
    omega arith
quotient_near (negsuc a) d p h =
    let above : a < 2 ^ 36 * d = omega arith in
    let below : a / d < 2 ^ 36 = (div-lt_iff_lt-mul p).1 above in
    omega arith

-- a quotient, passed through 128 and 64 bits
pub shortened : (q : ℤ) → nat_abs q ≤ 2 ^ 36 → to_z w64 (of_z w64 (to_z w128 (of_z w128 q))) ≡ q
shortened q h = omega (arith, ints)

divided_seen : (n : ℤ) (d : ℕ) → nat_abs n ≤ 2 ^ 124 → d ≤ 2 ^ 44 → int_div_euclid (to_z w128 (of_z w128 n)) (to_z w128 d) ≡ int_div_euclid n (pos d)
divided_seen n d h k =
    let small : d < 2 ^ 127 = omega arith in
    ap₂ int_div_euclid (near_is n h) (to_z_pos w128 d small)

-- the program's quotient is the floor
pub floor_is : (x : Rational) (n : ℤ) (d : ℕ) (q : ℤ) → InRange x → n ≡ x.num → d ≡ x.den → q ≡ int_div_euclid (to_z w128 (of_z w128 n)) (to_z w128 d)
    → q ≡ floor x
floor_is x n d q r e f g =
    let near : nat_abs n ≤ 2 ^ 124 = rw e (omega arith) in
    let fine : d ≤ 2 ^ 44 = rw f (omega arith) in
    g ∙ divided_seen n d near fine ∙ ap₂ (λ n d. int_div_euclid n (pos d)) e f ∙ sym (Over-floor (Over-self x))

-- the floor of a number in range
pub floor_near : (x : Rational) → InRange x → nat_abs (floor x) ≤ 2 ^ 36
floor_near x r = rw (Over-floor (Over-self x)) (quotient_near x.num x.den (den_positive x) r.near)

-- the floor as it is handed out
pub floor_shortened : (x : Rational) (q : ℤ) → InRange x → q ≡ floor x → to_z w64 (of_z w64 (to_z w128 (of_z w128 q))) ≡ floor x
floor_shortened x q r e = ap (λ q. to_z w64 (of_z w64 (to_z w128 (of_z w128 q)))) e ∙ shortened (floor x) (floor_near x r)

by_one : (n : ℤ) → int_div_euclid n (pos 1) ≡ n
by_one (pos a) = ap pos (div-one a)
by_one (negsuc a) = ap negsuc (div-one a)

-- a whole number is its own floor, and its own ceiling
pub whole_floor : (x : Rational) (n : ℤ) (d : ℕ) → n ≡ x.num → d ≡ x.den → d ≡ 1 → n ≡ floor x
whole_floor x n d e f h =
    e ∙ sym (by_one x.num) ∙ ap (λ d. int_div_euclid x.num (pos d)) (sym h ∙ f) ∙ sym (Over-floor (Over-self x))

-- a number of the program, passed through 64 bits, as the floor that it is
pub whole_floor_seen : (x : Rational) (n : ℤ) (d : ℕ) → InRange x → n ≡ x.num → d ≡ x.den → d ≡ 1 → to_z w64 (of_z w64 (to_z w128 (of_z w128 n))) ≡ floor x
whole_floor_seen x n d r e f h = floor_shortened x n r (whole_floor x n d e f h)

-- ---- rounded up: the other way round
negated : (n : ℤ) → nat_abs n ≤ 2 ^ 124 → to_z w128 (of_z w128 (pos 0 -ℤ to_z w128 (of_z w128 n))) ≡ neg_ℤ n
negated n h = omega (arith, ints)

nat_abs-neg : (n : ℤ) → nat_abs (neg_ℤ n) ≡ nat_abs n
nat_abs-neg n = omega (arith, ints)

abbrev below : Rational → ℤ
below x = int_div_euclid (neg_ℤ x.num) (pos x.den)

below_near : (x : Rational) → InRange x → nat_abs (below x) ≤ 2 ^ 36
below_near x r = quotient_near (neg_ℤ x.num) x.den (den_positive x) (rw (nat_abs-neg x.num) r.near)

-- the program's quotient of the number turned round
pub below_is : (x : Rational) (n : ℤ) (d : ℕ) (q : ℤ) → InRange x → n ≡ x.num → d ≡ x.den
    → q ≡ int_div_euclid (to_z w128 (of_z w128 (pos 0 -ℤ to_z w128 (of_z w128 n)))) (to_z w128 d) → q ≡ below x
below_is x n d q r e f g =
    let near : nat_abs n ≤ 2 ^ 124 = rw e (omega arith) in
    let small : d < 2 ^ 127 = rw f (omega arith) in
    g ∙ ap₂ int_div_euclid (negated n near ∙ ap neg_ℤ e) (to_z_pos w128 d small ∙ ap pos f)

-- the ceiling as it is handed out
pub ceil_shortened : (x : Rational) (q : ℤ) → InRange x → q ≡ below x → to_z w64 (of_z w64 (pos 0 -ℤ to_z w64 (of_z w64 (to_z w128 (of_z w128 q))))) ≡ ceil x
ceil_shortened x q r e =
    ap (λ q. to_z w64 (of_z w64 (pos 0 -ℤ to_z w64 (of_z w64 (to_z w128 (of_z w128 q)))))) e ∙ turned (below x) (below_near x r) ∙ sym (Over-ceil (Over-self x))
  where
    turned : (q : ℤ) → nat_abs q ≤ 2 ^ 36 → to_z w64 (of_z w64 (pos 0 -ℤ to_z w64 (of_z w64 (to_z w128 (of_z w128 q))))) ≡ neg_ℤ q
    turned q h = omega (arith, ints)

-- the ceiling of a number in range
pub ceil_near : (x : Rational) → InRange x → nat_abs (ceil x) ≤ 2 ^ 36
ceil_near x r = rw (Over-ceil (Over-self x), nat_abs-neg (below x)) (below_near x r)

pub whole_ceil_seen : (x : Rational) (n : ℤ) (d : ℕ) → InRange x → n ≡ x.num → d ≡ x.den → d ≡ 1 → to_z w64 (of_z w64 (to_z w128 (of_z w128 n))) ≡ ceil x
whole_ceil_seen x n d r e f h =
    let own : n ≡ ceil x =
    e ∙ twice x.num ∙ ap neg_ℤ (sym (by_one (neg_ℤ x.num)) ∙ ap (λ d. int_div_euclid (neg_ℤ x.num) (pos d)) (sym h ∙ f)) ∙ sym (Over-ceil (Over-self x)) in
    ap (λ q. to_z w64 (of_z w64 (to_z w128 (of_z w128 q)))) own ∙ shortened (ceil x) (ceil_near x r)
  where
    twice : (n : ℤ) → n ≡ neg_ℤ (neg_ℤ n)
    twice n = omega (arith, ints)
