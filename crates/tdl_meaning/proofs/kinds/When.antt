-- One pattern in some cycles of each round and another in the others: facts and laws.
use Rattle.std.proofs.Common.{◌≡◌, ℕ, zero, suc, ◌/◌, ◌<◌, max, Bool, true, false, [], ◌∷◌, map, ℤ, pos, ◌+ℤ◌, ◌-ℤ◌, ◌*ℤ◌, nat_abs, refl}
use Rattle.std.proofs.Common.{sym, ap, ap₂, ◌∙◌, arith}
use Rattle.std.specs.Int.{◌∣◌}
use native.Mathlib.Nat.{mul-div_cancel'}
use Rattle.std.proofs.Math.Nat.{le_trans, le-max_left, le-max_right}
use Rattle.std.proofs.lemmas.Int.{ints}
use Rattle.tdl_ring.proofs.Quoting.{by_ring, ring}
use Rattle.tdl_ring.proofs.Integers.{integers}
use Rattle.tdl_fraction.specs.Divisor.{lcm}
use Rattle.tdl_fraction.specs.Rational.{Rational, frac, whole, ◌+ℚ◌, ◌/ℚ◌, ◌*ℚ◌, floor}
use Rattle.tdl_fraction.specs.Arc.{Arc, IsArc, IsInside}
use Rattle.tdl_fraction.proofs.Coprime.{divides_lcm_left, divides_lcm_right}
use Rattle.tdl_fraction.proofs.Field.{frac-quotient, whole-plus, whole-times, plus-/ℚ, *ℚ-divide}
use Rattle.tdl_fraction.proofs.Order.{whole_positive, ≢_from_positive}
use Rattle.tdl_fraction.proofs.Rounding.{floor-plus}
use Rattle.tdl_meaning.specs.Pattern.{Pattern, over, cycle_arc, moved, rounds, turn}
use Rattle.tdl_meaning.specs.Kinds.{one_of, when}
use Rattle.tdl_meaning.specs.Proper.{HasProperEvents}
use Rattle.tdl_meaning.specs.Heard.{heard}
use Rattle.tdl_meaning.specs.Repeats.{later, Repeats}
use Rattle.tdl_meaning.proofs.Gridded.{HasGrid, HasHang}
use Rattle.tdl_meaning.proofs.kinds.Grids.{finer}
use Rattle.tdl_meaning.proofs.kinds.Hangs.{further}
use Rattle.tdl_meaning.proofs.kinds.Counts.{HasCount}
use Rattle.tdl_meaning.proofs.Cuts.{over_inside}

-- what both patterns have in a cycle, the one has whose turn it is
by_turn : (P : Pattern → Type 0) (p q : Pattern) → P p → P q → (b : Bool) → P (one_of b p q)
by_turn P p q h k true = h
by_turn P p q h k false = k

module _ (modulus : ℕ) (meets : ℕ → Bool) (p q : Pattern) where
  -- whose turn it is
  abbrev pub turn_of : ℤ → Pattern
  turn_of c = one_of (meets (turn c modulus)) p q

  pub when_proper : HasProperEvents p → HasProperEvents q → HasProperEvents (when modulus meets p q)
  unfolding when
  when_proper h k c = by_turn HasProperEvents p q h k (meets (turn c modulus)) c

  pub when_grid : (g k : ℕ) → HasGrid g p → HasGrid k q → HasGrid (lcm g k) (when modulus meets p q)
  unfolding when
  when_grid g k on_p on_q c =
      by_turn (HasGrid (lcm g k)) p q
      (finer g (lcm g k) (divides_lcm_left g k) p on_p) (finer k (lcm g k) (divides_lcm_right g k) q on_q) (meets (turn c modulus)) c

  pub when_hang : (h k : ℕ) → HasHang h p → HasHang k q → HasHang (max h k) (when modulus meets p q)
  unfolding when
  when_hang h k hung_p hung_q c =
      by_turn (HasHang (max h k)) p q
      (further h (max h k) (le-max_left h k) p hung_p) (further k (max h k) (le-max_right h k) q hung_q) (meets (turn c modulus)) c

  pub when_count : (n m : ℕ) → HasCount n p → HasCount m q → HasCount (max n m) (when modulus meets p q)
  unfolding when
  when_count n m few_p few_q c =
      by_turn (HasCount (max n m)) p q
      (λ c. le_trans (few_p c) (le-max_left n m)) (λ c. le_trans (few_q c) (le-max_right n m)) (meets (turn c modulus)) c

  -- in an arc of one cycle
  pub over-when : (c : ℤ) (a : Arc) → IsArc a → IsInside a (cycle_arc c) → over (when modulus meets p q) a ≡ over (turn_of c) a
  unfolding when
  over-when c a h inside = over_inside (when modulus meets p q) c a h inside ∙ sym (over_inside (turn_of c) c a h inside)

  pub heard_when : (t : Rational) → heard (when modulus meets p q) t ≡ heard (turn_of (floor t)) t
  unfolding when
  heard_when t = refl

-- ---- repeats
-- so many rounds later
rounds_later : (c : ℤ) (n m : ℕ) → 0 < m → rounds (c +ℤ pos n *ℤ pos m) m ≡ rounds c m +ℤ pos n
rounds_later c n m positive =
    let apart = ≢_from_positive (whole_positive m positive) in
    ap floor
    (frac-quotient (c +ℤ pos n *ℤ pos m) m
    ∙ ap (λ x. x /ℚ whole (pos m)) (whole-plus c (pos n *ℤ pos m) ∙ ap (λ x. whole c +ℚ x) (whole-times (pos n) (pos m)))
    ∙ plus-/ℚ (whole c) (whole (pos n) *ℚ whole (pos m)) (whole (pos m))
    ∙ ap₂ (λ x y. x +ℚ y) (sym (frac-quotient c m)) (*ℚ-divide (whole (pos n)) (whole (pos m)) apart))
    ∙ floor-plus (frac c m) (pos n)

-- after whole rounds it is the same turn
pub turn_later : (c : ℤ) (n m : ℕ) → m ∣ n → turn (c +ℤ pos n) m ≡ turn c m
turn_later c n zero divides =
    let none = mul-div_cancel' 0 divides in
    let same : c +ℤ pos n ≡ c = omega (arith, ints, none) in
    ap (λ z. turn z zero) same
turn_later c n (suc k) divides =
    let m = suc k in
    let often = n / m in
    let so_many : pos n ≡ pos often *ℤ pos m = omega (arith, ints, mul-div_cancel' m divides) in
    ap (λ z. turn (c +ℤ z) m) so_many
    ∙ ap (λ r. nat_abs ((c +ℤ pos often *ℤ pos m) -ℤ r *ℤ pos m)) (rounds_later c often m (omega arith))
    ∙ ap nat_abs (left_over c (pos often) (pos m) (rounds c m))
  where
    left_over : (c k m r : ℤ) → (c +ℤ k *ℤ m) -ℤ (r +ℤ k) *ℤ m ≡ c -ℤ r *ℤ m
    left_over c k m r = by_ring integers (c ∷ k ∷ m ∷ r ∷ []) (search ring depth 12) refl

pub when_repeats : (n modulus : ℕ) (meets : ℕ → Bool) (p q : Pattern) → modulus ∣ n → Repeats n p → Repeats n q → Repeats n (when modulus meets p q)
unfolding when
when_repeats n modulus meets p q divides again_p again_q c =
    ap (λ k. one_of (meets k) p q (c +ℤ pos n)) (turn_later c n modulus divides)
    ∙ by_turn (λ x. x (c +ℤ pos n) ≡ map (moved (later n)) (x c)) p q (again_p c) (again_q c) (meets (turn c modulus))
