-- Times and arcs tested against the grid of tick units.
use Rattle.std.proofs.Common.{◌≡◌, ℕ, ◌*◌, ◌/◌, ◌%◌, ◌^◌, ◌<◌, ◌≤◌, Bool, true, false, not, IsTrue, nat_eq, ◌↔◌, ℤ, pos, neg_ℤ, nat_abs, ◌≤ℤ◌, sym, ap, ◌∙◌}
use Rattle.std.proofs.Common.{subst, arith}
use Rattle.std.proofs.lemmas.Bool.{false≢true, not-true, not_from_false, eqb-true, eq-eqb}
use Rattle.std.proofs.lemmas.Int.{ints}
use Rattle.std.proofs.lemmas.Nat.Gcd.{le_of_dvd, dvd_of_mod-eq-zero, mod-eq-zero_of_dvd}
use Rattle.std.proofs.Math.Nat.{mul-le-mul_right}
use Rattle.tdl_fraction.specs.Rational.{Rational, ◌≤ℚ◌, ◌<ℚ◌, lt_ℚ, whole, IsMultiple}
use Rattle.tdl_fraction.specs.Range.{InRange}
use Rattle.tdl_fraction.proofs.Ranges.{InRange-between}
use Rattle.tdl_fraction.specs.Arc.{Arc, IsArc}
use Rattle.tdl_fraction.specs.Units.{tick_units, most_units, last_cycle, time_of, IsOnGrid, IsQueryArc}
use Rattle.tdl_fraction.proofs.Over.{Over, Over-self, Over-frac, Over-zero, same_cross_over, den_positive, num_from_le, lt_ℚ-false}
use Rattle.tdl_fraction.proofs.Multiples.{frac_multiple}
use Rattle.tdl_fraction.proofs.Order.{clash_ℚ, ≤ℚ_trans, ≤ℚ_from_<ℚ, whole-le}
use Rattle.tdl_fraction.proofs.UnitTimes.{units-le, cycle_units}

-- not below is at least
pub at_most_test : (p q : Rational) (b : Bool) → b ≡ lt_ℚ p q → IsTrue (not b) ↔ (q ≤ℚ p)
at_most_test p q b e =
    (λ h. (lt_ℚ-false p q).0 (sym e ∙ not-true b h), λ h. not_from_false b (e ∙ (lt_ℚ-false p q).1 h))

-- the denominator divides the grid
pub multiple_test : (g d : ℕ) (x : Rational) → d ≡ x.den → IsTrue (nat_eq (g % d) 0) ↔ IsMultiple g x
multiple_test g d x e =
    (λ h. record { divides = rw (← e) (dvd_of_mod-eq-zero d (eqb-true (g % d) 0 h)) }, λ m. eq-eqb (g % d) 0 (mod-eq-zero_of_dvd d (rw e m.divides)))

-- a test after one that passed
pub and_then : {P Q : Type 0} (first second : Bool) → first ≡ true → IsTrue first ↔ P → IsTrue second ↔ Q → IsTrue second ↔ (P × Q)
and_then first second e p q = (λ h. (p.0 e, q.0 h), λ both. q.1 both.1)

-- after one that failed
pub and_else : {P Q : Type 0} (first : Bool) → first ≡ false → IsTrue first ↔ P → IsTrue first ↔ (P × Q)
and_else first e p = (λ h. absurd (false≢true (sym e ∙ h)), λ both. p.1 both.0)

abbrev OnGrid : Arc → Type 0
OnGrid arc = IsMultiple tick_units arc.start × IsMultiple tick_units arc.stop

abbrev WithinCycles : Arc → Type 0
WithinCycles arc = (whole (pos 0) ≤ℚ arc.start) × (arc.stop ≤ℚ whole (pos last_cycle))

grid_test : (arc : Arc) (b : Bool) → IsTrue b ↔ OnGrid arc → IsTrue b ↔ IsOnGrid arc
grid_test arc b p = (λ h. record { start = (p.0 h).0; stop = (p.0 h).1 }, λ g. p.1 (g.start, g.stop))

-- the second end is tested after the first one passed
pub grid_then : (arc : Arc) (start stop : Rational) (first second : Bool) → start ≡ arc.start → stop ≡ arc.stop → first ≡ true
    → IsTrue first ↔ IsMultiple tick_units start → IsTrue second ↔ IsMultiple tick_units stop → IsTrue second ↔ IsOnGrid arc
grid_then arc start stop first second s t e p q =
    let P : Rational → Type 0 = λ x. IsTrue first ↔ IsMultiple tick_units x in
    let Q : Rational → Type 0 = λ x. IsTrue second ↔ IsMultiple tick_units x in
    grid_test arc second (and_then first second e (subst P s p) (subst Q t q))

-- and not where it failed
pub grid_else : (arc : Arc) (start : Rational) (first : Bool) → start ≡ arc.start → first ≡ false → IsTrue first ↔ IsMultiple tick_units start
    → IsTrue first ↔ IsOnGrid arc
grid_else arc start first s e p =
    let P : Rational → Type 0 = λ x. IsTrue first ↔ IsMultiple tick_units x in
    grid_test arc first (and_else first e (subst P s p))

pub query_arc_test : (arc : Arc) (within grid : Bool) → IsArc arc → within ≡ true → IsTrue within ↔ WithinCycles arc → IsTrue grid ↔ IsOnGrid arc
    → IsTrue grid ↔ IsQueryArc arc
query_arc_test arc within grid ordered e p q = (
  λ h. record { ordered = ordered; from_zero = (p.0 e).0; to_last = (p.0 e).1; on_grid = q.0 h },
  λ a. q.1 a.on_grid,
)

pub no_query_arc_test : (arc : Arc) (within : Bool) → within ≡ false → IsTrue within ↔ WithinCycles arc → IsTrue within ↔ IsQueryArc arc
no_query_arc_test arc within e p = (λ h. absurd (false≢true (sym e ∙ h)), λ a. p.1 (a.from_zero, a.to_last))

pub within_test : (arc : Arc) (zero last start stop : Rational) (first second : Bool) → zero ≡ whole (pos 0) → start ≡ arc.start → stop ≡ arc.stop
    → last ≡ whole (pos last_cycle) → first ≡ true → IsTrue first ↔ (zero ≤ℚ start) → IsTrue second ↔ (stop ≤ℚ last) → IsTrue second ↔ WithinCycles arc
within_test arc zero last start stop first second z s t l e p q =
    let A : Rational → Rational → Type 0 = λ x y. IsTrue first ↔ (x ≤ℚ y) in
    let B : Rational → Rational → Type 0 = λ x y. IsTrue second ↔ (x ≤ℚ y) in
    let p' : IsTrue first ↔ (whole (pos 0) ≤ℚ arc.start) = subst (λ x. A x arc.start) z (subst (A zero) s p) in
    let q' : IsTrue second ↔ (arc.stop ≤ℚ whole (pos last_cycle)) = subst (λ x. B x (whole (pos last_cycle))) t (subst (B stop) l q) in
    and_then first second e p' q'

-- ---- times as counts of tick units
on_numbers : (t : Rational) (s : ℕ) → whole (pos 0) ≤ℚ t → s ≡ nat_abs t.num → t.num ≡ pos s
on_numbers t s h e = natural t.num s (num_from_le (Over-zero t.den (den_positive t)) (Over-self t) h) e
  where
    natural : (a : ℤ) (s : ℕ) → pos 0 ≤ℤ a → s ≡ nat_abs a → a ≡ pos s
    natural a s h e = omega (arith, ints)

quotient_of : (d : ℕ) → 0 < d → tick_units % d ≡ 0 → tick_units ≡ (tick_units / d) * d
quotient_of d p e = omega arith

pub count_is : (t : Rational) (s d : ℕ) → whole (pos 0) ≤ℚ t → s ≡ nat_abs t.num → d ≡ t.den → tick_units % d ≡ 0 → t ≡ time_of (s * (tick_units / d))
count_is t s d h e f g =
    let p : 0 < d = rw f (den_positive t) in
    let here : Over (pos s) d t = subst (λ n. Over (pos s) n t) (sym f) (subst (λ z. Over z t.den t) (on_numbers t s h e) (Over-self t)) in
    let crossed : s * tick_units ≡ (s * (tick_units / d)) * d = crosses s (tick_units / d) d tick_units (quotient_of d p g) in
    same_cross_over here (Over-frac (pos (s * (tick_units / d))) tick_units (omega arith)) (ap pos crossed)
  where
    crosses : (s q d u : ℕ) → u ≡ q * d → s * u ≡ (s * q) * d
    crosses s q d u e = rw e (grind arith)

pub count_bound : (s d : ℕ) → 0 < d → s ≤ 2 ^ 36 * d → tick_units % d ≡ 0 → s * (tick_units / d) ≤ most_units
count_bound s d p near g =
    let q = tick_units / d in
    let product = mul-le-mul_right q near in
    let whole_units = quotient_of d p g in
    scaled (2 ^ 36) s q d tick_units product whole_units
  where
    scaled : (m s q d u : ℕ) → s * q ≤ m * d * q → u ≡ q * d → s * q ≤ m * u
    scaled m s q d u h e = rw e (grind arith)

-- a count of units is not below 0
pub not_below_zero : (t zero : Rational) (units : ℕ) → zero ≡ whole (pos 0) → t <ℚ zero → t ≡ time_of units → ⊥
not_below_zero t zero units z below e =
    let from_zero : whole (pos 0) ≤ℚ time_of units = subst (λ x. x ≤ℚ time_of units) (cycle_units 0) (units-le 0 units (omega arith)) in
    let under : t <ℚ whole (pos 0) = subst (λ x. t <ℚ x) z below in
    clash_ℚ under (subst (λ x. whole (pos 0) ≤ℚ x) (sym e) from_zero)

-- and on the grid
pub not_off_grid : (t : Rational) (units : ℕ) (test : Bool) → test ≡ false → IsTrue test ↔ IsMultiple tick_units t → t ≡ time_of units → ⊥
not_off_grid t units test off tells e =
    let multiple : IsMultiple tick_units t = subst (IsMultiple tick_units) (sym e) (frac_multiple (pos units) tick_units (omega arith)) in
    false≢true (sym off ∙ tells.1 multiple)

pub whole_units : (t : Rational) (d : ℕ) (test : Bool) → d ≡ t.den → test ≡ true → IsTrue test ↔ IsMultiple tick_units t → tick_units % d ≡ 0
whole_units t d test e on tells = mod-eq-zero_of_dvd d (rw e ((tells.0 on).divides))

pub unit_small : (d : ℕ) → 0 < d → tick_units % d ≡ 0 → d ≤ tick_units
unit_small d p e = le_of_dvd (omega arith) (dvd_of_mod-eq-zero d e)

-- ---- the ends of a query's arc are numbers of the program
fine_on_grid : (x : Rational) → IsMultiple tick_units x → x.den ≤ 2 ^ 44
fine_on_grid x m = let small = le_of_dvd (omega arith) m.divides in omega arith

between : (x : Rational) → IsMultiple tick_units x → whole (pos 0) ≤ℚ x → x ≤ℚ whole (pos last_cycle) → InRange x
between x m low high =
    InRange-between x (fine_on_grid x m)
    (≤ℚ_trans ((whole-le (neg_ℤ (pos (2 ^ 36))) (pos 0)).0 (omega (arith, ints))) low)
    (≤ℚ_trans high ((whole-le (pos last_cycle) (pos (2 ^ 36))).0 (omega (arith, ints))))

pub query_start_in_range : (arc : Arc) → IsQueryArc arc → InRange arc.start
query_start_in_range arc a = between arc.start a.on_grid.start a.from_zero (≤ℚ_trans (≤ℚ_from_<ℚ a.ordered) a.to_last)

pub query_stop_in_range : (arc : Arc) → IsQueryArc arc → InRange arc.stop
query_stop_in_range arc a = between arc.stop a.on_grid.stop (≤ℚ_trans a.from_zero (≤ℚ_from_<ℚ a.ordered)) a.to_last
