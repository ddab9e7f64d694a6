-- What a shifted tree asks of its child for an arc of one cycle, and what it makes of the answer.
use Rattle.std.proofs.Common.{◌≡◌, ℕ, ◌+◌, ◌*◌, ◌≤◌, map, length, ℤ, sym, ap, ◌∙◌, subst, arith}
use Rattle.std.proofs.Math.Nat.{le_trans, mul-le-mul_right}
use Rattle.tdl_fraction.specs.Rational.{Rational, ◌+ℚ◌, ◌-ℚ◌}
use Rattle.tdl_fraction.specs.Arc.{Arc, IsArc, IsInside, map_arc}
use Rattle.tdl_fraction.proofs.Arcs.{keeps_arc, keeps_inside, keeps-minus}
use Rattle.tdl_expr.specs.Bounds.{shift_touches as touched_by}
use Rattle.tdl_meaning.specs.Pattern.{Pattern, over, moved, cycle_arc, cycles_of}
use Rattle.tdl_meaning.specs.Kinds.{shift, earlier}
use Rattle.tdl_meaning.specs.Proper.{HasProperEvents}
use Rattle.tdl_meaning.proofs.kinds.Counts.{fewer_cycles}
use Rattle.tdl_meaning.proofs.kinds.Shift.{shift_touches, touches_one_or_two, over-shift}

pub shift_over : (t : Rational) (p : Pattern) (c : ℤ) (a ask : Arc) → HasProperEvents p → IsArc a → IsInside a (cycle_arc c)
    → ask ≡ map_arc (λ u. u -ℚ t) a → map (moved (λ u. u +ℚ t)) (over p ask) ≡ over (shift t p) a
shift_over t p c a ask well h inside is = ap (λ b. map (moved (λ u. u +ℚ t)) (over p b)) is ∙ sym (over-shift t p well c a h inside)

-- ---- steps
-- an arc of one cycle, earlier by some time, meets no more cycles than that cycle does
touches : (t : Rational) (c : ℤ) (a : Arc) → IsArc a → IsInside a (cycle_arc c) → length (cycles_of (map_arc (λ u. u -ℚ t) a)) ≤ touched_by t
touches t c a h inside =
    let back : Rational → Rational = λ u. u -ℚ t in
    let fewer = fewer_cycles (map_arc back a) (earlier t c) (keeps_arc back (keeps-minus t) a h) (keeps_inside back (keeps-minus t) a (cycle_arc c) inside) in
    subst (λ n. length (cycles_of (map_arc back a)) ≤ n) (sym (touches_one_or_two t)) (le_trans fewer (shift_touches t c))

pub at_shift : (t : Rational) (c : ℤ) (a ask : Arc) (l s0 s1 : ℕ) → IsArc a → IsInside a (cycle_arc c) → ask ≡ map_arc (λ u. u -ℚ t) a
    → s1 ≤ s0 + length (cycles_of ask) * l → s1 + 1 ≤ s0 + (1 + touched_by t * l)
at_shift t c a ask l s0 s1 h inside is few =
    let met = subst (λ b. length (cycles_of b) ≤ touched_by t) (sym is) (touches t c a h inside) in
    omega (arith, few, mul-le-mul_right l met)
