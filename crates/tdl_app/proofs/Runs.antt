-- Runs of whole cycles, what an arc has of them, and the batches of an arc.
use Rattle.std.proofs.Common.{◌≡◌, ℕ, ◌+◌, ◌<◌, [], ◌++◌, ℤ, pos, ◌+ℤ◌, ◌≤ℤ◌, Some, sym, ap, ap₂, ◌∙◌, arith}
use Rattle.std.proofs.lemmas.Int.{ints}
use Rattle.std.proofs.lemmas.Grind.{flat_map-append}
use Rattle.tdl_fraction.specs.Rational.{whole, floor, ceil}
use Rattle.tdl_fraction.specs.Arc.{Arc, IsArc, meet, map_arc}
use Rattle.tdl_fraction.proofs.Field.{whole-plus}
use Rattle.tdl_fraction.proofs.MinMax.{min_le_left, le_max_left}
use Rattle.tdl_fraction.proofs.Order.{≤ℚ_trans, ≤ℚ_from_same, whole-le, whole-lt}
use Rattle.tdl_fraction.proofs.Rounding.{le_floor, ceil_le}
use Rattle.tdl_fraction.proofs.Arcs.{meet_around, meet_inside, meet-none}
use Rattle.tdl_event.specs.Event.{clip, clip_event}
use Rattle.tdl_meaning.specs.Pattern.{Pattern, over}
use Rattle.tdl_meaning.specs.Proper.{HasProperEvents}
use Rattle.tdl_meaning.specs.Repeats.{later}
use Rattle.tdl_meaning.specs.Onsets.{from_to}
use Rattle.tdl_meaning.specs.inside.Arcs.{over_met}
use Rattle.tdl_meaning.proofs.Cuts.{over_joined, clip_over}
use Rattle.tdl_app.specs.inside.Batches.{run}

-- a run has width
pub run_is_arc : (c : ℤ) (n : ℕ) → 0 < n → IsArc (run c n)
run_is_arc c n some = (whole-lt c (c +ℤ pos n)).0 (omega (arith, ints))

-- a run of the same length, after a run
pub run_later : (c : ℤ) (n : ℕ) → map_arc (later n) (run c n) ≡ run (c +ℤ pos n) n
run_later c n = ap₂ (λ s t. record { start = s; stop = t }) (sym (whole-plus c (pos n))) (sym (whole-plus (c +ℤ pos n) (pos n)))

-- an arc within the run, and a run within the arc
pub arc_in_run : (a : Arc) (c : ℤ) (n : ℕ) → IsArc a → c ≤ℤ floor a.start → ceil a.stop ≤ℤ (c +ℤ pos n) → meet (run c n) a ≡ Some a
arc_in_run a c n is low high = meet_around (run c n) a is ((le_floor c a.start).1 low, (ceil_le a.stop (c +ℤ pos n)).1 high)

pub run_in_arc : (a : Arc) (c : ℤ) (n : ℕ) → 0 < n → ceil a.start ≤ℤ c → (c +ℤ pos n) ≤ℤ floor a.stop → meet (run c n) a ≡ Some (run c n)
run_in_arc a c n some low high =
    meet_inside (run c n) a (run_is_arc c n some) ((ceil_le a.start c).1 low, (le_floor (c +ℤ pos n) a.stop).1 high)

-- no cycles have no events
pub over_no_run : (p : Pattern) (a : Arc) (c : ℤ) → over_met p (meet (run c 0) a) ≡ []
over_no_run p a c =
    ap (over_met p)
    (meet-none (run c 0) a (≤ℚ_trans (min_le_left (whole (c +ℤ pos 0)) a.stop)
    (≤ℚ_trans (≤ℚ_from_same (ap whole (same c))) (le_max_left (whole c) a.start))))
  where
    same : (c : ℤ) → c +ℤ pos 0 ≡ c
    same c = omega (arith, ints)

-- a run and then another one
pub over_runs : (p : Pattern) → HasProperEvents p → (a : Arc) (c : ℤ) (m n : ℕ)
    → over_met p (meet (run c (m + n)) a) ≡ over_met p (meet (run c m) a) ++ over_met p (meet (run (c +ℤ pos m) n) a)
over_runs p well a c m n =
    sym (clip_over p well a (run c (m + n)))
    ∙ ap (clip a) (joined ∙ ap (λ z. over p (run c m) ++ over p (from_to (whole (c +ℤ pos m)) (whole z))) (ends c))
    ∙ flat_map-append (clip_event a) (over p (run c m)) (over p (run (c +ℤ pos m) n))
    ∙ ap₂ (λ xs ys. xs ++ ys) (clip_over p well a (run c m)) (clip_over p well a (run (c +ℤ pos m) n))
  where
    ends : (c : ℤ) → c +ℤ pos (m + n) ≡ (c +ℤ pos m) +ℤ pos n
    ends c = omega (arith, ints)

    joined : over p (run c (m + n)) ≡ over p (run c m) ++ over p (from_to (whole (c +ℤ pos m)) (whole (c +ℤ pos (m + n))))
    joined =
        over_joined p well (whole c) (whole (c +ℤ pos (m + n))) (c +ℤ pos m)
        ((whole-le c (c +ℤ pos m)).0 (omega (arith, ints))) ((whole-le (c +ℤ pos m) (c +ℤ pos (m + n))).0 (omega (arith, ints)))
