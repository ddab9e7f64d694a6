-- What holds of a pattern's events in an arc, from what holds of them in each cycle.
use Rattle.std.proofs.Common.{◌≡◌, ℕ, ◌⊎◌, inl, inr, Option, Some, None, [], ◌∷◌, ℤ, pos, ◌+ℤ◌, ◌-ℤ◌, ◌≤ℤ◌, ◌<ℤ◌, refl, sym, subst, arith}
use Rattle.std.proofs.lemmas.Int.{ints}
use Rattle.tdl_fraction.specs.Rational.{floor, ceil, IsMultiple}
use Rattle.tdl_fraction.specs.Arc.{Arc, IsArc, meet}
use Rattle.tdl_fraction.proofs.Order.{≤ℚ_trans, whole-le}
use Rattle.tdl_fraction.proofs.MinMax.{min_either, max_either}
use Rattle.tdl_fraction.proofs.Arcs.{meet_ends, meet_inside_left, meet_inside_right, inside_trans}
use Rattle.tdl_event.specs.Event.{Event, clip, clip_event}
use Rattle.tdl_meaning.specs.Pattern.{Pattern, over, cycles_of, cycle_arc}
use Rattle.tdl_meaning.specs.Proper.{Each, IsProper, IsNear, HasProperEvents}
use Rattle.tdl_meaning.specs.Ranges.{IsGriddedIn}
use Rattle.tdl_meaning.specs.Asks.{IsCycleOf}
use Rattle.tdl_meaning.proofs.Cycles.{range_end}
use Rattle.tdl_meaning.proofs.Gridded.{IsGridded, HasGrid, HasHang}
use Rattle.tdl_meaning.proofs.Lists.{each_flat, each_in_range}

pub each_cycle : (a : Arc) → IsArc a → Each (IsCycleOf a) (cycles_of a)
each_cycle a h = each_in_range (IsCycleOf a) (floor a.start) _ (λ c low high. made c low (subst (λ z. c <ℤ z) (range_end a h) high))
  where
    made : (c : ℤ) → floor a.start ≤ℤ c → c <ℤ ceil a.stop → IsCycleOf a c
    made c low high = record { not_before = low; not_after = omega (arith, ints) }

-- an event of an arc is one of a cycle of the arc, with what its part shares with the arc
pub over_each : (P : ℤ → Event → Type 0) (Q : Event → Type 0) (p : Pattern) (a : Arc) → IsArc a
    → ((c : ℤ) → Each (P c) (p c))
    → ((c : ℤ) → IsCycleOf a c → (e : Event) (part : Arc) → meet e.part a ≡ Some part → P c e → Q (record { whole = e.whole; part = part; value = e.value }))
    → Each Q (over p a)
unfolding over
over_each P Q p a h each step = each_flat (IsCycleOf a) Q (λ c. clip a (p c)) (λ c is. of_cycle c is) (cycles_of a) (each_cycle a h)
  where
    cut : (c : ℤ) → IsCycleOf a c → (e : Event) → P c e → (o : Option Arc) → meet e.part a ≡ o
        → Each Q (elim o [ Some part ↦ record { whole = e.whole; part = part; value = e.value } ∷ [] | None ↦ [] ])
    cut c is e fact (Some part) met = (step c is e part met fact, tt)
    cut c is e fact None met = tt

    of_cycle : (c : ℤ) → IsCycleOf a c → Each Q (clip a (p c))
    of_cycle c is = each_flat (P c) Q (clip_event a) (λ e fact. cut c is e fact (meet e.part a) refl) (p c) (each c)

pub proper_over : (p : Pattern) → HasProperEvents p → (a : Arc) → IsArc a → Each (IsProper a) (over p a)
proper_over p proper a h = over_each (λ c. IsProper (cycle_arc c)) (IsProper a) p a h proper (λ c is e part met fact. record {
  width = (meet_ends e.part a part met).2;
  in_whole = inside_trans part e.part e.whole (meet_inside_left e.part a part met) fact.in_whole;
  in_arc = meet_inside_right e.part a part met;
})

pub grid_over : (g : ℕ) (p : Pattern) → HasGrid g p → (a : Arc) → IsArc a → Each (IsGriddedIn g a) (over p a)
grid_over g p gridded a h = over_each (λ c. IsGridded g) (IsGriddedIn g a) p a h gridded (λ c is e part met fact. record {
  whole_start = fact.whole_start;
  whole_stop = fact.whole_stop;
  part_start = subst (λ t. IsMultiple g t ⊎ (t ≡ a.start)) (sym (meet_ends e.part a part met).0)
      (max_either (λ t. IsMultiple g t ⊎ (t ≡ a.start)) e.part.start a.start (inl fact.part_start) (inr refl));
  part_stop = subst (λ t. IsMultiple g t ⊎ (t ≡ a.stop)) (sym (meet_ends e.part a part met).1)
      (min_either (λ t. IsMultiple g t ⊎ (t ≡ a.stop)) e.part.stop a.stop (inl fact.part_stop) (inr refl));
})

-- a whole that is near some cycles is near more of them, and by more
pub nearer : (h k : ℕ) (a b c d : ℤ) → (pos h +ℤ c) ≤ℤ (pos k +ℤ a) → (b +ℤ pos h) ≤ℤ (d +ℤ pos k) → (e : Event) → IsNear h a b e → IsNear k c d e
nearer h k a b c d low high e near = record {
  start = ≤ℚ_trans ((whole-le (c -ℤ pos k) (a -ℤ pos h)).0 (omega (arith, ints))) near.start;
  stop = ≤ℚ_trans near.stop ((whole-le (b +ℤ pos h) (d +ℤ pos k)).0 high);
}

pub hang_over : (h : ℕ) (p : Pattern) → HasHang h p → (a : Arc) → IsArc a → Each (IsNear h (floor a.start) (ceil a.stop)) (over p a)
hang_over h p hung a is_arc =
    over_each (λ c. IsNear h c (c +ℤ pos 1)) (IsNear h (floor a.start) (ceil a.stop)) p a is_arc hung
    (λ c is e part met fact.
    let near = nearer h h c (c +ℤ pos 1) (floor a.start) (ceil a.stop) (low c is) (high c is) e fact in
    record { start = near.start; stop = near.stop })
  where
    low : (c : ℤ) → IsCycleOf a c → (pos h +ℤ floor a.start) ≤ℤ (pos h +ℤ c)
    low c is = lower (floor a.start) c is.not_before
      where
        lower : (f c : ℤ) → f ≤ℤ c → (pos h +ℤ f) ≤ℤ (pos h +ℤ c)
        lower f c le = omega (arith, ints)

    high : (c : ℤ) → IsCycleOf a c → ((c +ℤ pos 1) +ℤ pos h) ≤ℤ (ceil a.stop +ℤ pos h)
    high c is = higher (ceil a.stop) c is.not_after
      where
        higher : (f c : ℤ) → (c +ℤ pos 1) ≤ℤ f → ((c +ℤ pos 1) +ℤ pos h) ≤ℤ (f +ℤ pos h)
        higher f c le = omega (arith, ints)
