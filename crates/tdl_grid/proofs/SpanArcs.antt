-- What spans are as arcs: a cycle, an arc within another, what two arcs share, and arcs that are moved.
use Rattle.std.proofs.Common.{◌≡◌, ℕ, zero, suc, ◌+◌, ◌*◌, ◌<◌, Bool, true, false, Some, None, ℤ, pos, ◌+ℤ◌, ◌-ℤ◌, ◌*ℤ◌, ◌≤ℤ◌, ◌<ℤ◌, refl, sym, ap, ap₂, ◌∙◌}
use Rattle.std.proofs.Common.{subst, arith}
use Rattle.std.specs.Int.{int_min, int_max}
use lib.Signed.{lt_z}
use Rattle.std.specs.Option.{option_map}
use Rattle.std.proofs.lemmas.Int.{ints, clamps}
use Rattle.tdl_fraction.specs.Rational.{Rational, frac, whole, ◌-ℚ◌, ◌*ℚ◌, min_ℚ, max_ℚ}
use Rattle.tdl_fraction.specs.Arc.{Arc, map_arc, arc_between, meet, IsInside}
use Rattle.tdl_fraction.proofs.CommonStep.{step, step-min, step-max}
use Rattle.tdl_fraction.proofs.Over.{Over, Over-self}
use Rattle.tdl_fraction.proofs.Order.{frac-le, frac-lt}
use Rattle.tdl_fraction.proofs.Arcs.{meet_is, arc_between-some, arc_between-none}
use Rattle.tdl_meaning.specs.Pattern.{cycle_arc, turned}
use Rattle.tdl_meaning.specs.Kinds.{piece}
use Rattle.tdl_grid.specs.Span.{Span, IsPartOf, earlier_span, finer_span, turn_span, span_between, met, cycle_span, piece_span, arc_of}
use Rattle.tdl_grid.proofs.Units.{time-cycle, time-minus, time-count, time-earlier_cycles, time-turned, time-faster, time-finer, time-along}

-- the greater and the less of two counts
greater : (n m : ℤ) (u : ℕ) → 0 < u → max_ℚ (frac n u) (frac m u) ≡ frac (int_max n m) u
unfolding step
greater n m zero h = absurd (omega arith)
greater n m (suc k) h = step-max n m k

less : (n m : ℤ) (u : ℕ) → 0 < u → min_ℚ (frac n u) (frac m u) ≡ frac (int_min n m) u
unfolding step
less n m zero h = absurd (omega arith)
less n m (suc k) h = step-min n m k

between : (s t : ℤ) (u : ℕ) → 0 < u → arc_between (frac s u) (frac t u) ≡ option_map (arc_of u) (span_between s t)
between s t u h = by_test (lt_z s t) refl
  where
    by_test : (b : Bool) → lt_z s t ≡ b
        → arc_between (frac s u) (frac t u) ≡ option_map (arc_of u) (elim b [ true ↦ Some (record { start = s; stop = t }) | false ↦ None ])
    by_test true e = let k : s <ℤ t = grind (arith, ints) in arc_between-some (frac s u) (frac t u) ((frac-lt s t u h).0 k)
    by_test false e = let k : t ≤ℤ s = grind (arith, ints) in arc_between-none (frac s u) (frac t u) ((frac-le t s u h).0 k)

pub spans_met : (u : ℕ) (a b : Span) → 0 < u → meet (arc_of u a) (arc_of u b) ≡ option_map (arc_of u) (met a b)
unfolding met
spans_met u a b h =
    meet_is (arc_of u a) (arc_of u b) ∙ ap₂ arc_between (greater a.start b.start u h) (less a.stop b.stop u h)
    ∙ between (int_max a.start b.start) (int_min a.stop b.stop) u h

-- the arc between two times
abbrev arc_from : Rational → Rational → Arc
arc_from a b = record { start = a; stop = b }

-- a cycle
pub cycle_span_arc : (c : ℤ) (u : ℕ) → 0 < u → arc_of u (cycle_span u c) ≡ cycle_arc c
cycle_span_arc c u h = ap₂ (λ a b. record { start = a; stop = b }) (time-cycle c u h) (time-cycle (c +ℤ pos 1) u h)

-- an arc that lies within another is that of a span within the other's
pub part_from_inside : (u : ℕ) (a b : Span) → 0 < u → IsInside (arc_of u a) (arc_of u b) → IsPartOf a b
part_from_inside u a b h is = ((frac-le b.start a.start u h).1 is.0, (frac-le a.stop b.stop u h).1 is.1)

-- ---- what spans share
pub met_part : (a b c : Span) → met a b ≡ Some c → IsPartOf c a × (c.start <ℤ c.stop)
unfolding met
met_part a b c e = by_test (lt_z (int_max a.start b.start) (int_min a.stop b.stop)) refl e
  where
    by_test : (t : Bool) → lt_z (int_max a.start b.start) (int_min a.stop b.stop) ≡ t
        → elim t [ true ↦ Some (record { start = int_max a.start b.start; stop = int_min a.stop b.stop }) | false ↦ None ] ≡ Some c
        → IsPartOf c a × (c.start <ℤ c.stop)
    by_test true e is =
        let same : record { start = int_max a.start b.start; stop = int_min a.stop b.stop } ≡ c = cc in
        let P : Span → Type 0 = λ s. IsPartOf s a × (s.start <ℤ s.stop) in
        let k : int_max a.start b.start <ℤ int_min a.stop b.stop = grind (arith, ints) in
        subst P same ((omega (arith, ints, clamps), omega (arith, ints, clamps)), k)
    by_test false e is = cc

-- ---- spans that are moved, or read in another unit
same_arc : {a b c d : Rational} → a ≡ c → b ≡ d → arc_from a b ≡ arc_from c d
same_arc e f = ap₂ arc_from e f

pub span_earlier : (u : ℕ) → 0 < u → (k : ℤ) (s : Span) → arc_of u (earlier_span (k *ℤ pos u) s) ≡ map_arc (λ a. a -ℚ whole k) (arc_of u s)
span_earlier u h k s = same_arc (time-earlier_cycles s.start k u h) (time-earlier_cycles s.stop k u h)

pub span_shifted : (u x : ℕ) → 0 < u → (t : Rational) → x * t.den ≡ u → (s : Span)
    → arc_of u (earlier_span (t.num *ℤ pos x) s) ≡ map_arc (λ a. a -ℚ t) (arc_of u s)
span_shifted u x h t e s =
    let at : (n : ℤ) → frac (n -ℤ t.num *ℤ pos x) u ≡ frac n u -ℚ t =
    λ n. time-minus n (t.num *ℤ pos x) u h ∙ ap (λ b. frac n u -ℚ b) (time-count t x u h e) in
    same_arc (at s.start) (at s.stop)

pub span_faster : (u v p : ℕ) → 0 < u → 0 < v → (r : Rational) → r.num ≡ pos p → v * p ≡ u * r.den → (s : Span)
    → arc_of v s ≡ map_arc (λ a. a *ℚ r) (arc_of u s)
span_faster u v p hu hv r num e s =
    let rate : Over (pos p) r.den r = subst (λ n. Over n r.den r) num (Over-self r) in
    same_arc (sym (time-faster s.start u v p r.den r hu hv rate e)) (sym (time-faster s.stop u v p r.den r hu hv rate e))

pub span_finer : (u x : ℕ) → 0 < u → 0 < x → (s : Span) → arc_of (u * x) (finer_span x s) ≡ arc_of u s
span_finer u x hu hx s = same_arc (time-finer s.start u x hu hx) (time-finer s.stop u x hu hx)

pub span_turned : (u : ℕ) → 0 < u → (c : ℤ) (s : Span) → arc_of u (turn_span (λ n. (c +ℤ c +ℤ pos 1) *ℤ pos u -ℤ n) s) ≡ turned c (arc_of u s)
span_turned u h c s = same_arc (time-turned s.stop (c +ℤ c +ℤ pos 1) u h) (time-turned s.start (c +ℤ c +ℤ pos 1) u h)

pub span_piece : (u n : ℕ) → 0 < u → 0 < n → (width : ℤ) (s : Span) (j : ℕ) → s.stop -ℤ s.start ≡ width *ℤ pos n
    → arc_of u (piece_span width s j) ≡ piece n (arc_of u s) j
span_piece u n hu hn width s j e =
    same_arc (sym (time-along s.start s.stop width j n u hu hn e)) (sym (time-along s.start s.stop width (j + 1) n u hu hn e))
