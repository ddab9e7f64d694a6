-- The events whose wholes start in some part of a cycle, or those whose wholes do not: facts and laws.
use Rattle.std.proofs.Common.{◌≡◌, ℕ, Bool, true, false, not, cond, [], ◌∷◌, Option, Some, None, pos, ◌+ℤ◌, neg_ℤ, refl, arith, sym, ap, ◌∙◌}
use Rattle.std.specs.List.{filter}
use Rattle.std.proofs.Math.Nat.{le_trans}
use Rattle.std.proofs.Math.Bool.{beq}
use Rattle.std.proofs.lemmas.Int.{ints}
use Rattle.tdl_ring.proofs.Quoting.{by_ring, ring}
use Rattle.tdl_control.specs.declared.leaves.Leaf.{Leaf}
use Rattle.tdl_fraction.specs.Rational.{Rational, whole, ◌+ℚ◌, ◌-ℚ◌, floor, le_ℚ, lt_ℚ}
use Rattle.tdl_fraction.specs.Range.{InRange}
use Rattle.tdl_fraction.specs.Arc.{Arc, map_arc, meet}
use Rattle.tdl_fraction.proofs.Field.{rationals, whole-plus}
use Rattle.tdl_fraction.proofs.Over.{den_positive, le_ℚ-true, le_ℚ-false, lt_ℚ-true, lt_ℚ-false}
use Rattle.tdl_fraction.proofs.Order.{≤ℚ_trans, ≤ℚ_from_<ℚ, whole-le}
use Rattle.tdl_fraction.proofs.Multiples.{whole_multiple, multiple_own, multiple_minus}
use Rattle.tdl_fraction.proofs.Ranges.{in_range}
use Rattle.tdl_fraction.proofs.Rounding.{floor-plus, part_at_least, part_below}
use Rattle.tdl_event.specs.Event.{Event, clip, clip_event}
use Rattle.tdl_event.specs.ClipLaws.{is_in, seen_of}
use Rattle.tdl_meaning.specs.Pattern.{Pattern, over, cycles_of, cycle_arc, moved}
use Rattle.tdl_meaning.specs.Kinds.{place, is_between, starts_in, passes, gate}
use Rattle.tdl_meaning.specs.Proper.{IsProper, IsNear, HasProperEvents}
use Rattle.tdl_meaning.specs.Heard.{heard}
use Rattle.tdl_meaning.specs.Repeats.{later, Repeats}
use Rattle.tdl_meaning.proofs.Gridded.{IsGridded, HasGrid, HasHang}
use Rattle.tdl_meaning.proofs.Flat.{flat_map_same}
use Rattle.tdl_meaning.proofs.kinds.Counts.{HasCount}
use Rattle.tdl_meaning.proofs.Cuts.{piece}
use Rattle.tdl_meaning.proofs.Seen.{shown}
use Rattle.tdl_meaning.proofs.kinds.Filters.{each_filter, length-filter_le, filter-flat_map, flat_map-filter, filter-map_same, either_way}

-- ---- facts
module _ (from to : Rational) (inside : Bool) (p : Pattern) where
  pub gate_proper : HasProperEvents p → HasProperEvents (gate from to inside p)
  unfolding gate
  gate_proper proper c = each_filter (IsProper (cycle_arc c)) (passes from to inside) (p c) (proper c)

  pub gate_grid : (g : ℕ) → HasGrid g p → HasGrid g (gate from to inside p)
  unfolding gate
  gate_grid g on c = each_filter (IsGridded g) (passes from to inside) (p c) (on c)

  pub gate_hang : (h : ℕ) → HasHang h p → HasHang h (gate from to inside p)
  unfolding gate
  gate_hang h hung c = each_filter (IsNear h c (c +ℤ pos 1)) (passes from to inside) (p c) (hung c)

  pub gate_count : (k : ℕ) → HasCount k p → HasCount k (gate from to inside p)
  unfolding gate
  gate_count k few c = le_trans (length-filter_le (passes from to inside) (p c)) (few c)

  -- ---- laws
  -- in any arc
  pub over-gate : (a : Arc) → over (gate from to inside p) a ≡ filter (passes from to inside) (over p a)
  unfolding over gate
  over-gate a =
      flat_map_same (λ c. clip a (filter (passes from to inside) (p c))) (λ c. filter (passes from to inside) (clip a (p c)))
      (λ c. flat_map-filter (clip_event a) (passes from to inside) (passes from to inside) (λ e. cut e (meet e.part a)) (p c))
      (cycles_of a)
      ∙ sym (filter-flat_map (passes from to inside) (λ c. clip a (p c)) (cycles_of a))
    where
      cut : (e : Event) (o : Option Arc) → filter (passes from to inside) (piece e o) ≡ cond (passes from to inside e) (piece e o) []
      cut e (Some part) = refl
      cut e None = either_way (passes from to inside e) []

  -- those that pass
  pub heard_gate : (t : Rational) → heard (gate from to inside p) t ≡ filter (λ (x : Arc × Leaf). starts_in from to inside x.0) (heard p t)
  unfolding gate
  heard_gate t =
      flat_map-filter (seen_of t) (passes from to inside) (λ (x : Arc × Leaf). starts_in from to inside x.0) (λ e. passed e (is_in t e.part)) (p (floor t))
    where
      passed : (e : Event) (b : Bool) → filter (λ (x : Arc × Leaf). starts_in from to inside x.0) (shown e b) ≡ cond (passes from to inside e) (shown e b) []
      passed e true = refl
      passed e false = either_way (passes from to inside e) []

-- ---- worked out
-- where in its cycle a time is, is a fraction of the program
pub place_fits : (t : Rational) → InRange t → InRange (place t)
place_fits t fits =
    in_range t.den 1 (place t) (den_positive t) (multiple_minus (multiple_own t) (whole_multiple t.den (floor t))) fits.fine
    (record {
      from = ≤ℚ_trans ((whole-le (neg_ℤ (pos 1)) (pos 0)).0 (omega (arith, ints))) (part_at_least t);
      to = ≤ℚ_from_<ℚ (part_below t);
    })
    (omega arith)

-- that a time is not before another, by the reverse test
pub not_before : (from t : Rational) → not (lt_ℚ t from) ≡ le_ℚ from t
not_before from t = by (lt_ℚ t from) refl
  where
    by : (b : Bool) → lt_ℚ t from ≡ b → not b ≡ le_ℚ from t
    by true e = sym ((le_ℚ-false from t).1 ((lt_ℚ-true t from).0 e))
    by false e = sym ((le_ℚ-true from t).1 ((lt_ℚ-false t from).0 e))

pub starts_in_by : (from to : Rational) (inside : Bool) (w : Arc) → beq (is_between from to (place w.start)) inside ≡ starts_in from to inside w
starts_in_by from to true w = by (is_between from to (place w.start))
  where
    by : (b : Bool) → beq b true ≡ b
    by true = refl
    by false = refl
starts_in_by from to false w = by (is_between from to (place w.start))
  where
    by : (b : Bool) → beq b false ≡ not b
    by true = refl
    by false = refl

-- ---- repeats
-- so many cycles later a time has the same place
place_later : (n : ℕ) (t : Rational) → place (later n t) ≡ place t
place_later n t =
    ap (λ z. later n t -ℚ z) (ap whole (floor-plus t (pos n)) ∙ whole-plus (floor t) (pos n)) ∙ both t (whole (floor t)) (whole (pos n))
  where
    both : (t f n : Rational) → (t +ℚ n) -ℚ (f +ℚ n) ≡ t -ℚ f
    both t f n = by_ring rationals (t ∷ f ∷ n ∷ []) (search ring depth 12) refl

starts_later : (from to : Rational) (inside : Bool) (n : ℕ) (w : Arc) → starts_in from to inside (map_arc (later n) w) ≡ starts_in from to inside w
starts_later from to true n w = ap (is_between from to) (place_later n w.start)
starts_later from to false n w = ap (λ u. not (is_between from to u)) (place_later n w.start)

pub gate_repeats : (n : ℕ) (from to : Rational) (inside : Bool) (p : Pattern) → Repeats n p → Repeats n (gate from to inside p)
unfolding gate
gate_repeats n from to inside p again c =
    ap (filter (passes from to inside)) (again c)
    ∙ filter-map_same (passes from to inside) (moved (later n)) (λ e. starts_later from to inside n e.whole) (p c)
