-- What lists of events have at a time: of moved events, of events elsewhere, and of a pattern in an arc.
use Rattle.std.proofs.Common.{◌≡◌, ◌⊎◌, inl, inr, ⊎_elim, Bool, true, false, if◌then◌else◌, List, [], ◌∷◌, ◌++◌, map, ℤ, pos, ◌+ℤ◌, ◌≤ℤ◌, ◌<ℤ◌}
use Rattle.std.proofs.Common.{◌-ℤ◌, nat_abs, refl, sym, ap, ap₂, ◌∙◌, append-nil, subst, arith}
use Rattle.std.proofs.lemmas.List.{map-append}
use Rattle.std.specs.List.{flat_map}
use Rattle.std.proofs.lemmas.Int.{ints}
use Rattle.tdl_control.specs.declared.leaves.Leaf.{Leaf}
use Rattle.tdl_fraction.specs.Rational.{Rational, whole, ◌≤ℚ◌, floor, ceil}
use Rattle.tdl_fraction.specs.Arc.{Arc, IsArc, IsIn, map_arc}
use Rattle.tdl_fraction.proofs.Order.{≤ℚ_trans, <ℚ-≤ℚ_trans, ≤ℚ-<ℚ_trans, ≤ℚ_from_not, <ℚ_from_not, clash_ℚ}
use Rattle.tdl_fraction.proofs.Rounding.{floor_at_most, floor_above, le_floor, floor_lt, floor_monotone, lt_ceil}
use Rattle.tdl_fraction.proofs.Arcs.{KeepsOrder, keeps_≤ℚ}
use Rattle.tdl_event.specs.Event.{Event, clip}
use Rattle.tdl_event.specs.ClipLaws.{is_in, seen_of, seen_at}
use Rattle.tdl_event.proofs.Clips.{same_tests, not_true, is_in-true, seen_within}
use Rattle.tdl_meaning.specs.Pattern.{Pattern, whole_range, cycles_of, over, moved, cycle_arc}
use Rattle.tdl_meaning.specs.Proper.{Each, IsProper, HasProperEvents}
use Rattle.tdl_meaning.specs.Heard.{heard, moved_whole, moved_wholes}
use Rattle.tdl_meaning.proofs.Cycles.{range_end}
use Rattle.tdl_meaning.proofs.Flat.{flat_map-flat_map, flat_map_same, flat_map_within}

-- ---- the cycle of a time
pub in_cycle : (t : Rational) → IsIn t (cycle_arc (floor t))
in_cycle t = (floor_at_most t, floor_above t)

-- a time of a cycle has that cycle for its floor
not_in_cycle : (t : Rational) (c : ℤ) → (c <ℤ floor t) ⊎ (floor t <ℤ c) → ¬ (IsIn t (cycle_arc c))
not_in_cycle t c elsewhere h = ⊎_elim
    (λ before. clash c (floor t) before ((floor_lt t (c +ℤ pos 1)).0 h.1))
    (λ after. late c (floor t) after ((le_floor c t).0 h.0))
    elsewhere
  where
    clash : (c f : ℤ) → c <ℤ f → f <ℤ (c +ℤ pos 1) → ⊥
    clash c f h k = omega (arith, ints)

    late : (c f : ℤ) → f <ℤ c → c ≤ℤ f → ⊥
    late c f h k = omega (arith, ints)

-- ---- nothing is heard where no part is
-- the event's whole and value, if the test is true
abbrev pub shown : Event → Bool → List (Arc × Leaf)
shown e b = if b then (e.whole, e.value) ∷ [] else []

pub seen_in : (t : Rational) (e : Event) → IsIn t e.part → seen_of t e ≡ (e.whole, e.value) ∷ []
seen_in t e h = ap (shown e) ((is_in-true t e.part).1 h)

pub seen_out : (t : Rational) (e : Event) → ¬ (IsIn t e.part) → seen_of t e ≡ []
seen_out t e h = ap (shown e) (not_true (is_in t e.part) (λ b. h ((is_in-true t e.part).0 b)))

pub seen_nowhere : (t : Rational) (a : Arc) → ¬ (IsIn t a) → (es : List Event) → Each (IsProper a) es → seen_at t es ≡ []
seen_nowhere t a out [] all = refl
seen_nowhere t a out (e ∷ es) all =
    ap₂ (λ s u. s ++ u)
    (seen_out t e (λ h. out (≤ℚ_trans all.0.in_arc.0 h.0, <ℚ-≤ℚ_trans h.1 all.0.in_arc.1)))
    (seen_nowhere t a out es all.1)

-- ---- in an arc
-- at a time of the arc there is what the pattern has
pub seen_over : (p : Pattern) → HasProperEvents p → (a : Arc) → IsArc a → (t : Rational) → IsIn t a → seen_at t (over p a) ≡ heard p t
unfolding over
seen_over p proper a is_arc t h =
    flat_map-flat_map (seen_of t) (λ c. clip a (p c)) (cycles_of a)
    ∙ flat_map_same (λ c. seen_at t (clip a (p c))) (λ c. seen_at t (p c)) (λ c. seen_within a (p c) t h) (cycles_of a)
    ∙ flat_map_within (λ c. seen_at t (p c)) (floor t) (floor t +ℤ pos 1) (floor a.start) (nat_abs (ceil a.stop -ℤ floor a.start))
    (floor_monotone h.0) (up (floor t)) (subst (λ z. (floor t +ℤ pos 1) ≤ℤ z) (sym (range_end a is_arc)) (below (floor_at_most t)))
    (λ c before. nowhere c (inl before)) (λ c behind. nowhere c (inr (after (floor t) c behind)))
    ∙ ap (λ n. flat_map (λ c. seen_at t (p c)) (whole_range (floor t) n)) (one (floor t))
    ∙ append-nil (seen_at t (p (floor t)))
  where
    nowhere : (c : ℤ) → (c <ℤ floor t) ⊎ (floor t <ℤ c) → seen_at t (p c) ≡ []
    nowhere c elsewhere = seen_nowhere t (cycle_arc c) (not_in_cycle t c elsewhere) (p c) (proper c)

    below : whole (floor t) ≤ℚ t → (floor t +ℤ pos 1) ≤ℤ ceil a.stop
    below le = after_all (floor t) (ceil a.stop) ((lt_ceil (floor t) a.stop).0 (≤ℚ-<ℚ_trans le h.1))
      where
        after_all : (x y : ℤ) → x <ℤ y → (x +ℤ pos 1) ≤ℤ y
        after_all x y lt = omega (arith, ints)

    up : (x : ℤ) → x ≤ℤ (x +ℤ pos 1)
    up x = omega (arith, ints)

    after : (x c : ℤ) → (x +ℤ pos 1) ≤ℤ c → x <ℤ c
    after x c le = omega (arith, ints)

    one : (x : ℤ) → nat_abs ((x +ℤ pos 1) -ℤ x) ≡ 1
    one x = omega (arith, ints)

-- ---- moved in order
pub keeps_in : (f : Rational → Rational) → KeepsOrder f → (t : Rational) (a : Arc) → is_in (f t) (map_arc f a) ≡ is_in t a
keeps_in f keeps t a = same_tests (is_in (f t) (map_arc f a)) (is_in t a)
    (λ b. back ((is_in-true (f t) (map_arc f a)).0 b), λ b. there ((is_in-true t a).0 b))
  where
    there : IsIn t a → is_in (f t) (map_arc f a) ≡ true
    there h = (is_in-true (f t) (map_arc f a)).1 (keeps_≤ℚ f keeps a.start t h.0, keeps t a.stop h.1)

    back : IsIn (f t) (map_arc f a) → is_in t a ≡ true
    back h = (is_in-true t a).1
        (≤ℚ_from_not (λ lt. clash_ℚ (keeps t a.start lt) h.0), <ℚ_from_not (λ le. clash_ℚ h.1 (keeps_≤ℚ f keeps a.stop t le)))

pub seen_moved : (f : Rational → Rational) → KeepsOrder f → (t : Rational) (es : List Event) → seen_at (f t) (map (moved f) es) ≡ moved_wholes f (seen_at t es)
seen_moved f keeps t [] = refl
seen_moved f keeps t (e ∷ es) =
    ap₂ (λ s u. s ++ u) (ap (shown (moved f e)) (keeps_in f keeps t e.part) ∙ one (is_in t e.part)) (seen_moved f keeps t es)
    ∙ sym (map-append (moved_whole f) (seen_of t e) (seen_at t es))
  where
    one : (b : Bool) → shown (moved f e) b ≡ moved_wholes f (shown e b)
    one true = refl
    one false = refl
