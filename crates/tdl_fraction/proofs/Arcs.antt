-- The meeting of two arcs: where there is one, what it is, and what goes through it.
use Rattle.std.proofs.Common.{◌≡◌, ◌↔◌, ◌⊎◌, inl, inr, ⊎_elim, true, false, ℤ, pos, Option, Some, None, arith, refl, sym, ap, ap₂, ◌∙◌, subst, option_map}
use Rattle.std.proofs.Common.{option_and_then, ◌≤ℤ◌, ◌<ℤ◌, ◌+ℤ◌}
use mathlib.Core.Path.{fun_ext}
use Rattle.std.proofs.lemmas.Option.{same_Some, none-some}
use Rattle.tdl_fraction.specs.Rational.{Rational, whole, ◌+ℚ◌, ◌-ℚ◌, ◌*ℚ◌, ◌/ℚ◌, ◌≤ℚ◌, ◌<ℚ◌, min_ℚ, max_ℚ, floor, ceil}
use Rattle.tdl_fraction.proofs.Rounding.{floor_lt, lt_ceil}
use Rattle.std.proofs.lemmas.Int.{ints}
use Rattle.tdl_fraction.specs.Arc.{Arc, IsArc, IsInside, IsIn, map_arc, turn_arc, arc_between, meet}
use Rattle.tdl_fraction.proofs.Over.{lt_ℚ-true, lt_ℚ-false}
use Rattle.tdl_fraction.proofs.Order.{≤ℚ_refl, ≤ℚ_trans, ≤ℚ-<ℚ_trans, <ℚ-≤ℚ_trans, ≤ℚ_from_<ℚ, ≤ℚ_or_<ℚ, <ℚ_or_≡, ≤ℚ_from_same, plus_right_lt, plus_left_lt}
use Rattle.tdl_fraction.proofs.Order.{minus_right_lt, minus_left_lt, times_pos_lt, divide_pos_lt}
use Rattle.tdl_fraction.proofs.MinMax.{min_comm, max_comm, min_assoc, max_assoc, min-left, min-right, max-left, max-right, le_min, lt_min, max_le, max_lt}
use Rattle.tdl_fraction.proofs.MinMax.{min_le_left, min_le_right, le_max_left, le_max_right, min_through, max_through, min_reversed, max_reversed}

-- ---- arcs between two times
-- a time before another makes an arc, and no other pair does
pub arc_between-some : (s t : Rational) → s <ℚ t → arc_between s t ≡ Some (record { start = s; stop = t })
unfolding arc_between
arc_between-some s t h = ap (λ b. elim b as (λ b. Option Arc) [ true ↦ Some (record { start = s; stop = t }) | false ↦ None ]) ((lt_ℚ-true s t).1 h)

pub arc_between-none : (s t : Rational) → t ≤ℚ s → arc_between s t ≡ None
unfolding arc_between
arc_between-none s t h = ap (λ b. elim b as (λ b. Option Arc) [ true ↦ Some (record { start = s; stop = t }) | false ↦ None ]) ((lt_ℚ-false s t).1 h)

-- an arc made so has those ends, in order
pub arc_between_made : (s t : Rational) (c : Arc) → arc_between s t ≡ Some c → (c ≡ record { start = s; stop = t }) × (s <ℚ t)
arc_between_made s t c e =
    ⊎_elim
    (λ h. absurd (none-some c (sym (arc_between-none s t h) ∙ e)))
    (λ h. (same_Some c (record { start = s; stop = t }) (sym e ∙ arc_between-some s t h), h))
    (≤ℚ_or_<ℚ t s)

pub arc_between_empty : (s t : Rational) → arc_between s t ≡ None → t ≤ℚ s
arc_between_empty s t e = ⊎_elim (λ h. h) (λ h. absurd (none-some _ (sym e ∙ arc_between-some s t h))) (≤ℚ_or_<ℚ t s)

-- ---- the meeting
pub meet_is : (a b : Arc) → meet a b ≡ arc_between (max_ℚ a.start b.start) (min_ℚ a.stop b.stop)
unfolding meet
meet_is a b = refl

-- where the later start is before the earlier stop
pub meet-some : (a b : Arc) → max_ℚ a.start b.start <ℚ min_ℚ a.stop b.stop
    → meet a b ≡ Some (record { start = max_ℚ a.start b.start; stop = min_ℚ a.stop b.stop })
unfolding meet
meet-some a b h = arc_between-some _ _ h

pub meet-none : (a b : Arc) → min_ℚ a.stop b.stop ≤ℚ max_ℚ a.start b.start → meet a b ≡ None
unfolding meet
meet-none a b h = arc_between-none _ _ h

-- its ends, in order
pub meet_ends : (a b c : Arc) → meet a b ≡ Some c → (c.start ≡ max_ℚ a.start b.start) × (c.stop ≡ min_ℚ a.stop b.stop) × IsArc c
unfolding meet
meet_ends a b c e =
    let m = arc_between_made _ _ c e in
    (ap (λ x. x.start) m.0, ap (λ x. x.stop) m.0, subst IsArc (sym m.0) m.1)

-- the order of the two does not matter
pub meet_comm : (a b : Arc) → meet a b ≡ meet b a
unfolding meet
meet_comm a b = ap₂ arc_between (max_comm a.start b.start) (min_comm a.stop b.stop)

-- the meeting lies inside both, and what lies inside both lies inside it
pub meet_inside_left : (a b c : Arc) → meet a b ≡ Some c → IsInside c a
meet_inside_left a b c e =
    let m = meet_ends a b c e in
    (subst (λ x. a.start ≤ℚ x) (sym m.0) (le_max_left a.start b.start), subst (λ x. x ≤ℚ a.stop) (sym m.1) (min_le_left a.stop b.stop))

pub meet_inside_right : (a b c : Arc) → meet a b ≡ Some c → IsInside c b
meet_inside_right a b c e = meet_inside_left b a c (meet_comm b a ∙ e)

pub meet_greatest : (a b c d : Arc) → meet a b ≡ Some c → IsInside d a → IsInside d b → IsInside d c
meet_greatest a b c d e h k =
    let m = meet_ends a b c e in (
      subst (λ x. x ≤ℚ d.start) (sym m.0) ((max_le a.start b.start d.start).1 (h.0, k.0)),
      subst (λ x. d.stop ≤ℚ x) (sym m.1) ((le_min a.stop b.stop d.stop).1 (h.1, k.1)),
    )

-- a time is in the meeting exactly where it is in both
pub in_meet : (a b c : Arc) (t : Rational) → meet a b ≡ Some c → IsIn t c ↔ (IsIn t a × IsIn t b)
in_meet a b c t e =
    let m = meet_ends a b c e in (
      λ h.
          let s = (max_le a.start b.start t).0 (subst (λ x. x ≤ℚ t) m.0 h.0) in
          let u = (lt_min a.stop b.stop t).0 (subst (λ x. t <ℚ x) m.1 h.1) in
          ((s.0, u.0), (s.1, u.1)),
      λ h. (
        subst (λ x. x ≤ℚ t) (sym m.0) ((max_le a.start b.start t).1 (h.0.0, h.1.0)),
        subst (λ x. t <ℚ x) (sym m.1) ((lt_min a.stop b.stop t).1 (h.0.1, h.1.1)),
      ),
    )

-- ---- where there is one
-- arcs meet exactly where each begins before the other ends
overlapping : (a b : Arc) → IsArc a → IsArc b → a.start <ℚ b.stop → b.start <ℚ a.stop → max_ℚ a.start b.start <ℚ min_ℚ a.stop b.stop
overlapping a b p q h k =
    (lt_min a.stop b.stop (max_ℚ a.start b.start)).1 ((max_lt a.start b.start a.stop).1 (p, k), (max_lt a.start b.start b.stop).1 (h, q))

pub meet_exists : (a b : Arc) → IsArc a → IsArc b → a.start <ℚ b.stop → b.start <ℚ a.stop → (c : Arc) × (meet a b ≡ Some c)
meet_exists a b p q h k = (record { start = max_ℚ a.start b.start; stop = min_ℚ a.stop b.stop }, meet-some a b (overlapping a b p q h k))

pub meet_overlaps : (a b c : Arc) → meet a b ≡ Some c → (a.start <ℚ b.stop) × (b.start <ℚ a.stop)
meet_overlaps a b c e =
    let m = meet_ends a b c e in
    let l = meet_inside_left a b c e in
    let r = meet_inside_right a b c e in
    (≤ℚ-<ℚ_trans l.0 (<ℚ-≤ℚ_trans m.2 r.1), ≤ℚ-<ℚ_trans r.0 (<ℚ-≤ℚ_trans m.2 l.1))

-- and share nothing exactly where one ends before the other begins
pub apart_from_none : (a b : Arc) → IsArc a → IsArc b → meet a b ≡ None → (a.stop ≤ℚ b.start) ⊎ (b.stop ≤ℚ a.start)
apart_from_none a b p q e =
    ⊎_elim (λ h. inl h)
    (λ h. ⊎_elim (λ k. inr k) (λ k. let s = meet_exists a b p q k h in absurd (none-some s.0 (sym e ∙ s.1))) (≤ℚ_or_<ℚ b.stop a.start))
    (≤ℚ_or_<ℚ a.stop b.start)

pub none_from_apart : (a b : Arc) → (a.stop ≤ℚ b.start) ⊎ (b.stop ≤ℚ a.start) → meet a b ≡ None
none_from_apart a b o =
    meet-none a b
    (⊎_elim
    (λ h. ≤ℚ_trans (min_le_left a.stop b.stop) (≤ℚ_trans h (le_max_right a.start b.start)))
    (λ h. ≤ℚ_trans (min_le_right a.stop b.stop) (≤ℚ_trans h (le_max_left a.start b.start)))
    o)

-- both ways
pub meet_none_exactly : (a b : Arc) → IsArc a → IsArc b → (meet a b ≡ None) ↔ ((a.stop ≤ℚ b.start) ⊎ (b.stop ≤ℚ a.start))
meet_none_exactly a b p q = (apart_from_none a b p q, none_from_apart a b)

-- ---- one inside another
pub inside_self : (a : Arc) → IsInside a a
inside_self a = (≤ℚ_refl a.start, ≤ℚ_refl a.stop)

pub inside_trans : (a b c : Arc) → IsInside a b → IsInside b c → IsInside a c
inside_trans a b c h k = (≤ℚ_trans k.0 h.0, ≤ℚ_trans h.1 k.1)

-- an arc inside another is the meeting of the two
pub meet_inside : (a b : Arc) → IsArc a → IsInside a b → meet a b ≡ Some a
unfolding meet
meet_inside a b p h = ap₂ arc_between (max-left h.0) (min-left h.1) ∙ arc_between-some a.start a.stop p

pub meet_around : (a b : Arc) → IsArc b → IsInside b a → meet a b ≡ Some b
meet_around a b p h = meet_comm a b ∙ meet_inside b a p h

pub meet_self : (a : Arc) → IsArc a → meet a a ≡ Some a
meet_self a p = meet_inside a a p (inside_self a)

-- ---- meetings of three
-- an interval cut down at both ends
pub arc_between_then : (s t u v : Rational)
    → option_and_then (λ m. arc_between (max_ℚ m.start u) (min_ℚ m.stop v)) (arc_between s t) ≡ arc_between (max_ℚ s u) (min_ℚ t v)
arc_between_then s t u v =
    ⊎_elim
    (λ h. ap (option_and_then _) (arc_between-none s t h)
    ∙ sym (arc_between-none (max_ℚ s u) (min_ℚ t v) (≤ℚ_trans (min_le_left t v) (≤ℚ_trans h (le_max_left s u)))))
    (λ h. ap (option_and_then _) (arc_between-some s t h))
    (≤ℚ_or_<ℚ t s)

-- the meeting of a meeting with c is that of a with the meeting of b and c
pub meet_assoc : (a b c : Arc) → option_and_then (λ m. meet m c) (meet a b) ≡ option_and_then (λ m. meet a m) (meet b c)
unfolding meet
meet_assoc a b c =
    arc_between_then (max_ℚ a.start b.start) (min_ℚ a.stop b.stop) c.start c.stop
    ∙ ap₂ arc_between
    (max_assoc a.start b.start c.start ∙ max_comm a.start (max_ℚ b.start c.start))
    (min_assoc a.stop b.stop c.stop ∙ min_comm a.stop (min_ℚ b.stop c.stop))
    ∙ sym (arc_between_then (max_ℚ b.start c.start) (min_ℚ b.stop c.stop) a.start a.stop)
    ∙ ap (λ (f : Arc → Option Arc). option_and_then f (arc_between (max_ℚ b.start c.start) (min_ℚ b.stop c.stop)))
    (fun_ext (λ m. ap₂ arc_between (max_comm m.start a.start) (min_comm m.stop a.stop)))

-- cut to b and then to c inside b is cut to c
pub meet_narrow : (a b c : Arc) → IsInside c b → option_and_then (λ m. meet m c) (meet a b) ≡ meet a c
unfolding meet
meet_narrow a b c h =
    arc_between_then (max_ℚ a.start b.start) (min_ℚ a.stop b.stop) c.start c.stop
    ∙ ap₂ arc_between
    (max_assoc a.start b.start c.start ∙ ap (max_ℚ a.start) (max-right h.0))
    (min_assoc a.stop b.stop c.stop ∙ ap (min_ℚ a.stop) (min-right h.1))

-- an end of the other arc that lies beyond makes no difference
pub meet_stop_beyond : (a b c : Arc) → b.start ≡ c.start → a.stop ≤ℚ b.stop → a.stop ≤ℚ c.stop → meet a b ≡ meet a c
unfolding meet
meet_stop_beyond a b c e h k = ap₂ arc_between (ap (max_ℚ a.start) e) (min-left h ∙ sym (min-left k))

pub meet_start_beyond : (a b c : Arc) → b.start ≤ℚ a.start → c.start ≤ℚ a.start → b.stop ≡ c.stop → meet a b ≡ meet a c
unfolding meet
meet_start_beyond a b c h k e = ap₂ arc_between (max-left h ∙ sym (max-left k)) (ap (min_ℚ a.stop) e)

-- ---- maps that keep the order
abbrev pub KeepsOrder : (Rational → Rational) → Type 0
KeepsOrder f = (x y : Rational) → x <ℚ y → f x <ℚ f y

pub keeps_≤ℚ : (f : Rational → Rational) → KeepsOrder f → (x y : Rational) → x ≤ℚ y → f x ≤ℚ f y
keeps_≤ℚ f m x y h = ⊎_elim (λ k. ≤ℚ_from_<ℚ (m x y k)) (λ e. ≤ℚ_from_same (ap f e)) (<ℚ_or_≡ h)

arc_between_through : (f : Rational → Rational) → KeepsOrder f → (s t : Rational) → arc_between (f s) (f t) ≡ option_map (map_arc f) (arc_between s t)
arc_between_through f m s t =
    ⊎_elim
    (λ h. arc_between-none (f s) (f t) (keeps_≤ℚ f m t s h) ∙ sym (ap (option_map (map_arc f)) (arc_between-none s t h)))
    (λ h. arc_between-some (f s) (f t) (m s t h) ∙ sym (ap (option_map (map_arc f)) (arc_between-some s t h)))
    (≤ℚ_or_<ℚ t s)

-- the meeting goes through a map that keeps the order
pub meet_through : (f : Rational → Rational) → KeepsOrder f → (a b : Arc) → meet (map_arc f a) (map_arc f b) ≡ option_map (map_arc f) (meet a b)
unfolding meet
meet_through f m a b =
    ap₂ arc_between (sym (max_through f (keeps_≤ℚ f m) a.start b.start)) (sym (min_through f (keeps_≤ℚ f m) a.stop b.stop))
    ∙ arc_between_through f m (max_ℚ a.start b.start) (min_ℚ a.stop b.stop)

-- a map that reverses the order turns an arc round
abbrev pub ReversesOrder : (Rational → Rational) → Type 0
ReversesOrder f = (x y : Rational) → x <ℚ y → f y <ℚ f x

pub reverses_≤ℚ : (f : Rational → Rational) → ReversesOrder f → (x y : Rational) → x ≤ℚ y → f y ≤ℚ f x
reverses_≤ℚ f m x y h = ⊎_elim (λ k. ≤ℚ_from_<ℚ (m x y k)) (λ e. ≤ℚ_from_same (ap f (sym e))) (<ℚ_or_≡ h)

arc_between_turned : (f : Rational → Rational) → ReversesOrder f → (s t : Rational) → arc_between (f t) (f s) ≡ option_map (turn_arc f) (arc_between s t)
arc_between_turned f m s t =
    ⊎_elim
    (λ h. arc_between-none (f t) (f s) (reverses_≤ℚ f m t s h) ∙ sym (ap (option_map (turn_arc f)) (arc_between-none s t h)))
    (λ h. arc_between-some (f t) (f s) (m s t h) ∙ sym (ap (option_map (turn_arc f)) (arc_between-some s t h)))
    (≤ℚ_or_<ℚ t s)

-- and the meeting goes through that too
pub meet_turned : (f : Rational → Rational) → ReversesOrder f → (a b : Arc) → meet (turn_arc f a) (turn_arc f b) ≡ option_map (turn_arc f) (meet a b)
unfolding meet
meet_turned f m a b =
    ap₂ arc_between (sym (min_reversed f (reverses_≤ℚ f m) a.stop b.stop)) (sym (max_reversed f (reverses_≤ℚ f m) a.start b.start))
    ∙ arc_between_turned f m (max_ℚ a.start b.start) (min_ℚ a.stop b.stop)

-- a time taken from a fixed one reverses the order
pub reverses-minus : (t : Rational) → ReversesOrder (λ x. t -ℚ x)
reverses-minus t x y h = minus_left_lt t h

-- moves and positive factors and divisors keep the order
pub keeps-plus : (t : Rational) → KeepsOrder (λ x. x +ℚ t)
keeps-plus t x y h = plus_right_lt t h

pub keeps-plus_left : (t : Rational) → KeepsOrder (λ x. t +ℚ x)
keeps-plus_left t x y h = plus_left_lt t h

pub keeps-minus : (t : Rational) → KeepsOrder (λ x. x -ℚ t)
keeps-minus t x y h = minus_right_lt t h

pub keeps-times : (r : Rational) → whole (pos 0) <ℚ r → KeepsOrder (λ x. x *ℚ r)
keeps-times r p x y h = (times_pos_lt x y r p).0 h

pub keeps-divide : (r : Rational) → whole (pos 0) <ℚ r → KeepsOrder (λ x. x /ℚ r)
keeps-divide r p x y h = (divide_pos_lt x y r p).0 h

pub keeps-after : (f g : Rational → Rational) → KeepsOrder f → KeepsOrder g → KeepsOrder (λ x. f (g x))
keeps-after f g m k x y h = m (g x) (g y) (k x y h)

-- so the meeting goes through each of these
pub meet_plus : (t : Rational) (a b : Arc) → meet (map_arc (λ x. x +ℚ t) a) (map_arc (λ x. x +ℚ t) b) ≡ option_map (map_arc (λ x. x +ℚ t)) (meet a b)
meet_plus t a b = meet_through (λ x. x +ℚ t) (keeps-plus t) a b

pub meet_times : (r : Rational) → whole (pos 0) <ℚ r → (a b : Arc)
    → meet (map_arc (λ x. x *ℚ r) a) (map_arc (λ x. x *ℚ r) b) ≡ option_map (map_arc (λ x. x *ℚ r)) (meet a b)
meet_times r h a b = meet_through (λ x. x *ℚ r) (keeps-times r h) a b

pub meet_divide : (r : Rational) → whole (pos 0) <ℚ r → (a b : Arc)
    → meet (map_arc (λ x. x /ℚ r) a) (map_arc (λ x. x /ℚ r) b) ≡ option_map (map_arc (λ x. x /ℚ r)) (meet a b)
meet_divide r h a b = meet_through (λ x. x /ℚ r) (keeps-divide r h) a b

-- an arc goes with such a map, and so does what lies within it
pub keeps_arc : (f : Rational → Rational) → KeepsOrder f → (a : Arc) → IsArc a → IsArc (map_arc f a)
keeps_arc f m a h = m a.start a.stop h

pub keeps_inside : (f : Rational → Rational) → KeepsOrder f → (a b : Arc) → IsInside a b → IsInside (map_arc f a) (map_arc f b)
keeps_inside f m a b h = (keeps_≤ℚ f m b.start a.start h.0, keeps_≤ℚ f m a.stop b.stop h.1)

pub turned_arc : (f : Rational → Rational) → ReversesOrder f → (a : Arc) → IsArc a → IsArc (turn_arc f a)
turned_arc f m a h = m a.start a.stop h

pub turned_inside : (f : Rational → Rational) → ReversesOrder f → (a b : Arc) → IsInside a b → IsInside (turn_arc f a) (turn_arc f b)
turned_inside f m a b h = (reverses_≤ℚ f m a.stop b.stop h.1, reverses_≤ℚ f m b.start a.start h.0)

-- ---- cycles
-- the cycle [c, c + 1) shares time with an arc exactly for c from the floor of its start up to the ceiling of its stop
pub cycle_overlaps : (a : Arc) (c : ℤ) → ((floor a.start ≤ℤ c) × (c <ℤ ceil a.stop)) ↔ ((a.start <ℚ whole (c +ℤ pos 1)) × (whole c <ℚ a.stop))
cycle_overlaps a c = (
  λ h. ((floor_lt a.start (c +ℤ pos 1)).1 (up (floor a.start) c h.0), (lt_ceil c a.stop).1 h.1),
  λ h. (down (floor a.start) c ((floor_lt a.start (c +ℤ pos 1)).0 h.0), (lt_ceil c a.stop).0 h.1),
)
  where
    up : (f c : ℤ) → f ≤ℤ c → f <ℤ (c +ℤ pos 1)
    up f c h = omega (arith, ints)

    down : (f c : ℤ) → f <ℤ (c +ℤ pos 1) → f ≤ℤ c
    down f c h = omega (arith, ints)
