-- Events made of two: what holds of them, how they are cut and moved, and what they have at a time.
use Rattle.std.proofs.Common.{◌≡◌, ◌≤◌, Bool, true, false, ◌&&◌, if◌then◌else◌, [], map, length, Option, Some, None, option_map, option_and_then}
use Rattle.std.proofs.Common.{⊎_elim, append-nil, refl, sym, ap, ◌∙◌, arith}
use Rattle.std.proofs.lemmas.Bool.{and_parts, and_from}
use Rattle.tdl_control.specs.declared.leaves.Leaf.{Leaf}
use Rattle.tdl_fraction.specs.Rational.{Rational}
use Rattle.tdl_fraction.specs.Arc.{Arc, IsArc, IsIn, map_arc, meet}
use Rattle.tdl_fraction.proofs.Order.{≤ℚ-<ℚ_trans, <ℚ-≤ℚ_trans, clash_ℚ}
use Rattle.tdl_fraction.proofs.Arcs.{meet_assoc, meet_comm, meet_ends, meet_around, meet_inside_left, apart_from_none, in_meet}
use Rattle.tdl_event.specs.Event.{Event, clip}
use Rattle.tdl_event.specs.ClipLaws.{is_in, seen_at}
use Rattle.tdl_event.proofs.Clips.{same_tests, is_in-true}
use Rattle.tdl_meaning.specs.Pattern.{moved}
use Rattle.tdl_meaning.specs.Kinds.{joined_event, joined_in, valued}
use Rattle.tdl_meaning.specs.Proper.{Each, IsProper}
use Rattle.tdl_meaning.proofs.Cuts.{piece}
use Rattle.tdl_meaning.proofs.Seen.{shown}
use Rattle.tdl_meaning.proofs.kinds.Filters.{either_way}

-- ---- what holds of them
-- the whole of an event that is well formed
pub whole_is_arc : (a : Arc) (e : Event) → IsProper a e → IsArc e.whole
whole_is_arc a e is = ≤ℚ-<ℚ_trans is.in_whole.0 (<ℚ-≤ℚ_trans is.width is.in_whole.1)

pub each_joined : (Q : Event → Type 0) (w : Arc) (o : Option Arc) (v : Option Leaf)
    → ((part : Arc) (value : Leaf) → o ≡ Some part → Q (record { whole = w; part = part; value = value })) → Each Q (joined_event w o v)
each_joined Q w (Some part) (Some value) step = (step part value refl, tt)
each_joined Q w (Some part) None step = tt
each_joined Q w None v step = tt

pub each_joined_in : (Q : Event → Type 0) (ow o : Option Arc) (v : Option Leaf)
    → ((w part : Arc) (value : Leaf) → ow ≡ Some w → o ≡ Some part → Q (record { whole = w; part = part; value = value })) → Each Q (joined_in ow o v)
each_joined_in Q (Some w) o v step = each_joined Q w o v (λ part value e. step w part value refl e)
each_joined_in Q None o v step = tt

length-joined : (w : Arc) (o : Option Arc) (v : Option Leaf) → length (joined_event w o v) ≤ 1
length-joined w (Some part) (Some value) = omega arith
length-joined w (Some part) None = omega arith
length-joined w None v = omega arith

pub length-joined_in : (ow o : Option Arc) (v : Option Leaf) → length (joined_in ow o v) ≤ 1
length-joined_in (Some w) o v = length-joined w o v
length-joined_in None o v = omega arith

-- ---- without a part, or without a value
joined_no_value : (w : Arc) (o : Option Arc) → [] ≡ joined_event w o None
joined_no_value w (Some part) = refl
joined_no_value w None = refl

pub joined_no_part : (ow : Option Arc) (v : Option Leaf) → joined_in ow None v ≡ []
joined_no_part (Some w) v = refl
joined_no_part None v = refl

-- ---- cut
joined_piece : (w part : Arc) (value : Leaf) (o : Option Arc) → piece (record { whole = w; part = part; value = value }) o ≡ joined_event w o (Some value)
joined_piece w part value (Some m) = refl
joined_piece w part value None = refl

clip-joined_event : (a w : Arc) (o : Option Arc) (v : Option Leaf) → clip a (joined_event w o v) ≡ joined_event w (option_and_then (λ m. meet m a) o) v
clip-joined_event a w (Some part) (Some value) = append-nil _ ∙ joined_piece w part value (meet part a)
clip-joined_event a w (Some part) None = joined_no_value w (meet part a)
clip-joined_event a w None v = refl

pub clip-joined : (a : Arc) (ow o : Option Arc) (v : Option Leaf) → clip a (joined_in ow o v) ≡ joined_in ow (option_and_then (λ m. meet m a) o) v
clip-joined a (Some w) o v = clip-joined_event a w o v
clip-joined a None o v = refl

-- ---- meetings of three
-- cut to the first part once more
pub met_again : (a b : Arc) → option_and_then (λ m. meet a m) (meet a b) ≡ meet a b
met_again a b = by (meet a b) refl
  where
    by : (o : Option Arc) → meet a b ≡ o → option_and_then (λ m. meet a m) o ≡ o
    by (Some m) met = meet_around a m (meet_ends a b m met).2 (meet_inside_left a b m met)
    by None met = refl

-- two cuts change places
pub met_either : (p r a : Arc) → option_and_then (λ m. meet m a) (meet p r) ≡ option_and_then (λ m. meet m r) (meet p a)
met_either p r a = meet_assoc p r a ∙ ap (option_and_then (λ m. meet p m)) (meet_comm r a) ∙ sym (meet_assoc p a r)

-- ---- moved
pub joined_moved : (f : Rational → Rational) (ow o : Option Arc) (v : Option Leaf)
    → joined_in (option_map (map_arc f) ow) (option_map (map_arc f) o) v ≡ map (moved f) (joined_in ow o v)
joined_moved f (Some w) (Some part) (Some value) = refl
joined_moved f (Some w) (Some part) None = refl
joined_moved f (Some w) None v = refl
joined_moved f None o v = refl

-- ---- at a time
-- arcs that share a time meet
shared_meets : (a b : Arc) (t : Rational) → IsIn t a → IsIn t b → ¬ (meet a b ≡ None)
shared_meets a b t h k none =
    ⊎_elim
    (λ before. clash_ℚ (≤ℚ-<ℚ_trans k.0 h.1) before)
    (λ behind. clash_ℚ (≤ℚ-<ℚ_trans h.0 k.1) behind)
    (apart_from_none a b (≤ℚ-<ℚ_trans h.0 h.1) (≤ℚ-<ℚ_trans k.0 k.1) none)

in_both : (t : Rational) (a b m : Arc) → meet a b ≡ Some m → is_in t m ≡ (is_in t a && is_in t b)
in_both t a b m met = same_tests (is_in t m) (is_in t a && is_in t b) (
  λ e.
      let h = (in_meet a b m t met).0 ((is_in-true t m).0 e) in
      and_from _ _ ((is_in-true t a).1 h.0) ((is_in-true t b).1 h.1),
  λ e.
      let h = and_parts _ _ e in
      (is_in-true t m).1 ((in_meet a b m t met).1 ((is_in-true t a).0 h.0, (is_in-true t b).0 h.1)),
)

-- where both parts have the time, the whole and the value, if there are both
seen-joined_event : (t : Rational) (a b w : Arc) (v : Option Leaf)
    → seen_at t (joined_event w (meet a b) v) ≡ (if is_in t a && is_in t b then valued (Some w) v else [])
seen-joined_event t a b w v = by (meet a b) v refl
  where
    apart : (v : Option Leaf) (s u : Bool) → is_in t a ≡ s → is_in t b ≡ u → meet a b ≡ None → [] ≡ (if s && u then valued (Some w) v else [])
    apart v true true in_a in_b none = absurd (shared_meets a b t ((is_in-true t a).0 in_a) ((is_in-true t b).0 in_b) none)
    apart v true false in_a in_b none = refl
    apart v false u in_a in_b none = refl

    by : (o : Option Arc) (v : Option Leaf) → meet a b ≡ o → seen_at t (joined_event w o v) ≡ (if is_in t a && is_in t b then valued (Some w) v else [])
    by (Some m) (Some value) met = append-nil _ ∙ ap (shown (record { whole = w; part = m; value = value })) (in_both t a b m met)
    by (Some m) None met = either_way (is_in t a && is_in t b) []
    by None v met = apart v (is_in t a) (is_in t b) refl refl met

pub seen-joined : (t : Rational) (a b : Arc) (ow : Option Arc) (v : Option Leaf)
    → seen_at t (joined_in ow (meet a b) v) ≡ (if is_in t a && is_in t b then valued ow v else [])
seen-joined t a b (Some w) v = seen-joined_event t a b w v
seen-joined t a b None v = either_way (is_in t a && is_in t b) []
