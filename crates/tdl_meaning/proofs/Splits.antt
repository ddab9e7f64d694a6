-- An arc that is cut in two has the same onsets: each has its part's start in one of the two.
use Rattle.std.proofs.Common.{◌≡◌, ◌↔◌, ℕ, ⊎_elim, Bool, true, false, if◌then◌else◌, true≢false, List, [], ◌∷◌, ◌++◌, ℤ, pos, ◌+ℤ◌, ◌≤ℤ◌}
use Rattle.std.proofs.Common.{Option, Some, None, nat_abs, ◌-ℤ◌, cond, refl, sym, ap, ap₂, ◌∙◌, subst, append-nil}
use Rattle.std.specs.List.{flat_map}
use Rattle.std.specs.List.Sorted.{IsPermutation}
use Rattle.std.proofs.lemmas.Bool.{and_parts, and_from}
use Rattle.std.proofs.lemmas.List.{append_assoc}
use Rattle.std.proofs.lemmas.List.Sums.{sum_by-append}
use Rattle.std.proofs.lemmas.List.Sorted.{IsPermutation-refl, IsPermutation-trans, IsPermutation-append_left, IsPermutation-append_right}
use Rattle.std.proofs.lemmas.List.Sorted.{IsPermutation-append_comm, sum_by-IsPermutation}
use Rattle.std.proofs.lemmas.Option.{none-some}
use Rattle.tdl_control.specs.declared.leaves.Leaf.{Leaf}
use Rattle.tdl_fraction.specs.Rational.{Rational, ◌≤ℚ◌, ◌<ℚ◌, floor, ceil}
use Rattle.tdl_fraction.specs.Arc.{Arc, IsArc, IsIn, meet}
use Rattle.tdl_fraction.proofs.Over.{le_ℚ-true}
use Rattle.tdl_fraction.proofs.Order.{≤ℚ_refl, ≤ℚ_trans, ≤ℚ-<ℚ_trans, <ℚ-≤ℚ_trans, <ℚ_trans, ≤ℚ_from_<ℚ, ≤ℚ_from_same, ≤ℚ_antisymm}
use Rattle.tdl_fraction.proofs.Order.{≤ℚ_or_<ℚ, <ℚ_from_not, clash_ℚ}
use Rattle.tdl_fraction.proofs.Rounding.{floor_monotone, ceil_monotone}
use Rattle.tdl_fraction.proofs.MinMax.{max-left, le_max_right}
use Rattle.tdl_fraction.proofs.Arcs.{meet_ends, meet_exists, meet_overlaps}
use Rattle.tdl_event.specs.Event.{Event, clip, clip_event, HasOnset}
use Rattle.tdl_event.specs.ClipLaws.{is_in}
use Rattle.tdl_event.proofs.Clips.{same_tests, not_true, is_in-true}
use Rattle.tdl_meaning.specs.Pattern.{Pattern, whole_range, over, cycle_arc}
use Rattle.tdl_meaning.specs.Meaning.{cyc}
use Rattle.tdl_meaning.specs.Proper.{IsProper, HasProperEvents}
use Rattle.tdl_meaning.specs.Onsets.{has_onset, onset_of, onsets, from_to, SplitLaw, CountLaw}
use Rattle.tdl_meaning.proofs.Cycles.{range_end}
use Rattle.tdl_meaning.proofs.Flat.{flat_map-flat_map, flat_map_same, flat_map_same_each}
use Rattle.tdl_meaning.proofs.Cuts.{piece, covered}
use Rattle.tdl_meaning.proofs.Seen.{shown}
use Rattle.tdl_meaning.proofs.Proper.{proper}

-- the test answers whether the event has its onset
pub has_onset-true : (e : Event) → (has_onset e ≡ true) ↔ HasOnset e
has_onset-true e = (
  λ is. let both = and_parts _ _ is in ≤ℚ_antisymm ((le_ℚ-true e.part.start e.whole.start).0 both.0) ((le_ℚ-true e.whole.start e.part.start).0 both.1),
  λ same. and_from _ _ ((le_ℚ-true e.part.start e.whole.start).1 (≤ℚ_from_same same)) ((le_ℚ-true e.whole.start e.part.start).1 (≤ℚ_from_same (sym same))),
)

-- ---- one event
-- the event's onset, if the test is true
abbrev keep : Bool → Event → List (Arc × Leaf)
keep b e = if b then onset_of e else []

-- cut to an arc, an event has its onset where it has it at all and its part starts in the arc
module _ (d : Arc) (e : Event) (d_is : IsArc d) (sound : IsProper e.whole e) where
  abbrev cut : Arc → Event
  cut part = record { whole = e.whole; part = part; value = e.value }

  starts_in : (part : Arc) → meet e.part d ≡ Some part → IsIn e.part.start d → onsets (piece e (Some part)) ≡ onset_of e
  starts_in part met h =
      let same : part.start ≡ e.part.start = (meet_ends e.part d part met).0 ∙ max-left h.0 in
      append-nil _ ∙ ap (λ t. onset_of (cut (record { start = t; stop = part.stop }))) same

  starts_before : (part : Arc) → meet e.part d ≡ Some part → ¬ (IsIn e.part.start d) → onsets (piece e (Some part)) ≡ []
  starts_before part met out =
      let before : e.part.start <ℚ d.start = <ℚ_from_not (λ h. out (h, (meet_overlaps e.part d part met).0)) in
      let later : e.whole.start <ℚ part.start =
      <ℚ-≤ℚ_trans (≤ℚ-<ℚ_trans sound.in_whole.0 before)
      (subst (λ t. d.start ≤ℚ t) (sym (meet_ends e.part d part met).0) (le_max_right e.part.start d.start)) in
      append-nil _
      ∙ ap (shown (cut part)) (not_true (has_onset (cut part)) (λ is. clash_ℚ later (≤ℚ_from_same ((has_onset-true (cut part)).0 is))))

  apart : meet e.part d ≡ None → ¬ (IsIn e.part.start d)
  apart met h =
      let there = meet_exists e.part d sound.width d_is h.1 (≤ℚ-<ℚ_trans h.0 sound.width) in
      none-some there.0 (sym met ∙ there.1)

  by_test : (o : Option Arc) → meet e.part d ≡ o → (b : Bool) → is_in e.part.start d ≡ b → onsets (piece e o) ≡ keep b e
  by_test (Some part) met true is = starts_in part met ((is_in-true e.part.start d).0 is)
  by_test (Some part) met false is = starts_before part met (λ h. true≢false (sym ((is_in-true e.part.start d).1 h) ∙ is))
  by_test None met true is = absurd (apart met ((is_in-true e.part.start d).0 is))
  by_test None met false is = refl

  clipped_onset : onsets (clip_event d e) ≡ keep (is_in e.part.start d) e
  clipped_onset = by_test (meet e.part d) refl (is_in e.part.start d) refl

-- a time of an arc is in one of its two halves
in_half : (a m b : Rational) (e : Event) → a <ℚ m → m <ℚ b
    → keep (is_in e.part.start (from_to a b)) e ≡ keep (is_in e.part.start (from_to a m)) e ++ keep (is_in e.part.start (from_to m b)) e
in_half a m b e low high = ⊎_elim second first (≤ℚ_or_<ℚ m t)
  where
    t : Rational
    t = e.part.start

    out : (d : Arc) → ¬ (IsIn t d) → is_in t d ≡ false
    out d h = not_true (is_in t d) (λ is. h ((is_in-true t d).0 is))

    same : (c d : Arc) → (IsIn t c → IsIn t d) → (IsIn t d → IsIn t c) → is_in t c ≡ is_in t d
    same c d there back = same_tests (is_in t c) (is_in t d)
        (λ is. (is_in-true t d).1 (there ((is_in-true t c).0 is)), λ is. (is_in-true t c).1 (back ((is_in-true t d).0 is)))

    first : t <ℚ m → keep (is_in t (from_to a b)) e ≡ keep (is_in t (from_to a m)) e ++ keep (is_in t (from_to m b)) e
    first before =
        ap (λ x. keep x e) (same (from_to a b) (from_to a m) (λ h. (h.0, before)) (λ h. (h.0, <ℚ_trans before high)))
        ∙ sym (append-nil _)
        ∙ ap (λ x. keep (is_in t (from_to a m)) e ++ keep x e) (sym (out (from_to m b) (λ h. clash_ℚ before h.0)))

    second : m ≤ℚ t → keep (is_in t (from_to a b)) e ≡ keep (is_in t (from_to a m)) e ++ keep (is_in t (from_to m b)) e
    second from =
        ap (λ x. keep x e) (same (from_to a b) (from_to m b) (λ h. (from, h.1)) (λ h. (≤ℚ_trans (≤ℚ_from_<ℚ low) from, h.1)))
        ∙ ap (λ x. keep x e ++ keep (is_in t (from_to m b)) e) (sym (out (from_to a m) (λ h. clash_ℚ h.1 from)))

-- ---- lists
-- the onsets in an arc, read off the events of any run of cycles that has the arc's
onsets_over : (p : Pattern) → HasProperEvents p → (d : Arc) → IsArc d → (first : ℤ) (n : ℕ) → first ≤ℤ floor d.start → ceil d.stop ≤ℤ (first +ℤ pos n)
    → onsets (over p d) ≡ flat_map (λ e. keep (is_in e.part.start d) e) (flat_map p (whole_range first n))
onsets_over p well d d_is first n low high =
    ap onsets (sym (covered p well d d_is first n low high))
    ∙ flat_map-flat_map onset_of (λ c. clip d (p c)) (whole_range first n)
    ∙ flat_map_same (λ c. onsets (clip d (p c))) (λ c. flat_map (λ e. keep (is_in e.part.start d) e) (p c)) in_cycle (whole_range first n)
    ∙ sym (flat_map-flat_map (λ e. keep (is_in e.part.start d) e) p (whole_range first n))
  where
    in_cycle : (c : ℤ) → onsets (clip d (p c)) ≡ flat_map (λ e. keep (is_in e.part.start d) e) (p c)
    in_cycle c =
        flat_map-flat_map onset_of (clip_event d) (p c)
        ∙ flat_map_same_each (IsProper (cycle_arc c)) (λ e. onsets (clip_event d e)) (λ e. keep (is_in e.part.start d) e)
        (λ e is. clipped_onset d e d_is (record { width = is.width; in_whole = is.in_whole; in_arc = is.in_whole })) (p c) (well c)

exchanged : {X : Type 0} (a b c d : List X) → IsPermutation ((a ++ b) ++ (c ++ d)) ((a ++ c) ++ (b ++ d))
exchanged a b c d =
    subst (λ t. IsPermutation t ((a ++ c) ++ (b ++ d))) (ap (λ u. a ++ u) (append_assoc b c d) ∙ sym (append_assoc a b (c ++ d)))
    (subst (λ t. IsPermutation (a ++ ((b ++ c) ++ d)) t) (ap (λ u. a ++ u) (append_assoc c b d) ∙ sym (append_assoc a c (b ++ d)))
    (IsPermutation-append_right a ((b ++ c) ++ d) ((c ++ b) ++ d) (IsPermutation-append_left d (b ++ c) (c ++ b) (IsPermutation-append_comm b c))))

-- where each item gives two lists, the first lists of all and then the second ones are an order of what all give
halves : {X Y : Type 0} (f g h : X → List Y) → ((x : X) → f x ≡ g x ++ h x) → (xs : List X) → IsPermutation (flat_map f xs) (flat_map g xs ++ flat_map h xs)
halves f g h both [] = IsPermutation-refl []
halves f g h both (x ∷ xs) =
    let G = flat_map g xs in
    let H = flat_map h xs in
    subst (λ t. IsPermutation (t ++ flat_map f xs) ((g x ++ G) ++ (h x ++ H))) (sym (both x))
    (IsPermutation-trans ((g x ++ h x) ++ flat_map f xs) ((g x ++ h x) ++ (G ++ H)) ((g x ++ G) ++ (h x ++ H))
    (IsPermutation-append_right (g x ++ h x) (flat_map f xs) (G ++ H) (halves f g h both xs))
    (exchanged (g x) (h x) G H))

-- ---- the laws
pub onsets_split : (p : Pattern) → HasProperEvents p → (a m b : Rational) → a <ℚ m → m <ℚ b
    → IsPermutation (onsets (over p (from_to a b))) (onsets (over p (from_to a m)) ++ onsets (over p (from_to m b)))
onsets_split p well a m b low high =
    let whole_is : IsArc (from_to a b) = <ℚ_trans low high in
    let first = floor a in
    let n = nat_abs (ceil b -ℤ floor a) in
    let events = flat_map p (whole_range first n) in
    let end = range_end (from_to a b) whole_is in
    let all = onsets_over p well (from_to a b) whole_is first n (floor_monotone (≤ℚ_refl a)) (subst (λ z. ceil b ≤ℤ z) (sym end) (ceil_monotone (≤ℚ_refl b))) in
    let left = onsets_over p well (from_to a m) low first n (floor_monotone (≤ℚ_refl a))
    (subst (λ z. ceil m ≤ℤ z) (sym end) (ceil_monotone (≤ℚ_from_<ℚ high))) in
    let right = onsets_over p well (from_to m b) high first n (floor_monotone (≤ℚ_from_<ℚ low))
    (subst (λ z. ceil b ≤ℤ z) (sym end) (ceil_monotone (≤ℚ_refl b))) in
    subst (λ t. IsPermutation t (onsets (over p (from_to a m)) ++ onsets (over p (from_to m b)))) (sym all)
    (subst (λ t. IsPermutation (flat_map (λ e. keep (is_in e.part.start (from_to a b)) e) events) t) (ap₂ (λ x y. x ++ y) (sym left) (sym right))
    (halves (λ e. keep (is_in e.part.start (from_to a b)) e) (λ e. keep (is_in e.part.start (from_to a m)) e)
    (λ e. keep (is_in e.part.start (from_to m b)) e) (λ e. in_half a m b e low high) events))

pub split_law : SplitLaw
split_law e valid a m b low high = onsets_split (cyc e) (proper e valid) a m b low high

pub count_law : CountLaw
count_law test e valid a m b low high =
    let left = onsets (over (cyc e) (from_to a m)) in
    let right = onsets (over (cyc e) (from_to m b)) in
    sym (sum_by-IsPermutation (λ x. cond (test x) 1 0) (onsets (over (cyc e) (from_to a b))) (left ++ right) (split_law e valid a m b low high))
    ∙ sum_by-append (λ x. cond (test x) 1 0) left right
