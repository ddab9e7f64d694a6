-- An event with each of a list, for any whole that two wholes give: cut, moved, and at a time.
use Rattle.std.proofs.Common.{◌≡◌, Bool, true, false, ◌&&◌, if◌then◌else◌, List, [], map, Option, Some, None, option_map, option_and_then, append-nil, refl}
use Rattle.std.proofs.Common.{sym, ap, ap₂, ◌∙◌}
use Rattle.std.specs.List.{flat_map}
use Rattle.std.proofs.lemmas.List.Folds.{flat_map-map}
use Rattle.tdl_control.specs.declared.leaves.Leaf.{Leaf}
use Rattle.tdl_fraction.specs.Rational.{Rational}
use Rattle.tdl_fraction.specs.Arc.{Arc, IsArc, IsInside, map_arc, meet}
use Rattle.tdl_fraction.proofs.Arcs.{KeepsOrder, meet_through, meet_comm, meet_around}
use Rattle.tdl_event.specs.Event.{Event, clip, clip_event}
use Rattle.tdl_event.specs.ClipLaws.{is_in, seen_of, seen_at}
use Rattle.tdl_meaning.specs.Pattern.{moved}
use Rattle.tdl_meaning.specs.Kinds.{Joining, joined_in, valued}
use Rattle.tdl_meaning.specs.inside.Arcs.{clip_met}
use Rattle.tdl_meaning.proofs.Flat.{flat_map-flat_map, map-flat_map, flat_map_same, flat_map_nothing, each_of_all}
use Rattle.tdl_meaning.proofs.Cuts.{piece, clip_clip}
use Rattle.tdl_meaning.proofs.Seen.{shown}
use Rattle.tdl_meaning.proofs.kinds.Joined.{joined_no_part, clip-joined, met_again, met_either, joined_moved, seen-joined}

-- the whole of two wholes
abbrev pub Wholes : Type 0
Wholes = Arc → Arc → Option Arc

abbrev pub pair : Wholes → Joining → Event → Event → List Event
pair W v l r = joined_in (W l.whole r.whole) (meet l.part r.part) (v l.value r.value)

-- of what two have at a time
abbrev pub pair_heard : Wholes → Joining → Arc × Leaf → Arc × Leaf → List (Arc × Leaf)
pair_heard W v l r = valued (W l.0 r.0) (v l.1 r.1)

module _ (W : Wholes) (v : Joining) where
  -- ---- cut
  -- with the first of the two cut
  pub cut_first : (a : Arc) (l : Event) (es : List Event) → clip a (flat_map (pair W v l) es) ≡ flat_map (λ k. flat_map (pair W v k) es) (clip_event a l)
  cut_first a l es =
      flat_map-flat_map (clip_event a) (pair W v l) es
      ∙ flat_map_same (λ r. clip a (pair W v l r)) (λ r. part_of r (meet l.part a))
      (λ r.
      clip-joined a (W l.whole r.whole) (meet l.part r.part) (v l.value r.value)
      ∙ ap (λ o. joined_in (W l.whole r.whole) o (v l.value r.value)) (met_either l.part r.part a))
      es
      ∙ all (meet l.part a)
    where
      part_of : Event → Option Arc → List Event
      part_of r o = joined_in (W l.whole r.whole) (option_and_then (λ m. meet m r.part) o) (v l.value r.value)

      all : (o : Option Arc)
          → flat_map (λ r. joined_in (W l.whole r.whole) (option_and_then (λ m. meet m r.part) o) (v l.value r.value)) es
          ≡ flat_map (λ k. flat_map (pair W v k) es) (piece l o)
      all (Some m) = sym (append-nil _)
      all None = flat_map_nothing _ es (each_of_all (λ r. joined_in (W l.whole r.whole) None (v l.value r.value) ≡ [])
          (λ r. joined_no_part (W l.whole r.whole) (v l.value r.value)) es)

  -- what the part of the first has of the others suffices
  pub within_part : (l : Event) (es : List Event) → flat_map (pair W v l) es ≡ flat_map (pair W v l) (clip l.part es)
  within_part l es =
      flat_map_same (pair W v l) (λ r. flat_map (pair W v l) (clip_event l.part r)) one es ∙ sym (flat_map-flat_map (pair W v l) (clip_event l.part) es)
    where
      cut : (r : Event) (o : Option Arc)
          → joined_in (W l.whole r.whole) (option_and_then (λ m. meet l.part m) o) (v l.value r.value) ≡ flat_map (pair W v l) (piece r o)
      cut r (Some m) = sym (append-nil _)
      cut r None = joined_no_part (W l.whole r.whole) (v l.value r.value)

      one : (r : Event) → pair W v l r ≡ flat_map (pair W v l) (clip_event l.part r)
      one r =
          ap (λ o. joined_in (W l.whole r.whole) o (v l.value r.value))
          (sym (met_again l.part r.part) ∙ ap (option_and_then (λ m. meet l.part m)) (meet_comm l.part r.part))
          ∙ cut r (meet r.part l.part)

  -- and so does what any arc has that the part is in
  pub within_arc : (l : Event) (a : Arc) (es : List Event) → IsArc l.part → IsInside l.part a → flat_map (pair W v l) (clip a es) ≡ flat_map (pair W v l) es
  within_arc l a es is inside =
      within_part l (clip a es)
      ∙ ap (flat_map (pair W v l)) (clip_clip l.part a es ∙ ap (λ o. clip_met o es) (meet_around a l.part is inside))
      ∙ sym (within_part l es)

  -- ---- at a time
  pub seen-pairs : (t : Rational) (l : Event) (es : List Event)
      → seen_at t (flat_map (pair W v l) es) ≡ flat_map (λ x. flat_map (pair_heard W v x) (seen_at t es)) (seen_of t l)
  seen-pairs t l es =
      flat_map-flat_map (seen_of t) (pair W v l) es
      ∙ flat_map_same (λ r. seen_at t (pair W v l r)) (λ r. if is_in t l.part && is_in t r.part then valued (W l.whole r.whole) (v l.value r.value) else [])
      (λ r. seen-joined t l.part r.part (W l.whole r.whole) (v l.value r.value)) es
      ∙ all (is_in t l.part)
    where
      one : (r : Event) (b : Bool)
          → (if b then valued (W l.whole r.whole) (v l.value r.value) else []) ≡ flat_map (pair_heard W v (l.whole, l.value)) (shown r b)
      one r true = sym (append-nil _)
      one r false = refl

      all : (s : Bool)
          → flat_map (λ r. if s && is_in t r.part then valued (W l.whole r.whole) (v l.value r.value) else []) es
          ≡ flat_map (λ x. flat_map (pair_heard W v x) (seen_at t es)) (shown l s)
      all true =
          flat_map_same (λ r. if is_in t r.part then valued (W l.whole r.whole) (v l.value r.value) else [])
          (λ r. flat_map (pair_heard W v (l.whole, l.value)) (seen_of t r)) (λ r. one r (is_in t r.part)) es
          ∙ sym (flat_map-flat_map (pair_heard W v (l.whole, l.value)) (seen_of t) es)
          ∙ sym (append-nil _)
      all false = flat_map_nothing (λ r. []) es (each_of_all (λ r. [] ≡ ([])) (λ r. refl) es)

  -- ---- moved
  pub pairs-moved : (f : Rational → Rational) → KeepsOrder f
      → ((a b : Arc) → W (map_arc f a) (map_arc f b) ≡ option_map (map_arc f) (W a b)) → (l : Event) (es : List Event)
      → flat_map (pair W v (moved f l)) (map (moved f) es) ≡ map (moved f) (flat_map (pair W v l) es)
  pairs-moved f keeps wholes l es =
      flat_map-map (pair W v (moved f l)) (moved f) es
      ∙ flat_map_same (λ r. pair W v (moved f l) (moved f r)) (λ r. map (moved f) (pair W v l r))
      (λ r.
      ap₂ (λ w o. joined_in w o (v l.value r.value)) (wholes l.whole r.whole) (meet_through f keeps l.part r.part)
      ∙ joined_moved f (W l.whole r.whole) (meet l.part r.part) (v l.value r.value))
      es
      ∙ sym (map-flat_map (moved f) (pair W v l) es)
