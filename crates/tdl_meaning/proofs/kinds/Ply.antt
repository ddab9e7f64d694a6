-- Each event so many times, each time in its piece of the whole: facts and laws.
use Rattle.std.proofs.Common.{◌≡◌, ℕ, ◌+◌, ◌*◌, ◌<◌, ◌≤◌, Bool, true, false, ◌&&◌, if◌then◌else◌, List, [], ◌∷◌, map, length, Option, Some, None}
use Rattle.std.proofs.Common.{option_and_then, append-nil, pos, ◌+ℤ◌, refl, sym, ap, ◌∙◌, subst, arith}
use Rattle.std.specs.List.{flat_map, range_with_len}
use Rattle.std.proofs.Math.Nat.{le_trans, mul_comm, mul-one, mul-le-mul_right, dvd-mul_left}
use Rattle.std.proofs.lemmas.List.FromFn.{length-range_with_len}
use Rattle.std.proofs.lemmas.List.Folds.{flat_map-map}
use Rattle.tdl_control.specs.declared.leaves.Leaf.{Leaf}
use Rattle.tdl_fraction.specs.Rational.{Rational, whole, floor, IsMultiple}
use Rattle.tdl_fraction.specs.Arc.{Arc, IsArc, IsIn, map_arc, meet}
use Rattle.tdl_fraction.proofs.Order.{≤ℚ_trans, <ℚ-≤ℚ_trans}
use Rattle.tdl_fraction.proofs.Multiples.{multiple_finer, multiple_min, multiple_max}
use Rattle.tdl_fraction.proofs.Arcs.{keeps-plus, meet_through, meet_assoc, meet_ends, meet_inside_left, meet_inside_right, inside_trans}
use Rattle.tdl_event.specs.Event.{Event, clip, clip_event}
use Rattle.tdl_event.specs.ClipLaws.{is_in, seen_of, seen_at}
use Rattle.tdl_event.proofs.Clips.{is_in-true}
use Rattle.tdl_meaning.specs.Pattern.{Pattern, over, cycle_arc, moved}
use Rattle.tdl_meaning.specs.Kinds.{joined_event, piece, fragment, fragments, ply, piece_at}
use Rattle.tdl_meaning.specs.Proper.{Each, IsProper, IsNear, HasProperEvents}
use Rattle.tdl_meaning.specs.Heard.{heard}
use Rattle.tdl_meaning.specs.Repeats.{later, Repeats}
use Rattle.tdl_meaning.proofs.Gridded.{IsGridded, HasGrid, HasHang}
use Rattle.tdl_meaning.proofs.Lists.{each_flat, each_both, each_range_with_len}
use Rattle.tdl_meaning.proofs.Flat.{flat_map-flat_map, map-flat_map, flat_map_same, flat_map_same_each, flat_map_nothing, each_of_all}
use Rattle.tdl_meaning.proofs.kinds.Counts.{HasCount, length-flat_map_le}
use Rattle.tdl_meaning.proofs.Cuts.{piece as event_in}
use Rattle.tdl_meaning.proofs.ByKind.{over_each_event}
use Rattle.tdl_meaning.proofs.Seen.{shown}
use Rattle.tdl_meaning.proofs.kinds.Pieces.{piece_moved, along_start, along_stop, along_multiple, the_piece}
use Rattle.tdl_meaning.proofs.kinds.Joined.{whole_is_arc, length-joined_in, clip-joined, joined_moved, seen-joined}

-- ---- facts
-- what holds of each piece of an event
pub each_fragment : (Q : Event → Type 0) (n : ℕ) (e : Event)
    → ((j : ℕ) → j < n → (part : Arc) → meet (piece n e.whole j) e.part ≡ Some part → Q (record { whole = piece n e.whole j; part = part; value = e.value }))
    → Each Q (fragments n e)
each_fragment Q n e step =
    each_flat (λ j. j < n) Q (λ j. fragment (piece n e.whole j) e)
    one (range_with_len 0 n) (each_range_with_len (λ j. j < n) 0 n (λ j low high. omega (arith, high)))
  where
    one : (j : ℕ) → j < n → Each Q (fragment (piece n e.whole j) e)
    one j below = made (meet (piece n e.whole j) e.part) refl
      where
        made : (o : Option Arc) → meet (piece n e.whole j) e.part ≡ o → Each Q (joined_event (piece n e.whole j) o (Some e.value))
        made (Some part) met = (step j below part met, tt)
        made None met = tt

-- of an event's whole and value the pieces that have the time, with the value
abbrev pub pieces_at : ℕ → Rational → Arc × Leaf → List (Arc × Leaf)
pieces_at n t x = flat_map (λ j. if is_in t (piece n x.0 j) then (piece n x.0 j, x.1) ∷ [] else []) (range_with_len 0 n)

module _ (n : ℕ) (p : Pattern) where
  pub ply_proper : HasProperEvents p → HasProperEvents (ply n p)
  unfolding ply
  ply_proper proper c =
      each_flat (IsProper (cycle_arc c)) (IsProper (cycle_arc c)) (fragments n)
      (λ e is. each_fragment (IsProper (cycle_arc c)) n e (λ j below part met. record {
        width = (meet_ends (piece n e.whole j) e.part part met).2;
        in_whole = meet_inside_left (piece n e.whole j) e.part part met;
        in_arc = inside_trans part e.part (cycle_arc c) (meet_inside_right (piece n e.whole j) e.part part met) is.in_arc;
      }))
      (p c) (proper c)

  pub ply_grid : (g : ℕ) → 0 < n → HasGrid g p → HasGrid (n * g) (ply n p)
  unfolding ply
  ply_grid g positive on c =
      each_flat (IsGridded g) (IsGridded (n * g)) (fragments n)
      (λ e at. each_fragment (IsGridded (n * g)) n e (λ j below part met. shared e at j part met))
      (p c) (on c)
    where
      shared : (e : Event) → IsGridded g e → (j : ℕ) (part : Arc) → meet (piece n e.whole j) e.part ≡ Some part
          → IsGridded (n * g) (record { whole = piece n e.whole j; part = part; value = e.value })
      shared e at j part met =
          let ends = meet_ends (piece n e.whole j) e.part part met in
          let finer : (t : Rational) → IsMultiple g t → IsMultiple (n * g) t = λ t h. multiple_finer g (n * g) t (dvd-mul_left g n) h in
          let start = along_multiple g n e.whole j positive at.whole_start at.whole_stop in
          let stop = along_multiple g n e.whole (j + 1) positive at.whole_start at.whole_stop in
          record {
            whole_start = start;
            whole_stop = stop;
            part_start = subst (IsMultiple (n * g)) (sym ends.0) (multiple_max start (finer e.part.start at.part_start));
            part_stop = subst (IsMultiple (n * g)) (sym ends.1) (multiple_min stop (finer e.part.stop at.part_stop));
          }

  pub ply_hang : (h : ℕ) → HasProperEvents p → HasHang h p → HasHang h (ply n p)
  unfolding ply
  ply_hang h proper hung c =
      each_flat (λ e. IsArc e.whole × IsNear h c (c +ℤ pos 1) e) (IsNear h c (c +ℤ pos 1)) (fragments n)
      (λ e is. each_fragment (IsNear h c (c +ℤ pos 1)) n e (λ j below part met. record {
        start = ≤ℚ_trans is.1.start (along_start n e.whole j is.0 (omega arith) (omega arith));
        stop = ≤ℚ_trans (along_stop n e.whole (j + 1) is.0 (omega arith) (omega arith)) is.1.stop;
      }))
      (p c)
      (each_both (IsProper (cycle_arc c)) (IsNear h c (c +ℤ pos 1)) (λ e. IsArc e.whole × IsNear h c (c +ℤ pos 1) e)
      (λ e is near. (whole_is_arc (cycle_arc c) e is, near)) (p c) (proper c) (hung c))

  pub ply_count : (k : ℕ) → HasCount k p → HasCount (n * k) (ply n p)
  unfolding ply
  ply_count k few c =
      subst (λ m. length (ply n p c) ≤ m) (mul_comm k n)
      (le_trans
      (length-flat_map_le n (λ e. Unit {0}) (fragments n) (λ e h. at_most e) (p c) (each_of_all (λ e. Unit {0}) (λ e. tt) (p c)))
      (mul-le-mul_right n (few c)))
    where
      at_most : (e : Event) → length (fragments n e) ≤ n
      at_most e =
          subst (λ m. length (fragments n e) ≤ m) (mul-one n)
          (subst (λ m. length (fragments n e) ≤ m * 1) (length-range_with_len 0 n)
          (length-flat_map_le 1 (λ j. Unit {0}) (λ j. fragment (piece n e.whole j) e)
          (λ j h. length-joined_in (Some (piece n e.whole j)) (meet (piece n e.whole j) e.part) (Some e.value))
          (range_with_len 0 n) (each_of_all (λ j. Unit {0}) (λ j. tt) (range_with_len 0 n))))

  -- ---- laws
  -- the pieces, cut, are the pieces of the cut event
  fragments_cut : (a : Arc) (e : Event) → clip a (fragments n e) ≡ flat_map (fragments n) (clip_event a e)
  fragments_cut a e =
      flat_map-flat_map (clip_event a) (λ j. fragment (piece n e.whole j) e) (range_with_len 0 n)
      ∙ flat_map_same (λ j. clip a (fragment (piece n e.whole j) e)) (λ j. part_of j (meet e.part a))
      (λ j.
      clip-joined a (Some (piece n e.whole j)) (meet (piece n e.whole j) e.part) (Some e.value)
      ∙ ap (λ o. joined_event (piece n e.whole j) o (Some e.value)) (meet_assoc (piece n e.whole j) e.part a))
      (range_with_len 0 n)
      ∙ all (meet e.part a)
    where
      part_of : ℕ → Option Arc → List Event
      part_of j o = joined_event (piece n e.whole j) (option_and_then (λ m. meet (piece n e.whole j) m) o) (Some e.value)

      all : (o : Option Arc)
          → flat_map (λ j. joined_event (piece n e.whole j) (option_and_then (λ m. meet (piece n e.whole j) m) o) (Some e.value)) (range_with_len 0 n)
          ≡ flat_map (fragments n) (event_in e o)
      all (Some m) = sym (append-nil _)
      all None = flat_map_nothing (λ j. []) (range_with_len 0 n) (each_of_all (λ j. [] ≡ ([])) (λ j. refl) (range_with_len 0 n))

  -- in any arc
  pub over-ply : (a : Arc) → over (ply n p) a ≡ flat_map (fragments n) (over p a)
  unfolding ply
  over-ply a = over_each_event (fragments n) fragments_cut p a

  -- of each event that is heard the pieces that have the time
  pub heard_ply : (t : Rational) → heard (ply n p) t ≡ flat_map (pieces_at n t) (heard p t)
  unfolding ply
  heard_ply t =
      flat_map-flat_map (seen_of t) (fragments n) (p (floor t))
      ∙ flat_map_same (λ e. seen_at t (fragments n e)) (λ e. flat_map (pieces_at n t) (seen_of t e)) one (p (floor t))
      ∙ sym (flat_map-flat_map (pieces_at n t) (seen_of t) (p (floor t)))
    where
      one : (e : Event) → seen_at t (fragments n e) ≡ flat_map (pieces_at n t) (seen_of t e)
      one e =
          flat_map-flat_map (seen_of t) (λ j. fragment (piece n e.whole j) e) (range_with_len 0 n)
          ∙ flat_map_same (λ j. seen_at t (fragment (piece n e.whole j) e))
          (λ j. if is_in t (piece n e.whole j) && is_in t e.part then (piece n e.whole j, e.value) ∷ [] else [])
          (λ j. seen-joined t (piece n e.whole j) e.part (Some (piece n e.whole j)) (Some e.value)) (range_with_len 0 n)
          ∙ all (is_in t e.part)
        where
          both : (b : Bool) (xs : List (Arc × Leaf)) → (if b && true then xs else []) ≡ (if b then xs else [])
          both true xs = refl
          both false xs = refl

          neither : (b : Bool) (xs : List (Arc × Leaf)) → (if b && false then xs else []) ≡ []
          neither true xs = refl
          neither false xs = refl

          all : (s : Bool)
              → flat_map (λ j. if is_in t (piece n e.whole j) && s then (piece n e.whole j, e.value) ∷ [] else []) (range_with_len 0 n)
              ≡ flat_map (pieces_at n t) (shown e s)
          all true =
              flat_map_same (λ j. if is_in t (piece n e.whole j) && true then (piece n e.whole j, e.value) ∷ [] else [])
              (λ j. if is_in t (piece n e.whole j) then (piece n e.whole j, e.value) ∷ [] else [])
              (λ j. both (is_in t (piece n e.whole j)) _) (range_with_len 0 n)
              ∙ sym (append-nil _)
          all false =
              flat_map_nothing (λ j. if is_in t (piece n e.whole j) && false then (piece n e.whole j, e.value) ∷ [] else []) (range_with_len 0 n)
              (each_of_all (λ j. (if is_in t (piece n e.whole j) && false then (piece n e.whole j, e.value) ∷ [] else []) ≡ [])
              (λ j. neither (is_in t (piece n e.whole j)) _) (range_with_len 0 n))

  -- and so the one piece that has it
  pub heard_ply_piece : 0 < n → HasProperEvents p → (t : Rational) → heard (ply n p) t ≡ map (piece_at n t) (heard p t)
  heard_ply_piece positive proper t =
      heard_ply t
      ∙ flat_map-flat_map (pieces_at n t) (seen_of t) (p (floor t))
      ∙ flat_map_same_each (IsProper (cycle_arc (floor t))) (λ e. flat_map (pieces_at n t) (seen_of t e)) (λ e. map (piece_at n t) (seen_of t e))
      (λ e is. one e is (is_in t e.part) refl) (p (floor t)) (proper (floor t))
      ∙ sym (map-flat_map (piece_at n t) (seen_of t) (p (floor t)))
    where
      one : (e : Event) → IsProper (cycle_arc (floor t)) e → (b : Bool) → is_in t e.part ≡ b
          → flat_map (pieces_at n t) (shown e b) ≡ map (piece_at n t) (shown e b)
      one e is true there =
          let in_part = (is_in-true t e.part).0 there in
          let in_whole : IsIn t e.whole = (≤ℚ_trans is.in_whole.0 in_part.0, <ℚ-≤ℚ_trans in_part.1 is.in_whole.1) in
          append-nil _ ∙ the_piece n t e.whole positive (whole_is_arc (cycle_arc (floor t)) e is) in_whole e.value
      one e is false there = refl

-- ---- repeats
fragments_later : (k n : ℕ) (e : Event) → fragments n (moved (later k) e) ≡ map (moved (later k)) (fragments n e)
fragments_later k n e =
    flat_map_same (λ j. fragment (piece n (map_arc (later k) e.whole) j) (moved (later k) e)) (λ j. map (moved (later k)) (fragment (piece n e.whole j) e))
    (λ j.
    ap (λ w. fragment w (moved (later k) e)) (piece_moved (whole (pos k)) n e.whole j)
    ∙ ap (λ o. joined_event (map_arc (later k) (piece n e.whole j)) o (Some e.value))
    (meet_through (later k) (keeps-plus (whole (pos k))) (piece n e.whole j) e.part)
    ∙ joined_moved (later k) (Some (piece n e.whole j)) (meet (piece n e.whole j) e.part) (Some e.value))
    (range_with_len 0 n)
    ∙ sym (map-flat_map (moved (later k)) (λ j. fragment (piece n e.whole j) e) (range_with_len 0 n))

pub ply_repeats : (k n : ℕ) (p : Pattern) → Repeats k p → Repeats k (ply n p)
unfolding ply
ply_repeats k n p again c =
    ap (flat_map (fragments n)) (again c)
    ∙ flat_map-map (fragments n) (moved (later k)) (p c)
    ∙ flat_map_same (λ e. fragments n (moved (later k) e)) (λ e. map (moved (later k)) (fragments n e)) (fragments_later k n) (p c)
    ∙ sym (map-flat_map (moved (later k)) (fragments n) (p c))
