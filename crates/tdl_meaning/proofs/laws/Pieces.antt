-- Events in pieces, and one value that goes on: in pieces, at a rate, and as what says for how long events are held.
use Rattle.std.proofs.Common.{◌≡◌, ℕ, zero, suc, ◌+◌, ◌*◌, ◌<◌, List, [], ◌∷◌, ◌++◌, map, Option, Some, None, option_and_then, ℤ, pos, ◌+ℤ◌, ◌*ℤ◌}
use Rattle.std.proofs.Common.{true, append-nil, refl, sym, ap, ap₂, ◌∙◌, arith}
use Rattle.std.specs.List.{flat_map, range_with_len}
use Rattle.std.proofs.Math.Nat.{suc-mul, zero-mul, mul-pos}
use Rattle.std.proofs.lemmas.Int.{ints}
use Rattle.std.proofs.lemmas.Grind.{flat_map-append}
use Rattle.std.proofs.lemmas.List.Folds.{flat_map-map}
use Rattle.std.proofs.lemmas.List.Concat.{flat_map_single}
use Rattle.tdl_ring.proofs.Quoting.{by_ring, ring}
use Rattle.tdl_control.specs.declared.leaves.Leaf.{Leaf}
use Rattle.tdl_control.specs.declared.leaves.Leaf.TheVariants.{Truth}
use Rattle.tdl_fraction.specs.Rational.{Rational, frac, whole, ◌+ℚ◌, ◌-ℚ◌, ◌*ℚ◌, ◌/ℚ◌}
use Rattle.tdl_fraction.specs.Arc.{Arc, IsArc, meet}
use Rattle.tdl_fraction.proofs.Field.{rationals, frac-quotient, frac-plus, frac-times, *ℚ-inverse, /ℚ_is, whole-plus, plus-/ℚ, *ℚ-divide, whole-times}
use Rattle.tdl_fraction.proofs.Field.{zero-/ℚ}
use Rattle.tdl_fraction.proofs.Order.{whole_positive, ≢_from_positive}
use Rattle.tdl_fraction.proofs.Arcs.{meet_around, meet_inside, meet_assoc}
use Rattle.tdl_event.specs.Event.{Event}
use Rattle.tdl_expr.specs.declared.joinings.Op.TheVariants.{Struct}
use Rattle.tdl_meaning.specs.Pattern.{Pattern, whole_range, over, moved, cycle_arc, pure, fast}
use Rattle.tdl_meaning.specs.Kinds.{along, piece, joined_event, fragment, fragments, ply, with_left, join_left}
use Rattle.tdl_meaning.specs.Values.{value_of}
use Rattle.tdl_meaning.specs.Proper.{IsProper, HasProperEvents}
use Rattle.tdl_meaning.specs.PatternLaws.{AreSame, held_for}
use Rattle.tdl_meaning.proofs.Lists.{each_range_with_len}
use Rattle.tdl_meaning.proofs.Flat.{flat_map-flat_map, map-flat_map, flat_map_same, flat_map_same_each, flat_map_nothing, each_of_all}
use Rattle.tdl_meaning.proofs.Cycles.{cycle_is_arc}
use Rattle.tdl_meaning.proofs.Overs.{proper_over}
use Rattle.tdl_meaning.proofs.kinds.Proper.{pure_proper}
use Rattle.tdl_meaning.proofs.kinds.Pieces.{along_start, along_stop, piece_is_arc}
use Rattle.tdl_meaning.proofs.kinds.Joined.{whole_is_arc}
use Rattle.tdl_meaning.proofs.laws.Rates.{over_asked}

-- ---- one piece
none_of : (n : ℕ) → frac (pos 0) n ≡ whole (pos 0)
none_of n = frac-quotient (pos 0) n ∙ zero-/ℚ (whole (pos n))

all_of : (n : ℕ) → 0 < n → frac (pos n) n ≡ whole (pos 1)
all_of n positive = frac-quotient (pos n) n ∙ /ℚ_is (whole (pos n)) (whole (pos n)) ∙ *ℚ-inverse (whole (pos n)) (≢_from_positive (whole_positive n positive))

one_piece : (a : Arc) → piece 1 a 0 ≡ a
one_piece a = ap₂ (λ s t. record { start = s; stop = t }) first last
  where
    first : along 1 a 0 ≡ a.start
    first = ap (λ x. a.start +ℚ (a.stop -ℚ a.start) *ℚ x) (none_of 1) ∙ by_ring rationals (a.start ∷ a.stop ∷ []) (search ring depth 12) refl

    last : along 1 a (0 + 1) ≡ a.stop
    last = ap (λ x. a.start +ℚ (a.stop -ℚ a.start) *ℚ x) (all_of 1 (omega arith)) ∙ by_ring rationals (a.start ∷ a.stop ∷ []) (search ring depth 12) refl

pub in_one_piece : (p : Pattern) → HasProperEvents p → AreSame (ply 1 p) p
unfolding ply
in_one_piece p proper c = flat_map_same_each (IsProper (cycle_arc c)) (fragments 1) (λ e. e ∷ []) one (p c) (proper c) ∙ itself (p c)
  where
    one : (e : Event) → IsProper (cycle_arc c) e → fragments 1 e ≡ e ∷ []
    one e is =
        append-nil (fragment (piece 1 e.whole 0) e)
        ∙ ap (λ w. fragment w e) (one_piece e.whole)
        ∙ ap (λ o. joined_event e.whole o (Some e.value)) (meet_around e.whole e.part is.width is.in_whole)

    itself : (es : List Event) → flat_map (λ e. e ∷ []) es ≡ es
    itself [] = refl
    itself (e ∷ es) = ap (λ xs. e ∷ xs) (itself es)

-- ---- pieces of pieces
module _ (n m : ℕ) (n_positive : 0 < n) (m_positive : 0 < m) where
  way_of_way : (j i : ℕ) → frac (pos (j * m + i)) (n * m) ≡ frac (pos j) n +ℚ frac (pos 1) n *ℚ frac (pos i) m
  way_of_way j i =
      sym (frac-plus (pos (j * m)) (pos i) (n * m) (mul-pos n_positive m_positive))
      ∙ ap₂ (λ x y. x +ℚ y)
      (sym (frac-times (pos j) (pos m) n m n_positive m_positive) ∙ ap (λ x. frac (pos j) n *ℚ x) (all_of m m_positive) ∙ as_is (frac (pos j) n))
      (ap (λ z. frac z (n * m)) (once i) ∙ sym (frac-times (pos 1) (pos i) n m n_positive m_positive))
    where
      as_is : (x : Rational) → x *ℚ whole (pos 1) ≡ x
      as_is x = by_ring rationals (x ∷ []) (search ring depth 12) refl

      once : (i : ℕ) → pos i ≡ pos 1 *ℤ pos i
      once i = omega (arith, ints)

  along_along : (a : Arc) (j i : ℕ) → along m (piece n a j) i ≡ along (n * m) a (j * m + i)
  along_along a j i =
      ap (λ x. along n a j +ℚ ((a.start +ℚ (a.stop -ℚ a.start) *ℚ x) -ℚ along n a j) *ℚ frac (pos i) m) (sym (frac-plus (pos j) (pos 1) n n_positive))
      ∙ all a.start a.stop (frac (pos j) n) (frac (pos 1) n) (frac (pos i) m)
      ∙ ap (λ x. a.start +ℚ (a.stop -ℚ a.start) *ℚ x) (sym (way_of_way j i))
    where
      all : (s t x y z : Rational)
          → (s +ℚ (t -ℚ s) *ℚ x) +ℚ ((s +ℚ (t -ℚ s) *ℚ (x +ℚ y)) -ℚ (s +ℚ (t -ℚ s) *ℚ x)) *ℚ z ≡ s +ℚ (t -ℚ s) *ℚ (x +ℚ y *ℚ z)
      all s t x y z = by_ring rationals (s ∷ t ∷ x ∷ y ∷ z ∷ []) (search ring depth 14) refl

  piece_of_piece : (a : Arc) (j i : ℕ) → piece m (piece n a j) i ≡ piece (n * m) a (j * m + i)
  piece_of_piece a j i = ap₂ (λ s t. record { start = s; stop = t }) (along_along a j i) (along_along a j (i + 1) ∙ ap (along (n * m) a) (next j i))
    where
      next : (j i : ℕ) → j * m + (i + 1) ≡ (j * m + i) + 1
      next j i = omega arith

-- n runs of m numbers, one after another
run_from : {X : Type 0} (g : ℕ → List X) (b s m : ℕ) → flat_map (λ i. g (b + i)) (range_with_len s m) ≡ flat_map g (range_with_len (b + s) m)
run_from g b s zero = refl
run_from g b s (suc m) = ap (λ xs. g (b + s) ++ xs) (run_from g b (s + 1) m ∙ ap (λ k. flat_map g (range_with_len k m)) (next b s))
  where
    next : (b s : ℕ) → b + (s + 1) ≡ (b + s) + 1
    next b s = omega arith

range-append : (a n m : ℕ) → range_with_len a (n + m) ≡ range_with_len a n ++ range_with_len (a + n) m
range-append a zero m =
    let none : zero + m ≡ m = omega arith in
    let same : a ≡ a + 0 = omega arith in
    ap (range_with_len a) none ∙ ap (λ k. range_with_len k m) same
range-append a (suc n) m =
    let one_more : suc n + m ≡ suc (n + m) = omega arith in
    let same : (a + 1) + n ≡ a + suc n = omega arith in
    ap (range_with_len a) one_more ∙ ap (λ xs. a ∷ xs) (range-append (a + 1) n m ∙ ap (λ k. range_with_len (a + 1) n ++ range_with_len k m) same)

runs : {X : Type 0} (g : ℕ → List X) (m a n : ℕ)
    → flat_map (λ j. flat_map (λ i. g (j * m + i)) (range_with_len 0 m)) (range_with_len a n) ≡ flat_map g (range_with_len (a * m) (n * m))
runs g m a zero = ap (λ k. flat_map g (range_with_len (a * m) k)) (sym (zero-mul m))
runs g m a (suc n) =
    ap₂ (λ xs ys. xs ++ ys)
    (run_from g (a * m) 0 m ∙ ap (λ k. flat_map g (range_with_len k m)) (start (a * m)))
    (runs g m (a + 1) n ∙ ap (λ k. flat_map g (range_with_len k (n * m))) (next a))
    ∙ sym (flat_map-append g (range_with_len (a * m) m) (range_with_len (a * m + m) (n * m)))
    ∙ ap (flat_map g) (sym (range-append (a * m) m (n * m)) ∙ ap (range_with_len (a * m)) (more n))
  where
    start : (k : ℕ) → k + 0 ≡ k
    start k = omega arith

    next : (a : ℕ) → (a + 1) * m ≡ a * m + m
    next a = let more : a + 1 ≡ suc a = omega arith in ap (λ k. k * m) more ∙ suc-mul a m

    more : (n : ℕ) → m + n * m ≡ suc n * m
    more n = other m (n * m) ∙ sym (suc-mul n m)
      where
        other : (x y : ℕ) → x + y ≡ y + x
        other x y = omega arith

pub pieces_of_pieces : (n m : ℕ) (p : Pattern) → 0 < n → 0 < m → HasProperEvents p → AreSame (ply m (ply n p)) (ply (n * m) p)
unfolding ply
pieces_of_pieces n m p n_positive m_positive proper c =
    flat_map-flat_map (fragments m) (fragments n) (p c)
    ∙ flat_map_same_each (IsProper (cycle_arc c)) (λ e. flat_map (fragments m) (fragments n e)) (fragments (n * m))
    (λ e is. one e (whole_is_arc (cycle_arc c) e is)) (p c) (proper c)
  where
    one : (e : Event) → IsArc e.whole → flat_map (fragments m) (fragments n e) ≡ fragments (n * m) e
    one e is =
        flat_map-flat_map (fragments m) (λ j. fragment (piece n e.whole j) e) (range_with_len 0 n)
        ∙ flat_map_same (λ j. flat_map (fragments m) (fragment (piece n e.whole j) e))
        (λ j. flat_map (λ i. fragment (piece (n * m) e.whole (j * m + i)) e) (range_with_len 0 m))
        (λ j. again j (piece n e.whole j) refl (piece_is_arc n e.whole j is n_positive)) (range_with_len 0 n)
        ∙ runs (λ k. fragment (piece (n * m) e.whole k) e) m 0 n
        ∙ ap (λ k. flat_map (λ i. fragment (piece (n * m) e.whole i) e) (range_with_len k (n * m))) (zero-mul m)
      where
        -- of the part that lies in a piece, the pieces of the piece
        pieces_of : (w : Arc) (o : Option Arc)
            → flat_map (fragments m) (joined_event w o (Some e.value))
            ≡ flat_map (λ i. joined_event (piece m w i) (option_and_then (λ q. meet (piece m w i) q) o) (Some e.value)) (range_with_len 0 m)
        pieces_of w (Some q) = append-nil _
        pieces_of w None = sym (flat_map_nothing (λ i. []) (range_with_len 0 m) (each_of_all (λ i. [] ≡ ([])) (λ i. refl) (range_with_len 0 m)))

        again : (j : ℕ) (w : Arc) → w ≡ piece n e.whole j → IsArc w
            → flat_map (fragments m) (fragment w e) ≡ flat_map (λ i. fragment (piece (n * m) e.whole (j * m + i)) e) (range_with_len 0 m)
        again j w same w_is =
            pieces_of w (meet w e.part)
            ∙ flat_map_same_each (λ i. i < m)
            (λ i. joined_event (piece m w i) (option_and_then (λ q. meet (piece m w i) q) (meet w e.part)) (Some e.value))
            (λ i. fragment (piece (n * m) e.whole (j * m + i)) e)
            (λ i below.
            let inside = meet_inside (piece m w i) w (piece_is_arc m w i w_is m_positive)
            (along_start m w i w_is (omega (arith, below)) m_positive, along_stop m w (i + 1) w_is (omega (arith, below)) m_positive) in
            ap (λ o. joined_event (piece m w i) o (Some e.value)) (sym (meet_assoc (piece m w i) w e.part) ∙ ap (option_and_then (λ q. meet q e.part)) inside)
            ∙ ap (λ v. fragment v e) (ap (λ v. piece m v i) same ∙ piece_of_piece n m n_positive m_positive e.whole j i))
            (range_with_len 0 m) (each_range_with_len (λ i. i < m) 0 m (λ i low high. omega (arith, high)))

-- ---- one value that goes on
-- an event for a piece of a cycle
abbrev pub window : ℕ → Leaf → ℤ → ℕ → Event
window n v c j = record { whole = piece n (cycle_arc c) j; part = piece n (cycle_arc c) j; value = v }

-- a run of whole numbers from a later one on
counted : {X : Type 0} (g : ℤ → List X) (first : ℤ) (a n : ℕ)
    → flat_map g (whole_range (first +ℤ pos a) n) ≡ flat_map (λ j. g (first +ℤ pos j)) (range_with_len a n)
counted g first a zero = refl
counted g first a (suc n) = ap (λ xs. g (first +ℤ pos a) ++ xs) (ap (λ z. flat_map g (whole_range z n)) (next first a) ∙ counted g first (a + 1) n)
  where
    next : (first : ℤ) (a : ℕ) → (first +ℤ pos a) +ℤ pos 1 ≡ first +ℤ pos (a + 1)
    next first a = omega (arith, ints)

module _ (n : ℕ) (positive : 0 < n) (c : ℤ) where
  end_is : (j : ℕ) → whole (c *ℤ pos n +ℤ pos j) /ℚ whole (pos n) ≡ along n (cycle_arc c) j
  end_is j =
      ap (λ x. x /ℚ whole (pos n)) (whole-plus (c *ℤ pos n) (pos j) ∙ ap (λ x. x +ℚ whole (pos j)) (whole-times c (pos n)))
      ∙ plus-/ℚ (whole c *ℚ whole (pos n)) (whole (pos j)) (whole (pos n))
      ∙ ap₂ (λ x y. x +ℚ y) (*ℚ-divide (whole c) (whole (pos n)) (≢_from_positive (whole_positive n positive))) (sym (frac-quotient (pos j) n))
      ∙ share (whole c) (frac (pos j) n)
      ∙ ap (λ x. whole c +ℚ (x -ℚ whole c) *ℚ frac (pos j) n) (sym (whole-plus c (pos 1)))
    where
      share : (x f : Rational) → x +ℚ f ≡ x +ℚ ((x +ℚ whole (pos 1)) -ℚ x) *ℚ f
      share x f = by_ring rationals (x ∷ f ∷ []) (search ring depth 12) refl

  pub pure_at_rate : (v : Leaf) → fast (whole (pos n)) (pure v) c ≡ map (window n v c) (range_with_len 0 n)
  unfolding fast pure
  pure_at_rate v =
      ap (map (moved (λ t. t /ℚ whole (pos n))))
      (over_asked n positive (pure v) (pure_proper v) c
      ∙ ap (λ z. flat_map (pure v) (whole_range z n)) (start (c *ℤ pos n))
      ∙ counted (pure v) (c *ℤ pos n) 0 n)
      ∙ map-flat_map (moved (λ t. t /ℚ whole (pos n))) (λ j. pure v (c *ℤ pos n +ℤ pos j)) (range_with_len 0 n)
      ∙ flat_map_same (λ j. map (moved (λ t. t /ℚ whole (pos n))) (pure v (c *ℤ pos n +ℤ pos j))) (λ j. window n v c j ∷ [])
      (λ j. ap (λ (a : Arc). record { whole = a; part = a; value = v } ∷ [])
      (ap₂ (λ s t. record { start = s; stop = t }) (end_is j) (ap (λ z. whole z /ℚ whole (pos n)) (next (c *ℤ pos n) j) ∙ end_is (j + 1))))
      (range_with_len 0 n)
      ∙ flat_map_single (window n v c) (range_with_len 0 n)
    where
      start : (z : ℤ) → z ≡ z +ℤ pos 0
      start z = omega (arith, ints)

      next : (z : ℤ) (j : ℕ) → (z +ℤ pos j) +ℤ pos 1 ≡ z +ℤ pos (j + 1)
      next z j = omega (arith, ints)

pub value_in_pieces : (n : ℕ) (v : Leaf) → 0 < n → AreSame (ply n (pure v)) (fast (whole (pos n)) (pure v))
unfolding ply pure
value_in_pieces n v positive c =
    append-nil (fragments n (record { whole = a; part = a; value = v }))
    ∙ flat_map_same_each (λ j. j < n) (λ j. joined_event (piece n a j) (meet (piece n a j) a) (Some v)) (λ j. window n v c j ∷ []) inside
    (range_with_len 0 n) (each_range_with_len (λ j. j < n) 0 n (λ j low high. omega (arith, high)))
    ∙ flat_map_single (window n v c) (range_with_len 0 n)
    ∙ sym (pure_at_rate n positive c v)
  where
    a : Arc
    a = cycle_arc c

    inside : (j : ℕ) → j < n → joined_event (piece n a j) (meet (piece n a j) a) (Some v) ≡ window n v c j ∷ []
    inside j below =
        let is = cycle_is_arc c in
        let start = along_start n a j is (omega (arith, below)) positive in
        let stop = along_stop n a (j + 1) is (omega (arith, below)) positive in
        ap (λ o. joined_event (piece n a j) o (Some v)) (meet_inside (piece n a j) a (piece_is_arc n a j is positive) (start, stop))

pub segments : (n : ℕ) (p : Pattern) → 0 < n → HasProperEvents p → (c : ℤ)
    → join_left (value_of Struct) (fast (whole (pos n)) (pure (Truth true))) p c
    ≡ flat_map (λ j. map (held_for (piece n (cycle_arc c) j)) (over p (piece n (cycle_arc c) j))) (range_with_len 0 n)
unfolding join_left
segments n p positive proper c =
    ap (flat_map (λ l. flat_map (λ r. with_left (value_of Struct) l r) (over p l.whole))) (pure_at_rate n positive c (Truth true))
    ∙ flat_map-map (λ l. flat_map (λ r. with_left (value_of Struct) l r) (over p l.whole)) (window n (Truth true) c) (range_with_len 0 n)
    ∙ flat_map_same (λ j. flat_map (λ r. with_left (value_of Struct) (window n (Truth true) c j) r) (over p (piece n (cycle_arc c) j)))
    (λ j. map (held_for (piece n (cycle_arc c) j)) (over p (piece n (cycle_arc c) j)))
    (λ j. held (piece n (cycle_arc c) j) (piece_is_arc n (cycle_arc c) j (cycle_is_arc c) positive)) (range_with_len 0 n)
  where
    held : (a : Arc) → IsArc a → flat_map (λ r. joined_event a (meet a r.part) (Some r.value)) (over p a) ≡ map (held_for a) (over p a)
    held a is =
        flat_map_same_each (IsProper a) (λ r. joined_event a (meet a r.part) (Some r.value)) (λ r. held_for a r ∷ [])
        (λ r proper_r. ap (λ o. joined_event a o (Some r.value)) (meet_around a r.part proper_r.width proper_r.in_arc)) (over p a) (proper_over p proper a is)
        ∙ flat_map_single (held_for a) (over p a)
