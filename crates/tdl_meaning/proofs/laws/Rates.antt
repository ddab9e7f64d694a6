-- Rates and shifts: none, and one after another.
use Rattle.std.proofs.Common.{◌≡◌, ℕ, zero, suc, ◌+◌, ◌*◌, ◌<◌, List, [], ◌∷◌, ◌++◌, map, ℤ, pos, ◌+ℤ◌, ◌-ℤ◌, ◌*ℤ◌, ◌≤ℤ◌, ◌<ℤ◌, nat_abs, refl, sym, ap, ap₂}
use Rattle.std.proofs.Common.{◌∙◌, subst, arith}
use Rattle.std.specs.List.{flat_map}
use Rattle.std.proofs.Math.Nat.{suc-mul, zero-mul}
use Rattle.std.proofs.lemmas.Int.{ints}
use Rattle.std.proofs.lemmas.Grind.{flat_map-append}
use Rattle.tdl_ring.proofs.Quoting.{by_ring, ring}
use Rattle.tdl_fraction.specs.Rational.{Rational, whole, ◌+ℚ◌, ◌-ℚ◌, ◌*ℚ◌, ◌/ℚ◌, ◌≤ℚ◌, ◌<ℚ◌, floor, ceil}
use Rattle.tdl_fraction.specs.Arc.{Arc, IsArc, map_arc}
use Rattle.tdl_fraction.proofs.Integers.{plus_times}
use Rattle.tdl_fraction.proofs.Field.{rationals, -ℚ-plus, whole-minus, *ℚ_assoc, *ℚ_cancel, *ℚ-one, /ℚ-one, +ℚ-zero, whole-times, *ℚ-divide, /ℚ-times}
use Rattle.tdl_fraction.proofs.Field.{minus-*ℚ, plus-/ℚ}
use Rattle.tdl_fraction.proofs.Order.{whole-le, whole_positive, ≢_from_positive, times_positive, times_pos_le}
use Rattle.tdl_fraction.proofs.Rounding.{floor-whole, ceil-whole, le_floor, ceil_le, floor_at_most, ceil_at_least, floor-minus, ceil-minus}
use Rattle.tdl_fraction.proofs.Arcs.{inside_trans, keeps-plus, keeps-minus, keeps-divide, keeps-times, keeps_arc}
use Rattle.tdl_event.specs.Event.{clip, clip_event}
use Rattle.tdl_meaning.specs.Pattern.{Pattern, whole_range, cycles_of, over, moved, cycle_arc, fast}
use Rattle.tdl_meaning.specs.Kinds.{earlier, shift}
use Rattle.tdl_meaning.specs.Proper.{IsProper, HasProperEvents}
use Rattle.tdl_meaning.specs.Onsets.{from_to}
use Rattle.tdl_meaning.specs.Heard.{heard, moved_wholes}
use Rattle.tdl_meaning.specs.PatternLaws.{AreSame, AreAlike}
use Rattle.tdl_meaning.proofs.HeardLaws.{heard_laws}
use Rattle.tdl_meaning.proofs.Lists.{each_weaker, each_in_range}
use Rattle.tdl_meaning.proofs.Flat.{flat_map-flat_map, map-flat_map, flat_map_same, flat_map_same_each, whole_range-append}
use Rattle.tdl_meaning.proofs.Cycles.{range_end}
use Rattle.tdl_meaning.proofs.Cuts.{clip_itself, covered, over_cycle}
use Rattle.tdl_meaning.proofs.ByKind.{clip_there}
use Rattle.tdl_meaning.proofs.Times.{asked, asked_is_arc}
use Rattle.tdl_meaning.proofs.kinds.Proper.{fast_proper}
use Rattle.tdl_meaning.proofs.kinds.Shift.{shift_proper, earlier_is_arc}
use Rattle.tdl_meaning.proofs.laws.Moved.{moved_as_is, moved_at_once, wholes_at_once}

-- ---- none
pub at_rate_one : (p : Pattern) → HasProperEvents p → AreSame (fast (whole (pos 1)) p) p
unfolding fast
at_rate_one p proper c =
    moved_as_is (λ t. t /ℚ whole (pos 1)) /ℚ-one (over p (asked (whole (pos 1)) c))
    ∙ ap (over p) (ap₂ (λ s t. from_to s t) (*ℚ-one (whole c)) (*ℚ-one (whole (c +ℤ pos 1))))
    ∙ over_cycle p proper c

pub by_no_time : (p : Pattern) → HasProperEvents p → AreSame (shift (whole (pos 0)) p) p
unfolding shift
by_no_time p proper c =
    moved_as_is (λ u. u +ℚ whole (pos 0)) +ℚ-zero (over p (earlier (whole (pos 0)) c))
    ∙ ap (over p) (ap₂ (λ s t. from_to s t) (less_none (whole c)) (less_none (whole (c +ℤ pos 1))))
    ∙ over_cycle p proper c
  where
    less_none : (x : Rational) → x -ℚ whole (pos 0) ≡ x
    less_none x = by_ring rationals (x ∷ []) (search ring depth 12) refl

-- ---- whole cycles
-- in so many cycles a pattern has theirs
pub over_cycles : (p : Pattern) → HasProperEvents p → (first : ℤ) (n : ℕ)
    → over p (from_to (whole first) (whole (first +ℤ pos n))) ≡ flat_map p (whole_range first n)
unfolding over
over_cycles p proper first n =
    let a = from_to (whole first) (whole (first +ℤ pos n)) in
    ap (flat_map (λ c. clip a (p c)))
    (ap₂ (λ x y. whole_range x (nat_abs (y -ℤ x))) (floor-whole first) (ceil-whole (first +ℤ pos n)) ∙ ap (whole_range first) (so_many first n))
    ∙ flat_map_same_each (λ c. (first ≤ℤ c) × (c <ℤ (first +ℤ pos n))) (λ c. clip a (p c)) p (λ c within. inside c within.0 within.1) (whole_range first n)
    (each_in_range (λ c. (first ≤ℤ c) × (c <ℤ (first +ℤ pos n))) first n (λ c low high. (low, high)))
  where
    so_many : (first : ℤ) (n : ℕ) → nat_abs ((first +ℤ pos n) -ℤ first) ≡ n
    so_many first n = omega (arith, ints)

    next : (c d : ℤ) → c <ℤ d → (c +ℤ pos 1) ≤ℤ d
    next c d lt = omega (arith, ints)

    inside : (c : ℤ) → first ≤ℤ c → c <ℤ (first +ℤ pos n) → clip (from_to (whole first) (whole (first +ℤ pos n))) (p c) ≡ p c
    inside c low high =
        let a = from_to (whole first) (whole (first +ℤ pos n)) in
        let from = (whole-le first c).0 low in
        let to = (whole-le (c +ℤ pos 1) (first +ℤ pos n)).0 (next c (first +ℤ pos n) high) in
        clip_itself a (p c)
        (each_weaker (IsProper (cycle_arc c)) (IsProper a) (λ e is. record {
          width = is.width;
          in_whole = is.in_whole;
          in_arc = inside_trans e.part (cycle_arc c) a is.in_arc (from, to);
        }) (p c) (proper c))

-- runs of n numbers, one after another
grouped : {X : Type 0} (g : ℤ → List X) (n : ℕ) (first : ℤ) (m : ℕ)
    → flat_map (λ c. flat_map g (whole_range (c *ℤ pos n) n)) (whole_range first m) ≡ flat_map g (whole_range (first *ℤ pos n) (m * n))
grouped g n first zero = ap (λ k. flat_map g (whole_range (first *ℤ pos n) k)) (sym (zero-mul n))
grouped g n first (suc m) =
    ap (λ xs. flat_map g (whole_range (first *ℤ pos n) n) ++ xs)
    (grouped g n (first +ℤ pos 1) m ∙ ap (λ z. flat_map g (whole_range z (m * n))) (plus_times first (pos 1) (pos n) ∙ one first n))
    ∙ sym (flat_map-append g (whole_range (first *ℤ pos n) n) (whole_range (first *ℤ pos n +ℤ pos n) (m * n)))
    ∙ ap (flat_map g) (sym (whole_range-append (first *ℤ pos n) n (m * n)) ∙ ap (whole_range (first *ℤ pos n)) (more n m))
  where
    one : (first : ℤ) (n : ℕ) → first *ℤ pos n +ℤ pos 1 *ℤ pos n ≡ first *ℤ pos n +ℤ pos n
    one first n = omega (arith, ints)

    more : (n m : ℕ) → n + m * n ≡ suc m * n
    more n m = other n (m * n) ∙ sym (suc-mul m n)
      where
        other : (x y : ℕ) → x + y ≡ y + x
        other x y = omega arith

-- ---- rates of rates
-- what is divided by one rate and by another is divided by their product
twice_divided : (t r s : Rational) → whole (pos 0) <ℚ r → whole (pos 0) <ℚ s → (t /ℚ s) /ℚ r ≡ t /ℚ (r *ℚ s)
twice_divided t r s h k =
    *ℚ_cancel ((t /ℚ s) /ℚ r) (t /ℚ (r *ℚ s)) (r *ℚ s) (≢_from_positive (times_positive h k))
    (sym (*ℚ_assoc ((t /ℚ s) /ℚ r) r s)
    ∙ ap (λ x. x *ℚ s) (/ℚ-times (t /ℚ s) r (≢_from_positive h))
    ∙ /ℚ-times t s (≢_from_positive k)
    ∙ sym (/ℚ-times t (r *ℚ s) (≢_from_positive (times_positive h k))))

module _ (n : ℕ) (positive : 0 < n) where
  abbrev N : Rational
  N = whole (pos n)

  N_positive : whole (pos 0) <ℚ whole (pos n)
  N_positive = whole_positive n positive

  -- a cycle at n times the rate asks for n cycles
  pub asked_cycles : (c : ℤ) → asked N c ≡ from_to (whole (c *ℤ pos n)) (whole (c *ℤ pos n +ℤ pos n))
  asked_cycles c =
      ap₂ (λ s t. from_to s t) (sym (whole-times c (pos n))) (sym (whole-times (c +ℤ pos 1) (pos n)) ∙ ap whole (plus_times c (pos 1) (pos n) ∙ one c n))
    where
      one : (c : ℤ) (n : ℕ) → c *ℤ pos n +ℤ pos 1 *ℤ pos n ≡ c *ℤ pos n +ℤ pos n
      one c n = omega (arith, ints)

  module _ (p : Pattern) (proper : HasProperEvents p) where
    pub over_asked : (c : ℤ) → over p (asked N c) ≡ flat_map p (whole_range (c *ℤ pos n) n)
    over_asked c = ap (over p) (asked_cycles c) ∙ over_cycles p proper (c *ℤ pos n) n

    -- at a whole rate a pattern has in any arc what the pattern has in the arc that is so many times longer
    pub over_whole_rate : (a : Arc) → IsArc a → over (fast N p) a ≡ map (moved (λ t. t /ℚ N)) (over p (map_arc (λ t. t *ℚ N) a))
    unfolding over fast
    over_whole_rate a h =
        let b = map_arc (λ t. t *ℚ N) a in
        let inner = λ (d : ℤ). clip b (p d) in
        let m = nat_abs (ceil a.stop -ℤ floor a.start) in
        let b_is = keeps_arc (λ t. t *ℚ N) (keeps-times N N_positive) a h in
        flat_map_same (λ c. clip a (map (moved (λ t. t /ℚ N)) (over p (asked N c))))
        (λ c. map (moved (λ t. t /ℚ N)) (flat_map inner (whole_range (c *ℤ pos n) n))) (λ c. one c) (cycles_of a)
        ∙ sym (map-flat_map (moved (λ t. t /ℚ N)) (λ c. flat_map inner (whole_range (c *ℤ pos n) n)) (cycles_of a))
        ∙ ap (map (moved (λ t. t /ℚ N)))
        (grouped inner n (floor a.start) m
        ∙ covered p proper b b_is (floor a.start *ℤ pos n) (m * n) low (subst (λ z. ceil b.stop ≤ℤ z) (last m (range_end a h)) high))
      where
        one : (c : ℤ) → clip a (map (moved (λ t. t /ℚ N)) (over p (asked N c)))
            ≡ map (moved (λ t. t /ℚ N)) (flat_map (λ d. clip (map_arc (λ t. t *ℚ N) a) (p d)) (whole_range (c *ℤ pos n) n))
        one c =
            clip_there (λ t. t /ℚ N) (λ t. t *ℚ N) (keeps-divide N N_positive) (λ t. *ℚ-divide t N (≢_from_positive N_positive)) a (over p (asked N c))
            ∙ ap (map (moved (λ t. t /ℚ N)))
            (ap (clip (map_arc (λ t. t *ℚ N) a)) (over_asked c) ∙ flat_map-flat_map (clip_event (map_arc (λ t. t *ℚ N) a)) p (whole_range (c *ℤ pos n) n))

        low : (floor a.start *ℤ pos n) ≤ℤ floor (a.start *ℚ N)
        low =
            (le_floor (floor a.start *ℤ pos n) (a.start *ℚ N)).0
            (subst (λ x. x ≤ℚ a.start *ℚ N) (sym (whole-times (floor a.start) (pos n)))
            ((times_pos_le (whole (floor a.start)) a.start N N_positive).0 (floor_at_most a.start)))

        high : ceil (a.stop *ℚ N) ≤ℤ (ceil a.stop *ℤ pos n)
        high =
            (ceil_le (a.stop *ℚ N) (ceil a.stop *ℤ pos n)).0
            (subst (λ x. a.stop *ℚ N ≤ℚ x) (sym (whole-times (ceil a.stop) (pos n)))
            ((times_pos_le a.stop (whole (ceil a.stop)) N N_positive).0 (ceil_at_least a.stop)))

        last : (m : ℕ) → floor a.start +ℤ pos m ≡ ceil a.stop → ceil a.stop *ℤ pos n ≡ floor a.start *ℤ pos n +ℤ pos (m * n)
        last m e = ap (λ z. z *ℤ pos n) (sym e) ∙ plus_times (floor a.start) (pos m) (pos n)

    pub rate_of_whole_rate : (r : Rational) → whole (pos 0) <ℚ r → AreSame (fast r (fast N p)) (fast (r *ℚ N) p)
    unfolding fast
    rate_of_whole_rate r h c =
        ap (map (moved (λ t. t /ℚ r))) (over_whole_rate (asked r c) (asked_is_arc r c h))
        ∙ moved_at_once (λ t. t /ℚ r) (λ t. t /ℚ N) (λ t. t /ℚ (r *ℚ N)) (λ t. twice_divided t r N h N_positive) (over p (map_arc (λ t. t *ℚ N) (asked r c)))
        ∙ ap (λ a. map (moved (λ t. t /ℚ (r *ℚ N))) (over p a)) (ap₂ (λ s t. from_to s t) (*ℚ_assoc (whole c) r N) (*ℚ_assoc (whole (c +ℤ pos 1)) r N))

-- ---- shifts of shifts
-- numbers that are less by k, one after another
less : {X : Type 0} (g : ℤ → List X) (k first : ℤ) (n : ℕ) → flat_map (λ c. g (c -ℤ k)) (whole_range first n) ≡ flat_map g (whole_range (first -ℤ k) n)
less g k first zero = refl
less g k first (suc n) = ap (λ xs. g (first -ℤ k) ++ xs) (less g k (first +ℤ pos 1) n ∙ ap (λ z. flat_map g (whole_range z n)) (next first k))
  where
    next : (first k : ℤ) → (first +ℤ pos 1) -ℤ k ≡ (first -ℤ k) +ℤ pos 1
    next first k = omega (arith, ints)

module _ (k : ℤ) where
  abbrev K : Rational
  K = whole k

  sum_shifted : (t s u : Rational) → (t +ℚ u) +ℚ s ≡ t +ℚ (s +ℚ u)
  sum_shifted t s u = by_ring rationals (t ∷ s ∷ u ∷ []) (search ring depth 12) refl

  sum_earlier : (t s u : Rational) → (t -ℚ s) -ℚ u ≡ t -ℚ (s +ℚ u)
  sum_earlier t s u = by_ring rationals (t ∷ s ∷ u ∷ []) (search ring depth 12) refl

  earlier_cycle : (c : ℤ) → earlier K c ≡ cycle_arc (c -ℤ k)
  earlier_cycle c = ap₂ (λ s t. from_to s t) (sym (whole-minus c k)) (sym (whole-minus (c +ℤ pos 1) k) ∙ ap whole (next c k))
    where
      next : (c k : ℤ) → (c +ℤ pos 1) -ℤ k ≡ (c -ℤ k) +ℤ pos 1
      next c k = omega (arith, ints)

  module _ (p : Pattern) (proper : HasProperEvents p) where
    -- later by whole cycles a pattern has in a cycle what the pattern has in the cycle that is so many before it
    whole_shift : (c : ℤ) → shift K p c ≡ map (moved (λ t. t +ℚ K)) (p (c -ℤ k))
    unfolding shift
    whole_shift c = ap (map (moved (λ t. t +ℚ K))) (ap (over p) (earlier_cycle c) ∙ over_cycle p proper (c -ℤ k))

    -- and so in any arc
    over_whole_shift : (a : Arc) → IsArc a → over (shift K p) a ≡ map (moved (λ t. t +ℚ K)) (over p (map_arc (λ t. t -ℚ K) a))
    unfolding over
    over_whole_shift a h =
        let b = map_arc (λ t. t -ℚ K) a in
        let m = nat_abs (ceil a.stop -ℤ floor a.start) in
        let b_is = keeps_arc (λ t. t -ℚ K) (keeps-minus K) a h in
        flat_map_same (λ c. clip a (shift K p c)) (λ c. map (moved (λ t. t +ℚ K)) (clip b (p (c -ℤ k)))) (λ c. one c) (cycles_of a)
        ∙ sym (map-flat_map (moved (λ t. t +ℚ K)) (λ c. clip b (p (c -ℤ k))) (cycles_of a))
        ∙ ap (map (moved (λ t. t +ℚ K)))
        (less (λ d. clip b (p d)) k (floor a.start) m
        ∙ covered p proper b b_is (floor a.start -ℤ k) m
        (subst (λ z. (floor a.start -ℤ k) ≤ℤ z) (sym (floor-minus a.start k)) (itself (floor a.start -ℤ k)))
        (subst (λ z. z ≤ℤ ((floor a.start -ℤ k) +ℤ pos m)) (sym (ceil-minus a.stop k)) (last (floor a.start) (ceil a.stop) m (range_end a h))))
      where
        one : (c : ℤ) → clip a (shift K p c) ≡ map (moved (λ t. t +ℚ K)) (clip (map_arc (λ t. t -ℚ K) a) (p (c -ℤ k)))
        one c = ap (clip a) (whole_shift c) ∙ clip_there (λ t. t +ℚ K) (λ t. t -ℚ K) (keeps-plus K) (λ t. -ℚ-plus t K) a (p (c -ℤ k))

        itself : (z : ℤ) → z ≤ℤ z
        itself z = omega (arith, ints)

        last : (x y : ℤ) (m : ℕ) → x +ℤ pos m ≡ y → (y -ℤ k) ≤ℤ ((x -ℤ k) +ℤ pos m)
        last x y m e = omega (arith, ints, e)

    pub shift_of_whole_shift : (s : Rational) → AreSame (shift s (shift K p)) (shift (s +ℚ K) p)
    unfolding shift
    shift_of_whole_shift s c =
        ap (map (moved (λ t. t +ℚ s))) (over_whole_shift (earlier s c) (earlier_is_arc s c))
        ∙ moved_at_once (λ t. t +ℚ s) (λ t. t +ℚ K) (λ t. t +ℚ (s +ℚ K)) (λ t. sum_shifted t s K) (over p (map_arc (λ t. t -ℚ K) (earlier s c)))
        ∙ ap (λ a. map (moved (λ t. t +ℚ (s +ℚ K))) (over p a)) (ap₂ (λ x y. from_to x y) (sum_earlier (whole c) s K) (sum_earlier (whole (c +ℤ pos 1)) s K))

  both_shifts : (s : Rational) (p : Pattern) (c : ℤ) → earlier s (c -ℤ k) ≡ earlier (K +ℚ s) c
      → map (moved (λ t. t +ℚ K)) (shift s p (c -ℤ k)) ≡ shift (K +ℚ s) p c
  unfolding shift
  both_shifts s p c same =
      moved_at_once (λ t. t +ℚ K) (λ t. t +ℚ s) (λ t. t +ℚ (K +ℚ s)) (λ t. sum_shifted t K s) (over p (earlier s (c -ℤ k)))
      ∙ ap (λ a. map (moved (λ t. t +ℚ (K +ℚ s))) (over p a)) same

  pub whole_shift_of_shift : (s : Rational) (p : Pattern) → HasProperEvents p → AreSame (shift K (shift s p)) (shift (K +ℚ s) p)
  whole_shift_of_shift s p proper c = whole_shift (shift s p) (shift_proper s p proper) c ∙ both
    where
      end : (c : ℤ) → whole (c -ℤ k) -ℚ s ≡ whole c -ℚ (K +ℚ s)
      end c = ap (λ x. x -ℚ s) (whole-minus c k) ∙ sum_earlier (whole c) K s

      next : (c : ℤ) → (c -ℤ k) +ℤ pos 1 ≡ (c +ℤ pos 1) -ℤ k
      next c = omega (arith, ints)

      both : map (moved (λ t. t +ℚ K)) (shift s p (c -ℤ k)) ≡ shift (K +ℚ s) p c
      both = both_shifts s p c (ap₂ (λ x y. from_to x y) (end c) (ap (λ z. whole z -ℚ s) (next c) ∙ end (c +ℤ pos 1)))

-- ---- at each time
module _ (p : Pattern) (proper : HasProperEvents p) where
  pub rate_of_rate : (r s : Rational) → whole (pos 0) <ℚ r → whole (pos 0) <ℚ s → AreAlike (fast r (fast s p)) (fast (r *ℚ s) p)
  rate_of_rate r s h k t =
      heard_laws.of_fast r (fast s p) h (fast_proper s p k proper) t
      ∙ ap (moved_wholes (λ u. u /ℚ r)) (heard_laws.of_fast s p k proper (t *ℚ r))
      ∙ wholes_at_once (λ u. u /ℚ r) (λ u. u /ℚ s) (λ u. u /ℚ (r *ℚ s)) (λ u. twice_divided u r s h k) (heard p ((t *ℚ r) *ℚ s))
      ∙ ap (λ u. moved_wholes (λ w. w /ℚ (r *ℚ s)) (heard p u)) (*ℚ_assoc t r s)
      ∙ sym (heard_laws.of_fast (r *ℚ s) p (times_positive h k) proper t)

  pub shift_of_shift : (s u : Rational) → AreAlike (shift s (shift u p)) (shift (s +ℚ u) p)
  shift_of_shift s u t =
      heard_laws.of_shift s (shift u p) (shift_proper u p proper) t
      ∙ ap (moved_wholes (λ w. w +ℚ s)) (heard_laws.of_shift u p proper (t -ℚ s))
      ∙ wholes_at_once (λ w. w +ℚ s) (λ w. w +ℚ u) (λ w. w +ℚ (s +ℚ u)) (λ w. sums w s u) (heard p ((t -ℚ s) -ℚ u))
      ∙ ap (λ w. moved_wholes (λ x. x +ℚ (s +ℚ u)) (heard p w)) (differences t s u)
      ∙ sym (heard_laws.of_shift (s +ℚ u) p proper t)
    where
      sums : (w s u : Rational) → (w +ℚ u) +ℚ s ≡ w +ℚ (s +ℚ u)
      sums w s u = by_ring rationals (w ∷ s ∷ u ∷ []) (search ring depth 12) refl

      differences : (t s u : Rational) → (t -ℚ s) -ℚ u ≡ t -ℚ (s +ℚ u)
      differences t s u = by_ring rationals (t ∷ s ∷ u ∷ []) (search ring depth 12) refl

  pub rate_of_shift : (r s : Rational) → whole (pos 0) <ℚ r → AreAlike (fast r (shift s p)) (shift (s /ℚ r) (fast r p))
  rate_of_shift r s h t =
      heard_laws.of_fast r (shift s p) h (shift_proper s p proper) t
      ∙ ap (moved_wholes (λ w. w /ℚ r)) (heard_laws.of_shift s p proper (t *ℚ r))
      ∙ wholes_at_once (λ w. w /ℚ r) (λ w. w +ℚ s) (λ w. w /ℚ r +ℚ s /ℚ r) (λ w. plus-/ℚ w s r) (heard p (t *ℚ r -ℚ s))
      ∙ sym (wholes_at_once (λ w. w +ℚ s /ℚ r) (λ w. w /ℚ r) (λ w. w /ℚ r +ℚ s /ℚ r) (λ w. refl) (heard p (t *ℚ r -ℚ s)))
      ∙ ap (λ u. moved_wholes (λ w. w +ℚ s /ℚ r) (moved_wholes (λ w. w /ℚ r) (heard p u))) (sym (back t))
      ∙ ap (moved_wholes (λ w. w +ℚ s /ℚ r)) (sym (heard_laws.of_fast r p h proper (t -ℚ s /ℚ r)))
      ∙ sym (heard_laws.of_shift (s /ℚ r) (fast r p) (fast_proper r p h proper) t)
    where
      back : (t : Rational) → (t -ℚ s /ℚ r) *ℚ r ≡ t *ℚ r -ℚ s
      back t = minus-*ℚ t (s /ℚ r) r ∙ ap (λ x. t *ℚ r -ℚ x) (/ℚ-times s r (≢_from_positive h))
