-- A pattern earlier or later: facts and laws.
use Rattle.std.proofs.Common.{◌≡◌, Bool, true, false, ltb, ℕ, ◌+◌, ◌*◌, ◌≤◌, ◌⊎◌, ⊎_elim, List, [], ◌∷◌, map, length, ℤ, pos, ◌+ℤ◌, ◌-ℤ◌}
use Rattle.std.proofs.Common.{neg_ℤ, ◌≤ℤ◌, ◌*ℤ◌, nat_abs, refl, sym, ap, ap₂, ◌∙◌, subst, arith}
use Rattle.std.proofs.Math.Nat.{le_trans, mul-le-mul_right}
use Rattle.std.specs.Int.{div_ceil}
use Rattle.std.proofs.lemmas.Grind.{div_ceil_times}
use Rattle.std.proofs.lemmas.Int.{ints}
use Rattle.std.proofs.lemmas.List.{length-map}
use Rattle.tdl_ring.proofs.Quoting.{by_ring, ring}
use Rattle.tdl_fraction.proofs.Integers.{negate_times}
use Rattle.tdl_fraction.proofs.Over.{Over-self, Over-whole, den_positive, le_from_cross}
use Rattle.tdl_fraction.specs.Divisor.{lcm}
use Rattle.tdl_fraction.specs.Rational.{Rational, whole, ◌+ℚ◌, ◌-ℚ◌, ◌≤ℚ◌, floor, ceil, IsMultiple}
use Rattle.tdl_fraction.specs.Range.{IsWithin}
use Rattle.tdl_fraction.specs.Arc.{Arc, IsArc, IsInside, IsIn, map_arc}
use Rattle.tdl_fraction.proofs.Field.{rationals, whole-plus, whole-minus, -ℚ-plus}
use Rattle.tdl_fraction.proofs.Order.{≤ℚ_trans, plus_right_le, minus_right_le, minus_right_lt, plus_left_le, le_minus, minus_le}
use Rattle.tdl_fraction.proofs.Rounding.{ceil_le}
use Rattle.tdl_fraction.proofs.Multiples.{whole_multiple, multiple_own, multiple_minus, multiple_plus_lcm, multiple_minus_lcm}
use Rattle.tdl_fraction.proofs.Arcs.{keeps-plus, keeps-minus, keeps_arc, keeps_inside, meet_around}
use Rattle.tdl_event.specs.Event.{Event}
use Rattle.tdl_event.specs.ClipLaws.{seen_at}
use Rattle.tdl_expr.specs.Bounds.{broken, shift_touches as cycles_at_shift}
use Rattle.tdl_meaning.specs.Pattern.{Pattern, over, cycles_of, cycle_arc, moved}
use Rattle.tdl_meaning.specs.Kinds.{earlier, shift}
use Rattle.tdl_meaning.specs.Proper.{IsNear, HasProperEvents}
use Rattle.tdl_meaning.specs.Ranges.{IsGriddedIn, IsAsked}
use Rattle.tdl_meaning.specs.Heard.{heard, moved_wholes}
use Rattle.tdl_meaning.specs.Repeats.{later, Repeats}
use Rattle.tdl_meaning.specs.inside.Arcs.{over_met}
use Rattle.tdl_meaning.proofs.Gridded.{IsGridded, HasGrid, HasHang}
use Rattle.tdl_meaning.proofs.Lists.{each_map}
use Rattle.tdl_meaning.proofs.Cycles.{cycle_is_arc, length-whole_range}
use Rattle.tdl_meaning.proofs.Overs.{proper_over, grid_over, hang_over}
use Rattle.tdl_meaning.proofs.Rates.{floor_broken, ceil_broken}
use Rattle.tdl_meaning.proofs.kinds.Proper.{moved_all, inside_same}
use Rattle.tdl_meaning.proofs.kinds.Counts.{HasCount, over_count}
use Rattle.tdl_meaning.proofs.Cuts.{cycles_in_order, over_inside, clip_over}
use Rattle.tdl_meaning.proofs.ByKind.{there_and_back, clip_there}
use Rattle.tdl_meaning.proofs.Seen.{in_cycle, seen_over, seen_moved}
use Rattle.tdl_meaning.proofs.Repeating.{over_later}

-- ---- what a cycle asks for
pub earlier_is_arc : (t : Rational) (c : ℤ) → IsArc (earlier t c)
earlier_is_arc t c = keeps_arc (λ u. u -ℚ t) (keeps-minus t) (cycle_arc c) (cycle_is_arc c)

pub earlier_back : (t : Rational) (c : ℤ) → map_arc (λ u. u +ℚ t) (earlier t c) ≡ cycle_arc c
earlier_back t c = there_and_back (λ u. u +ℚ t) (λ u. u -ℚ t) (λ u. -ℚ-plus u t) (cycle_arc c)

-- an end of a cycle, earlier by t, has the denominator of t
on_own : (t : Rational) (c : ℤ) → IsMultiple t.den (whole c -ℚ t)
on_own t c = multiple_minus (whole_multiple t.den c) (multiple_own t)

-- one cycle, and one more where t is not whole
pub shift_touches : (t : Rational) (c : ℤ) → length (cycles_of (earlier t c)) ≤ 1 + broken t
shift_touches t c =
    let x = whole c -ℚ t in
    let y = whole (c +ℤ pos 1) -ℚ t in
    let b = broken t in
    let near : x ≤ℚ whole (floor x) +ℚ whole (pos b) = (minus_le x (whole (floor x)) (whole (pos b))).0 (floor_broken t x (on_own t c)) in
    let end : y ≤ℚ whole (floor x +ℤ pos (1 + b)) =
    subst (λ z. y ≤ℚ z) (sum (floor x) b)
    (subst (λ z. z ≤ℚ (whole (floor x) +ℚ whole (pos b)) +ℚ whole (pos 1)) (next c) (plus_right_le (whole (pos 1)) near)) in
    subst (λ n. n ≤ 1 + b) (sym (length-whole_range (floor x) _))
    (few (floor x) (ceil y) (1 + b) (cycles_in_order (earlier t c) (earlier_is_arc t c)) ((ceil_le y (floor x +ℤ pos (1 + b))).0 end))
  where
    sum : (f : ℤ) (b : ℕ) → (whole f +ℚ whole (pos b)) +ℚ whole (pos 1) ≡ whole (f +ℤ pos (1 + b))
    sum f b = ap (λ z. z +ℚ whole (pos 1)) (sym (whole-plus f (pos b))) ∙ sym (whole-plus (f +ℤ pos b) (pos 1)) ∙ ap whole (omega (arith, ints))

    later_by_one : (c t o : Rational) → (c -ℚ t) +ℚ o ≡ (c +ℚ o) -ℚ t
    later_by_one c t o = by_ring rationals (c ∷ t ∷ o ∷ []) (search ring depth 12) refl

    next : (c : ℤ) → (whole c -ℚ t) +ℚ whole (pos 1) ≡ whole (c +ℤ pos 1) -ℚ t
    next c = later_by_one (whole c) t (whole (pos 1)) ∙ ap (λ z. z -ℚ t) (sym (whole-plus c (pos 1)))

    few : (x y : ℤ) (n : ℕ) → x ≤ℤ y → y ≤ℤ (x +ℤ pos n) → nat_abs (y -ℤ x) ≤ n
    few x y n low high = omega (arith, ints)

-- which is one or two
pub touches_one_or_two : (t : Rational) → cycles_at_shift t ≡ 1 + broken t
touches_one_or_two t = by (ltb 1 t.den)
  where
    by : (b : Bool) → elim b [ true ↦ 2 | false ↦ 1 ] ≡ 1 + elim b [ true ↦ 1 | false ↦ 0 ]
    by true = refl
    by false = refl

-- ---- facts
module _ (t : Rational) (p : Pattern) where
  pub shift_proper : HasProperEvents p → HasProperEvents (shift t p)
  unfolding shift
  shift_proper proper c =
      moved_all (λ u. u +ℚ t) (keeps-plus t) (earlier t c) (cycle_arc c) (inside_same _ _ (earlier_back t c)) (over p (earlier t c))
      (proper_over p proper (earlier t c) (earlier_is_arc t c))

  pub shift_grid : (g : ℕ) → HasGrid g p → HasGrid (lcm g t.den) (shift t p)
  unfolding shift
  shift_grid g on c =
      let back : (n : ℤ) (u : Rational) → IsMultiple g u ⊎ (u ≡ whole n -ℚ t) → IsMultiple (lcm g t.den) (u +ℚ t) =
      λ n u from. ⊎_elim
      (λ m. multiple_plus_lcm m (multiple_own t))
      (λ e. subst (IsMultiple (lcm g t.den)) (sym (ap (λ x. x +ℚ t) e ∙ -ℚ-plus (whole n) t)) (whole_multiple (lcm g t.den) n))
      from in
      each_map (IsGriddedIn g (earlier t c)) (IsGridded (lcm g t.den)) (moved (λ u. u +ℚ t)) (λ e at. record {
        whole_start = multiple_plus_lcm at.whole_start (multiple_own t);
        whole_stop = multiple_plus_lcm at.whole_stop (multiple_own t);
        part_start = back c e.part.start at.part_start;
        part_stop = back (c +ℤ pos 1) e.part.stop at.part_stop;
      }) (over p (earlier t c)) (grid_over g p on (earlier t c) (earlier_is_arc t c))

  pub shift_hang : (h : ℕ) → HasHang h p → HasHang (h + broken t) (shift t p)
  unfolding shift
  shift_hang h hung c =
      let a = earlier t c in
      each_map (IsNear h (floor a.start) (ceil a.stop)) (IsNear (h + broken t) c (c +ℤ pos 1)) (moved (λ u. u +ℚ t)) (λ e near. record {
        start = start e.whole.start near.start;
        stop = stop e.whole.stop near.stop;
      }) (over p a) (hang_over h p hung a (earlier_is_arc t c))
    where
      b : ℕ
      b = broken t

      taken : (c t b h : Rational) → (((c -ℚ t) -ℚ b) -ℚ h) +ℚ t ≡ c -ℚ (h +ℚ b)
      taken c t b h = by_ring rationals (c ∷ t ∷ b ∷ h ∷ []) (search ring depth 12) refl

      given : (c t b h : Rational) → (((c -ℚ t) +ℚ b) +ℚ h) +ℚ t ≡ c +ℚ (h +ℚ b)
      given c t b h = by_ring rationals (c ∷ t ∷ b ∷ h ∷ []) (search ring depth 12) refl

      start : (s : Rational) → whole (floor (whole c -ℚ t) -ℤ pos h) ≤ℚ s → whole (c -ℤ pos (h + broken t)) ≤ℚ s +ℚ t
      start s low =
          let rounded = minus_right_le (whole (pos h)) (floor_broken t (whole c -ℚ t) (on_own t c)) in
          let near = ≤ℚ_trans rounded (subst (λ x. x ≤ℚ s) (whole-minus (floor (whole c -ℚ t)) (pos h)) low) in
          subst (λ x. x ≤ℚ s +ℚ t)
          (taken (whole c) t (whole (pos b)) (whole (pos h)) ∙ ap (λ x. whole c -ℚ x) (sym (whole-plus (pos h) (pos b))) ∙ sym (whole-minus c (pos (h + b))))
          (plus_right_le t near)

      stop : (s : Rational) → s ≤ℚ whole (ceil (whole (c +ℤ pos 1) -ℚ t) +ℤ pos h) → s +ℚ t ≤ℚ whole ((c +ℤ pos 1) +ℤ pos (h + broken t))
      stop s high =
          let d = c +ℤ pos 1 in
          let rounded = plus_right_le (whole (pos h)) (ceil_broken t (whole d -ℚ t) (on_own t d)) in
          let near = ≤ℚ_trans (subst (λ x. s ≤ℚ x) (whole-plus (ceil (whole d -ℚ t)) (pos h)) high) rounded in
          subst (λ x. s +ℚ t ≤ℚ x)
          (given (whole d) t (whole (pos b)) (whole (pos h)) ∙ ap (λ x. whole d +ℚ x) (sym (whole-plus (pos h) (pos b))) ∙ sym (whole-plus d (pos (h + b))))
          (plus_right_le t near)

  pub shift_count : (k : ℕ) → HasCount k p → HasCount ((1 + broken t) * k) (shift t p)
  unfolding shift
  shift_count k few c =
      subst (λ n. n ≤ (1 + broken t) * k) (sym (length-map (over p (earlier t c)) (moved _)))
      (le_trans (over_count k p few (earlier t c)) (mul-le-mul_right k (shift_touches t c)))

  -- ---- laws
  -- in an arc of one cycle
  pub over-shift : HasProperEvents p → (c : ℤ) (a : Arc) → IsArc a → IsInside a (cycle_arc c)
      → over (shift t p) a ≡ map (moved (λ u. u +ℚ t)) (over p (map_arc (λ u. u -ℚ t) a))
  unfolding shift
  over-shift proper c a h inside =
      let back : Rational → Rational = λ u. u -ℚ t in
      let keeps = keeps-minus t in
      over_inside (shift t p) c a h inside
      ∙ clip_there (λ u. u +ℚ t) back (keeps-plus t) (λ u. -ℚ-plus u t) a (over p (earlier t c))
      ∙ ap (map (moved (λ u. u +ℚ t)))
      (clip_over p proper (map_arc back a) (earlier t c)
      ∙ ap (over_met p) (meet_around (earlier t c) (map_arc back a) (keeps_arc back keeps a h) (keeps_inside back keeps a (cycle_arc c) inside)))

  -- what the pattern has so much earlier, that much later
  pub heard_shift : HasProperEvents p → (u : Rational) → heard (shift t p) u ≡ moved_wholes (λ w. w +ℚ t) (heard p (u -ℚ t))
  unfolding shift
  heard_shift proper u =
      let c = floor u in
      let events = over p (earlier t c) in
      let there : IsIn (u -ℚ t) (earlier t c) = (minus_right_le t (in_cycle u).0, minus_right_lt t (in_cycle u).1) in
      ap (λ w. seen_at w (map (moved (λ v. v +ℚ t)) events)) (sym (-ℚ-plus u t))
      ∙ seen_moved (λ w. w +ℚ t) (keeps-plus t) (u -ℚ t) events
      ∙ ap (moved_wholes (λ w. w +ℚ t)) (seen_over p proper (earlier t c) (earlier_is_arc t c) (u -ℚ t) there)

-- ---- what is asked
-- a number is within its size, rounded up
pub within_rounded : (t : Rational) → IsWithin (div_ceil (nat_abs t.num) t.den) t
within_rounded t =
    let up = (div_ceil_times (nat_abs t.num) t.den (den_positive t)).0 in
    record {
      from = le_from_cross (Over-whole _) (Over-self t) (low (div_ceil (nat_abs t.num) t.den) t.den t.num up);
      to = le_from_cross (Over-self t) (Over-whole _) (high (div_ceil (nat_abs t.num) t.den) t.den t.num up);
    }
  where
    low : (k d : ℕ) (n : ℤ) → nat_abs n ≤ k * d → (neg_ℤ (pos k) *ℤ pos d) ≤ℤ (n *ℤ pos 1)
    low k d n h = rw (negate_times (pos k) (pos d)) (omega (arith, ints))

    high : (k d : ℕ) (n : ℤ) → nat_abs n ≤ k * d → (n *ℤ pos 1) ≤ℤ (pos k *ℤ pos d)
    high k d n h = omega (arith, ints)

-- an arc on a grid and within a size, so much earlier, is on the grid of both and within both sizes together
pub earlier_asked : (q m k : ℕ) (t : Rational) (a : Arc) → IsWithin k t → IsAsked q m a → IsAsked (lcm q t.den) (m + k) (map_arc (λ u. u -ℚ t) a)
earlier_asked q m k t a within ask =
    let least = whole (neg_ℤ (pos (m + k))) in
    let most = whole (pos (m + k)) in
    record {
      is_arc = keeps_arc (λ u. u -ℚ t) (keeps-minus t) a ask.is_arc;
      on_grid = record {
        start = multiple_minus_lcm ask.on_grid.start (multiple_own t);
        stop = multiple_minus_lcm ask.on_grid.stop (multiple_own t);
      };
      from = (le_minus least a.start t).1 (≤ℚ_trans (plus_left_le least within.to) (subst (λ x. x ≤ℚ a.start) low ask.from));
      to = (minus_le a.stop most t).1 (≤ℚ_trans (subst (λ x. a.stop ≤ℚ x) high ask.to) (plus_left_le most within.from));
    }
  where
    low : whole (neg_ℤ (pos m)) ≡ whole (neg_ℤ (pos (m + k))) +ℚ whole (pos k)
    low = ap whole (omega (arith, ints)) ∙ whole-plus (neg_ℤ (pos (m + k))) (pos k)

    high : whole (pos m) ≡ whole (pos (m + k)) +ℚ whole (neg_ℤ (pos k))
    high = ap whole (omega (arith, ints)) ∙ whole-plus (pos (m + k)) (neg_ℤ (pos k))

-- ---- repeats
-- motions that commute
pub moved_either : (f g : Rational → Rational) → ((u : Rational) → f (g u) ≡ g (f u)) → (events : List Event)
    → map (moved f) (map (moved g) events) ≡ map (moved g) (map (moved f) events)
moved_either f g commute [] = refl
moved_either f g commute (e ∷ events) = ap₂ (λ x xs. x ∷ xs) one (moved_either f g commute events)
  where
    arcs : (a : Arc) → map_arc f (map_arc g a) ≡ map_arc g (map_arc f a)
    arcs a = ap₂ (λ s t. record { start = s; stop = t }) (commute a.start) (commute a.stop)

    one : moved f (moved g e) ≡ moved g (moved f e)
    one = ap₂ (λ w p. record { whole = w; part = p; value = e.value }) (arcs e.whole) (arcs e.part)

earlier_later : (t : Rational) (c : ℤ) (n : ℕ) → earlier t (c +ℤ pos n) ≡ map_arc (later n) (earlier t c)
earlier_later t c n = ap₂ (λ s u. record { start = s; stop = u }) (one c) (ap (λ z. whole z -ℚ t) next ∙ one (c +ℤ pos 1))
  where
    either : (c t n : Rational) → (c +ℚ n) -ℚ t ≡ (c -ℚ t) +ℚ n
    either c t n = by_ring rationals (c ∷ t ∷ n ∷ []) (search ring depth 12) refl

    one : (c : ℤ) → whole (c +ℤ pos n) -ℚ t ≡ (whole c -ℚ t) +ℚ whole (pos n)
    one c = ap (λ x. x -ℚ t) (whole-plus c (pos n)) ∙ either (whole c) t (whole (pos n))

    next : (c +ℤ pos n) +ℤ pos 1 ≡ (c +ℤ pos 1) +ℤ pos n
    next = omega (arith, ints)

pub shift_repeats : (n : ℕ) (t : Rational) (p : Pattern) → Repeats n p → Repeats n (shift t p)
unfolding shift
shift_repeats n t p again c =
    ap (map (moved (λ u. u +ℚ t))) (ap (over p) (earlier_later t c n) ∙ over_later n p again (earlier t c))
    ∙ moved_either (λ u. u +ℚ t) (later n) (λ u. either u (whole (pos n)) t) (over p (earlier t c))
  where
    either : (u n t : Rational) → (u +ℚ n) +ℚ t ≡ (u +ℚ t) +ℚ n
    either u n t = by_ring rationals (u ∷ n ∷ t ∷ []) (search ring depth 12) refl
