-- Equal pieces of an arc: where they are, and which of them has a time of the arc, one and no other.
use Rattle.std.proofs.Common.{◌≡◌, ◌↔◌, ◌⊎◌, inl, inr, ℕ, zero, suc, ◌+◌, ◌-◌, ◌*◌, ◌^◌, ◌<◌, ◌≤◌, Bool, if◌then◌else◌, List, [], ◌∷◌, ◌++◌, ℤ, pos}
use Rattle.std.proofs.Common.{◌+ℤ◌, ◌≤ℤ◌, ◌<ℤ◌, nat_abs, append-nil, refl, sym, ap, ap₂, ◌∙◌, subst, arith}
use Rattle.std.specs.List.{flat_map, range_with_len}
use Rattle.std.proofs.lemmas.Bool.{cases_eq}
use Rattle.std.proofs.lemmas.Int.{ints}
use Rattle.std.proofs.Math.Nat.{mul_comm, mul-pos, mul-le-mul, mul-le-mul_left, dvd-mul_left}
use Rattle.std.proofs.lemmas.Nat.Gcd.{le_of_dvd}
use Rattle.tdl_ring.proofs.Quoting.{by_ring, ring}
use Rattle.tdl_control.specs.declared.leaves.Leaf.{Leaf}
use Rattle.tdl_fraction.specs.Rational.{Rational, inverse, frac, whole, ◌+ℚ◌, ◌-ℚ◌, ◌*ℚ◌, ◌/ℚ◌, ◌≤ℚ◌, ◌<ℚ◌, floor, IsMultiple}
use Rattle.tdl_fraction.specs.Arc.{Arc, IsArc, IsIn, map_arc}
use Rattle.tdl_fraction.proofs.Field.{rationals, +ℚ_comm, *ℚ_comm, frac-quotient, one-*ℚ, *ℚ-one, *ℚ-inverse, /ℚ_is, whole-minus}
use Rattle.tdl_fraction.proofs.Order.{≤ℚ_from_<ℚ, <ℚ_from_not, clash_ℚ, whole-le, plus_above_le, whole_positive}
use Rattle.tdl_fraction.proofs.Order.{lt_by_difference, le_by_difference, le_minus, le_divide, divide_le}
use Rattle.tdl_fraction.proofs.Order.{divide_lt, divide_not_negative, times_not_negative, times_pos_lt, minus_right_lt}
use Rattle.tdl_fraction.proofs.Order.{≤ℚ_trans, ≢_from_positive, plus_left_lt, pos_times_lt, frac-lt}
use Rattle.tdl_fraction.specs.Range.{InRange}
use Rattle.tdl_fraction.proofs.Ranges.{in_range, in_range_above, in_range_below, InRange-times_plus_over}
use Rattle.tdl_fraction.proofs.Multiples.{multiple_finer, multiple_plus, multiple_minus, multiple_times_frac}
use Rattle.tdl_fraction.proofs.Rounding.{floor_at_most, floor_above, floor_unique, le_floor, floor_lt}
use Rattle.tdl_event.specs.ClipLaws.{is_in}
use Rattle.tdl_event.proofs.Clips.{not_true, is_in-true}
use Rattle.tdl_meaning.specs.Kinds.{along, piece, piece_of}
use Rattle.tdl_meaning.specs.Pieces.{CanPly}
use Rattle.tdl_meaning.proofs.Lists.{each_range_with_len}
use Rattle.tdl_meaning.proofs.Flat.{flat_map_nothing}

-- ---- where they are
along_moved : (x : Rational) (n : ℕ) (a : Arc) (j : ℕ) → along n (map_arc (λ t. t +ℚ x) a) j ≡ along n a j +ℚ x
along_moved x n a j = both a.start a.stop x (frac (pos j) n)
  where
    both : (s t x f : Rational) → (s +ℚ x) +ℚ ((t +ℚ x) -ℚ (s +ℚ x)) *ℚ f ≡ (s +ℚ (t -ℚ s) *ℚ f) +ℚ x
    both s t x f = by_ring rationals (s ∷ t ∷ x ∷ f ∷ []) (search ring depth 12) refl

pub piece_moved : (x : Rational) (n : ℕ) (a : Arc) (j : ℕ) → piece n (map_arc (λ t. t +ℚ x) a) j ≡ map_arc (λ t. t +ℚ x) (piece n a j)
piece_moved x n a j = ap₂ (λ s t. record { start = s; stop = t }) (along_moved x n a j) (along_moved x n a (j + 1))

width : (a : Arc) → IsArc a → whole (pos 0) <ℚ a.stop -ℚ a.start
width a is = (lt_by_difference a.start a.stop).0 is

-- a piece of an arc is in the arc
module _ (n : ℕ) (a : Arc) (j : ℕ) (is : IsArc a) (within : j ≤ n) (positive : 0 < n) where
  at_least_none : whole (pos 0) ≤ℚ frac (pos j) n
  at_least_none =
      subst (λ x. whole (pos 0) ≤ℚ x) (sym (frac-quotient (pos j) n))
      (divide_not_negative ((whole-le (pos 0) (pos j)).0 (omega (arith, ints))) (whole_positive n positive))

  at_most_one : frac (pos j) n ≤ℚ whole (pos 1)
  at_most_one =
      subst (λ x. x ≤ℚ whole (pos 1)) (sym (frac-quotient (pos j) n))
      ((divide_le (whole (pos j)) (whole (pos 1)) (whole (pos n)) (whole_positive n positive)).1
      (subst (λ x. whole (pos j) ≤ℚ x) (sym (one-*ℚ (whole (pos n)))) ((whole-le (pos j) (pos n)).0 (omega (arith, ints)))))

  pub along_start : a.start ≤ℚ along n a j
  along_start = plus_above_le a.start (times_not_negative (≤ℚ_from_<ℚ (width a is)) at_least_none)

  pub along_stop : along n a j ≤ℚ a.stop
  along_stop =
      (le_by_difference (along n a j) a.stop).1
      (subst (λ x. whole (pos 0) ≤ℚ x) (rest a.start a.stop (frac (pos j) n))
      (times_not_negative (≤ℚ_from_<ℚ (width a is)) ((le_by_difference (frac (pos j) n) (whole (pos 1))).0 at_most_one)))
    where
      rest : (s t f : Rational) → (t -ℚ s) *ℚ (whole (pos 1) -ℚ f) ≡ t -ℚ (s +ℚ (t -ℚ s) *ℚ f)
      rest s t f = by_ring rationals (s ∷ t ∷ f ∷ []) (search ring depth 12) refl

pub along_multiple : (g n : ℕ) (a : Arc) (j : ℕ) → 0 < n → IsMultiple g a.start → IsMultiple g a.stop → IsMultiple (n * g) (along n a j)
along_multiple g n a j positive start stop =
    multiple_plus
    (multiple_finer g (n * g) a.start (dvd-mul_left g n) start)
    (subst (λ k. IsMultiple k ((a.stop -ℚ a.start) *ℚ frac (pos j) n)) (mul_comm g n) (multiple_times_frac (pos j) n positive (multiple_minus stop start)))

-- they are arcs
pub piece_is_arc : (n : ℕ) (a : Arc) (j : ℕ) → IsArc a → 0 < n → IsArc (piece n a j)
piece_is_arc n a j is positive =
    plus_left_lt a.start ((pos_times_lt (frac (pos j) n) (frac (pos (j + 1)) n) (a.stop -ℚ a.start) (width a is)).0
    ((frac-lt (pos j) (pos (j + 1)) n positive).0 (omega (arith, ints))))

-- ---- worked out
-- where they are, by a share of each end
pub along_by_shares : (n : ℕ) (a : Arc) (j : ℕ) → 0 < n → j ≤ n
    → ((a.start *ℚ whole (pos (n - j)) +ℚ whole (pos 0)) /ℚ whole (pos n)) +ℚ ((a.stop *ℚ whole (pos j) +ℚ whole (pos 0)) /ℚ whole (pos n)) ≡ along n a j
along_by_shares n a j positive within =
    let N = whole (pos n) in
    let J = whole (pos j) in
    let i = inverse N in
    let left : whole (pos (n - j)) ≡ N -ℚ J = ap whole (omega (arith, ints)) ∙ whole-minus (pos n) (pos j) in
    let once : N *ℚ i ≡ whole (pos 1) = *ℚ-inverse N (≢_from_positive (whole_positive n positive)) in
    ap (λ k. ((a.start *ℚ k +ℚ whole (pos 0)) /ℚ N) +ℚ ((a.stop *ℚ J +ℚ whole (pos 0)) /ℚ N)) left
    ∙ ap₂ (λ x y. x +ℚ y) (/ℚ_is (a.start *ℚ (N -ℚ J) +ℚ whole (pos 0)) N) (/ℚ_is (a.stop *ℚ J +ℚ whole (pos 0)) N)
    ∙ together a.start a.stop N J i
    ∙ ap₂ (λ x y. x +ℚ (a.stop -ℚ a.start) *ℚ y) (ap (λ x. a.start *ℚ x) once ∙ *ℚ-one a.start) (sym (/ℚ_is J N) ∙ sym (frac-quotient (pos j) n))
  where
    together : (s t n j i : Rational)
        → ((s *ℚ (n -ℚ j) +ℚ whole (pos 0)) *ℚ i) +ℚ ((t *ℚ j +ℚ whole (pos 0)) *ℚ i) ≡ s *ℚ (n *ℚ i) +ℚ (t -ℚ s) *ℚ (j *ℚ i)
    together s t n j i = by_ring rationals (s ∷ t ∷ n ∷ j ∷ i ∷ []) (search ring depth 12) refl

-- and each share is a fraction of the program, as it is no further from 0 than the end
pub share_fits : (t : Rational) (k n g : ℕ) → 0 < g → 0 < n → k ≤ n → IsMultiple g t → n * g ≤ 2 ^ 44 → InRange t
    → InRange ((t *ℚ whole (pos k) +ℚ whole (pos 0)) /ℚ whole (pos n))
share_fits t k n g some positive within on fine fits =
    let least : t.den ≤ g = le_of_dvd some on.divides in
    InRange-times_plus_over t k (pos 0) n positive (omega (arith, mul-le-mul_left n least)) (near (nat_abs t.num) t.den (mul-le-mul fits.near within))
  where
    near : (a d : ℕ) → a * k ≤ 2 ^ 36 * d * n → a * k + nat_abs (pos 0) * d ≤ 2 ^ 36 * (d * n)
    near a d h = omega (arith, ints)

pub along_fits : (n : ℕ) (a : Arc) (j : ℕ) → CanPly n a → 0 < n → j ≤ n → InRange a.start → InRange a.stop → InRange (along n a j)
along_fits n a j can positive within start stop =
    in_range (n * can.grid) (2 ^ 36) (along n a j) (mul-pos positive can.positive) (along_multiple can.grid n a j positive can.start can.stop) can.fine
    (record {
      from = ≤ℚ_trans (in_range_above a.start start) (along_start n a j can.is_arc within positive);
      to = ≤ℚ_trans (along_stop n a j can.is_arc within positive) (in_range_below a.stop stop);
    })
    (omega arith)

-- ---- which has a time
-- where one number of a range alone gives something
pub flat_map-one : {X : Type 0} (f : ℕ → List X) (j a n : ℕ) → a ≤ j → j < a + n → ((i : ℕ) → (i ≡ j → ⊥) → f i ≡ []) → flat_map f (range_with_len a n) ≡ f j
flat_map-one f j a zero low high none = absurd (omega arith)
flat_map-one f j a (suc n) low high none = by (cases_eq a j) (λ low. flat_map-one f j (a + 1) n low (omega arith) none)
  where
    by : (a ≡ j) ⊎ (a ≡ j → ⊥) → (a + 1 ≤ j → flat_map f (range_with_len (a + 1) n) ≡ f j) → f a ++ flat_map f (range_with_len (a + 1) n) ≡ f j
    by (inl same) later =
        ap₂ (λ xs ys. xs ++ ys) (ap f same)
        (flat_map_nothing f (range_with_len (a + 1) n)
        (each_range_with_len (λ i. f i ≡ []) (a + 1) n (λ i after within. none i (λ e. absurd (omega (arith, e, same, after))))))
        ∙ append-nil (f j)
    by (inr other) later = ap₂ (λ xs ys. xs ++ ys) (none a other) (later (omega (arith, other)))

module _ (n : ℕ) (t : Rational) (a : Arc) (positive : 0 < n) (is : IsArc a) where
  -- how far through the arc the time is, in pieces
  abbrev at : Rational
  at = (t -ℚ a.start) /ℚ (a.stop -ℚ a.start) *ℚ whole (pos n)

  many : whole (pos 0) <ℚ whole (pos n)
  many = whole_positive n positive

  -- a piece has begun where so many before it are passed
  begun : (i : ℕ) → (along n a i ≤ℚ t) ↔ (whole (pos i) ≤ℚ at)
  begun i = (λ h. there h, λ h. back h)
    where
      w : Rational
      w = a.stop -ℚ a.start

      f : Rational
      f = frac (pos i) n

      turned : (a.start +ℚ (a.stop -ℚ a.start) *ℚ frac (pos i) n) ≡ frac (pos i) n *ℚ (a.stop -ℚ a.start) +ℚ a.start
      turned = +ℚ_comm a.start (w *ℚ f) ∙ ap (λ x. x +ℚ a.start) (*ℚ_comm w f)

      there : along n a i ≤ℚ t → whole (pos i) ≤ℚ at
      there h =
          let since = (le_minus (f *ℚ w) t a.start).1 (subst (λ x. x ≤ℚ t) turned h) in
          let part = (le_divide f (t -ℚ a.start) w (width a is)).1 since in
          (divide_le (whole (pos i)) ((t -ℚ a.start) /ℚ w) (whole (pos n)) many).0 (subst (λ x. x ≤ℚ (t -ℚ a.start) /ℚ w) (frac-quotient (pos i) n) part)

      back : whole (pos i) ≤ℚ at → along n a i ≤ℚ t
      back h =
          let part = (divide_le (whole (pos i)) ((t -ℚ a.start) /ℚ w) (whole (pos n)) many).1 h in
          let since = (le_divide f (t -ℚ a.start) w (width a is)).0 (subst (λ x. x ≤ℚ (t -ℚ a.start) /ℚ w) (sym (frac-quotient (pos i) n)) part) in
          subst (λ x. x ≤ℚ t) (sym turned) ((le_minus (f *ℚ w) t a.start).0 since)

  in_piece : (i : ℕ) → floor at ≡ pos i → IsIn t (piece n a i)
  in_piece i e = (
    (begun i).1 (subst (λ z. whole z ≤ℚ at) e (floor_at_most at)),
    <ℚ_from_not (λ h. clash_ℚ (subst (λ z. at <ℚ whole (z +ℤ pos 1)) e (floor_above at)) ((begun (i + 1)).0 h)),
  )

  piece_is : (i : ℕ) → IsIn t (piece n a i) → floor at ≡ pos i
  piece_is i h = floor_unique at (pos i) ((begun i).0 h.0) (<ℚ_from_not (λ k. clash_ℚ h.1 ((begun (i + 1)).1 k)))

  module _ (here : IsIn t a) where
    not_before : pos 0 ≤ℤ floor at
    not_before =
        (le_floor (pos 0) at).0
        (times_not_negative (divide_not_negative ((le_by_difference a.start t).0 here.0) (width a is)) (≤ℚ_from_<ℚ many))

    not_after : floor at <ℤ pos n
    not_after =
        (floor_lt at (pos n)).0
        (subst (λ x. at <ℚ x) (one-*ℚ (whole (pos n)))
        ((times_pos_lt ((t -ℚ a.start) /ℚ (a.stop -ℚ a.start)) (whole (pos 1)) (whole (pos n)) many).0
        ((divide_lt (t -ℚ a.start) (whole (pos 1)) (a.stop -ℚ a.start) (width a is)).1
        (subst (λ x. t -ℚ a.start <ℚ x) (sym (one-*ℚ (a.stop -ℚ a.start))) (minus_right_lt a.start here.1)))))

    its_number : floor at ≡ pos (piece_of n t a)
    its_number = number (floor at) not_before
      where
        number : (z : ℤ) → pos 0 ≤ℤ z → z ≡ pos (nat_abs z)
        number z h = omega (arith, ints)

    pub piece_below : piece_of n t a < n
    piece_below = below (floor at) not_before not_after
      where
        below : (z : ℤ) → pos 0 ≤ℤ z → z <ℤ pos n → nat_abs z < n
        below z low high = omega (arith, ints)

    -- of the pieces that have the time there is this one
    pub the_piece : (v : Leaf)
        → flat_map {A = Arc × Leaf} (λ j. if is_in t (piece n a j) then (piece n a j, v) ∷ [] else []) (range_with_len 0 n)
        ≡ (piece n a (piece_of n t a), v) ∷ []
    the_piece v =
        flat_map-one (λ j. given j (is_in t (piece n a j))) (piece_of n t a) 0 n (omega arith) (omega (arith, piece_below))
        (λ i other. ap (given i) (not_true (is_in t (piece n a i)) (λ e. other (same i ((is_in-true t (piece n a i)).0 e)))))
        ∙ ap (given (piece_of n t a)) ((is_in-true t (piece n a (piece_of n t a))).1 (in_piece (piece_of n t a) its_number))
      where
        given : ℕ → Bool → List (Arc × Leaf)
        given j b = if b then (piece n a j, v) ∷ [] else []

        same : (i : ℕ) → IsIn t (piece n a i) → i ≡ piece_of n t a
        same i h = number (sym (piece_is i h) ∙ its_number)
          where
            number : pos i ≡ pos (piece_of n t a) → i ≡ piece_of n t a
            number e = cc
