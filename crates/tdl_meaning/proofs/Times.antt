-- Times of events, moved as each kind of tree moves them.
use Rattle.std.proofs.Common.{◌≡◌, ℕ, suc, ◌+◌, ◌*◌, ◌<◌, ◌≤◌, ℤ, pos, ◌+ℤ◌, ◌-ℤ◌, ◌*ℤ◌, neg_ℤ, ◌≤ℤ◌, sym, ap, ap₂, ◌∙◌, subst, arith}
use Rattle.std.proofs.Math.Nat.{suc-mul, mul-le-mul_left}
use Rattle.std.proofs.Common.{[], ◌∷◌, refl}
use Rattle.std.proofs.lemmas.Int.{ints}
use Rattle.tdl_ring.proofs.Quoting.{by_ring, ring}
use Rattle.tdl_ring.proofs.Inverses.{by_field}
use Rattle.tdl_fraction.specs.Rational.{Rational, whole, ◌+ℚ◌, ◌-ℚ◌, ◌*ℚ◌, ◌/ℚ◌, ◌≤ℚ◌, ◌<ℚ◌}
use Rattle.tdl_fraction.specs.Arc.{Arc, IsArc, map_arc}
use Rattle.tdl_fraction.proofs.Integers.{negate_times}
use Rattle.tdl_fraction.proofs.Field.{rationals, whole-plus, whole-minus, whole-times, *ℚ-divide}
use Rattle.tdl_fraction.proofs.Equations.{field, positive}
use Rattle.tdl_fraction.proofs.Order.{whole-le, whole_positive, ≢_from_positive, le_divide, divide_le, plus_left_le}
use Rattle.tdl_fraction.proofs.Arcs.{KeepsOrder, keeps_arc, keeps-after, keeps-minus, keeps-times, keeps-divide, keeps-plus_left}
use Rattle.tdl_meaning.specs.Pattern.{cycle_arc, squeezed, turned}
use Rattle.tdl_meaning.specs.Heard.{unsqueezed}
pub use Rattle.tdl_meaning.proofs.Cycles.{cycle_is_arc}

-- ---- another rate
-- what a cycle at a rate asks for
abbrev pub asked : Rational → ℤ → Arc
asked r c = map_arc (λ t. t *ℚ r) (cycle_arc c)

pub asked_is_arc : (r : Rational) (c : ℤ) → whole (pos 0) <ℚ r → IsArc (asked r c)
asked_is_arc r c h = keeps_arc (λ t. t *ℚ r) (keeps-times r h) (cycle_arc c) (cycle_is_arc c)

pub asked_divided : (r : Rational) (c : ℤ) → whole (pos 0) <ℚ r → map_arc (λ t. t /ℚ r) (asked r c) ≡ cycle_arc c
asked_divided r c h =
    let back = λ (t : Rational). *ℚ-divide t r (≢_from_positive h) in
    ap₂ (λ s t. record { start = s; stop = t }) (back (whole c)) (back (whole (c +ℤ pos 1)))

-- ---- a share of each cycle
pub keeps-squeezed : (c : ℤ) (o w W : ℕ) → 0 < w → 0 < W → KeepsOrder (squeezed c o w W)
keeps-squeezed c o w W h k =
    keeps-after (λ t. whole c +ℚ t) (λ t. (whole (pos o) +ℚ (t -ℚ whole c) *ℚ whole (pos w)) /ℚ whole (pos W)) (keeps-plus_left (whole c))
    (keeps-after (λ t. t /ℚ whole (pos W)) (λ t. whole (pos o) +ℚ (t -ℚ whole c) *ℚ whole (pos w)) (keeps-divide (whole (pos W)) (whole_positive W k))
    (keeps-after (λ t. whole (pos o) +ℚ t) (λ t. (t -ℚ whole c) *ℚ whole (pos w)) (keeps-plus_left (whole (pos o)))
    (keeps-after (λ t. t *ℚ whole (pos w)) (λ t. t -ℚ whole c) (keeps-times (whole (pos w)) (whole_positive w h)) (keeps-minus (whole c)))))

-- a whole time, seen from cycle c and weighed
weighed : (c d : ℤ) (o w : ℕ) → whole (pos o) +ℚ (whole (c +ℤ d) -ℚ whole c) *ℚ whole (pos w) ≡ whole (pos o +ℤ d *ℤ pos w)
weighed c d o w =
    let since : whole (c +ℤ d) -ℚ whole c ≡ whole d = sym (whole-minus (c +ℤ d) c) ∙ ap whole (back c d) in
    ap (λ x. whole (pos o) +ℚ x *ℚ whole (pos w)) since ∙ ap (λ x. whole (pos o) +ℚ x) (sym (whole-times d (pos w)))
    ∙ sym (whole-plus (pos o) (d *ℤ pos w))
  where
    back : (c d : ℤ) → (c +ℤ d) -ℤ c ≡ d
    back c d = omega (arith, ints)

pub squeezed_above : (c d : ℤ) (o w W : ℕ) → 0 < W → (d *ℤ pos W) ≤ℤ (pos o +ℤ d *ℤ pos w) → whole (c +ℤ d) ≤ℚ squeezed c o w W (whole (c +ℤ d))
squeezed_above c d o w W h le =
    let total = whole_positive W h in
    let sum : whole d *ℚ whole (pos W) ≤ℚ whole (pos o +ℤ d *ℤ pos w) =
    subst (λ x. x ≤ℚ whole (pos o +ℤ d *ℤ pos w)) (whole-times d (pos W)) ((whole-le (d *ℤ pos W) (pos o +ℤ d *ℤ pos w)).0 le) in
    let share = (le_divide (whole d) (whole (pos o +ℤ d *ℤ pos w)) (whole (pos W)) total).1 sum in
    let there = subst (λ x. whole d ≤ℚ x /ℚ whole (pos W)) (sym (weighed c d o w)) share in
    subst (λ x. x ≤ℚ squeezed c o w W (whole (c +ℤ d))) (sym (whole-plus c d)) (plus_left_le (whole c) there)

pub squeezed_below : (c d : ℤ) (o w W : ℕ) → 0 < W → (pos o +ℤ d *ℤ pos w) ≤ℤ (d *ℤ pos W) → squeezed c o w W (whole (c +ℤ d)) ≤ℚ whole (c +ℤ d)
squeezed_below c d o w W h le =
    let total = whole_positive W h in
    let sum : whole (pos o +ℤ d *ℤ pos w) ≤ℚ whole d *ℚ whole (pos W) =
    subst (λ x. whole (pos o +ℤ d *ℤ pos w) ≤ℚ x) (whole-times d (pos W)) ((whole-le (pos o +ℤ d *ℤ pos w) (d *ℤ pos W)).0 le) in
    let share = (divide_le (whole (pos o +ℤ d *ℤ pos w)) (whole d) (whole (pos W)) total).1 sum in
    let there = subst (λ x. x /ℚ whole (pos W) ≤ℚ whole d) (sym (weighed c d o w)) share in
    subst (λ x. squeezed c o w W (whole (c +ℤ d)) ≤ℚ x) (sym (whole-plus c d)) (plus_left_le (whole c) there)

-- what is at most h cycles before the cycle is so in its share
pub squeezed_start : (c : ℤ) (o w W h : ℕ) → 0 < W → w ≤ W → whole (c -ℤ pos h) ≤ℚ squeezed c o w W (whole (c -ℤ pos h))
squeezed_start c o w W h k le = squeezed_above c (neg_ℤ (pos h)) o w W k (before (mul-le-mul_left h le))
  where
    before : h * w ≤ h * W → (neg_ℤ (pos h) *ℤ pos W) ≤ℤ (pos o +ℤ neg_ℤ (pos h) *ℤ pos w)
    before m = rw (negate_times (pos h) (pos W), negate_times (pos h) (pos w)) (omega (arith, ints))

-- and what is at most h cycles after its end
pub squeezed_stop : (c : ℤ) (o w W h : ℕ) → 0 < W → o + w ≤ W → squeezed c o w W (whole ((c +ℤ pos 1) +ℤ pos h)) ≤ℚ whole ((c +ℤ pos 1) +ℤ pos h)
squeezed_stop c o w W h k le =
    subst (λ z. squeezed c o w W (whole z) ≤ℚ whole z) (later c h) (squeezed_below c (pos (suc h)) o w W k (after (mul-le-mul_left h (fewer o w W le))))
  where
    later : (c : ℤ) (h : ℕ) → c +ℤ pos (suc h) ≡ (c +ℤ pos 1) +ℤ pos h
    later c h = omega (arith, ints)

    fewer : (o w W : ℕ) → o + w ≤ W → w ≤ W
    fewer o w W le = omega arith

    after : h * w ≤ h * W → (pos o +ℤ pos (suc h) *ℤ pos w) ≤ℤ (pos (suc h) *ℤ pos W)
    after m = omega (arith, ints, suc-mul h w, suc-mul h W)

-- a time that is brought back from a share goes there
pub squeezed_there : (c : ℤ) (o w W : ℕ) (t : Rational) → 0 < w → 0 < W → squeezed c o w W (unsqueezed c o w W t) ≡ t
squeezed_there c o w W t h k = there (whole c) (whole (pos o)) (whole (pos w)) (whole (pos W)) t (whole_positive w h) (whole_positive W k)
  where
    there : (c o w W t : Rational) → whole (pos 0) <ℚ w → whole (pos 0) <ℚ W
        → c +ℚ (o +ℚ (c +ℚ ((t -ℚ c) *ℚ W -ℚ o) /ℚ w -ℚ c) *ℚ w) /ℚ W ≡ t
    there c o w W t h k = by_field rationals (positive w h ∷ positive W k ∷ []) (c ∷ o ∷ t ∷ []) (search field depth 14) refl

-- and one that went there is brought back
pub unsqueezed_back : (c : ℤ) (o w W : ℕ) (t : Rational) → 0 < w → 0 < W → unsqueezed c o w W (squeezed c o w W t) ≡ t
unsqueezed_back c o w W t h k = back (whole c) (whole (pos o)) (whole (pos w)) (whole (pos W)) t (whole_positive w h) (whole_positive W k)
  where
    back : (c o w W t : Rational) → whole (pos 0) <ℚ w → whole (pos 0) <ℚ W
        → c +ℚ ((c +ℚ (o +ℚ (t -ℚ c) *ℚ w) /ℚ W -ℚ c) *ℚ W -ℚ o) /ℚ w ≡ t
    back c o w W t h k = by_field rationals (positive w h ∷ positive W k ∷ []) (c ∷ o ∷ t ∷ []) (search field depth 14) refl

pub keeps-unsqueezed : (c : ℤ) (o w W : ℕ) → 0 < w → 0 < W → KeepsOrder (unsqueezed c o w W)
keeps-unsqueezed c o w W h k =
    keeps-after (λ t. whole c +ℚ t) (λ t. ((t -ℚ whole c) *ℚ whole (pos W) -ℚ whole (pos o)) /ℚ whole (pos w)) (keeps-plus_left (whole c))
    (keeps-after (λ t. t /ℚ whole (pos w)) (λ t. (t -ℚ whole c) *ℚ whole (pos W) -ℚ whole (pos o)) (keeps-divide (whole (pos w)) (whole_positive w h))
    (keeps-after (λ t. t -ℚ whole (pos o)) (λ t. (t -ℚ whole c) *ℚ whole (pos W)) (keeps-minus (whole (pos o)))
    (keeps-after (λ t. t *ℚ whole (pos W)) (λ t. t -ℚ whole c) (keeps-times (whole (pos W)) (whole_positive W k)) (keeps-minus (whole c)))))

-- ---- a cycle turned round
pub turned_back : (c : ℤ) (a : Arc) → turned c (turned c a) ≡ a
turned_back c a = ap₂ (λ s t. record { start = s; stop = t }) (back (whole (c +ℤ c +ℤ pos 1)) a.start) (back (whole (c +ℤ c +ℤ pos 1)) a.stop)
  where
    back : (x t : Rational) → x -ℚ (x -ℚ t) ≡ t
    back x t = by_ring rationals (x ∷ t ∷ []) (search ring depth 12) refl
