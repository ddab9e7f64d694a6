-- The cycles of an arc.
use Rattle.std.proofs.Common.{◌≡◌, ℕ, zero, suc, ◌<◌, length, get_or, Option, Some, None, IsSome, Contains, AllPairs, ◌↔◌, ℤ, pos, ◌+ℤ◌, ◌-ℤ◌, ◌≤ℤ◌, ◌<ℤ◌}
use Rattle.std.proofs.Common.{nat_abs, refl, sym, ap, ◌∙◌, subst, arith}
use Rattle.std.proofs.lemmas.Int.{ints}
use Rattle.tdl_fraction.specs.Rational.{floor, ceil}
use Rattle.tdl_fraction.specs.Arc.{Arc, IsArc, meet}
use Rattle.tdl_fraction.proofs.Order.{≤ℚ_from_<ℚ, whole-lt}
use Rattle.tdl_fraction.proofs.Rounding.{floor_monotone, floor_le_ceil}
use Rattle.tdl_fraction.proofs.Arcs.{cycle_overlaps, meet_exists, meet_overlaps}
use Rattle.tdl_meaning.specs.Pattern.{whole_range, cycles_of, cycle_arc}

pub length-whole_range : (first : ℤ) (n : ℕ) → length (whole_range first n) ≡ n
length-whole_range first zero = refl
length-whole_range first (suc n) = ap suc (length-whole_range (first +ℤ pos 1) n)

pub get_or-whole_range : (first : ℤ) (n k : ℕ) (d : ℤ) → k < n → get_or (whole_range first n) k d ≡ first +ℤ pos k
get_or-whole_range first zero k d h = absurd (omega arith)
get_or-whole_range first (suc n) zero d h = omega (arith, ints)
get_or-whole_range first (suc n) (suc k) d h = get_or-whole_range (first +ℤ pos 1) n k d (omega arith) ∙ omega (arith, ints)

-- a range has the whole numbers from first up to first + n
pub in_whole_range : (first : ℤ) (n : ℕ) (c : ℤ) → Contains (whole_range first n) c ↔ ((first ≤ℤ c) × (c <ℤ (first +ℤ pos n)))
in_whole_range first n c = (found, places)
  where
    bounds : (k : ℕ) → k < n → first +ℤ pos k ≡ c → (first ≤ℤ c) × (c <ℤ (first +ℤ pos n))
    bounds k h e = rw (← e) (omega (arith, ints), omega (arith, ints))

    found : Contains (whole_range first n) c → (first ≤ℤ c) × (c <ℤ (first +ℤ pos n))
    found h =
        let k = h.0 in
        let within : k < n = omega (arith, h.1, length-whole_range first n) in
        bounds k within (sym (get_or-whole_range first n k c within) ∙ h.2)

    places : (first ≤ℤ c) × (c <ℤ (first +ℤ pos n)) → Contains (whole_range first n) c
    places h =
        let low = h.0 in
        let high = h.1 in
        let k = nat_abs (c -ℤ first) in
        let at : first +ℤ pos k ≡ c = omega (arith, ints) in
        let within : k < n = omega (arith, ints) in
        (k, omega (arith, length-whole_range first n), get_or-whole_range first n k c within ∙ at)

-- the range of an arc's cycles ends where the arc does
pub range_end : (a : Arc) → IsArc a → floor a.start +ℤ pos (nat_abs (ceil a.stop -ℤ floor a.start)) ≡ ceil a.stop
range_end a h =
    let low = floor_monotone (≤ℚ_from_<ℚ h) in
    let high = floor_le_ceil a.stop in
    ends (floor a.start) (floor a.stop) (ceil a.stop) low high
  where
    ends : (x y z : ℤ) → x ≤ℤ y → y ≤ℤ z → x +ℤ pos (nat_abs (z -ℤ x)) ≡ z
    ends x y z p q = omega (arith, ints)

pub cycle_is_arc : (c : ℤ) → IsArc (cycle_arc c)
cycle_is_arc c = (whole-lt c (c +ℤ pos 1)).0 (omega (arith, ints))

some_from : {T : Type 0} (o : Option T) → (x : T) × (o ≡ Some x) → IsSome o
some_from o h = rw h.1 refl

opened : {T : Type 0} (o : Option T) → IsSome o → (x : T) × (o ≡ Some x)
opened (Some x) h = (x, refl)
opened None h = cc

-- a cycle of the arc is one that shares time with it
pub shared : (a : Arc) (c : ℤ) → IsArc a → Contains (cycles_of a) c ↔ IsSome (meet a (cycle_arc c))
shared a c h = (λ k. some k, λ k. in_range k)
  where
    some : Contains (cycles_of a) c → IsSome (meet a (cycle_arc c))
    some k =
        let within = (in_whole_range (floor a.start) _ c).0 k in
        let high = subst (λ z. c <ℤ z) (range_end a h) within.1 in
        let overlap = (cycle_overlaps a c).0 (within.0, high) in
        some_from (meet a (cycle_arc c)) (meet_exists a (cycle_arc c) h (cycle_is_arc c) overlap.0 overlap.1)

    in_range : IsSome (meet a (cycle_arc c)) → Contains (cycles_of a) c
    in_range k =
        let met = opened (meet a (cycle_arc c)) k in
        let within = (cycle_overlaps a c).1 (meet_overlaps a (cycle_arc c) met.0 met.1) in
        (in_whole_range (floor a.start) _ c).1 (within.0, subst (λ z. c <ℤ z) (sym (range_end a h)) within.1)

-- the cycles rise
pub rising : (first : ℤ) (n : ℕ) → AllPairs ◌<ℤ◌ (whole_range first n)
rising first n i j d before within =
    let j_in : j < n = omega (arith, length-whole_range first n) in
    let i_in : i < n = omega arith in
    rw (get_or-whole_range first n i d i_in, get_or-whole_range first n j d j_in) (omega (arith, ints))
