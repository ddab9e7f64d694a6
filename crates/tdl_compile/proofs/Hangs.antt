-- Hangs that are kept in two words, and counts that are kept in one, by the load: a hang that is not exact makes the loads of the joins
-- above it past a word.
use Rattle.std.proofs.Common.{◌≡◌, ℕ, ◌+◌, ◌*◌, ◌^◌, ◌<◌, ◌≤◌, min, max, inl, inr, ⊎_elim, ap, ◌∙◌, arith}
use Rattle.std.specs.Int.{div_ceil}
use Rattle.std.proofs.lemmas.Bool.{cases_lt}
use Rattle.std.proofs.lemmas.Bool.Decides.{nat_tests}
use Rattle.std.proofs.lemmas.Grind.{div_ceil_times}
use Rattle.std.proofs.Math.Nat.{mul-le-mul, mul-le-mul_left, mul-le-mul_right, le_of_mul-le-mul_left, le-mul_of_pos_right}
use Rattle.tdl_fraction.specs.Rational.{Rational}
use Rattle.tdl_expr.specs.Bounds.{upper, lower, touched}
use Rattle.tdl_expr.proofs.Numbers.{lower_positive}
use Rattle.tdl_compile.specs.Compiled.{capped}
use Rattle.tdl_compile.specs.inside.Sizes.{most_word, most_hang, IsVast, KeepsHang, KeepsCount}
use Rattle.tdl_compile.proofs.Capped.{capped_times}

-- ---- with a greater load
pub count_more : (kept count load more : ℕ) → load ≤ more → KeepsCount kept count load → KeepsCount kept count more
count_more kept count load more h = ⊎_elim inl (λ x. inr (omega arith))

vast_more : (n x load more : ℕ) → n ≤ x → load ≤ more → most_hang ≤ n * load → most_hang ≤ x * more
vast_more n x load more h k v = let product : n * load ≤ x * more = mul-le-mul h k in omega arith

pub hang_more : (kept hang load more : ℕ) → load ≤ more → KeepsHang kept hang load → KeepsHang kept hang more
hang_more kept hang load more h =
    ⊎_elim inl
    (λ x. inr (record {
      of_kept = vast_more kept kept load more (omega arith) h x.of_kept;
      of_hang = vast_more hang hang load more (omega arith) h x.of_hang;
    }))

-- ---- the greater and the smaller of two hangs
pub hang_max : (a b c d load : ℕ) → KeepsHang a c load → KeepsHang b d load → KeepsHang (max a b) (max c d) load
hang_max a b c d load h k =
    ⊎_elim
    (λ x. ⊎_elim
    (λ y. inl (omega arith))
    (λ y. inr (record {
      of_kept = vast_more b (max a b) load load (omega arith) (omega arith) y.of_kept;
      of_hang = vast_more d (max c d) load load (omega arith) (omega arith) y.of_hang;
    }))
    k)
    (λ x. inr (record {
      of_kept = vast_more a (max a b) load load (omega arith) (omega arith) x.of_kept;
      of_hang = vast_more c (max c d) load load (omega arith) (omega arith) x.of_hang;
    }))
    h

vast_min : (a b load : ℕ) → most_hang ≤ a * load → most_hang ≤ b * load → most_hang ≤ min a b * load
vast_min a b load h k =
    ⊎_elim
    (λ x. vast_more a (min a b) load load (omega arith) (omega arith) h)
    (λ x. vast_more b (min a b) load load (omega arith) (omega arith) k)
    (cases_lt a b)

-- with one that is exact, the smaller ones are the same, or both as great as one that is vast
min_exact : (a c n load : ℕ) → IsVast a c load → KeepsHang (min a n) (min c n) load
min_exact a c n load v =
    ⊎_elim
    (λ x. inr (record {
      of_kept = vast_min a n load v.of_kept (vast_more c n load load (omega arith) (omega arith) v.of_hang);
      of_hang = vast_more c (min c n) load load (omega arith) (omega arith) v.of_hang;
    }))
    (λ x. ⊎_elim
    (λ y. inr (record {
      of_kept = vast_more a (min a n) load load (omega arith) (omega arith) v.of_kept;
      of_hang = vast_more a (min c n) load load (omega arith) (omega arith) v.of_kept;
    }))
    (λ y. inl (omega arith))
    (cases_lt a n))
    (cases_lt c n)

swapped_min : (a b c d load : ℕ) → KeepsHang (min b a) (min d c) load → KeepsHang (min a b) (min c d) load
swapped_min a b c d load =
    let same : min b a ≡ min a b = omega arith in
    let other : min d c ≡ min c d = omega arith in
    λ h. rw other at (rw same at h)

pub hang_min : (a b c d load : ℕ) → KeepsHang a c load → KeepsHang b d load → KeepsHang (min a b) (min c d) load
hang_min a b c d load h k =
    ⊎_elim
    (λ x. ⊎_elim
    (λ y. inl (omega arith))
    (λ y. swapped_min a b c d load (rw x (min_exact b d c load y)))
    k)
    (λ x. ⊎_elim
    (λ y. rw y (min_exact a c d load x))
    (λ y. inr (record { of_kept = vast_min a b load x.of_kept y.of_kept; of_hang = vast_min c d load x.of_hang y.of_hang }))
    k)
    h

-- ---- what stands at the greatest value
at_most : (n load : ℕ) → 0 < load → most_hang ≤ n * load → most_hang ≤ min n most_hang * load
at_most n load p h = let most = le-mul_of_pos_right most_hang p in vast_min n most_hang load h most

pub hang_saturated : (n load : ℕ) → 0 < load → KeepsHang (min n most_hang) n load
hang_saturated n load p =
    ⊎_elim
    (λ h. inl (omega arith))
    (λ h. let most : most_hang ≤ most_hang * load = le-mul_of_pos_right most_hang p in
    let vast : most_hang ≤ n * load = vast_more most_hang n load load h (omega arith) most in
    inr (record { of_kept = at_most n load p vast; of_hang = vast }))
    (cases_lt n most_hang)

pub hang_plus : (kept hang more load : ℕ) → 0 < load → KeepsHang kept hang load → KeepsHang (min (kept + more) most_hang) (hang + more) load
hang_plus kept hang more load p =
    ⊎_elim
    (λ x. rw x (hang_saturated (hang + more) load p))
    (λ x. inr (record {
      of_kept = at_most (kept + more) load p (vast_more kept (kept + more) load load (omega arith) (omega arith) x.of_kept);
      of_hang = vast_more hang (hang + more) load load (omega arith) (omega arith) x.of_hang;
    }))

-- ---- at a rate of p / s, which touches so many cycles
slower_hang : (n more load p s times : ℕ) → 0 < p → p ≤ times * s → n * load ≤ div_ceil ((n + more) * s) p * (times * load)
slower_hang n more load p s times positive h =
    let hang = div_ceil ((n + more) * s) p in
    let whole : (n + more) * s ≤ hang * p = (div_ceil_times ((n + more) * s) p positive).0 in
    let least : n * s ≤ (n + more) * s = mul-le-mul_right s (omega arith) in
    let below : n * s ≤ hang * p = omega arith in
    let first : p * (n * load) ≤ (times * s) * (n * load) = mul-le-mul_right (n * load) h in
    let second : (n * s) * (times * load) ≤ (hang * p) * (times * load) = mul-le-mul_right (times * load) below in
    le_of_mul-le-mul_left {k = p} (omega arith) positive

pub hang_fast : (kept hang more load p s times : ℕ) → 0 < p → p ≤ times * s → KeepsHang kept hang load
    → KeepsHang (min (div_ceil ((kept + more) * s) p) most_hang) (div_ceil ((hang + more) * s) p) (1 + times * load)
hang_fast kept hang more load p s times positive h =
    ⊎_elim
    (λ x. rw x (hang_saturated (div_ceil ((hang + more) * s) p) (1 + times * load) (omega arith)))
    (λ x. inr (record {
      of_kept = at_most (div_ceil ((kept + more) * s) p) (1 + times * load) (omega arith) (above kept x.of_kept);
      of_hang = above hang x.of_hang;
    }))
  where
    above : (n : ℕ) → most_hang ≤ n * load → most_hang ≤ div_ceil ((n + more) * s) p * (1 + times * load)
    above n v =
        let hang = div_ceil ((n + more) * s) p in
        let product : n * load ≤ hang * (times * load) = slower_hang n more load p s times positive h in
        let further : hang * (times * load) ≤ hang * (1 + times * load) = mul-le-mul_left hang (omega arith) in
        omega arith

-- ---- how many cycles a whole touches: as a word it is exact, or the load is past a word
great_hang : (n load : ℕ) → load < most_word → most_hang ≤ n * load → 2 ^ 63 ≤ n
great_hang n load h v =
    ⊎_elim
    (λ x. let small : n ≤ 2 ^ 63 = omega arith in
    let less : load ≤ most_word = omega arith in
    let product : n * load ≤ 2 ^ 63 * most_word = mul-le-mul small less in
    absurd (omega arith))
    (λ x. x)
    (cases_lt n (2 ^ 63))

pub span_kept : (kept hang load : ℕ) → KeepsHang kept hang load → KeepsCount (capped (2 * kept + 1)) (2 * hang + 1) load
span_kept kept hang load =
    ⊎_elim
    (λ x. inl (ap (λ n. capped (2 * n + 1)) x))
    (λ x. ⊎_elim
    (λ y. let first = great_hang kept load y x.of_kept in let second = great_hang hang load y x.of_hang in inl (omega arith))
    inr
    (cases_lt load most_word))

-- ---- products and sums of numbers that are kept
pub count_times : (a b c d load : ℕ) → KeepsCount a c load → KeepsCount b d load → KeepsCount (capped (a * b)) (c * d) load
count_times a b c d load h k =
    ⊎_elim (λ x. ⊎_elim (λ y. inl (ap (λ n. capped (n * b)) x ∙ ap (λ n. capped (capped c * n)) y ∙ capped_times c d)) inr k) inr h

pub count_plus : (a b c d load : ℕ) → KeepsCount a c load → KeepsCount b d load → KeepsCount (capped (a + b)) (c + d) load
count_plus a b c d load h k = ⊎_elim (λ x. ⊎_elim (λ y. inl (omega arith)) inr k) inr h

pub count_max : (a b c d load : ℕ) → KeepsCount a c load → KeepsCount b d load → KeepsCount (max a b) (max c d) load
count_max a b c d load h k = ⊎_elim (λ x. ⊎_elim (λ y. inl (omega arith)) inr k) inr h

-- ---- how many cycles a rate touches
rounded_times : (p s : ℕ) → 0 < s → p ≤ (div_ceil p s + 1) * s
rounded_times p s positive = let whole = (div_ceil_times p s positive).0 in omega arith

pub touched_enough : (r : Rational) → upper r ≤ touched r * lower r
touched_enough r = grind (arith, nat_tests, rounded_times (upper r) (lower r) (lower_positive r))

pub touched_positive : (r : Rational) → 0 < upper r → 0 < touched r
touched_positive r p =
    ⊎_elim
    (λ h. let enough = touched_enough r in let none : touched r * lower r ≤ 0 * lower r = mul-le-mul_right (lower r) (omega arith) in absurd (omega arith))
    (λ h. h)
    (cases_lt (touched r) 1)
