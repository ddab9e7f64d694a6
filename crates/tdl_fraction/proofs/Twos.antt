-- Greatest common divisors by factors of two.
use Rattle.std.specs.Prelude.{◌≡◌, ℕ, zero, suc, ◌+◌, ◌-◌, ◌*◌, ◌/◌, ◌%◌, ◌^◌, ◌<◌, ◌≤◌, min}
use Rattle.std.specs.Int.{bit_at, trailing_zeros, w64, abs_diff}
use Rattle.std.proofs.Common.{refl, sym, ap, ap₂, ◌∙◌, arith, ⊎_elim, eq-zero-or-pos, zero-mul}
use Rattle.std.proofs.lemmas.Bool.{cases_lt}
use Rattle.std.proofs.lemmas.Nat.{mod-pow-add, pow-add, pow_pos, shr_split}
use Rattle.std.proofs.lemmas.Nat.Bits.{bit_at-trailing_zeros}
use Rattle.std.proofs.lemmas.Nat.Gcd.{IsGcd-from_sub}
use Rattle.std.proofs.Math.Nat.{min-eq_left, min-eq_right, mul_assoc, mul_comm, one-mul, pow-suc, div-div-eq-div-mul}
use Rattle.tdl_fraction.specs.Divisor.{gcd}
use Rattle.tdl_fraction.specs.LowestTerms.{IsGcd-gcd}
use Rattle.tdl_fraction.proofs.Coprime.{gcd_comm, gcd_is, gcd_scaled, gcd_without, one-gcd, product_coprime}
use Rattle.tdl_fraction.proofs.Euclid.{gcd-mod, gcd-one}

-- ---- odd parts
-- nothing is left over by 2^t, where the lowest t digits are 0
low_zeros : (t n : ℕ) → ((i : ℕ) → i < t → bit_at n i ≡ 0) → n % 2 ^ t ≡ 0
low_zeros zero n h = omega arith
low_zeros (suc t) n h =
    let top : n / 2 ^ t % 2 ≡ 0 = h t (omega arith) in
    let rest = low_zeros t n (λ i l. h i (omega arith)) in
    let both : n % 2 ^ (1 + t) ≡ 0 = mod-pow-add n 1 t ∙ ap₂ (λ x y. x * 2 ^ t + y) top rest ∙ omega (arith, zero-mul (2 ^ t)) in
    let more : suc t ≡ 1 + t = omega arith in
    ap (λ x. n % 2 ^ x) more ∙ both

-- a number without its twos is odd
pub odd_part-odd : (n : ℕ) → 0 < n → n < 2 ^ 64 → (n / 2 ^ trailing_zeros w64 n) % 2 ≡ 1
odd_part-odd n p f = (bit_at-trailing_zeros w64 n p f).1

-- and with them it is the number
pub odd_part-times : (n : ℕ) → 0 < n → n < 2 ^ 64 → n ≡ (n / 2 ^ trailing_zeros w64 n) * 2 ^ trailing_zeros w64 n
odd_part-times n p f =
    let none = low_zeros (trailing_zeros w64 n) n (bit_at-trailing_zeros w64 n p f).2 in
    let split = shr_split n (trailing_zeros w64 n) in
    omega arith

-- ---- divisors of odd numbers
-- 2 shares nothing with an odd number
two_apart : (a : ℕ) → a % 2 ≡ 1 → gcd 2 a ≡ 1
two_apart a h = gcd_comm 2 a ∙ sym (gcd-mod a 2) ∙ ap (gcd 2) h ∙ gcd-one 2

-- and no power of two does
power_apart : (k a : ℕ) → a % 2 ≡ 1 → gcd (2 ^ k) a ≡ 1
power_apart zero a h = one-gcd 1 a refl
power_apart (suc k) a h = ap (λ x. gcd x a) (pow-suc 2 k) ∙ product_coprime (2 ^ k) 2 a (power_apart k a h) (two_apart a h)

-- so twos make no difference to what a number shares with an odd one
pub gcd_odd : (m n k : ℕ) → m % 2 ≡ 1 → gcd m (n * 2 ^ k) ≡ gcd m n
gcd_odd m n k h =
    ⊎_elim
    (λ z. let e : n * 2 ^ k ≡ n = rw z (zero-mul (2 ^ k)) in ap (gcd m) e)
    (λ p. gcd_comm m (n * 2 ^ k) ∙ gcd_without n (2 ^ k) m p (power_apart k m h) ∙ gcd_comm n m)
    (eq-zero-or-pos n)

-- the twos of the one that has fewer stand before the divisor of the rest
gcd_fewer : (m n i j : ℕ) → m % 2 ≡ 1 → i ≤ j → gcd (m * 2 ^ i) (n * 2 ^ j) ≡ gcd m n * 2 ^ i
gcd_fewer m n i j h l =
    let sum : j ≡ (j - i) + i = omega arith in
    let apart : n * 2 ^ j ≡ n * 2 ^ (j - i) * 2 ^ i =
    ap (λ x. n * 2 ^ x) sum ∙ ap (λ x. n * x) (pow-add 2 (j - i) i) ∙ sym (mul_assoc n (2 ^ (j - i)) (2 ^ i)) in
    ap (gcd (m * 2 ^ i)) apart ∙ gcd_scaled m (n * 2 ^ (j - i)) (2 ^ i) (pow_pos i) ∙ ap (λ x. x * 2 ^ i) (gcd_odd m n (j - i) h)

-- the divisor of two numbers is that of their odd parts, times the twos that both have
pub gcd_twos : (m n i j : ℕ) → m % 2 ≡ 1 → n % 2 ≡ 1 → gcd (m * 2 ^ i) (n * 2 ^ j) ≡ gcd m n * 2 ^ min i j
gcd_twos m n i j h k =
    ⊎_elim
    (λ l. let few : i ≤ j = omega arith in gcd_fewer m n i j h few ∙ ap (λ x. gcd m n * 2 ^ x) (sym (min-eq_left few)))
    (λ l.
    gcd_comm (m * 2 ^ i) (n * 2 ^ j) ∙ gcd_fewer n m j i k l ∙ ap (λ x. x * 2 ^ j) (gcd_comm n m)
    ∙ ap (λ x. gcd m n * 2 ^ x) (sym (min-eq_right l)))
    (cases_lt i j)

-- so it is made of the divisor of two odd parts and the twos that both have
pub gcd_parts : (a b m n i j d t : ℕ) → a ≡ m * 2 ^ i → b ≡ n * 2 ^ j → m % 2 ≡ 1 → n % 2 ≡ 1 → d ≡ gcd m n → t ≡ min i j → gcd a b ≡ d * 2 ^ t
gcd_parts a b m n i j d t e f h k same twos = ap₂ gcd e f ∙ gcd_twos m n i j h k ∙ ap₂ (λ x y. x * 2 ^ y) (sym same) (sym twos)

-- a shift and a quotient divide by both
pub quotient_by_parts : (a g d t : ℕ) → g ≡ d * 2 ^ t → a / 2 ^ t / d ≡ a / g
quotient_by_parts a g d t e = div-div-eq-div-mul a (2 ^ t) d ∙ ap (λ x. a / x) (mul_comm (2 ^ t) d ∙ sym e)

-- and the shift is enough where only twos are shared
pub quotient_by_twos : (a g d t : ℕ) → g ≡ d * 2 ^ t → d ≡ 1 → a / 2 ^ t ≡ a / g
quotient_by_twos a g d t e one = ap (λ x. a / x) (sym (e ∙ ap (λ x. x * 2 ^ t) one ∙ one-mul (2 ^ t)))

-- ---- differences
-- a number taken off a greater one leaves their divisor
gcd_less : (x y : ℕ) → y ≤ x → gcd (x - y) y ≡ gcd x y
gcd_less x y l = sym (gcd_is x y (gcd (x - y) y) (IsGcd-from_sub x y _ l (IsGcd-gcd (x - y) y)))

-- so the difference may stand in place of the greater number
pub gcd_difference : (x y : ℕ) → gcd (abs_diff x y) (min x y) ≡ gcd x y
gcd_difference x y =
    ⊎_elim
    (λ l.
    let less : x ≤ y = omega arith in
    let e : abs_diff x y ≡ y - x = omega arith in
    ap₂ gcd e (min-eq_left less) ∙ gcd_less y x less ∙ gcd_comm y x)
    (λ l. let e : abs_diff x y ≡ x - y = omega arith in ap₂ gcd e (min-eq_right l) ∙ gcd_less x y l)
    (cases_lt x y)

-- the lesser of two odd numbers is odd
pub min_odd : (x y : ℕ) → x % 2 ≡ 1 → y % 2 ≡ 1 → min x y % 2 ≡ 1
min_odd x y h k =
    ⊎_elim
    (λ l. let less : x ≤ y = omega arith in ap (λ z. z % 2) (min-eq_left less) ∙ h)
    (λ l. ap (λ z. z % 2) (min-eq_right l) ∙ k)
    (cases_lt x y)

-- and of odd numbers the odd part of the difference
pub gcd_odd_difference : (x y d o t : ℕ) → x % 2 ≡ 1 → y % 2 ≡ 1 → d ≡ abs_diff x y → d ≡ o * 2 ^ t → gcd o (min x y) ≡ gcd x y
gcd_odd_difference x y d o t h k e f =
    gcd_comm o (min x y) ∙ sym (gcd_odd (min x y) o t (min_odd x y h k)) ∙ ap (gcd (min x y)) (sym f ∙ e)
    ∙ gcd_comm (min x y) (abs_diff x y) ∙ gcd_difference x y
