-- The bits of words that are joined, cut and complemented.
use Rattle.std.proofs.Common.{◌≡◌, ℕ, zero, suc, ◌+◌, ◌-◌, ◌*◌, ◌/◌, ◌%◌, ◌^◌, ◌<◌, ◌≤◌, ◌==◌, Bool, true, false, not, List, [], ◌∷◌, ◌++◌, length, map}
use Rattle.std.proofs.Common.{take, drop, Some, refl, sym, ap, ◌∙◌, zero-add, arith, pow-suc}
use Rattle.std.specs.List.{slice_get}
use Rattle.std.proofs.lemmas.Grind.{common_steps}
use Rattle.std.specs.Int.{from_bool}
use Rattle.std.specs.Int.Bits.{bit_or}
use Rattle.std.proofs.lemmas.Nat.{shr-shr, shr_split, pow_pos, pow-add, shl_whole, or_shifted}
use Rattle.std.proofs.lemmas.Nat.Bits.{ones_shr}
use Rattle.std.proofs.Math.Nat.{mul-le-mul_right}
use Rattle.std.proofs.Math.Seq.{take-append_seam, drop-append_seam}
use Rattle.tdl_euclid.specs.Bits.{bits, is_odd}
use Rattle.tdl_euclid.specs.Stored.{length-bits, half_below}

-- the value at a place
pub get-bits : (len i word : ℕ) → i < len → slice_get (bits len word) i ≡ Some (is_odd (word / 2 ^ i))
unfolding bits
get-bits zero i word h = absurd (omega arith)
get-bits (suc len) zero word h = let same : word ≡ word / 1 = omega arith in ap (λ w. Some (is_odd w)) same
get-bits (suc len) (suc i) word h =
    let next : 1 + i ≡ suc i = omega arith in
    let same : word / 2 / 2 ^ i ≡ word / 2 ^ suc i = shr-shr word 1 i ∙ ap (λ k. word / 2 ^ k) next in
    get-bits len i (word / 2) (omega arith) ∙ ap (λ w. Some (is_odd w)) same

-- a word above the bits of another
pub bits-join : (n m low high : ℕ) → low < 2 ^ n → bits (n + m) (high * 2 ^ n + low) ≡ bits n low ++ bits m high
unfolding bits
bits-join zero m low high h =
    let same : high * 1 + low ≡ high = omega arith in
    ap (λ k. bits k (high * 1 + low)) (zero-add m) ∙ ap (λ w. bits m w) same
bits-join (suc n) m low high h =
    let wide : high * 2 ^ suc n ≡ high * (2 ^ n * 2) = ap (λ x. high * x) (pow-suc 2 n) in
    let half : (high * 2 ^ suc n + low) / 2 ≡ high * 2 ^ n + low / 2 = omega arith in
    let parity : (high * 2 ^ suc n + low) % 2 ≡ low % 2 = omega arith in
    let longer : suc n + m ≡ suc (n + m) = omega arith in
    ap (λ k. bits k (high * 2 ^ suc n + low)) longer
    ∙ (ap (λ r. (r == 1) ∷ bits (n + m) ((high * 2 ^ suc n + low) / 2)) parity
    ∙ ap (λ xs. is_odd low ∷ xs) (ap (λ w. bits (n + m) w) half ∙ bits-join n m (low / 2) high (half_below n low h)))

pub rem_below : (word n : ℕ) → word % 2 ^ n < 2 ^ n
rem_below word n = let some : 0 < 2 ^ n = pow_pos n in omega arith

-- a word in two parts
bits_parts : (n len word : ℕ) → n ≤ len → bits len word ≡ bits n (word % 2 ^ n) ++ bits (len - n) (word / 2 ^ n)
bits_parts n len word h =
    let lens : len ≡ n + (len - n) = omega arith in
    ap (λ k. bits k word) lens
    ∙ (ap (λ w. bits (n + (len - n)) w) (sym (shr_split word n))
    ∙ bits-join n (len - n) (word % 2 ^ n) (word / 2 ^ n) (rem_below word n))

pub take-bits : (n len word : ℕ) → n ≤ len → take n (bits len word) ≡ bits n (word % 2 ^ n)
take-bits n len word h =
    ap (λ xs. take n xs) (bits_parts n len word h)
    ∙ (ap (λ k. take k (bits n (word % 2 ^ n) ++ bits (len - n) (word / 2 ^ n))) (sym (length-bits n (word % 2 ^ n)))
    ∙ take-append_seam (bits n (word % 2 ^ n)) (bits (len - n) (word / 2 ^ n)))

pub drop-bits : (n len word : ℕ) → n ≤ len → drop n (bits len word) ≡ bits (len - n) (word / 2 ^ n)
drop-bits n len word h =
    ap (λ xs. drop n xs) (bits_parts n len word h)
    ∙ (ap (λ k. drop k (bits n (word % 2 ^ n) ++ bits (len - n) (word / 2 ^ n))) (sym (length-bits n (word % 2 ^ n)))
    ∙ drop-append_seam (bits n (word % 2 ^ n)) (bits (len - n) (word / 2 ^ n)))

-- numbers whose sum is odd
odd_other : (a b half : ℕ) → a + b ≡ 2 * half + 1 → is_odd a ≡ not (is_odd b)
odd_other a b half h = grind (arith, common_steps)

pub map-not-bits : (len word : ℕ) → word < 2 ^ len → bits len (2 ^ len - 1 - word) ≡ map not (bits len word)
unfolding bits
map-not-bits zero word h = refl
map-not-bits (suc len) word h =
    let wide : 2 ^ suc len ≡ 2 ^ len * 2 = pow-suc 2 len in
    let half : (2 ^ suc len - 1 - word) / 2 ≡ 2 ^ len - 1 - word / 2 = omega arith in
    let sum : 2 ^ suc len - 1 - word + word ≡ 2 * (2 ^ len - 1) + 1 = omega arith in
    ap (λ x. x ∷ bits len ((2 ^ suc len - 1 - word) / 2)) (odd_other _ _ _ sum)
    ∙ ap (λ xs. not (is_odd word) ∷ xs) (ap (λ w. bits len w) half ∙ map-not-bits len (word / 2) (half_below len word h))

pub bits-from_bool : (value : Bool) (word : ℕ) → word ≡ from_bool value → bits 1 word ≡ value ∷ []
unfolding bits
bits-from_bool true word same = ap (λ w. is_odd w ∷ []) same
bits-from_bool false word same = ap (λ w. is_odd w ∷ []) same

pub length-values : (len word : ℕ) (values : List Bool) → bits len word ≡ values → len ≡ length values
length-values len word values same = sym (length-bits len word) ∙ ap (λ xs. length xs) same

-- what the code computes of two words
pub shl_or : (n m low high : ℕ) → low < 2 ^ n → high < 2 ^ m → n + m ≤ 128 →
    bit_or (high * 2 ^ n % 340282366920938463463374607431768211456) low ≡ high * 2 ^ n + low
shl_or n m low high l h fits =
    let whole : high * 2 ^ n % 2 ^ 128 ≡ high * 2 ^ n = shl_whole high m n 128 h (omega arith) in
    ap (λ x. bit_or x low) whole ∙ or_shifted high n low l

pub join_below : (n m low high : ℕ) → low < 2 ^ n → high < 2 ^ m → high * 2 ^ n + low < 2 ^ (n + m)
join_below n m low high l h =
    let upper : (high + 1) * 2 ^ n ≤ 2 ^ m * 2 ^ n = mul-le-mul_right (2 ^ n) (omega arith) in
    omega (arith, pow-add 2 n m)

-- the word with all of its bits set
pub ones-shr : (len : ℕ) → len ≤ 128 → 340282366920938463463374607431768211455 / 2 ^ (128 - len) ≡ 2 ^ len - 1
ones-shr len h =
    let less : 128 - len ≤ 128 = omega arith in
    let same : 128 - (128 - len) ≡ len = omega arith in
    ones_shr 128 (128 - len) less ∙ ap (λ k. 2 ^ k - 1) same
