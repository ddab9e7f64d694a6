-- What is at most so many times what is asked for.
use Rattle.std.proofs.Common.{◌≡◌, ℕ, ◌+◌, ◌*◌, ◌/◌, ◌<◌, ◌≤◌, max, ⊎_elim, sym, subst, arith}
use Rattle.std.specs.Int.{div_ceil}
use Rattle.std.proofs.lemmas.Bool.{cases_lt}
use Rattle.std.proofs.lemmas.Grind.{div_ceil_times}
use Rattle.std.proofs.Math.Nat.{mul-pos, mul-le-mul_left, mul-le-mul_right, le-mul_of_pos_right}
use Rattle.tdl_fraction.specs.Divisor.{gcd, lcm}
use Rattle.tdl_fraction.proofs.Euclid.{gcd_positive}
use Rattle.tdl_expr.specs.Bounds.{shared_out}
use Rattle.tdl_expr.proofs.Numbers.{gcd_positive_left}
use Rattle.tdl_compile.specs.Compiled.{capped}
use Rattle.tdl_compile.specs.inside.Sizes.{most_word}

abbrev pub FinerBy : ℕ → (ℕ → ℕ) → Type 0
FinerBy s finest = s < most_word → (q : ℕ) → 0 < q → finest q ≤ s * q

abbrev pub FurtherBy : ℕ → (ℕ → ℕ) → Type 0
FurtherBy k furthest = k < most_word → (m : ℕ) → furthest m + 1 ≤ k * (m + 1)

pub finer_max : (s t : ℕ) (first second all : ℕ → ℕ) → FinerBy s first → FinerBy t second → ((q : ℕ) → all q ≡ max (first q) (second q))
    → FinerBy (max s t) all
finer_max s t first second all f g is h q p =
    let one = f (omega arith) q p in
    let other = g (omega arith) q p in
    let more : s * q ≤ max s t * q = mul-le-mul_right q (omega arith) in
    let most : t * q ≤ max s t * q = mul-le-mul_right q (omega arith) in
    omega (arith, is q)

pub further_max : (s t : ℕ) (first second all : ℕ → ℕ) → FurtherBy s first → FurtherBy t second → ((m : ℕ) → all m ≡ max (first m) (second m))
    → FurtherBy (max s t) all
further_max s t first second all f g is h m =
    let one = f (omega arith) m in
    let other = g (omega arith) m in
    let more : s * (m + 1) ≤ max s t * (m + 1) = mul-le-mul_right (m + 1) (omega arith) in
    let most : t * (m + 1) ≤ max s t * (m + 1) = mul-le-mul_right (m + 1) (omega arith) in
    omega (arith, is m)

-- where something is asked at most so many times as finely
pub finer_asked : (s times : ℕ) (finest ask all : ℕ → ℕ) → 0 < times → FinerBy s finest → ((q : ℕ) → 0 < q → 0 < ask q)
    → ((q : ℕ) → 0 < q → ask q ≤ times * q) → ((q : ℕ) → all q ≡ finest (ask q)) → FinerBy (capped (s * times)) all
finer_asked s times finest ask all some f positive most is h q p =
    let least : s ≤ s * times = le-mul_of_pos_right s some in
    let met = f (omega arith) (ask q) (positive q p) in
    let product : s * ask q ≤ s * (times * q) = mul-le-mul_left s (most q p) in
    let exact : capped (s * times) ≡ s * times = omega arith in
    let P : ℕ → Type 0 = λ n. all q ≤ n * q in
    subst P (sym exact) (omega (arith, is q))

-- and as far
pub further_asked : (s times : ℕ) (furthest far all : ℕ → ℕ) → 0 < times → FurtherBy s furthest → ((m : ℕ) → far m + 1 ≤ times * (m + 1))
    → ((m : ℕ) → all m ≡ furthest (far m)) → FurtherBy (capped (s * times)) all
further_asked s times furthest far all some f most is h m =
    let least : s ≤ s * times = le-mul_of_pos_right s some in
    let met = f (omega arith) (far m) in
    let product : s * (far m + 1) ≤ s * (times * (m + 1)) = mul-le-mul_left s (most m) in
    let exact : capped (s * times) ≡ s * times = omega arith in
    let P : ℕ → Type 0 = λ n. all m + 1 ≤ n * (m + 1) in
    subst P (sym exact) (omega (arith, is m))

-- ---- how much is asked at most
quotient_at_most : (n d : ℕ) → 0 < d → n / d ≤ n
quotient_at_most n d p = let more : 1 * (n / d) ≤ d * (n / d) = mul-le-mul_right (n / d) (omega arith) in omega arith

pub shared_at_most : (a n d : ℕ) → 0 < a → 0 < n → shared_out a n d ≤ n * a
shared_at_most a n d p k = let l = quotient_at_most (a * n) (gcd (a * n) d) (gcd_positive_left (a * n) d (mul-pos p k)) in omega arith

pub multiple_at_most : (a b : ℕ) → 0 < b → lcm a b ≤ a * b
unfolding lcm
multiple_at_most a b p = mul-le-mul_left a (quotient_at_most b (gcd a b) (gcd_positive a b p))

pub rounded_at_most : (n d : ℕ) → 0 < d → div_ceil n d ≤ n
rounded_at_most n d p =
    ⊎_elim
    (λ h. let more : (n + 1) * d ≤ div_ceil n d * d = mul-le-mul_right d (omega arith) in
    let rest : n * 1 ≤ n * d = mul-le-mul_left n (omega arith) in
    let least = (div_ceil_times n d p).1 in
    absurd (omega arith))
    (λ h. h)
    (cases_lt n (div_ceil n d))

pub plus_at_most : (n m : ℕ) → m + n + 1 ≤ (n + 1) * (m + 1)
plus_at_most n m = omega arith
