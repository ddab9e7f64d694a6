-- What the machine's steps on words and double words come to.
use Rattle.std.proofs.Common.{◌≡◌, ℕ, ◌+◌, ◌*◌, ◌/◌, ◌%◌, ◌-◌, ◌^◌, ◌<◌, min, sym, ap, ◌∙◌, arith}
use Rattle.std.specs.Int.{div_ceil, ◌∣◌}
use Rattle.std.proofs.lemmas.Nat.Gcd.{dvd_refl}
use Rattle.std.proofs.Math.Nat.{div-add-mod, add-mul-div_left, add-mul-mod_self_left, mul-div_cancel', div-one}
use Rattle.tdl_fraction.specs.Divisor.{gcd, lcm}
use Rattle.tdl_fraction.specs.Rational.{Rational}
use Rattle.tdl_fraction.proofs.Over.{num_den_coprime}
use Rattle.tdl_fraction.proofs.Coprime.{lcm_positive, gcd_is}
use Rattle.tdl_fraction.proofs.Euclid.{gcd-one}
use Rattle.tdl_expr.specs.Bounds.{upper, lower, shared_out}
use Rattle.tdl_expr.proofs.Numbers.{gcd_swap, shared_out_last, shared_positive}
use Rattle.tdl_compile.specs.Compiled.{capped}
use Rattle.tdl_compile.specs.inside.Sizes.{most_hang}
use Rattle.tdl_compile.proofs.Capped.{capped_word, capped_positive}

pub multiple_word : (a b g r : ℕ) → g ≡ gcd a b → r ≡ min (a * (b / g)) (2 ^ 64 - 1) → r ≡ capped (lcm a b)
unfolding lcm
multiple_word a b g r e f = f ∙ ap (λ x. min (a * (b / x)) (2 ^ 64 - 1)) e

pub multiple_positive : (a b r : ℕ) → 0 < a → 0 < b → r ≡ capped (lcm a b) → 0 < r
multiple_positive a b r p q e = let l = capped_positive (lcm a b) (lcm_positive a b p q) in omega arith

-- a multiple of the other number
pub multiple_divided : (a b : ℕ) → a ∣ b → lcm a b ≡ b
unfolding lcm
multiple_divided a b h =
    let divisor : gcd a b ≡ a = gcd_is a b a (dvd_refl a, h, λ k i l. i) in
    ap (λ g. a * (b / g)) divisor ∙ mul-div_cancel' a h

-- without a common divisor of 1
pub quotient_whole : (n g : ℕ) → g ≡ 1 → n ≡ n / g
quotient_whole n g e = sym (ap (λ x. n / x) e ∙ div-one n)

pub gcd_one_second : (a b : ℕ) → b ≡ 1 → gcd a b ≡ 1
gcd_one_second a b e = ap (gcd a) e ∙ gcd-one a

pub multiple_of_one : (a b : ℕ) → b ≡ 1 → lcm a b ≡ a
unfolding lcm
multiple_of_one a b e =
    let quotient : b ≡ b / gcd a b = quotient_whole b (gcd a b) (gcd_one_second a b e) in
    ap (λ x. a * x) (sym quotient ∙ e) ∙ omega arith

pub shared_word : (a n d q : ℕ) → 0 < a → gcd n d ≡ 1 → q ≡ a / gcd a d → n * q ≡ shared_out a n d
shared_word a n d q p c e = ap (λ x. n * x) e ∙ sym (shared_out_last a n d p c)

pub shared_capped : (a n d q m r : ℕ) → 0 < a → gcd n d ≡ 1 → q ≡ a / gcd a d → m ≡ min (n * q) (2 ^ 128 - 1) → r ≡ capped m
    → r ≡ capped (shared_out a n d)
shared_capped a n d q m r p c e f h = h ∙ ap capped f ∙ capped_word (n * q) ∙ ap capped (shared_word a n d q p c e)

pub shared_alone : (a n d q : ℕ) → 0 < a → gcd n d ≡ 1 → q ≡ a / gcd a d → n ≡ 1 → q < 2 ^ 64 → q ≡ capped (shared_out a n d)
shared_alone a n d q p c e one word =
    let whole : n * q ≡ q = ap (λ x. x * q) one ∙ omega arith in
    let same : q ≡ shared_out a n d = sym whole ∙ shared_word a n d q p c e in
    omega arith

pub shared_word_positive : (a n d r : ℕ) → 0 < a → 0 < n → r ≡ capped (shared_out a n d) → 0 < r
shared_word_positive a n d r p q e = let l = capped_positive (shared_out a n d) (shared_positive a n d p q) in omega arith

pub coprime : (r : Rational) → gcd (upper r) (lower r) ≡ 1
coprime r = num_den_coprime r

pub coprime_turned : (r : Rational) → gcd (lower r) (upper r) ≡ 1
coprime_turned r = gcd_swap (lower r) (upper r) ∙ coprime r

-- ---- a hang at a rate, with what the rate's upper part divides taken out before it is multiplied
pub hang_split : (hang broken p s : ℕ) → 0 < p → div_ceil ((hang + broken) * s) p ≡ hang / p * s + div_ceil ((hang % p + broken) * s) p
hang_split hang broken p s positive =
    let rest = (hang % p + broken) * s in
    let whole = hang / p * s in
    let same : (hang + broken) * s ≡ rest + p * whole = omega (arith, ap (λ n. n * s) (div-add-mod hang p)) in
    let quotient : (rest + p * whole) / p ≡ rest / p + whole = add-mul-div_left rest whole positive in
    let remainder : (rest + p * whole) % p ≡ rest % p = add-mul-mod_self_left rest p whole in
    ap (λ n. div_ceil n p) same ∙ omega arith

pub hang_word : (hang broken p s rest out : ℕ) → 0 < p → rest ≡ div_ceil ((hang % p + broken) * s) p
    → out ≡ min (min (hang / p * s) most_hang + rest) most_hang → out ≡ min (div_ceil ((hang + broken) * s) p) most_hang
hang_word hang broken p s rest out positive e f = let split = hang_split hang broken p s positive in omega arith
