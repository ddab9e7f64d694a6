-- Numbers capped at the greatest word: a sum, a product and a least common multiple of capped numbers, capped, is
-- that of the numbers.
use Rattle.std.proofs.Common.{◌≡◌, ℕ, zero, suc, ◌+◌, ◌*◌, ◌-◌, ◌^◌, ◌<◌, ◌≤◌, min, sym, ap, ◌∙◌, arith, ⊎_elim, inl, inr, ◌⊎◌}
use Rattle.std.proofs.lemmas.Bool.{cases_lt}
use Rattle.std.proofs.Math.Nat.{mul_comm, mul-zero, le-mul_of_pos_right}
use Rattle.tdl_fraction.specs.Divisor.{lcm}
use Rattle.tdl_expr.proofs.Numbers.{le_lcm_left, le_lcm_right}
use Rattle.tdl_compile.specs.Compiled.{capped}
use Rattle.tdl_compile.specs.inside.Sizes.{most_word}

-- a number is its own cap, or is past a word
pub cases_capped : (n : ℕ) → (capped n ≡ n) ⊎ ((capped n ≡ most_word) × (most_word ≤ n))
cases_capped n = ⊎_elim (λ h. inl (omega arith)) (λ h. inr (omega arith, h)) (cases_lt n most_word)

pub capped_plus : (a b : ℕ) → capped (capped a + capped b) ≡ capped (a + b)
capped_plus a b = omega arith

-- what is past a word stays so where it is multiplied
times_past : (a b : ℕ) → 0 < b → most_word ≤ a → most_word ≤ a * b
times_past a b p h = let l = le-mul_of_pos_right a p in omega arith

-- two numbers, of which neither or both are past a word
pub both_past : (a b : ℕ) → most_word ≤ a → most_word ≤ b → capped a ≡ capped b
both_past a b h k = omega arith

pub capped_positive : (n : ℕ) → 0 < n → 0 < capped n
capped_positive n h = omega arith

times_left : (a b : ℕ) → capped (capped a * b) ≡ capped (a * b)
times_left a zero = ap capped (mul-zero (capped a) ∙ sym (mul-zero a))
times_left a (suc b) =
    ⊎_elim
    (λ x. ap (λ m. capped (m * suc b)) x)
    (λ x. both_past (capped a * suc b) (a * suc b)
    (times_past (capped a) (suc b) (omega arith) (omega arith)) (times_past a (suc b) (omega arith) x.1))
    (cases_capped a)

pub capped_times_right : (a b : ℕ) → capped (a * capped b) ≡ capped (a * b)
capped_times_right a b = ap capped (mul_comm a (capped b)) ∙ times_left b a ∙ ap capped (mul_comm b a)

pub capped_times : (a b : ℕ) → capped (capped a * capped b) ≡ capped (a * b)
capped_times a b = times_left a (capped b) ∙ capped_times_right a b

pub capped_lcm : (a b : ℕ) → 0 < a → 0 < b → capped (lcm (capped a) (capped b)) ≡ capped (lcm a b)
capped_lcm a b p q =
    ⊎_elim
    (λ x. ⊎_elim
    (λ y. ap capped (ap (λ m. lcm m (capped b)) x ∙ ap (λ m. lcm a m) y))
    (λ y. both_past (lcm (capped a) (capped b)) (lcm a b)
    (let l = le_lcm_right (capped a) (capped b) (capped_positive a p) (capped_positive b q) in omega arith)
    (let l = le_lcm_right a b p q in omega arith))
    (cases_capped b))
    (λ x. both_past (lcm (capped a) (capped b)) (lcm a b)
    (let l = le_lcm_left (capped a) (capped b) (capped_positive a p) (capped_positive b q) in omega arith)
    (let l = le_lcm_left a b p q in omega arith))
    (cases_capped a)

pub capped_lcm_left : (a b : ℕ) → 0 < a → 0 < b → capped (lcm (capped a) b) ≡ capped (lcm a b)
capped_lcm_left a b p q =
    ⊎_elim
    (λ x. ap (λ m. capped (lcm m b)) x)
    (λ x. both_past (lcm (capped a) b) (lcm a b)
    (let l = le_lcm_left (capped a) b (capped_positive a p) q in omega arith)
    (let l = le_lcm_left a b p q in omega arith))
    (cases_capped a)

-- ---- sizes of two words, before they are capped
pub capped_word : (n : ℕ) → capped (min n (2 ^ 128 - 1)) ≡ capped n
capped_word n = omega arith
