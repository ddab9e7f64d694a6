-- The rounds of several patterns, as the program divides.
use Rattle.std.proofs.Common.{◌≡◌, ℕ, ◌<◌, ◌≤◌, ◌^◌, ℤ, pos, negsuc, ◌-ℤ◌, ◌*ℤ◌, nat_abs, to_z, of_z, w64, sym, ap, ap₂, ◌∙◌, subst, arith}
use Rattle.std.specs.Int.{int_div_euclid, int_rem_euclid}
use Rattle.std.proofs.Math.Nat.{mod-lt}
use Rattle.std.proofs.lemmas.Nat.{div-add-mod'}
use Rattle.std.proofs.lemmas.Int.{ints}
use Rattle.tdl_fraction.proofs.Rounding.{floor-frac}
use Rattle.tdl_meaning.specs.Pattern.{rounds, turn}
use Rattle.tdl_meaning.proofs.Moving.{rounds_passed}

near_word : (n : ℤ) → nat_abs n ≤ 2 ^ 37 → to_z w64 (of_z w64 n) ≡ n
near_word n h = omega (arith, ints)

near_count : (n : ℕ) → n ≤ 2 ^ 32 → to_z w64 n ≡ pos n
near_count n h = omega (arith, ints)

rounds_near : (c : ℤ) (n : ℕ) → 0 < n → nat_abs c ≤ 2 ^ 36 → nat_abs (rounds c n) ≤ 2 ^ 37
rounds_near c n some near = bound c (rounds c n) near (rounds_passed c n some)
  where
    bound : (c r : ℤ) → nat_abs c ≤ 2 ^ 36 → nat_abs (c -ℤ r) ≤ nat_abs c → nat_abs r ≤ 2 ^ 37
    bound c r h k = omega (arith, ints)

pub rounds_worked_out : (c : ℤ) (n : ℕ) (q : ℤ) → nat_abs c ≤ 2 ^ 36 → 0 < n → n ≤ 2 ^ 32
    → q ≡ int_div_euclid (to_z w64 (of_z w64 c)) (to_z w64 n) → to_z w64 (of_z w64 q) ≡ rounds c n
rounds_worked_out c n q near some few e =
    let near' : nat_abs c ≤ 2 ^ 37 = omega arith in
    let same : q ≡ rounds c n = e ∙ ap₂ int_div_euclid (near_word c near') (near_count n few) ∙ sym (floor-frac c n some) in
    ap (λ z. to_z w64 (of_z w64 z)) same ∙ near_word (rounds c n) (rounds_near c n some near)

-- what a quotient leaves
rest_is : (c : ℤ) (n : ℕ) → 0 < n → int_rem_euclid c (pos n) ≡ c -ℤ int_div_euclid c (pos n) *ℤ pos n
rest_is (pos a) n some = omega (arith, ints, div-add-mod' a n)
rest_is (negsuc a) n some = let below = mod-lt a some in omega (arith, ints, div-add-mod' a n)

rest_near : (c : ℤ) (n : ℕ) → 0 < n → n ≤ 2 ^ 32 → nat_abs (int_rem_euclid c (pos n)) ≤ 2 ^ 37
rest_near (pos a) n some few = let below = mod-lt a some in omega (arith, ints)
rest_near (negsuc a) n some few = omega (arith, ints)

pub turn_worked_out : (c : ℤ) (n : ℕ) (r : ℤ) → nat_abs c ≤ 2 ^ 36 → 0 < n → n ≤ 2 ^ 32
    → r ≡ int_rem_euclid (to_z w64 (of_z w64 c)) (to_z w64 n) → nat_abs (to_z w64 (of_z w64 r)) ≡ turn c n
turn_worked_out c n r near some few e =
    let near' : nat_abs c ≤ 2 ^ 37 = omega arith in
    let rest = int_rem_euclid c (pos n) in
    let same : r ≡ rest = e ∙ ap₂ int_rem_euclid (near_word c near') (near_count n few) in
    let left : rest ≡ c -ℤ rounds c n *ℤ pos n = rest_is c n some ∙ ap (λ q. c -ℤ q *ℤ pos n) (sym (floor-frac c n some)) in
    ap (λ z. nat_abs (to_z w64 (of_z w64 z))) same ∙ ap nat_abs (near_word rest (rest_near c n some few) ∙ left)

-- how many cycles a cycle is after the one that its child plays
pub passed_worked_out : (c : ℤ) (n : ℕ) (r d : ℤ) → nat_abs c ≤ 2 ^ 36 → 0 < n → r ≡ rounds c n → d ≡ c -ℤ r → to_z w64 (of_z w64 d) ≡ c -ℤ r
passed_worked_out c n r d near some round e =
    let within : nat_abs (c -ℤ r) ≤ nat_abs c = subst (λ z. nat_abs (c -ℤ z) ≤ nat_abs c) (sym round) (rounds_passed c n some) in
    let near' : nat_abs (c -ℤ r) ≤ 2 ^ 37 = omega arith in
    ap (λ z. to_z w64 (of_z w64 z)) e ∙ near_word (c -ℤ r) near'
