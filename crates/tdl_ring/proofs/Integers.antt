-- The whole numbers are a commutative ring.
use Rattle.std.proofs.Common.{◌≡◌, ℕ, ◌+◌, ◌*◌, ℤ, pos, ◌+ℤ◌, ◌-ℤ◌, ◌*ℤ◌, neg_ℤ, arith, refl, sym, ap}
use lib.IntN.{+ℤ_assoc, +ℤ_comm, +ℤ_idr, +ℤ_invr, *ℤ_comm}
use borrow.Author.Differences.{up, down, same_in, product_is, sum_is_lem}
use Rattle.tdl_ring.specs.Ring.{CommutativeRing}

-- times is associative
pub int_times_assoc : (a b c : ℤ) → (a *ℤ b) *ℤ c ≡ a *ℤ (b *ℤ c)
int_times_assoc a b c =
    let ab = product_is a b in
    let bc = product_is b c in
    let by = λ (k : ℕ) (m n : ℕ) (e : m ≡ n). ap (λ x. x * k) e in
    let left = product_is (a *ℤ b) c in
    let right = product_is a (b *ℤ c) in
    let ups : up ((a *ℤ b) *ℤ c) ≡ up (a *ℤ (b *ℤ c)) =
    omega (arith, by (up c) _ _ ab.0, by (down c) _ _ ab.1, by (up a) _ _ bc.0, by (down a) _ _ bc.1) in
    let downs : down ((a *ℤ b) *ℤ c) ≡ down (a *ℤ (b *ℤ c)) =
    omega (arith, by (down c) _ _ ab.0, by (up c) _ _ ab.1, by (down a) _ _ bc.0, by (up a) _ _ bc.1) in
    same_in _ _ (λ i. ups i + sym downs i)

-- times distributes over plus
pub int_times_plus : (a b c : ℤ) → a *ℤ (b +ℤ c) ≡ (a *ℤ b) +ℤ (a *ℤ c)
int_times_plus a b c =
    let bc = sum_is_lem b c in
    let by = λ (k : ℕ) (m n : ℕ) (e : m ≡ n). ap (λ x. k * x) e in
    let ab = product_is a b in
    let ac = product_is a c in
    let whole = product_is a (b +ℤ c) in
    let both = sum_is_lem (a *ℤ b) (a *ℤ c) in
    same_in _ _ (omega (arith, by (up a) _ _ bc, by (down a) _ _ bc))

-- one is neutral
pub int_times_one : (a : ℤ) → a *ℤ pos 1 ≡ a
int_times_one a = let it = product_is a (pos 1) in same_in _ _ (omega arith)

-- the ring of the integers, in which a whole number is itself
abbrev pub integers : CommutativeRing ℤ
integers = record {
  zero = pos 0;
  one = pos 1;
  plus = ◌+ℤ◌;
  times = ◌*ℤ◌;
  negate = neg_ℤ;
  minus = ◌-ℤ◌;
  whole = λ n. n;
  plus_assoc = +ℤ_assoc;
  plus_comm = +ℤ_comm;
  plus_zero = +ℤ_idr;
  plus_negate = +ℤ_invr;
  minus_is = λ a b. refl;
  times_assoc = int_times_assoc;
  times_comm = *ℤ_comm;
  times_one = int_times_one;
  times_plus = int_times_plus;
  whole_zero = refl;
  whole_one = refl;
  whole_plus = λ m n. refl;
  whole_times = λ m n. refl;
}
