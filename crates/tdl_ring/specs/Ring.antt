-- A commutative ring on a carrier: its operations, what a whole number is in it, and the laws.
use Rattle.std.specs.Prelude.{◌≡◌, ℤ, pos, ◌+ℤ◌, ◌*ℤ◌}

pub record CommutativeRing (A : Type 0) : Type 0 where
  pub zero : A
  pub one : A
  pub plus : A → A → A
  pub times : A → A → A
  pub negate : A → A
  pub minus : A → A → A
  -- the whole number n, as n times one
  pub whole : ℤ → A
  pub plus_assoc : (a b c : A) → plus (plus a b) c ≡ plus a (plus b c)
  pub plus_comm : (a b : A) → plus a b ≡ plus b a
  pub plus_zero : (a : A) → plus a zero ≡ a
  pub plus_negate : (a : A) → plus a (negate a) ≡ zero
  pub minus_is : (a b : A) → minus a b ≡ plus a (negate b)
  pub times_assoc : (a b c : A) → times (times a b) c ≡ times a (times b c)
  pub times_comm : (a b : A) → times a b ≡ times b a
  pub times_one : (a : A) → times a one ≡ a
  pub times_plus : (a b c : A) → times a (plus b c) ≡ plus (times a b) (times a c)
  pub whole_zero : whole (pos 0) ≡ zero
  pub whole_one : whole (pos 1) ≡ one
  pub whole_plus : (m n : ℤ) → whole (m +ℤ n) ≡ plus (whole m) (whole n)
  pub whole_times : (m n : ℤ) → whole (m *ℤ n) ≡ times (whole m) (whole n)
