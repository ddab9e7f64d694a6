-- What comparisons of cross products say of two rationals.
use Rattle.std.specs.Prelude.{◌≡◌, ℕ, ◌^◌, ◌≤◌, ◌↔◌, Bool, true, false, cond, IsTrue, ℤ, pos, nat_abs, ◌*ℤ◌, int_lt}
use Rattle.std.specs.Ordering.{MatchOrdering, int_cmp}
use Rattle.std.specs.declared.cmp.Ordering.TheVariants.{Less, Equal, Greater}
use Rattle.std.proofs.Common.{Ordering, eqb, refl, sym, ap, ap₂, ◌∙◌, to_z, of_z, arith}
use Rattle.std.proofs.lemmas.Bool.Decides.{nat_tests}
use mir.Syntax.{w128}
use Rattle.tdl_fraction.specs.Rational.{Rational, ◌<ℚ◌, ◌≤ℚ◌, lt_ℚ}
use Rattle.tdl_fraction.proofs.Over.{same_parts, lt_ℚ-true, lt_ℚ-false}
use Rattle.tdl_fraction.proofs.Order.{≤ℚ_antisymm, <ℚ_asymm, ≢_from_<ℚ}
use Rattle.tdl_fraction.proofs.Words128.{near_is}

-- ---- two numbers of 128 bits, passed and compared
pub lt_seen : (a b : ℤ) → nat_abs a ≤ 2 ^ 124 → nat_abs b ≤ 2 ^ 124 → int_lt (to_z w128 (of_z w128 a)) (to_z w128 (of_z w128 b)) ≡ int_lt a b
lt_seen a b h k = ap₂ int_lt (near_is a h) (near_is b k)

-- the ordering of two numbers as they are passed
pub cmp_seen : (a b : ℤ) → nat_abs a ≤ 2 ^ 124 → nat_abs b ≤ 2 ^ 124 → int_cmp (to_z w128 (of_z w128 a)) (to_z w128 (of_z w128 b)) ≡ int_cmp a b
cmp_seen a b h k = ap₂ int_cmp (near_is a h) (near_is b k)

-- the test of cross products is the test of the numbers
pub lt_crossed : (x y : Rational) (a b : ℤ) → a ≡ x.num *ℤ pos y.den → b ≡ y.num *ℤ pos x.den → int_lt a b ≡ lt_ℚ x y
unfolding lt_ℚ
lt_crossed x y a b e f = ap₂ int_lt e f

-- ---- three ways
by_tests : (P Q R : Type 0) (s t : Bool) → (s ≡ true → P) → (t ≡ true → R) → (s ≡ false → t ≡ false → Q)
    → MatchOrdering (cond s Less (cond t Greater Equal)) P Q R
by_tests P Q R true t l g e = l refl
by_tests P Q R false true l g e = g refl
by_tests P Q R false false l g e = e refl refl

-- what an ordering of cross products says
pub cases_from_cmp : (x y : Rational) (a b : ℤ) → a ≡ x.num *ℤ pos y.den → b ≡ y.num *ℤ pos x.den → MatchOrdering (int_cmp a b) (x <ℚ y) (x ≡ y) (y <ℚ x)
cases_from_cmp x y a b e f =
    let s = lt_crossed x y a b e f in
    let t = lt_crossed y x b a f e in
    by_tests (x <ℚ y) (x ≡ y) (y <ℚ x) (int_lt a b) (int_lt b a) (λ l. (lt_ℚ-true x y).0 (sym s ∙ l)) (λ g. (lt_ℚ-true y x).0 (sym t ∙ g))
    (λ l g. ≤ℚ_antisymm ((lt_ℚ-false y x).0 (sym t ∙ g)) ((lt_ℚ-false x y).0 (sym s ∙ l)))

-- of three facts that exclude each other, each holds exactly where the ordering says so
exactly_less : (P Q R : Type 0) (o : Ordering) → MatchOrdering o P Q R → (P → Q → ⊥) → (P → R → ⊥) → (o ≡ Less) ↔ P
exactly_less P Q R Less m n k = (λ _. m, λ _. refl)
exactly_less P Q R Equal m n k = (λ e. absurd (cc), λ p. absurd (n p m))
exactly_less P Q R Greater m n k = (λ e. absurd (cc), λ p. absurd (k p m))

-- the same of the second fact
exactly_equal : (P Q R : Type 0) (o : Ordering) → MatchOrdering o P Q R → (Q → P → ⊥) → (Q → R → ⊥) → (o ≡ Equal) ↔ Q
exactly_equal P Q R Less m n k = (λ e. absurd (cc), λ q. absurd (n q m))
exactly_equal P Q R Equal m n k = (λ _. m, λ _. refl)
exactly_equal P Q R Greater m n k = (λ e. absurd (cc), λ q. absurd (k q m))

-- and of the third
exactly_greater : (P Q R : Type 0) (o : Ordering) → MatchOrdering o P Q R → (R → P → ⊥) → (R → Q → ⊥) → (o ≡ Greater) ↔ R
exactly_greater P Q R Less m n k = (λ e. absurd (cc), λ r. absurd (n r m))
exactly_greater P Q R Equal m n k = (λ e. absurd (cc), λ r. absurd (k r m))
exactly_greater P Q R Greater m n k = (λ _. m, λ _. refl)

module _ (x y : Rational) (o : Ordering) (m : MatchOrdering o (x <ℚ y) (x ≡ y) (y <ℚ x)) where
  -- Less exactly where x is below y
  pub is_less : (o ≡ Less) ↔ (x <ℚ y)
  is_less = exactly_less _ _ _ o m (λ l e. ≢_from_<ℚ l e) (λ l g. <ℚ_asymm l g)

  -- Equal exactly where they are the same
  pub is_equal : (o ≡ Equal) ↔ (x ≡ y)
  is_equal = exactly_equal _ _ _ o m (λ e l. ≢_from_<ℚ l e) (λ e g. ≢_from_<ℚ g (sym e))

  -- Greater exactly where y is below x
  pub is_greater : (o ≡ Greater) ↔ (y <ℚ x)
  is_greater = exactly_greater _ _ _ o m (λ g l. <ℚ_asymm l g) (λ g e. ≢_from_<ℚ g (sym e))

-- the test as a fact
pub IsTrue-lt : (x y : Rational) (b : Bool) → b ≡ lt_ℚ x y → IsTrue b ↔ (x <ℚ y)
IsTrue-lt x y b e = (λ t. (lt_ℚ-true x y).0 (sym e ∙ t), λ l. e ∙ (lt_ℚ-true x y).1 l)

-- and where it fails
pub false-lt : (x y : Rational) (b : Bool) → b ≡ lt_ℚ x y → (b ≡ false) ↔ (y ≤ℚ x)
false-lt x y b e = (λ t. (lt_ℚ-false x y).0 (sym e ∙ t), λ l. e ∙ (lt_ℚ-false x y).1 l)

-- ---- equality, part by part
pub words_same : (n m : ℤ) → nat_abs n ≤ 2 ^ 124 → nat_abs m ≤ 2 ^ 124 → of_z w128 n ≡ of_z w128 m → n ≡ m
words_same n m h k e = sym (near_is n h) ∙ ap (to_z w128) e ∙ near_is m k

eqb_same : (d e : ℕ) → eqb d e ≡ true → d ≡ e
eqb_same d e h = grind (arith, nat_tests)

same_eqb : (d e : ℕ) → d ≡ e → eqb d e ≡ true
same_eqb d e h = grind (arith, nat_tests)

-- with equal numerators, numbers are the same exactly where their denominators are
pub same_by_den : (x y : Rational) (d e : ℕ) → d ≡ x.den → e ≡ y.den → x.num ≡ y.num → IsTrue (eqb d e) ↔ (x ≡ y)
same_by_den x y d e p q n =
    (λ t. same_parts x y n (sym p ∙ eqb_same d e t ∙ q), λ s. same_eqb d e (p ∙ ap (λ z. z.den) s ∙ sym q))
