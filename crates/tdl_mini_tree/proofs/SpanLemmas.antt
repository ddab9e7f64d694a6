-- How low and how high lists of values are.
--     ends-append      of lists one after another
--     range_ends       of the whole numbers of a range
--     accepted_ends    what decides whether there is a rhythm for each choice
use Rattle.std.specs.Prelude.{if◌then◌else◌, not, is_none}
use Rattle.std.specs.List.{list_all}
use Rattle.std.specs.Int.{int_min, int_max}
use mir.Syntax.{w128}
use Rattle.tdl_fraction.specs.Range.{InRange}
use Rattle.tdl_fraction.proofs.Ranges.{InRange-frac}
use Rattle.std.proofs.lemmas.Bool.{false≢true}
use Rattle.std.proofs.Common.{◌≢◌, ◌*◌, ◌^◌, IsSome, FitsSigned, to_z, of_z, ◌≡◌, ◌↔◌, ℕ, zero, suc, ◌<◌, ◌≤◌, Bool, true, false, cond, IsTrue, is_some}
use Rattle.std.proofs.Common.{◌&&◌, ◌==◌, nat_lt, nat_abs, unsigned_abs, ℤ, pos, negsuc, ◌+ℤ◌, ◌-ℤ◌, neg_ℤ, ◌≤ℤ◌, ◌<ℤ◌, Option, None, Some, List, [], ◌∷◌}
use Rattle.std.proofs.Common.{◌++◌, map, refl, ap, ap₂, sym, ◌∙◌, arith}
use Rattle.std.proofs.lemmas.Bool.Decides.{nat_tests}
use Rattle.std.proofs.lemmas.Int.{ints, clamps, to_z-of_z}
use lib.Signed.{le_z, lt_z}
use Rattle.tdl_fraction.specs.Rational.{Rational, whole, frac}
use Rattle.tdl_fraction.specs.Divisor.{gcd}
use Rattle.tdl_fraction.proofs.Euclid.{gcd-one}
use Rattle.tdl_fraction.proofs.Over.{frac_num_lowest}
use Rattle.tdl_euclid.specs.declared.rhythms.EuclidFault.{EuclidFault}
use Rattle.tdl_euclid.specs.declared.rhythms.EuclidFault.TheVariants.{ZeroSteps, TooManySteps, TooManyHits}
use Rattle.tdl_mini_tree.specs.declared.leaves.Number.{Number}
use Rattle.tdl_mini_tree.specs.declared.leaves.Tail.{Tail}
use Rattle.tdl_mini_tree.specs.declared.leaves.Tail.TheVariants.{Whole, Decimals, Over}
use Rattle.tdl_mini_tree.specs.Numbers.{signed, value_with, number_value, divides_tail}
use Rattle.tdl_euclid.specs.Refusal.{has_rhythm}
use Rattle.tdl_mini_tree.specs.Values.{counted, is_accepted}
use Rattle.tdl_mini_tree.specs.Extremes.{wider, ends_of, numerators}

-- ---- lists one after another
wider-assoc : (a b c : Option (ℤ × ℤ)) → wider a (wider b c) ≡ wider (wider a b) c
wider-assoc None b c = refl
wider-assoc (Some x) None c = refl
wider-assoc (Some x) (Some y) None = refl
wider-assoc (Some x) (Some y) (Some z) =
    let low : int_min x.0 (int_min y.0 z.0) ≡ int_min (int_min x.0 y.0) z.0 = omega (arith, ints, clamps) in
    let high : int_max x.1 (int_max y.1 z.1) ≡ int_max (int_max x.1 y.1) z.1 = omega (arith, ints, clamps) in
    ap₂ (λ (l h : ℤ). Some (l, h)) low high

pub ends-append : (a b : List Rational) → ends_of (numerators (a ++ b)) ≡ wider (ends_of (numerators a)) (ends_of (numerators b))
ends-append [] b = refl
ends-append (x ∷ a) b = ap (wider (Some (x.num, x.num))) (ends-append a b) ∙ wider-assoc (Some (x.num, x.num)) (ends_of (numerators a)) (ends_of (numerators b))

-- the ends of two spans together
pub first_none : (a b : Option (ℤ × ℤ)) → a ≡ None → b ≡ wider a b
first_none a b e = rw e refl

pub second_none : (a b : Option (ℤ × ℤ)) → b ≡ None → a ≡ wider a b
second_none None b e = sym e
second_none (Some x) b e = rw e refl

pub two_ends : (a b : Option (ℤ × ℤ)) (x y : ℤ × ℤ) → a ≡ Some x → b ≡ Some y → Some (int_min x.0 y.0, int_max x.1 y.1) ≡ wider a b
two_ends a b x y e f = rw (e, f) refl

pub together : (a b e : Option (ℤ × ℤ)) (these others : List Rational) → a ≡ ends_of (numerators these) → b ≡ ends_of (numerators others) → e ≡ wider a b
    → e ≡ ends_of (numerators (these ++ others))
together a b e these others h k is = is ∙ ap₂ wider h k ∙ sym (ends-append these others)

some_wider : (x : ℤ × ℤ) (b : Option (ℤ × ℤ)) → wider (Some x) b ≡ None → ⊥
some_wider x None e = cc
some_wider x (Some y) e = cc

pub no_ends : (values : List Rational) → ends_of (numerators values) ≡ None → values ≡ []
no_ends [] e = refl
no_ends (x ∷ values) e = absurd (some_wider (x.num, x.num) (ends_of (numerators values)) e)

none_from : (e : Option (ℤ × ℤ)) → is_some e ≡ false → e ≡ None
none_from None h = refl
none_from (Some x) h = cc

none_has : (e : Option (ℤ × ℤ)) → e ≡ None → is_some e ≡ true → ⊥
none_has None h k = cc
none_has (Some x) h k = cc

-- no ends, where this tells whether there are none
pub empty_span : (e : Option (ℤ × ℤ)) (none : Bool) (values : List Rational) → is_some e ≡ not none → e ≡ ends_of (numerators values)
    → IsTrue none ↔ (values ≡ [])
empty_span e true values h is = (λ _. no_ends values (sym is ∙ none_from e h), λ _. refl)
empty_span e false values h is = (λ k. cc, λ k. absurd (none_has e (is ∙ ap (λ (xs : List Rational). ends_of (numerators xs)) k) h))

-- ---- ranges
rising_ends : (m : ℕ) (from : ℤ) → ends_of (counted true (suc m) from) ≡ Some (from, from +ℤ pos m)
rising_ends zero from =
    let same : from ≡ from +ℤ pos 0 = omega (arith, ints) in
    ap (λ (h : ℤ). Some (from, h)) same
rising_ends (suc m) from =
    let low : int_min from (from +ℤ pos 1) ≡ from = omega (arith, ints, clamps) in
    let high : int_max from ((from +ℤ pos 1) +ℤ pos m) ≡ from +ℤ pos (suc m) = omega (arith, ints, clamps) in
    ap (wider (Some (from, from))) (rising_ends m (from +ℤ pos 1)) ∙ ap₂ (λ (l h : ℤ). Some (l, h)) low high

falling_ends : (m : ℕ) (from : ℤ) → ends_of (counted false (suc m) from) ≡ Some (from -ℤ pos m, from)
falling_ends zero from =
    let same : from ≡ from -ℤ pos 0 = omega (arith, ints) in
    ap (λ (l : ℤ). Some (l, from)) same
falling_ends (suc m) from =
    let low : int_min from ((from -ℤ pos 1) -ℤ pos m) ≡ from -ℤ pos (suc m) = omega (arith, ints, clamps) in
    let high : int_max from (from -ℤ pos 1) ≡ from = omega (arith, ints, clamps) in
    ap (wider (Some (from, from))) (falling_ends m (from -ℤ pos 1)) ∙ ap₂ (λ (l h : ℤ). Some (l, h)) low high

range_ends_by : (a b : ℤ) (rising : Bool) → le_z a b ≡ rising → ends_of (counted rising (suc (nat_abs (b -ℤ a))) a) ≡ Some (int_min a b, int_max a b)
range_ends_by a b true e =
    let ordered : a ≤ℤ b = grind (arith, ints) in
    let low : a ≡ int_min a b = omega (arith, ints, clamps) in
    let high : a +ℤ pos (nat_abs (b -ℤ a)) ≡ int_max a b = omega (arith, ints, clamps) in
    rising_ends (nat_abs (b -ℤ a)) a ∙ ap₂ (λ (l h : ℤ). Some (l, h)) low high
range_ends_by a b false e =
    let ordered : b <ℤ a = grind (arith, ints) in
    let low : a -ℤ pos (nat_abs (b -ℤ a)) ≡ int_min a b = omega (arith, ints, clamps) in
    let high : a ≡ int_max a b = omega (arith, ints, clamps) in
    falling_ends (nat_abs (b -ℤ a)) a ∙ ap₂ (λ (l h : ℤ). Some (l, h)) low high

whole_num : (z : ℤ) → (whole z).num ≡ z
unfolding whole
whole_num z =
    let one : gcd (nat_abs z) 1 ≡ 1 = gcd-one (nat_abs z) in
    frac_num_lowest z 1 (omega arith) one

numerators_whole : (zs : List ℤ) → numerators (map whole zs) ≡ zs
numerators_whole [] = refl
numerators_whole (z ∷ zs) = ap₂ (λ (n : ℤ) (ns : List ℤ). n ∷ ns) (whole_num z) (numerators_whole zs)

pub range_ends : (a b : ℤ) → ends_of (numerators (map whole (counted (le_z a b) (suc (nat_abs (b -ℤ a))) a))) ≡ Some (int_min a b, int_max a b)
range_ends a b = ap ends_of (numerators_whole (counted (le_z a b) (suc (nat_abs (b -ℤ a))) a)) ∙ range_ends_by a b (le_z a b) refl

-- ---- rhythms
-- so many hits in each choice of steps between two
abbrev fits : ℤ → ℤ → ℤ → Bool
fits k least most = le_z (pos 1) least && (le_z most (pos 128) && (le_z k least && le_z (neg_ℤ least) k))

taken_is : (a b c : Bool) (x y z : EuclidFault) → is_none (if a then Some x else (if b then Some y else (if c then Some z else None))) ≡
    (not a && (not b && not c))
taken_is true b c x y z = refl
taken_is false true c x y z = refl
taken_is false false true x y z = refl
taken_is false false false x y z = refl

within : (k : ℤ) (n : ℕ) → not (nat_lt n (unsigned_abs k)) ≡ (le_z k (pos n) && le_z (neg_ℤ (pos n)) k)
within (pos j) zero = grind (arith, nat_tests)
within (pos j) (suc n) = grind (arith, nat_tests)
within (negsuc j) zero = grind (arith, nat_tests)
within (negsuc j) (suc n) = grind (arith, nat_tests)

rhythm_is : (k n : ℤ) → has_rhythm k n ≡ fits k n n
rhythm_is k (negsuc n) = refl
rhythm_is k (pos n) =
    let some : not (n == 0) ≡ le_z (pos 1) (pos n) = grind (arith, nat_tests, ints) in
    let few : not (nat_lt 128 n) ≡ le_z (pos n) (pos 128) = grind (arith, nat_tests, ints) in
    taken_is (n == 0) (nat_lt 128 n) (nat_lt n (unsigned_abs k)) ZeroSteps (TooManySteps n) (TooManyHits k n)
    ∙ ap₂ (λ (x y : Bool). x && y) some (ap₂ (λ (x y : Bool). x && y) few (within k n))

le_min_by : (x a b : ℤ) (p q r : Bool) → lt_z b a ≡ p → le_z x a ≡ q → le_z x b ≡ r → le_z x (cond p b a) ≡ (q && r)
le_min_by x a b true true r e f g = g
le_min_by x a b true false true e f g = grind (arith, ints)
le_min_by x a b true false false e f g = g
le_min_by x a b false true true e f g = f
le_min_by x a b false true false e f g = grind (arith, ints)
le_min_by x a b false false r e f g = f

le_min : (x a b : ℤ) → le_z x (int_min a b) ≡ (le_z x a && le_z x b)
le_min x a b = le_min_by x a b (lt_z b a) (le_z x a) (le_z x b) refl refl refl

max_le_by : (x a b : ℤ) (p q r : Bool) → lt_z b a ≡ p → le_z a x ≡ q → le_z b x ≡ r → le_z (cond p a b) x ≡ (q && r)
max_le_by x a b true true true e f g = f
max_le_by x a b true true false e f g = grind (arith, ints)
max_le_by x a b true false r e f g = f
max_le_by x a b false true r e f g = g
max_le_by x a b false false true e f g = grind (arith, ints)
max_le_by x a b false false false e f g = g

max_le : (x a b : ℤ) → le_z (int_max a b) x ≡ (le_z a x && le_z b x)
max_le x a b = max_le_by x a b (lt_z b a) (le_z a x) (le_z b x) refl refl refl

negated_by : (x a : ℤ) (p q : Bool) → le_z (neg_ℤ a) x ≡ p → le_z (neg_ℤ x) a ≡ q → p ≡ q
negated_by x a true true e f = refl
negated_by x a true false e f = grind (arith, ints)
negated_by x a false true e f = grind (arith, ints)
negated_by x a false false e f = refl

negated : (x a : ℤ) → le_z (neg_ℤ a) x ≡ le_z (neg_ℤ x) a
negated x a = negated_by x a (le_z (neg_ℤ a) x) (le_z (neg_ℤ x) a) refl refl

negated_le : (x a b : ℤ) → le_z (neg_ℤ (int_min a b)) x ≡ (le_z (neg_ℤ a) x && le_z (neg_ℤ b) x)
negated_le x a b = negated x (int_min a b) ∙ le_min (neg_ℤ x) a b ∙ ap₂ (λ (p q : Bool). p && q) (sym (negated x a)) (sym (negated x b))

and_same : (a : Bool) → a ≡ (a && a)
and_same true = refl
and_same false = refl

and_pairs : (a b c d : Bool) → ((a && b) && (c && d)) ≡ ((a && c) && (b && d))
and_pairs true true c d = refl
and_pairs true false true d = refl
and_pairs true false false d = refl
and_pairs false b c d = refl

-- each of four tests of a whole is that test of two parts
four_tests :
    (p q r s a b c d e f g h : Bool) → p ≡ (a && e) → q ≡ (b && f) → r ≡ (c && g) → s ≡ (d && h) →
    (p && (q && (r && s))) ≡ ((a && (b && (c && d))) && (e && (f && (g && h))))
four_tests p q r s a b c d e f g h i j k l =
    ap₂ (λ (x y : Bool). x && y) i (ap₂ (λ (x y : Bool). x && y) j (ap₂ (λ (x y : Bool). x && y) k l ∙ and_pairs c g d h) ∙ and_pairs b f (c && d) (g && h))
    ∙ and_pairs a e (b && (c && d)) (f && (g && h))

abbrev fit_ends : ℤ → Option (ℤ × ℤ) → Bool
fit_ends k None = true
fit_ends k (Some ends) = fits k ends.0 ends.1

true_right : (a : Bool) → a ≡ (a && true)
true_right true = refl
true_right false = refl

fit_wider : (k : ℤ) (a b : Option (ℤ × ℤ)) → fit_ends k (wider a b) ≡ (fit_ends k a && fit_ends k b)
fit_wider k None b = refl
fit_wider k (Some x) None = true_right (fits k x.0 x.1)
fit_wider k (Some x) (Some y) =
    four_tests
    (le_z (pos 1) (int_min x.0 y.0)) (le_z (int_max x.1 y.1) (pos 128)) (le_z k (int_min x.0 y.0)) (le_z (neg_ℤ (int_min x.0 y.0)) k)
    (le_z (pos 1) x.0) (le_z x.1 (pos 128)) (le_z k x.0) (le_z (neg_ℤ x.0) k)
    (le_z (pos 1) y.0) (le_z y.1 (pos 128)) (le_z k y.0) (le_z (neg_ℤ y.0) k)
    (le_min (pos 1) x.0 y.0) (max_le (pos 128) x.1 y.1) (le_min k x.0 y.0) (negated_le k x.0 y.0)

steps_ends : (k : ℤ) (steps : List Rational) → list_all (λ n. has_rhythm k n.num) steps ≡ fit_ends k (ends_of (numerators steps))
steps_ends k [] = refl
steps_ends k (n ∷ steps) =
    ap₂ (λ (a b : Bool). a && b) (rhythm_is k n.num) (steps_ends k steps)
    ∙ sym (fit_wider k (Some (n.num, n.num)) (ends_of (numerators steps)))

-- each choice of hits and of steps
abbrev pub fit_all : Option (ℤ × ℤ) → Option (ℤ × ℤ) → Bool
fit_all None steps = true
fit_all (Some hits) None = true
fit_all (Some hits) (Some steps) = le_z (pos 1) steps.0 && (le_z steps.1 (pos 128) && (le_z hits.1 steps.0 && le_z (neg_ℤ steps.0) hits.0))

fit_all_wider : (a b steps : Option (ℤ × ℤ)) → fit_all (wider a b) steps ≡ (fit_all a steps && fit_all b steps)
fit_all_wider None b steps = refl
fit_all_wider (Some x) None None = refl
fit_all_wider (Some x) None (Some s) = true_right (fit_all (Some x) (Some s))
fit_all_wider (Some x) (Some y) None = refl
fit_all_wider (Some x) (Some y) (Some s) =
    four_tests
    (le_z (pos 1) s.0) (le_z s.1 (pos 128)) (le_z (int_max x.1 y.1) s.0) (le_z (neg_ℤ s.0) (int_min x.0 y.0))
    (le_z (pos 1) s.0) (le_z s.1 (pos 128)) (le_z x.1 s.0) (le_z (neg_ℤ s.0) x.0)
    (le_z (pos 1) s.0) (le_z s.1 (pos 128)) (le_z y.1 s.0) (le_z (neg_ℤ s.0) y.0)
    (and_same (le_z (pos 1) s.0)) (and_same (le_z s.1 (pos 128))) (max_le s.0 x.1 y.1) (le_min (neg_ℤ s.0) x.0 y.0)

one_hit : (k : ℤ) (steps : Option (ℤ × ℤ)) → fit_ends k steps ≡ fit_all (Some (k, k)) steps
one_hit k None = refl
one_hit k (Some s) = refl

pub accepted_ends : (hits steps : List Rational) → fit_all (ends_of (numerators hits)) (ends_of (numerators steps)) ≡ is_accepted hits steps
accepted_ends [] steps = refl
accepted_ends (k ∷ hits) steps =
    fit_all_wider (Some (k.num, k.num)) (ends_of (numerators hits)) (ends_of (numerators steps))
    ∙ ap₂ (λ (a b : Bool). a && b) (sym (steps_ends k.num steps ∙ one_hit k.num (ends_of (numerators steps)))) (accepted_ends hits steps)

pub accepted : (a b : Option (ℤ × ℤ)) (hits steps : List Rational) (r : Bool) → a ≡ ends_of (numerators hits) → b ≡ ends_of (numerators steps)
    → r ≡ fit_all a b → r ≡ is_accepted hits steps
accepted a b hits steps r h k is = is ∙ ap₂ fit_all h k ∙ accepted_ends hits steps

pub none_fits : (a b : Option (ℤ × ℤ)) → a ≡ None → true ≡ fit_all a b
none_fits a b e = rw e refl

pub no_step_fits : (a b : Option (ℤ × ℤ)) → b ≡ None → true ≡ fit_all a b
no_step_fits None b e = refl
no_step_fits (Some x) b e = rw e refl

pub spans_fit : (a b : Option (ℤ × ℤ)) (x y : ℤ × ℤ) → a ≡ Some x → b ≡ Some y → fit_all (Some x) (Some y) ≡ fit_all a b
spans_fit a b x y e f = rw (e, f) refl

-- ---- fractions
zero_num : (n : ℤ) → (frac n 0).num ≡ pos 0
unfolding frac
zero_num n = refl

none_some : (r : Option Rational) → r ≡ None → IsSome r → ⊥
none_some None e h = cc
none_some (Some x) e h = cc

-- a fraction that is not too fine and not too large is there where its denominator is not zero
pub in_range_where :
    (n : ℤ) (d : ℕ) (r : Option Rational) → FitsSigned w128 n → d ≤ 2 ^ 44 → (0 < d → unsigned_abs n ≤ 2 ^ 36 * d) →
    (IsSome r ↔ ((d ≢ 0) × InRange (frac (to_z w128 (of_z w128 n)) d))) → is_some r ≡ nat_lt 0 d
in_range_where n zero None fits fine near found = refl
in_range_where n zero (Some x) fits fine near found = absurd ((found.0 refl).0 refl)
in_range_where n (suc d) (Some x) fits fine near found = grind (arith, nat_tests)
in_range_where n (suc d) None fits fine near found =
    let some : 0 < suc d = omega arith in
    absurd (none_some None refl (found.1 (omega arith, rw (to_z-of_z w128 n fits) (InRange-frac n (suc d) some fine (near some)))))

-- a number is zero where its denominator is
pub no_value : (n : Number) (r : Option Rational) → is_some r ≡ divides_tail n.tail → r ≡ None → pos 0 ≡ (number_value n).num
no_value n r found none = here n.tail (sym found ∙ ap is_some none)
  where
    here : (tail : Tail) → divides_tail tail ≡ false → pos 0 ≡ (value_with n.is_negative n.whole tail).num
    here Whole h = cc
    here (Decimals parts) h = cc
    here (Over zero) h = sym (zero_num (signed n.is_negative n.whole))
    here (Over (suc d)) h = absurd (false≢true (sym h ∙ grind (arith, nat_tests)))

-- ---- the code's tests
-- a value that is a test which fails does not hold
pub fails_and_holds : {A : Type 0} {test value : Bool} → test ≡ false → value ≡ test → value ≡ true → A
fails_and_holds e is h = absurd (false≢true (sym e ∙ sym is ∙ h))

abbrev held : ℤ → ℤ
held z = to_z w128 (of_z w128 z)

pub last_test :
    (low high least most : ℤ) → FitsSigned w128 low → FitsSigned w128 high → FitsSigned w128 least → FitsSigned w128 most →
    le_z (pos 1) (held least) ≡ true → le_z (held most) (pos 128) ≡ true → le_z (held high) (held least) ≡ true →
    le_z (held (pos 0 -ℤ held least)) (held low) ≡ (le_z (pos 1) least && (le_z most (pos 128) && (le_z high least && le_z (neg_ℤ least) low)))
last_test low high least most low_fits high_fits least_fits most_fits p q r =
    let l = to_z-of_z w128 least least_fits in
    let some : le_z (pos 1) least ≡ true = ap (le_z (pos 1)) (sym l) ∙ p in
    let few : le_z most (pos 128) ≡ true = ap (λ (z : ℤ). le_z z (pos 128)) (sym (to_z-of_z w128 most most_fits)) ∙ q in
    let below : le_z high least ≡ true = ap₂ le_z (sym (to_z-of_z w128 high high_fits)) (sym l) ∙ r in
    let fits : FitsSigned w128 (neg_ℤ least) = negated_fits least least_fits some in
    let negative : held (pos 0 -ℤ held least) ≡ neg_ℤ least = ap (λ (z : ℤ). held (pos 0 -ℤ z)) l ∙ ap held (negation least)
    ∙ to_z-of_z w128 (neg_ℤ least) fits in
    ap₂ le_z negative (to_z-of_z w128 low low_fits) ∙ rw (some, few, below) refl
  where
    negation : (z : ℤ) → pos 0 -ℤ z ≡ neg_ℤ z
    negation z = omega (arith, ints)

    negated_fits : (z : ℤ) → FitsSigned w128 z → le_z (pos 1) z ≡ true → FitsSigned w128 (neg_ℤ z)
    negated_fits (pos zero) h e = h
    negated_fits (pos (suc n)) h e = record { sfits = omega (arith, h.sfits) }
    negated_fits (negsuc n) h e = absurd (false≢true e)
