-- The text of a number in range, which reads as that number.
use Rattle.std.proofs.Common.{◌≡◌, ◌≢◌, ℕ, zero, suc, ◌+◌, ◌^◌, ◌<◌, ◌≤◌, Bool, true, false, T, cond, eqb, List, [], ◌∷◌, ◌++◌, length, Option, Some, None}
use Rattle.std.proofs.Common.{ℤ, pos, negsuc, refl, sym, ap, subst, arith, eqb→eq, length-append}
use Rattle.std.specs.Prelude.{nat_abs}
use Rattle.std.specs.Option.{ForSome}
use Rattle.std.specs.Fmt.{decimal, signed_decimal}
use Rattle.std.specs.Str.Parse.{digits_value}
use Rattle.std.proofs.lemmas.Fmt.{decimal_is_IsNumeral_wide, length-decimal-le_wide}
use Rattle.tdl_fraction.specs.Divisor.{is_lowest}
use Rattle.tdl_fraction.specs.Rational.{Rational}
use Rattle.tdl_fraction.specs.Range.{InRange}
use Rattle.tdl_fraction.specs.OwnParts.{frac-own}
use Rattle.tdl_fraction.specs.Reading.{IsShortNumeral, over, signed, denominator_of, Writes, Reads}
use Rattle.tdl_fraction.specs.Printing.{print_of}
use Rattle.tdl_fraction.proofs.Spelling.{Reads-unique}

-- what `print_of` puts behind the numerator
abbrev pub printed_over : ℕ → List ℕ
printed_over d = cond (eqb d 1) [] (47 ∷ decimal d)

-- the decimal of a number of few digits is a short numeral that writes it
decimal_short : (k n : ℕ) → 0 < k → n < 10 ^ k → n < 10 ^ 64 → IsShortNumeral k (decimal n)
decimal_short k n some few wide = record { numeral = (decimal_is_IsNumeral_wide n wide).0; short = length-decimal-le_wide k n some few wide }

-- and its value is the number
decimal_value : (n : ℕ) → n < 10 ^ 64 → n ≡ digits_value 10 (decimal n)
decimal_value n wide = sym (decimal_is_IsNumeral_wide n wide).1

-- what stands behind the numerator writes d
record WritesOver (text : List ℕ) (d : ℕ) : Type 0 where
  denominator : Option (List ℕ)
  spelled : text ≡ over denominator
  fits : ForSome denominator (IsShortNumeral 14)
  den : d ≡ denominator_of denominator

-- the digits of a denominator are few
some_fits : (d : ℕ) → d < 10 ^ 14 → ForSome (Some (decimal d)) (IsShortNumeral 14)
some_fits d few ds e =
    let P : List ℕ → Type 0 = IsShortNumeral 14 in
    let same : decimal d ≡ ds = cc in
    subst P same (decimal_short 14 d (omega arith) few (omega arith))

-- what is printed behind the numerator writes the denominator
writes_over : (d : ℕ) → d < 10 ^ 14 → WritesOver (printed_over d) d
writes_over d few =
    let by_test : (b : Bool) → eqb d 1 ≡ b → WritesOver (cond b [] (47 ∷ decimal d)) d =
    λ b. elim b as (λ b. eqb d 1 ≡ b → WritesOver (cond b [] (47 ∷ decimal d)) d) [
      | true ↦ λ e. record { denominator = None; spelled = refl; fits = λ ds none. cc; den = eqb→eq d 1 (subst T (sym e) tt) }
      | false ↦ λ e. record { denominator = Some (decimal d); spelled = refl; fits = some_fits d few; den = decimal_value d (omega arith) }
    ] in
    by_test (eqb d 1) refl

-- a printed text writes its number over its denominator
pub writes_printed : (n : ℤ) (d : ℕ) → nat_abs n < 10 ^ 25 → d < 10 ^ 14 → Writes (signed_decimal n ++ printed_over d) n d
writes_printed (pos n) d few fine =
    let back = writes_over d fine in
    record {
      is_negative = false;
      numerator = decimal n;
      denominator = back.denominator;
      spelled = ap (λ t. decimal n ++ t) back.spelled;
      numerator_fits = decimal_short 25 n (omega arith) few (omega arith);
      denominator_fits = back.fits;
      num = ap pos (decimal_value n (omega arith));
      den = back.den;
    }
writes_printed (negsuc n) d few fine =
    let back = writes_over d fine in
    record {
      is_negative = true;
      numerator = decimal (suc n);
      denominator = back.denominator;
      spelled = ap (λ t. 45 ∷ (decimal (suc n) ++ t)) back.spelled;
      numerator_fits = decimal_short 25 (suc n) (omega arith) few (omega arith);
      denominator_fits = back.fits;
      num = ap (signed true) (decimal_value (suc n) (omega arith));
      den = back.den;
    }

-- a denominator in lowest terms is not 0
den_nonzero : (n : ℤ) (d : ℕ) → T (is_lowest n d) → d ≢ 0
den_nonzero n zero l = absurd l
den_nonzero n (suc d) l = λ e. omega arith

-- the text of a number in range reads as that number
pub Reads-print_of : (q : Rational) → InRange q → Reads (print_of q) q
Reads-print_of q range = record {
  n = q.num;
  d = q.den;
  writes = writes_printed q.num q.den (omega arith) (omega arith);
  nonzero = den_nonzero q.num q.den q.lowest;
  value = sym (frac-own q);
}

-- the room that the parts of such a text need
pub length-signed_decimal-le : (n : ℤ) → nat_abs n < 10 ^ 25 → length (signed_decimal n) ≤ 26
length-signed_decimal-le (pos n) few = omega (arith, length-decimal-le_wide 25 n (omega arith) few (omega arith))
length-signed_decimal-le (negsuc n) few = omega (arith, length-decimal-le_wide 25 (suc n) (omega arith) few (omega arith))

-- what `print` gives reads as the number
pub reads_printed : (t : List ℕ) (q : Rational) → t ≡ print_of q → InRange q → Reads t q
reads_printed t q e range = let P : List ℕ → Type 0 = λ t. Reads t q in subst P (sym e) (Reads-print_of q range)

-- and as no other
pub only_printed : (t : List ℕ) (q : Rational) → t ≡ print_of q → InRange q → (p : Rational) → Reads t p → p ≡ q
only_printed t q e range p r = Reads-unique t p q r (reads_printed t q e range)

-- the room that is left behind a numerator and one byte more
pub room_behind : (whole mark front text : List ℕ) (n : ℤ) (d : ℕ) → whole ≡ signed_decimal n → length mark ≡ 1 → front ≡ whole ++ mark → text ≡ decimal d
    → nat_abs n < 10 ^ 25 → d < 10 ^ 14 → length front + length text ≤ 41
room_behind whole mark front text n d numerator one joined denominator few fine =
    let top = length-signed_decimal-le n few in
    let bottom = length-decimal-le_wide 14 d (omega arith) fine (omega arith) in
    omega (arith, ap length numerator, ap length joined, ap length denominator, length-append whole mark, top, bottom)

-- numbers in range with the same text are the same
pub print_of-injective : (p q : Rational) → InRange p → InRange q → print_of p ≡ print_of q → p ≡ q
print_of-injective p q h k e = only_printed (print_of q) q refl k p (reads_printed (print_of q) p (sym e) h)
