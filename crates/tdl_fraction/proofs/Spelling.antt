-- A text writes at most one number.
use Rattle.std.proofs.Common.{◌≡◌, ◌≢◌, ℕ, ◌<◌, Bool, true, false, List, [], ◌∷◌, ◌++◌, length, get_or, Option, Some, None, ℤ, refl, sym, ap, ◌∙◌, subst}
use Rattle.std.proofs.Common.{arith, length-append}
use Rattle.std.specs.List.{All}
use Rattle.std.specs.Option.{ForSome, IfSome, IfNone, IsSome}
use Rattle.std.specs.Prelude.{◌↔◌}
use Rattle.std.proofs.lemmas.Option.{IfSome_then}
use Rattle.tdl_fraction.specs.Range.{InRange}
use Rattle.std.specs.Int.{IsInRange}
use Rattle.std.specs.Str.Parse.{AllDigits, IsNumeral, digits_value}
use Rattle.std.proofs.lemmas.List.Elements.{All-head, All-tail, All-nil, All-cons, All-append, All-same}
use Rattle.std.proofs.lemmas.List.{get_or_default, get_or_append_left}
use Rattle.std.proofs.lemmas.Str.Parse.{digit_at}
use Rattle.tdl_fraction.specs.Rational.{Rational, frac}
use Rattle.tdl_fraction.specs.Reading.{IsShortNumeral, sign, over, signed, denominator_of, Writes, Reads}
use Rattle.tdl_fraction.specs.inside.Cut.{IsCutNumber}

-- digits and what follows them, cut at the first `/` in one way only
pub record SameCut (xs ys : List ℕ) (p q : Option (List ℕ)) : Type 0 where
  pub front : xs ≡ ys
  pub back : p ≡ q

-- what stands behind the numerator gives the denominator's digits
over_same : (p q : Option (List ℕ)) → over p ≡ over q → p ≡ q
over_same None None e = refl
over_same None (Some ds) e = cc
over_same (Some ds) None e = cc
over_same (Some ds) (Some es) e = cc

-- where anything stands there, it begins with `/`
slash_first : (p : Option (List ℕ)) (y : ℕ) (ys zs : List ℕ) → over p ≡ (y ∷ ys) ++ zs → y ≡ 47
slash_first None y ys zs e = cc
slash_first (Some ds) y ys zs e = cc

-- so two cuts at the first `/` are the same
slash_unique : (xs ys : List ℕ) (p q : Option (List ℕ)) → All (λ b. b ≢ 47) xs → All (λ b. b ≢ 47) ys → xs ++ over p ≡ ys ++ over q → SameCut xs ys p q
slash_unique [] [] p q f g e = record { front = refl; back = over_same p q e }
slash_unique [] (y ∷ ys) p q f g e = absurd (All-head (λ b. b ≢ 47) y ys g (slash_first p y ys (over q) e))
slash_unique (x ∷ xs) [] p q f g e = absurd (All-head (λ b. b ≢ 47) x xs f (slash_first q x xs (over p) (sym e)))
slash_unique (x ∷ xs) (y ∷ ys) p q f g e =
    let rest = slash_unique xs ys p q (All-tail (λ b. b ≢ 47) x xs f) (All-tail (λ b. b ≢ 47) y ys g) cc in
    let head : x ≡ y = cc in
    let tail : xs ≡ ys = rest.front in
    record { front = cc; back = rest.back }

-- the parts of a text are given by it
pub record SameParts (m n : Bool) (xs ys : List ℕ) (p q : Option (List ℕ)) : Type 0 where
  pub sign : m ≡ n
  pub front : xs ≡ ys
  pub back : p ≡ q

-- a text with a sign begins with `-`
minus_first : (t : List ℕ) (a : List ℕ) → t ≡ (45 ∷ []) ++ a → get_or t 0 0 ≡ 45
minus_first t a e = ap (λ l. get_or l 0 0) e

-- two cuts of a text are the same
pub cut_unique : (t : List ℕ) (m n : Bool) (xs ys : List ℕ) (p q : Option (List ℕ)) → IsCutNumber t m xs p → IsCutNumber t n ys q → SameParts m n xs ys p q
cut_unique t true true xs ys p q f g =
    let e : xs ++ over p ≡ ys ++ over q = cc (f.spelled, g.spelled) in
    let same = slash_unique xs ys p q f.first g.first e in
    record { sign = refl; front = same.front; back = same.back }
cut_unique t false false xs ys p q f g =
    let same = slash_unique xs ys p q f.first g.first (sym f.spelled ∙ g.spelled) in
    record { sign = refl; front = same.front; back = same.back }
cut_unique t true false xs ys p q f g = absurd (g.signed_if_minus refl (minus_first t _ f.spelled))
cut_unique t false true xs ys p q f g = absurd (f.signed_if_minus refl (minus_first t _ g.spelled))

-- no digit is `/`
digits_hold_no_slash : (ds : List ℕ) → AllDigits 10 ds → All (λ b. b ≢ 47) ds
digits_hold_no_slash ds all k d inside = λ slash. omega (arith, slash, digit_at ds k all inside, get_or_default ds k d 0 inside)

-- a text with no sign begins with a digit
numeral_first : (m : Bool) (t ds rest : List ℕ) → m ≡ false → t ≡ sign m ++ (ds ++ rest) → IsNumeral 10 ds → get_or t 0 0 ≢ 45
numeral_first true t ds rest plain e numeral = cc
numeral_first false t ds rest plain e numeral = λ minus. omega
    (arith, minus, ap (λ l. get_or l 0 0) e, get_or_append_left ds rest 0 0 numeral.0, digit_at ds 0 numeral.1 numeral.0)

-- what a text writes is a cut of it
pub IsCut-from_writes : (t : List ℕ) (n : ℤ) (d : ℕ) (w : Writes t n d) → IsCutNumber t w.is_negative w.numerator w.denominator
IsCut-from_writes t n d w = record {
  spelled = w.spelled;
  signed_if_minus = λ plain. numeral_first w.is_negative t w.numerator (over w.denominator) plain w.spelled w.numerator_fits.numeral;
  first = digits_hold_no_slash w.numerator w.numerator_fits.numeral.1;
}

-- both numbers are given by the text
pub record SameNumbers (n m : ℤ) (d e : ℕ) : Type 0 where
  pub num : n ≡ m
  pub den : d ≡ e

-- a text writes one number over one denominator
pub Writes-unique : (t : List ℕ) (n m : ℤ) (d e : ℕ) → Writes t n d → Writes t m e → SameNumbers n m d e
Writes-unique t n m d e v w =
    let same = cut_unique t v.is_negative w.is_negative v.numerator w.numerator v.denominator w.denominator (IsCut-from_writes t n d v)
    (IsCut-from_writes t m e w) in
    let num : signed v.is_negative (digits_value 10 v.numerator) ≡ signed w.is_negative (digits_value 10 w.numerator) = rw (same.sign, same.front) in
    let den : denominator_of v.denominator ≡ denominator_of w.denominator = ap denominator_of same.back in
    record { num = v.num ∙ num ∙ sym w.num; den = v.den ∙ den ∙ sym w.den }

-- a text reads as one number at most
pub Reads-unique : (t : List ℕ) (p q : Rational) → Reads t p → Reads t q → p ≡ q
Reads-unique t p q f g =
    let same = Writes-unique t f.n g.n f.d g.d f.writes g.writes in
    let one : frac f.n f.d ≡ frac g.n g.d = rw (same.num, same.den) in
    f.value ∙ one ∙ sym g.value

-- where the digits before the `/` are no numeral, or too many, the text writes nothing
pub no_numerator : (t : List ℕ) (m : Bool) (xs : List ℕ) (p : Option (List ℕ)) → IsCutNumber t m xs p → (IsShortNumeral 25 xs → ⊥) → (n : ℤ) (d : ℕ)
    → Writes t n d → ⊥
no_numerator t m xs p cut wrong n d w =
    let same = cut_unique t m w.is_negative xs w.numerator p w.denominator cut (IsCut-from_writes t n d w) in
    wrong (subst (IsShortNumeral 25) (sym same.front) w.numerator_fits)

-- and likewise behind it
pub no_denominator : (t : List ℕ) (m : Bool) (xs : List ℕ) (p : Option (List ℕ)) (ds : List ℕ) → IsCutNumber t m xs p → p ≡ Some ds → (IsShortNumeral 14 ds → ⊥)
    → (n : ℤ) (d : ℕ) → Writes t n d → ⊥
no_denominator t m xs p ds cut is wrong n d w =
    let same = cut_unique t m w.is_negative xs w.numerator p w.denominator cut (IsCut-from_writes t n d w) in
    wrong (w.denominator_fits ds (sym same.back ∙ is))

-- what a text reads as follows from what it writes
pub record IsWritten (n : ℤ) (d : ℕ) (q : Rational) : Type 0 where
  pub nonzero : d ≢ 0
  pub value : q ≡ frac n d

-- of a text that writes n over d
pub IsWritten-from_reads : (t : List ℕ) (n : ℤ) (d : ℕ) (q : Rational) → Writes t n d → Reads t q → IsWritten n d q
IsWritten-from_reads t n d q w r =
    let same = Writes-unique t n r.n d r.d w r.writes in
    let one : frac r.n r.d ≡ frac n d = rw (same.num, same.den) in
    record { nonzero = λ zero. r.nonzero (sym same.den ∙ zero); value = r.value ∙ one }

-- a fraction that is n over d is the only number that the text reads as
pub only_if_some : (o : Option Rational) (t : List ℕ) (n m : ℤ) (d : ℕ) → Writes t n d → m ≡ n → IfSome o (λ x. x ≡ frac m d)
    → IfSome o (λ x. (q : Rational) → Reads t q → q ≡ x)
only_if_some o t n m d w same is =
    IfSome_then o is (λ x e q r. (IsWritten-from_reads t n d q w r).value ∙ ap (λ n. frac n d) (sym same) ∙ sym e)

-- and where there is none, the text reads as no number in range
pub unread_if_none : (o : Option Rational) (t : List ℕ) (n m : ℤ) (d : ℕ) → Writes t n d → m ≡ n → (IsSome o ↔ ((d ≢ 0) × InRange (frac m d)))
    → IfNone o ((q : Rational) → Reads t q → InRange q → ⊥)
unread_if_none (Some x) t n m d w same found = tt
unread_if_none None t n m d w same found = λ q r range.
    let is = IsWritten-from_reads t n d q w r in
    let some : IsSome {T = Rational} None = found.1 (is.nonzero, subst InRange (is.value ∙ ap (λ n. frac n d) (sym same)) range) in
    cc

-- each byte of a text that writes a number is a digit, `-` or `/`
abbrev IsPart : ℕ → Type 0
IsPart byte = IsInRange 45 57 byte

-- the digits are such bytes
digits_are_parts : (ds : List ℕ) → AllDigits 10 ds → All IsPart ds
digits_are_parts ds all k d inside =
    let range = digit_at ds k all inside in
    let same = get_or_default ds k d 0 inside in
    (omega (arith, range, same), omega (arith, range, same))

-- so is what stands behind them
over_is_parts : (p : Option (List ℕ)) → ForSome p (IsShortNumeral 14) → All IsPart (over p)
over_is_parts None fits = All-nil IsPart
over_is_parts (Some ds) fits = All-cons IsPart 47 ds (omega arith, omega arith) (digits_are_parts ds (fits ds refl).numeral.1)

-- and the sign
sign_is_parts : (m : Bool) → All IsPart (sign m)
sign_is_parts true = All-cons IsPart 45 [] (omega arith, omega arith) (All-nil IsPart)
sign_is_parts false = All-nil IsPart

-- of a text that writes n over d
pub bytes_from_writes : (t : List ℕ) (n : ℤ) (d : ℕ) → Writes t n d → All (λ byte. IsInRange 45 57 byte) t
bytes_from_writes t n d w =
    let digits = digits_are_parts w.numerator w.numerator_fits.numeral.1 in
    let behind = All-append IsPart w.numerator (over w.denominator) digits (over_is_parts w.denominator w.denominator_fits) in
    All-same IsPart t _ w.spelled (All-append IsPart (sign w.is_negative) _ (sign_is_parts w.is_negative) behind)

-- of a text that reads as a number
pub bytes_from_reads : (t : List ℕ) (q : Rational) → Reads t q → All (λ byte. IsInRange 45 57 byte) t
bytes_from_reads t q r = bytes_from_writes t r.n r.d r.writes

-- and it is not empty
pub nonempty_from_reads : (t : List ℕ) (q : Rational) → Reads t q → 0 < length t
nonempty_from_reads t q r =
    let w = r.writes in
    omega (
      arith,
      ap length w.spelled,
      length-append (sign w.is_negative) (w.numerator ++ over w.denominator),
      length-append w.numerator
          (over w.denominator),
      w.numerator_fits.numeral.0,
    )
