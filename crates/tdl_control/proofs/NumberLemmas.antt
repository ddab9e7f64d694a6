-- Which texts are the decimals of numbers of 32 bits.
use Rattle.std.proofs.Common.{◌≡◌, ◌≢◌, ℕ, ℤ, Bool, true, false, List, Option, Some, None, Result, Ok, Err, sym, ap, subst, ◌∙◌, arith, refl}
use Rattle.std.specs.Prelude.{FitsSigned, IfNone}
use Rattle.std.specs.Bool.{then_some}
use Rattle.std.specs.Fmt.{signed_decimal}
use Rattle.std.specs.Int.{w32}
use Rattle.std.specs.Result.{is_ok, result_ok, MatchResult}
use Rattle.std.specs.Str.{IsUtf8, bytes_eq}
use Rattle.std.specs.Str.Parse.{ParsesSigned}
use Rattle.std.proofs.lemmas.Slice.Eq.{bytes_eq-Decides}
use Rattle.std.proofs.lemmas.Fmt.{IsAscii-signed, parse-signed_decimal}
use Rattle.std.proofs.lemmas.Str.{IsUtf8-from_ascii}

-- a fact for the case of none, whatever came
pub if_none_always : {X P : Type 0} (o : Option X) → P → IfNone o P
if_none_always None fact = fact
if_none_always (Some x) fact = tt

pub if_none-then_some : {X P : Type 0} (b : Bool) (x : X) → (b ≡ false → P) → IfNone (then_some b x) P
if_none-then_some true x refused = tt
if_none-then_some false x refused = refused refl

-- what is said of a value, and of an error
pub said_of_ok : {X E : Type 0} (r : Result X E) (P : X → Type 0) (Q : E → Type 0) (x : X) → MatchResult r P Q → Some x ≡ result_ok r → P x
said_of_ok (Ok y) P Q x said is = let same : y ≡ x = cc in subst P same said
said_of_ok (Err e) P Q x said is = absurd cc

pub said_of_err : {X E : Type 0} (r : Result X E) (P : X → Type 0) (Q : E → Type 0) → MatchResult r P Q → is_ok r ≡ false → (e : E) × Q e
said_of_err (Ok y) P Q said failed = absurd cc
said_of_err (Err e) P Q said failed = (e, said)

-- bytes that are no text are no decimal
pub no_text_no_number : (text : List ℕ) → ¬ IsUtf8 text → (z : ℤ) → FitsSigned w32 z → signed_decimal z ≢ text
no_text_no_number text no_text z fits same = no_text (subst IsUtf8 same (IsUtf8-from_ascii (signed_decimal z) (IsAscii-signed z (omega (arith, fits)))))

-- nor is a text that is not parsed
pub no_parse_no_number : {E : Type 0} (text : List ℕ) (r : Result ℤ E) → ParsesSigned w32 10 text r → is_ok r ≡ false
    → (z : ℤ) → FitsSigned w32 z → signed_decimal z ≢ text
no_parse_no_number text r parses failed z fits same =
    let parsed = parse-signed_decimal w32 z text r fits (omega (arith, fits)) (sym same) parses in
    let ok : is_ok r ≡ true = ap is_ok parsed in
    absurd cc

-- nor one that differs from the decimal of the number that it is parsed as
pub other_text_no_number : {E : Type 0} (text written : List ℕ) (r : Result ℤ E) (x : ℤ) → ParsesSigned w32 10 text r → Some x ≡ result_ok r
    → (FitsSigned w32 x → written ≡ signed_decimal x) → bytes_eq written text ≡ false → (z : ℤ) → FitsSigned w32 z → signed_decimal z ≢ text
other_text_no_number text written r x parses is writes differs z fits same =
    let parsed = ap result_ok (parse-signed_decimal w32 z text r fits (omega (arith, fits)) (sym same) parses) in
    let agree : z ≡ x = cc in
    let equal : bytes_eq written text ≡ true =
    (bytes_eq-Decides written text).1 (writes (subst (FitsSigned w32) agree fits) ∙ ap signed_decimal (sym agree) ∙ same) in
    absurd cc
