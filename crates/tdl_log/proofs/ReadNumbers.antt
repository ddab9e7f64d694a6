-- Which texts are the decimals of numbers of 32 bits, and the prints of numbers.
--     said_of_ok, said_of_err    what is said of a value, and of an error
--     no_text_no_number, no_parse_no_number, other_text_no_number    texts that are no such decimal
--     if_none-then_some          a fact for the case that a test failed
--     not_equal, told_apart      texts that a comparison told apart
--     if_none_at, if_some_at     a fact by cases, where the case is known
use Rattle.std.proofs.Common.{◌≡◌, ℕ, ◌^◌, ◌<◌, Bool, true, false, not, List, Option, Some, None, Result, Ok, Err, sym, ap, subst, ◌∙◌, arith, refl}
use Rattle.std.specs.Bool.{then_some}
use Rattle.std.specs.Fmt.{decimal}
use Rattle.std.specs.Option.{IfNone, IfSome}
use Rattle.std.specs.Result.{is_ok, result_ok, MatchResult}
use Rattle.std.specs.Str.{IsUtf8, bytes_eq}
use Rattle.std.specs.Str.Parse.{ParsesUnsigned}
use Rattle.std.proofs.lemmas.Bool.{true≢false}
use Rattle.std.proofs.lemmas.Slice.Eq.{bytes_eq-Decides}
use Rattle.std.proofs.lemmas.Fmt.{IsAscii-decimal, parse-decimal}
use Rattle.std.proofs.lemmas.Str.{IsUtf8-from_ascii}

pub said_of_ok : {X E : Type 0} (r : Result X E) (P : X → Type 0) (Q : E → Type 0) (x : X) → MatchResult r P Q → Some x ≡ result_ok r → P x
said_of_ok (Ok y) P Q x said is = let same : y ≡ x = cc in subst P same said
said_of_ok (Err e) P Q x said is = absurd cc

pub said_of_err : {X E : Type 0} (r : Result X E) (P : X → Type 0) (Q : E → Type 0) → MatchResult r P Q → is_ok r ≡ false → (e : E) × Q e
said_of_err (Ok y) P Q said failed = absurd cc
said_of_err (Err e) P Q said failed = (e, said)

pub if_none-then_some : {X P : Type 0} (b : Bool) (x : X) → (b ≡ false → P) → IfNone (then_some b x) P
if_none-then_some true x refused = tt
if_none-then_some false x refused = refused refl

pub not_equal : (xs ys : List ℕ) → bytes_eq xs ys ≡ false → xs ≡ ys → ⊥
not_equal xs ys differs same = let equal : bytes_eq xs ys ≡ true = (bytes_eq-Decides xs ys).1 same in cc

pub told_apart : (xs ys : List ℕ) (b : Bool) → b ≡ not (bytes_eq xs ys) → b ≡ true → xs ≡ ys → ⊥
told_apart xs ys b is differs same = true≢false (sym differs ∙ is ∙ ap not ((bytes_eq-Decides xs ys).1 same))

pub if_none_at : {X : Type 0} (r : Option X) (P : Type 0) → r ≡ None → IfNone r P → P
if_none_at None P e fact = fact
if_none_at (Some x) P e fact = absurd (cc)

pub if_some_at : {X : Type 0} (r : Option X) (P : X → Type 0) (x : X) → r ≡ Some x → IfSome r P → P x
if_some_at None P x e fact = absurd (cc)
if_some_at (Some y) P x e fact = let same : y ≡ x = cc in subst P same fact

pub no_text_no_number : (text : List ℕ) → (IsUtf8 text → ⊥) → (n : ℕ) → n < 2 ^ 32 → text ≡ decimal n → ⊥
no_text_no_number text no_text n few same =
    no_text (subst IsUtf8 (sym same) (IsUtf8-from_ascii (decimal n) (IsAscii-decimal n (omega arith))))

pub no_parse_no_number : {E : Type 0} (text : List ℕ) (r : Result ℕ E) → ParsesUnsigned 32 10 text r → is_ok r ≡ false
    → (n : ℕ) → n < 2 ^ 32 → text ≡ decimal n → ⊥
no_parse_no_number text r parses failed n few same =
    let ok : is_ok r ≡ true = ap is_ok (parse-decimal 32 n text r few (omega arith) same parses) in
    absurd cc

pub other_text_no_number : {E : Type 0} (text written : List ℕ) (r : Result ℕ E) (x : ℕ) → ParsesUnsigned 32 10 text r → Some x ≡ result_ok r
    → written ≡ decimal x → bytes_eq written text ≡ false → (n : ℕ) → n < 2 ^ 32 → text ≡ decimal n → ⊥
other_text_no_number text written r x parses is writes differs n few same =
    let parsed = ap result_ok (parse-decimal 32 n text r few (omega arith) same parses) in
    let agree : n ≡ x = cc in
    not_equal written text differs (writes ∙ ap decimal (sym agree) ∙ sym same)
