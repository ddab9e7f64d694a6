-- A string has no fault exactly where bytes begin with one, which is then the text in front and its zeros.
use Rattle.std.proofs.Common.{◌≡◌, ℕ, zero, suc, ◌+◌, ◌-◌, ◌%◌, ◌≤◌, nat_lt, ◌==◌, Bool, true, false, cond}
use Rattle.std.proofs.Common.{List, [], ◌∷◌, ◌++◌, length, take, drop, replicate}
use Rattle.std.proofs.Common.{Option, Some, None, Ok, refl, sym, ap, ◌∙◌, subst, arith, length-append}
use Rattle.std.specs.List.{All}
use Rattle.std.specs.Option.{option_or}
use Rattle.std.proofs.lemmas.Bool.{and_parts}
use Rattle.std.proofs.lemmas.Bool.Decides.{nat_tests}
use Rattle.std.proofs.lemmas.List.{take-append-drop, drop-drop, drop_at, length-take-le, length-replicate, take_rest}
use Rattle.std.proofs.lemmas.List.Elements.{All-nil, All-cons, All-head, All-tail}
use Rattle.std.proofs.lemmas.List.Sums.{prefix_len-le-length}
use Rattle.tdl_osc.specs.declared.faults.BundleFault.{BundleFault}
use Rattle.tdl_osc.specs.declared.faults.OscKind.TheVariants.{BadPad, NotAscii}
use Rattle.tdl_osc.specs.BundleFault.{fault, is_text_byte, text_size, text_of, more_zeros, string_size, padding_fault, end_fault, string_fault}
use Rattle.tdl_osc.specs.inside.Said.{checked}
use Rattle.tdl_osc.specs.OscBundle.{IsTextByte, IsString}
use Rattle.tdl_osc.proofs.OneBundle.{one_string, first_zero, one_padding}

abbrev pub IsFree : Option BundleFault → Type 0
IsFree found = found ≡ None

-- ---- one fault, and then another
pub or_free : (first second : Option BundleFault) → IsFree (option_or first second) → IsFree first × IsFree second
or_free None second free = (refl, free)
or_free (Some found) second free = absurd (some≢none free)
  where
    some≢none : Some found ≡ None → ⊥
    some≢none e = cc

pub free_or : (first second : Option BundleFault) → IsFree first → IsFree second → IsFree (option_or first second)
free_or None second one other = other
free_or (Some found) second one other = one

-- a test that answers with a fault has answered the other way
pub test_free : (test : Bool) (found other : Option BundleFault) → (found ≡ None → ⊥) → IsFree (cond test other found) → (test ≡ true) × IsFree other
test_free true found other some free = (refl, free)
test_free false found other some free = absurd (some free)

pub no_fault : (found : BundleFault) → Some found ≡ None → ⊥
no_fault found e = cc

-- ---- text
text_byte : (byte : ℕ) → is_text_byte byte ≡ true → IsTextByte byte
text_byte byte h =
    let both = and_parts (nat_lt 0 byte) (nat_lt byte 128) h in
    (grind (arith, nat_tests, both.0), grind (arith, nat_tests, both.1))

byte_text : (byte : ℕ) → IsTextByte byte → is_text_byte byte ≡ true
byte_text byte h = grind (arith, nat_tests, h.0, h.1)

-- the bytes in front are text
text_more : (byte : ℕ) (bytes : List ℕ) (test : Bool) → is_text_byte byte ≡ test → All IsTextByte (text_of bytes)
    → All IsTextByte (take (cond test (1 + text_size bytes) 0) (byte ∷ bytes))
text_more byte bytes true e all =
    let more : 1 + text_size bytes ≡ suc (text_size bytes) = omega arith in
    rw more (All-cons IsTextByte byte (text_of bytes) (text_byte byte e) all)
text_more byte bytes false e all = All-nil IsTextByte

pub text_is_ascii : (bytes : List ℕ) → All IsTextByte (text_of bytes)
text_is_ascii [] = All-nil IsTextByte
text_is_ascii (byte ∷ bytes) = text_more byte bytes (is_text_byte byte) refl (text_is_ascii bytes)

-- so many bytes of text, where a zero follows
text_up_to_zero : (text after : List ℕ) → All IsTextByte text → text_size (text ++ 0 ∷ after) ≡ length text
text_up_to_zero [] after all = refl
text_up_to_zero (byte ∷ text) after all =
    let more = text_up_to_zero text after (All-tail IsTextByte byte text all) in
    rw (byte_text byte (All-head IsTextByte byte text all), more) (omega arith)

-- ---- padding
zeros_more : (from offset more byte : ℕ) (bytes : List ℕ) (test : Bool) → (byte == 0) ≡ test
    → IsFree (cond test (padding_fault from (offset + 1) more bytes) (fault BadPad offset))
    → (IsFree (padding_fault from (offset + 1) more bytes) → bytes ≡ replicate more 0 ++ drop more bytes)
    → byte ∷ bytes ≡ replicate (suc more) 0 ++ drop (suc more) (byte ∷ bytes)
zeros_more from offset more byte bytes true e free next =
    let zero_byte : byte ≡ 0 = grind (arith, nat_tests, e) in
    ap (λ b. b ∷ bytes) zero_byte ∙ ap (λ bs. 0 ∷ bs) (next free)
zeros_more from offset more byte bytes false e free next = absurd (no_fault _ free)

zeros_read : (from offset more : ℕ) (bytes : List ℕ) → IsFree (padding_fault from offset more bytes) → bytes ≡ replicate more 0 ++ drop more bytes
zeros_read from offset zero bytes free = refl
zeros_read from offset (suc more) [] free = absurd (no_fault _ free)
zeros_read from offset (suc more) (byte ∷ bytes) free =
    zeros_more from offset more byte bytes (byte == 0) refl free (zeros_read from (offset + 1) more bytes)

zeros_free : (from offset more : ℕ) (left : List ℕ) → IsFree (padding_fault from offset more (replicate more 0 ++ left))
zeros_free from offset zero left = refl
zeros_free from offset (suc more) left = zeros_free from (offset + 1) more left

-- ---- the end of a text
end_more : (from offset more byte : ℕ) (bytes : List ℕ) (test : Bool) → (byte == 0) ≡ test
    → IsFree (cond test (padding_fault from (offset + 1) more bytes) (fault NotAscii offset))
    → byte ∷ bytes ≡ replicate (suc more) 0 ++ drop (suc more) (byte ∷ bytes)
end_more from offset more byte bytes true e free =
    let zero_byte : byte ≡ 0 = grind (arith, nat_tests, e) in
    ap (λ b. b ∷ bytes) zero_byte ∙ ap (λ bs. 0 ∷ bs) (zeros_read from (offset + 1) more bytes free)
end_more from offset more byte bytes false e free = absurd (no_fault _ free)

end_read : (from offset more : ℕ) (bytes : List ℕ) → IsFree (end_fault from offset more bytes) → bytes ≡ replicate (suc more) 0 ++ drop (suc more) bytes
end_read from offset more [] free = absurd (no_fault _ free)
end_read from offset more (byte ∷ bytes) free = end_more from offset more byte bytes (byte == 0) refl free

-- ---- strings
text_within : (bytes : List ℕ) → text_size bytes ≤ length bytes
text_within bytes = prefix_len-le-length is_text_byte bytes

zeros_aligned : (n : ℕ) → (n + suc (more_zeros n)) % 4 ≡ 0
zeros_aligned n = omega arith

zeros_short : (n : ℕ) → suc (more_zeros n) ≤ 4
zeros_short n = omega arith

pub string_reads : (from : ℕ) (bytes : List ℕ) → IsFree (string_fault from bytes) → IsString bytes (text_of bytes) (drop (string_size bytes) bytes)
string_reads from bytes free =
    let size = text_size bytes in
    let zeros = suc (more_zeros size) in
    let ended = end_read from (from + size) (more_zeros size) (drop size bytes) free in
    let left : drop zeros (drop size bytes) ≡ drop (size + zeros) bytes = drop-drop zeros size bytes in
    record {
      zeros = zeros;
      parts = sym (take-append-drop size bytes)
          ∙ ap (λ after. take size bytes ++ after) (ended ∙ ap (λ after. replicate zeros 0 ++ after) left);
      ascii = text_is_ascii bytes;
      ended = omega arith;
      shortest = zeros_short size;
      aligned = ap (λ n. (n + zeros) % 4) (length-take-le size bytes (text_within bytes)) ∙ zeros_aligned size;
    }

-- the further zeros of a string are as many as they have to be
pub string_zeros : (bytes text left : List ℕ) → (a : IsString bytes text left) → a.zeros ≡ suc (more_zeros (length text))
string_zeros bytes text left a =
    one_padding (length text) a.zeros (suc (more_zeros (length text))) a.ended a.shortest a.aligned
    (omega arith) (zeros_short (length text)) (zeros_aligned (length text))

-- what was checked has no fault
pub checked_free : {X : Type 0} (found : Option BundleFault) (value x : X) → Ok x ≡ checked found value → IsFree found
checked_free None value x e = refl
checked_free (Some fault) value x e = cc

pub checked_value : {X : Type 0} (found : Option BundleFault) (value x : X) → Ok x ≡ checked found value → x ≡ value
checked_value None value x e = cc
checked_value (Some fault) value x e = cc

-- a string whose end was checked, behind so many bytes of text
pub string_ends : (from size : ℕ) (bytes : List ℕ) (x : Unit {0}) → size ≡ text_size bytes
    → Ok x ≡ checked (end_fault from (from + size) (3 - size % 4) (take (length bytes - size) (drop size bytes))) tt → IsFree (string_fault from bytes)
string_ends from size bytes x is ends =
    let free = checked_free (end_fault from (from + size) (3 - size % 4) (take (length bytes - size) (drop size bytes))) tt x ends in
    let whole = subst (λ part. IsFree (end_fault from (from + size) (more_zeros size) part)) (take_rest bytes size) free in
    subst (λ n. IsFree (end_fault from (from + n) (more_zeros n) (drop n bytes))) is whole

-- a string that is read ends within the bytes
pub string_within : (from : ℕ) (bytes : List ℕ) → IsFree (string_fault from bytes) → string_size bytes ≤ length bytes
string_within from bytes free =
    let text = text_of bytes in
    let left = drop (string_size bytes) bytes in
    let a = string_reads from bytes free in
    let size = length-take-le (text_size bytes) bytes (text_within bytes) in
    let zeros : a.zeros ≡ suc (more_zeros (text_size bytes)) = string_zeros bytes text left a ∙ ap (λ n. suc (more_zeros n)) size in
    omega (
      arith,
      ap length a.parts,
      length-append text (replicate a.zeros 0 ++ left),
      length-append (replicate a.zeros 0) left,
      length-replicate {A = ℕ} a.zeros 0,
      size,
      zeros,
    )

string_text_size : (bytes text left : List ℕ) → IsString bytes text left → text_size bytes ≡ length text
string_text_size bytes text left a =
    let zero_first = first_zero a.zeros left a.ended in
    ap text_size (a.parts ∙ ap (λ after. text ++ after) zero_first.1) ∙ text_up_to_zero text zero_first.0 a.ascii

end_is_free : (from offset count more : ℕ) (left : List ℕ) → count ≡ suc more → IsFree (end_fault from offset more (replicate count 0 ++ left))
end_is_free from offset count more left e =
    subst (λ n. IsFree (end_fault from offset more (replicate n 0 ++ left))) (sym e) (zeros_free from (offset + 1) more left)

-- wherever it stands
pub string_free : (from : ℕ) (bytes text left : List ℕ) → IsString bytes text left → IsFree (string_fault from bytes)
string_free from bytes text left a =
    let size = string_text_size bytes text left a in
    let after : drop (length text) bytes ≡ replicate a.zeros 0 ++ left =
    ap (drop (length text)) a.parts ∙ drop_at text (replicate a.zeros 0 ++ left) (length text) refl in
    let at_end = end_is_free from (from + length text) a.zeros (more_zeros (length text)) left (string_zeros bytes text left a) in
    let at_text : IsFree (end_fault from (from + length text) (more_zeros (length text)) (drop (length text) bytes)) =
    subst (λ after. IsFree (end_fault from (from + length text) (more_zeros (length text)) after)) (sym after) at_end in
    subst (λ n. IsFree (end_fault from (from + n) (more_zeros n) (drop n bytes))) (sym size) at_text

-- a string is the text in front, and what it leaves follows its zeros
pub string_is : (bytes text left : List ℕ) → IsString bytes text left → (text ≡ text_of bytes) × (left ≡ drop (string_size bytes) bytes)
string_is bytes text left a =
    one_string bytes text (text_of bytes) left (drop (string_size bytes) bytes) a
    (string_reads 0 bytes (string_free 0 bytes text left a))
