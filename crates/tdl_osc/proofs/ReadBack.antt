-- What the bytes of strings, numbers and arguments are read as.
use Rattle.std.proofs.Common.{◌≡◌, ℕ, suc, ◌+◌, ◌-◌, ◌%◌, ◌^◌, ◌<◌, ◌≤◌, ℤ, pos, nat_abs, ◌≤ℤ◌, ◌<ℤ◌, FitsSigned, List, [], ◌∷◌, ◌++◌, length, replicate}
use Rattle.std.proofs.Common.{refl, sym, ap, ◌∙◌, arith, append_assoc, length-append}
use Rattle.std.specs.Int.{w32, cast_unsigned}
use Rattle.std.specs.List.{All, flat_map}
use Rattle.std.proofs.lemmas.Int.{ints}
use Rattle.std.proofs.lemmas.List.Elements.{All-head, All-tail}
use Rattle.byteorder.specs.Endian.{twos_complement}
use Rattle.byteorder.specs.Numbers.{big_number-reads_back}
use Rattle.tdl_osc.specs.Encoding.{int32_bytes, time_bytes, osc_string}
use Rattle.tdl_osc.specs.Message.{Argument, Int, Word, tag_of, argument_bytes}
use Rattle.tdl_osc.specs.OscBundle.{IsTextByte, IsString, IsInt, IsTime, AreArguments}
use Rattle.tdl_osc.proofs.Strings.{length-int32_bytes}

abbrev pub IsAscii : List ℕ → Type 0
IsAscii text = All IsTextByte text

-- ---- strings
padding_aligned : (n : ℕ) → (n + suc ((4 - (n + 1) % 4) % 4)) % 4 ≡ 0
padding_aligned n = omega arith

padding_short : (n : ℕ) → suc ((4 - (n + 1) % 4) % 4) ≤ 4
padding_short n = omega arith

pub string_read : (text left : List ℕ) → IsAscii text → IsString (osc_string text ++ left) text left
unfolding osc_string
string_read text left ascii = record {
  zeros = suc ((4 - (length text + 1) % 4) % 4);
  parts = append_assoc text (0 ∷ replicate ((4 - (length text + 1) % 4) % 4) 0) left;
  ascii = ascii;
  ended = omega arith;
  shortest = padding_short (length text);
  aligned = padding_aligned (length text);
}

-- ---- numbers
word_is : (n : ℤ) → FitsSigned w32 n → twos_complement 4 (cast_unsigned w32 n) ≡ n
word_is n fits = grind (arith, ints)

word_small : (n : ℤ) → FitsSigned w32 n → cast_unsigned w32 n < 256 ^ 4
word_small n fits = omega (arith, ints)

pub int_read : (n : ℤ) (left : List ℕ) → FitsSigned w32 n → IsInt (int32_bytes n ++ left) n left
unfolding int32_bytes
int_read n left fits = record {
  within = omega (arith, length-append (int32_bytes n) left, length-int32_bytes n);
  value = sym (ap (twos_complement 4) (big_number-reads_back 4 (cast_unsigned w32 n) left (word_small n fits)) ∙ word_is n fits);
  after = refl;
}

length-time_bytes : (tag : ℤ) → length (time_bytes tag) ≡ 8
unfolding time_bytes
length-time_bytes tag = refl

natural : (n : ℤ) → pos 0 ≤ℤ n → n ≡ pos (nat_abs n)
natural n h = omega (arith, ints)

tag_small : (n : ℤ) → pos 0 ≤ℤ n → n <ℤ pos (2 ^ 64) → nat_abs n < 256 ^ 8
tag_small n h k = omega (arith, ints)

pub time_read : (tag : ℤ) (left : List ℕ) → pos 0 ≤ℤ tag → tag <ℤ pos (2 ^ 64) → IsTime (time_bytes tag ++ left) tag left
unfolding time_bytes
time_read tag left low high = record {
  within = omega (arith, length-append (time_bytes tag) left, length-time_bytes tag);
  value = natural tag low ∙ ap pos (sym (big_number-reads_back 8 (nat_abs tag) left (tag_small tag low high)));
  after = refl;
}

-- ---- arguments
-- a number of 32 bits, or a short text of ASCII bytes
abbrev pub CanStand : Argument → Type 0
CanStand (Int number) = FitsSigned w32 number
CanStand (Word text) = IsAscii text × (length text ≤ 32)

pub arguments_read : (arguments : List Argument) → All CanStand arguments
    → AreArguments (flat_map tag_of arguments) (flat_map argument_bytes arguments) arguments
arguments_read [] all = refl
arguments_read (Int number ∷ arguments) all =
    let fits = All-head CanStand (Int number) arguments all in
    let rest = arguments_read arguments (All-tail CanStand (Int number) arguments all) in
    (flat_map argument_bytes arguments, (refl, int_read number (flat_map argument_bytes arguments) fits), rest)
arguments_read (Word text ∷ arguments) all =
    let ascii = All-head CanStand (Word text) arguments all in
    let rest = arguments_read arguments (All-tail CanStand (Word text) arguments all) in
    (flat_map argument_bytes arguments, (refl, string_read text (flat_map argument_bytes arguments) ascii.0), rest)
