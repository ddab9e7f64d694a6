-- The bytes of a row are a bundle, and its arguments can stand in one.
use Rattle.std.proofs.Common.{◌≡◌, ℕ, ◌+◌, ◌-◌, ◌*◌, ◌%◌, ◌^◌, ◌<◌, ◌≤◌, nat_lt, Bool, true, ◌&&◌, cond, ℤ, pos, negsuc, ◌-ℤ◌, ◌≤ℤ◌, ◌<ℤ◌, FitsSigned}
use Rattle.std.proofs.Common.{List, [], ◌∷◌, ◌++◌, length, codes, refl, sym, ap, ◌∙◌, subst, arith, append_assoc, length-append}
use Rattle.std.specs.Int.{w32, int_rem_euclid}
use Rattle.std.specs.Int.Signed.{le_z}
use Rattle.std.specs.List.{All, flat_map, list_all}
use Rattle.std.proofs.lemmas.Bool.{and_parts}
use Rattle.std.proofs.lemmas.Bool.Decides.{nat_tests}
use Rattle.std.proofs.lemmas.Int.{ints}
use Rattle.std.proofs.lemmas.List.{length-replicate, take_all, drop_all}
use Rattle.std.proofs.lemmas.List.Elements.{All-nil, All-head, All-tail, All-cons, All-append}
use Rattle.tdl_control.specs.declared.keys.Key.{Key}
use Rattle.tdl_control.specs.Key.{name_of}
use Rattle.tdl_control.specs.Setting.{Setting, Number, Spelling, IsSettingOf}
use Rattle.tdl_control.specs.WordForm.{is_word_byte}
use Rattle.tdl_control.specs.Map.{KeyValues, IsTyped}
use Rattle.tdl_control.proofs.KeyLemmas.{each_key}
use Rattle.tdl_event.specs.declared.rows.Row.{Row}
use Rattle.tdl_fraction.specs.Rational.{Rational, whole, ◌*ℚ◌, ◌/ℚ◌, ◌≤ℚ◌, ◌<ℚ◌, floor}
use Rattle.tdl_fraction.proofs.Order.{≤ℚ_from_<ℚ, whole_positive, times_not_negative, divide_not_negative}
use Rattle.tdl_fraction.proofs.Rounding.{le_floor, floor_lt}
use Rattle.tdl_tempo.specs.Tempo.{Pace, IsCps, scaled, second_micros, longest, timetag, micros}
use Rattle.tdl_osc.specs.Encoding.{int32_bytes, time_bytes, osc_string, string_end}
use Rattle.tdl_osc.specs.Message.{Argument, Int, Word, tag_of, argument_bytes, type_tags, message_bytes}
use Rattle.tdl_osc.specs.Bundle.{setting_argument, control_arguments, time_arguments, row_arguments, bundle_bytes, message_of, bytes_of}
use Rattle.tdl_osc.specs.OscBundle.{IsTextByte, IsString, OscMessage, IsMessage, IsElement, IsBundle}
use Rattle.tdl_osc.specs.BundleLaws.{IsSendable, play_message}
use Rattle.tdl_control.proofs.KeyLemmas.{name_short}
use Rattle.tdl_control.proofs.ReadLemmas.{map_short}
use Rattle.tdl_osc.proofs.Strings.{length-osc_string, length-int32_bytes}
use Rattle.tdl_osc.proofs.ReadBack.{IsAscii, CanStand, string_read, int_read, time_read, arguments_read}

-- ---- the arguments of a row
ascii_from : (p : ℕ → Bool) → ((byte : ℕ) → p byte ≡ true → IsTextByte byte) → (text : List ℕ) → list_all p text ≡ true → IsAscii text
ascii_from p each [] all = All-nil IsTextByte
ascii_from p each (byte ∷ text) all =
    let both = and_parts (p byte) (list_all p text) all in
    All-cons IsTextByte byte text (each byte both.0) (ascii_from p each text both.1)

abbrev is_ascii : ℕ → Bool
is_ascii byte = nat_lt 0 byte && nat_lt byte 128

ascii_byte : (byte : ℕ) → is_ascii byte ≡ true → IsTextByte byte
ascii_byte byte h =
    let both = and_parts (nat_lt 0 byte) (nat_lt byte 128) h in
    (grind (arith, nat_tests, both.0), grind (arith, nat_tests, both.1))

word_byte : (byte : ℕ) → is_word_byte byte ≡ true → IsTextByte byte
word_byte byte h = (grind (arith, nat_tests, h), grind (arith, nat_tests, h))

name_stands : (key : Key) → CanStand (Word (name_of key))
name_stands key =
    let short = name_short key in
    (ascii_from is_ascii ascii_byte (name_of key) (each_key (λ k. list_all is_ascii (name_of k)) refl key), omega (arith, short))

setting_stands : (key : Key) (setting : Setting) → IsSettingOf key setting → CanStand (setting_argument setting)
setting_stands key (Number number) h = h.1
setting_stands key (Spelling bytes) h = (ascii_from is_word_byte word_byte bytes h.1.plain, h.1.short)

controls_stand : (es : KeyValues) → IsTyped es → All CanStand (control_arguments es)
controls_stand [] typed = All-nil CanStand
controls_stand (e ∷ es) typed =
    let first = All-head (λ entry. IsSettingOf entry.0 entry.1) e es typed in
    let rest = controls_stand es (All-tail (λ entry. IsSettingOf entry.0 entry.1) e es typed) in
    All-cons CanStand (Word (name_of e.0)) (setting_argument e.1 ∷ control_arguments es) (name_stands e.0)
    (All-cons CanStand (setting_argument e.1) (control_arguments es) (setting_stands e.0 e.1 first) rest)

near_fits : (n : ℤ) → pos 0 ≤ℤ n → n <ℤ pos (2 ^ 20) → FitsSigned w32 n
near_fits n low high = omega (arith, ints)

orbit_fits : (orbit : ℕ) → 1 ≤ orbit → orbit < 2 ^ 8 → FitsSigned w32 (pos orbit -ℤ pos 1)
orbit_fits orbit low high = omega (arith, ints)

capped_fits : (m : ℤ) → pos 0 ≤ℤ m → FitsSigned w32 (cond (le_z longest m) longest m)
capped_fits m low = grind (arith, ints)

micros_fit : (length : Rational) (tempo : Pace) → whole (pos 0) <ℚ length → IsCps tempo.cps → FitsSigned w32 (micros tempo length)
micros_fit length tempo above cps =
    let scale : whole (pos 0) ≤ℚ whole (pos second_micros) = ≤ℚ_from_<ℚ (whole_positive second_micros (omega arith)) in
    let exact = divide_not_negative (times_not_negative (≤ℚ_from_<ℚ above) scale) cps.positive in
    capped_fits (scaled tempo second_micros length) ((le_floor (pos 0) (length *ℚ whole (pos second_micros) /ℚ tempo.cps)).0 exact)

plain : (text : List ℕ) → list_all is_ascii text ≡ true → length text ≤ 32 → CanStand (Word text)
plain text ascii short = (ascii_from is_ascii ascii_byte text ascii, short)

-- three names, each with a number
three_stand : (a b c : List ℕ) (k m n : ℤ) → CanStand (Word a) → CanStand (Int k) → CanStand (Word b) → CanStand (Int m) → CanStand (Word c) → CanStand (Int n)
    → All CanStand (Word a ∷ Int k ∷ Word b ∷ Int m ∷ Word c ∷ Int n ∷ [])
three_stand a b c k m n pa pk pb pm pc pn =
    let last = All-cons CanStand (Word c) (Int n ∷ []) pc (All-cons CanStand (Int n) [] pn (All-nil CanStand)) in
    let middle = All-cons CanStand (Word b) (Int m ∷ Word c ∷ Int n ∷ []) pb (All-cons CanStand (Int m) (Word c ∷ Int n ∷ []) pm last) in
    All-cons CanStand (Word a) (Int k ∷ Word b ∷ Int m ∷ Word c ∷ Int n ∷ []) pa (All-cons CanStand (Int k) (Word b ∷ Int m ∷ Word c ∷ Int n ∷ []) pk middle)

times_stand : (row : Row) (tempo : Pace) → IsSendable row → IsCps tempo.cps → All CanStand (time_arguments row tempo)
times_stand row tempo ok cps =
    let cycle = near_fits (floor row.onset) ((le_floor (pos 0) row.onset).0 ok.from_zero) ((floor_lt row.onset (pos (2 ^ 20))).0 ok.below_end) in
    let delta = micros_fit row.length tempo ok.has_length cps in
    let orbit = orbit_fits row.orbit ok.has_orbit ok.short_orbit in
    three_stand (codes "cycle") (codes "delta") (codes "orbit") (floor row.onset) (micros tempo row.length) (pos row.orbit -ℤ pos 1)
    (plain (codes "cycle") refl (omega arith)) cycle (plain (codes "delta") refl (omega arith)) delta (plain (codes "orbit") refl (omega arith)) orbit

arguments_stand : (row : Row) (tempo : Pace) → IsSendable row → IsCps tempo.cps → All CanStand (row_arguments row tempo)
arguments_stand row tempo ok cps =
    All-append CanStand (time_arguments row tempo) (control_arguments row.controls) (times_stand row tempo ok cps) (controls_stand row.controls ok.is_map.typed)

-- ---- the message
tags_ascii : (arguments : List Argument) → IsAscii (flat_map tag_of arguments)
tags_ascii [] = All-nil IsTextByte
tags_ascii (Int number ∷ arguments) = All-cons IsTextByte 105 (flat_map tag_of arguments) (omega arith, omega arith) (tags_ascii arguments)
tags_ascii (Word text ∷ arguments) = All-cons IsTextByte 115 (flat_map tag_of arguments) (omega arith, omega arith) (tags_ascii arguments)

all_tags_ascii : (arguments : List Argument) → IsAscii (type_tags arguments)
all_tags_ascii arguments = All-cons IsTextByte 44 (flat_map tag_of arguments) (omega arith, omega arith) (tags_ascii arguments)

abbrev message : List ℕ → List Argument → OscMessage
message address arguments = record { address = address; arguments = arguments }

message_read : (address name : List ℕ) (arguments : List Argument) → address ≡ codes "/" ++ name → IsAscii address → All CanStand arguments
    → IsMessage (message_bytes address arguments) (message address arguments)
unfolding message_bytes
message_read address name arguments slash ascii all =
    let tags = osc_string (type_tags arguments) in
    let values = flat_map argument_bytes arguments in
    let joined = append_assoc (osc_string address) tags values in
    record {
      name = name;
      after_address = tags ++ values;
      tags = flat_map tag_of arguments;
      after_tags = values;
      slash = slash;
      addressed = subst (λ bytes. IsString bytes address (tags ++ values)) (sym joined) (string_read address (tags ++ values) ascii);
      tagged = string_read (type_tags arguments) values (all_tags_ascii arguments);
      told = arguments_read arguments all;
    }

-- ---- sizes
padding_size : (n : ℕ) → length (string_end n) ≡ 1 + (4 - (n + 1) % 4) % 4
padding_size n = omega (arith, length-replicate {A = ℕ} ((4 - (n + 1) % 4) % 4) 0)

string_aligned : (text : List ℕ) → length (osc_string text) % 4 ≡ 0
string_aligned text = omega (arith, length-osc_string text, padding_size (length text))

string_short : (text : List ℕ) → length (osc_string text) ≤ length text + 4
string_short text = omega (arith, length-osc_string text, padding_size (length text))

string_some : (text : List ℕ) → 0 < length (osc_string text)
string_some text = omega (arith, length-osc_string text, padding_size (length text))

sum_aligned : (m n : ℕ) → m % 4 ≡ 0 → n % 4 ≡ 0 → (m + n) % 4 ≡ 0
sum_aligned m n h k = omega arith

argument_aligned : (argument : Argument) → length (argument_bytes argument) % 4 ≡ 0
argument_aligned (Int number) = ap (λ n. n % 4) (length-int32_bytes number)
argument_aligned (Word text) = string_aligned text

argument_short : (argument : Argument) → CanStand argument → length (argument_bytes argument) ≤ 36
argument_short (Int number) ok = omega (arith, length-int32_bytes number)
argument_short (Word text) ok = omega (arith, string_short text, ok.1)

values_aligned : (arguments : List Argument) → length (flat_map argument_bytes arguments) % 4 ≡ 0
values_aligned [] = refl
values_aligned (argument ∷ arguments) =
    let values = flat_map argument_bytes arguments in
    let parts : length (argument_bytes argument ++ values) ≡ length (argument_bytes argument) + length values =
    length-append (argument_bytes argument) values in
    ap (λ n. n % 4) parts ∙ sum_aligned (length (argument_bytes argument)) (length values) (argument_aligned argument) (values_aligned arguments)

values_short : (arguments : List Argument) → All CanStand arguments → length (flat_map argument_bytes arguments) ≤ 36 * length arguments
values_short [] all = omega arith
values_short (argument ∷ arguments) all =
    let first = argument_short argument (All-head CanStand argument arguments all) in
    let rest = values_short arguments (All-tail CanStand argument arguments all) in
    let parts = length-append (argument_bytes argument) (flat_map argument_bytes arguments) in
    omega (arith, first, rest, parts)

tag_size : (argument : Argument) → length (tag_of argument) ≡ 1
tag_size (Int number) = refl
tag_size (Word text) = refl

tags_size : (arguments : List Argument) → length (flat_map tag_of arguments) ≡ length arguments
tags_size [] = refl
tags_size (argument ∷ arguments) =
    let parts = length-append (tag_of argument) (flat_map tag_of arguments) in
    omega (arith, tag_size argument, tags_size arguments, parts)

-- a message is not empty, a multiple of 4 long, and not long
pub record IsSize (size : ℕ) : Type 0 where
  pub some : 0 < size
  pub aligned : size % 4 ≡ 0
  pub short : size < 2 ^ 31

sizes : (address tags values count all : ℕ) → 0 < address → address ≤ 64 → address % 4 ≡ 0 → tags ≤ count + 5 → tags % 4 ≡ 0
    → values ≤ 36 * count → values % 4 ≡ 0 → count ≤ 64 → all ≡ address + tags + values → IsSize all
sizes address tags values count all a b c d e f g h i = record { some = omega arith; aligned = omega arith; short = omega arith }

message_size : (address : List ℕ) (arguments : List Argument) → length address ≤ 32 → length arguments ≤ 64 → All CanStand arguments
    → IsSize (length (message_bytes address arguments))
unfolding message_bytes
message_size address arguments short few all =
    let head = osc_string address in
    let tags = osc_string (type_tags arguments) in
    let values = flat_map argument_bytes arguments in
    let outer = length-append (head ++ tags) values in
    let inner = length-append head tags in
    sizes (length head) (length tags) (length values) (length arguments) (length (head ++ tags ++ values)) (string_some address)
    (omega (arith, string_short address)) (string_aligned address)
    (omega (arith, string_short (type_tags arguments), tags_size arguments)) (string_aligned (type_tags arguments))
    (values_short arguments all) (values_aligned arguments) few (omega (arith, outer, inner))

controls_count : (es : KeyValues) → length (control_arguments es) ≡ 2 * length es
controls_count [] = refl
controls_count (e ∷ es) = let rest = controls_count es in omega (arith, rest)

arguments_few : (row : Row) (tempo : Pace) → IsSendable row → length (row_arguments row tempo) ≤ 64
arguments_few row tempo ok =
    let few = map_short row.controls ok.is_map in
    let parts = length-append (time_arguments row tempo) (control_arguments row.controls) in
    omega (arith, few, parts, controls_count row.controls)

-- ---- the bundle
size_fits : (size : ℕ) → size < 2 ^ 31 → FitsSigned w32 (pos size)
size_fits size h = omega (arith, ints)

element_read : (bytes : List ℕ) (m : OscMessage) → IsMessage bytes m → IsSize (length bytes) → IsElement (int32_bytes (pos (length bytes)) ++ bytes) m []
element_read bytes m told size = record {
  size = length bytes;
  after_size = bytes;
  sized = int_read (pos (length bytes)) bytes (size_fits (length bytes) size.short);
  positive = size.some;
  aligned = size.aligned;
  within = omega arith;
  told = subst (λ part. IsMessage part m) (sym (take_all (length bytes) bytes (omega arith))) told;
  after = sym (drop_all (length bytes) bytes (omega arith));
}

-- the head, the time tag, and the message after its size, put together
regrouped : (a b c d : List ℕ) → ((a ++ b) ++ c) ++ d ≡ a ++ (b ++ (c ++ d))
regrouped a b c d = append_assoc (a ++ b) c d ∙ append_assoc a b (c ++ d)

bundle_read : (tag : ℤ) (bytes : List ℕ) (m : OscMessage) → pos 0 ≤ℤ tag → tag <ℤ pos (2 ^ 64) → IsMessage bytes m → IsSize (length bytes)
    → IsBundle (bundle_bytes tag bytes) tag (m ∷ [])
unfolding bundle_bytes
bundle_read tag bytes m low high told size =
    let element = int32_bytes (pos (length bytes)) ++ bytes in
    let timed = time_bytes tag ++ element in
    let whole = regrouped (osc_string (codes "#bundle")) (time_bytes tag) (int32_bytes (pos (length bytes))) bytes in
    record {
      after_head = timed;
      after_tag = element;
      head = subst (λ all. IsString all (codes "#bundle") timed) (sym whole)
          (string_read (codes "#bundle") timed (ascii_from is_ascii ascii_byte (codes "#bundle") refl));
      timed = time_read tag element low high;
      told = ([], element_read bytes m told size, refl);
    }

tag_low : (n : ℤ) → pos 0 ≤ℤ int_rem_euclid n (pos (2 ^ 64))
tag_low (pos a) = omega (arith, ints)
tag_low (negsuc a) = omega (arith, ints)

tag_high : (n : ℤ) → int_rem_euclid n (pos (2 ^ 64)) <ℤ pos (2 ^ 64)
tag_high (pos a) = omega (arith, ints)
tag_high (negsuc a) = omega (arith, ints)

pub row_bundle : (row : Row) (tempo : Pace) → IsSendable row → IsCps tempo.cps
    → IsBundle (bytes_of row tempo) (timetag tempo row.onset) (play_message row tempo ∷ [])
unfolding bytes_of message_of
row_bundle row tempo ok cps =
    let arguments = row_arguments row tempo in
    let stand = arguments_stand row tempo ok cps in
    let ascii = ascii_from is_ascii ascii_byte (codes "/dirt/play") refl in
    let told = message_read (codes "/dirt/play") (codes "dirt/play") arguments refl ascii stand in
    let size = message_size (codes "/dirt/play") arguments (omega arith) (arguments_few row tempo ok) stand in
    bundle_read (timetag tempo row.onset) (message_of row tempo) (play_message row tempo) (tag_low _) (tag_high _) told size
