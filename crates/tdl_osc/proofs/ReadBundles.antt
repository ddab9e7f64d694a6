-- A bundle has no fault exactly where bytes are one.
use Rattle.std.proofs.Common.{◌≡◌, ℕ, zero, suc, ◌+◌, ◌-◌, ◌%◌, ◌<◌, ◌≤◌, nat_lt, ◌==◌, Bool, true, false, cond, ◌&&◌, ℤ, pos, negsuc, nat_abs}
use Rattle.std.proofs.Common.{List, [], ◌∷◌, ◌++◌, length, take, drop, replicate, codes, Option, Some, None, Ok, refl, sym, ap, ◌∙◌, subst, arith, length-drop}
use Rattle.std.specs.Option.{option_or}
use Rattle.std.specs.Prelude.{IfNone}
use Rattle.std.specs.Str.{bytes_eq}
use Rattle.std.proofs.lemmas.Bool.{and_parts}
use Rattle.std.proofs.lemmas.Bool.Decides.{nat_tests}
use Rattle.std.proofs.lemmas.List.{take-append-drop, drop-drop, length-take, take_rest}
use Rattle.std.proofs.lemmas.Slice.Eq.{bytes_eq-Decides}
use Rattle.byteorder.specs.Endian.{big_number}
use Rattle.tdl_osc.specs.declared.faults.BundleFault.{BundleFault}
use Rattle.tdl_osc.specs.declared.faults.OscKind.TheVariants.{BadHead, BadSize}
use Rattle.tdl_osc.specs.Encoding.{osc_string}
use Rattle.tdl_osc.specs.BundleFault.{fault, short_fault, message_fault, number_of, size_fault, sized_fault, element_fault, elements_fault}
use Rattle.tdl_osc.specs.BundleFault.{head, head_fault, bundle_fault}
use Rattle.tdl_osc.specs.inside.Said.{checked, said_message, said_messages}
use Rattle.tdl_osc.specs.OscBundle.{IsString, OscMessage, IsElement, AreElements, IsBundle}
use Rattle.tdl_osc.proofs.ReadBack.{string_read}
use Rattle.tdl_osc.proofs.ReadStrings.{IsFree, or_free, free_or, no_fault, checked_free, checked_value, text_is_ascii, string_zeros}
use Rattle.tdl_osc.proofs.ReadMessages.{short_free, free_short, message_read, message_free}

-- ---- sizes
pub record IsSizeOf (number : ℤ) : Type 0 where
  pub is : number ≡ pos (nat_abs number)
  pub positive : 0 < nat_abs number
  pub aligned : nat_abs number % 4 ≡ 0

size_by : (size from : ℕ) (test : Bool) → (nat_lt 0 size && (size % 4 == 0)) ≡ test → IsFree (cond test None (fault BadSize from)) → IsSizeOf (pos size)
size_by size from true e free =
    let both = and_parts (nat_lt 0 size) (size % 4 == 0) e in
    record { is = refl; positive = grind (arith, nat_tests, both.0); aligned = grind (arith, nat_tests, both.1) }
size_by size from false e free = absurd (no_fault _ free)

pub size_free : (number : ℤ) (from : ℕ) → IsFree (size_fault number from) → IsSizeOf number
size_free (pos size) from free = size_by size from (nat_lt 0 size && (size % 4 == 0)) refl free
size_free (negsuc below) from free = absurd (no_fault _ free)

size_on : (from : ℕ) (above whole : Bool) → above ≡ true → whole ≡ true → IsFree (cond (above && whole) None (fault BadSize from))
size_on from above whole e f = rw (e, f) refl

free_size : (size from : ℕ) → 0 < size → size % 4 ≡ 0 → IsFree (size_fault (pos size) from)
free_size size from positive aligned =
    size_on from (nat_lt 0 size) (size % 4 == 0) (grind (arith, nat_tests, positive)) (grind (arith, nat_tests, aligned))

-- ---- elements
-- where the element that bytes begin with ends
abbrev pub size_in : List ℕ → ℕ
size_in bytes = nat_abs (number_of bytes)

abbrev pub after_element : List ℕ → List ℕ
after_element bytes = drop (size_in bytes) (drop 4 bytes)

abbrev pub contents_in : List ℕ → List ℕ
contents_in bytes = take (size_in bytes) (drop 4 bytes)

pub record ElementParts (from : ℕ) (bytes : List ℕ) : Type 0 where
  pub sized : 4 ≤ length bytes
  pub is_size : IsSizeOf (number_of bytes)
  pub within : size_in bytes ≤ length (drop 4 bytes)
  pub message : IsFree (message_fault (from + 4) (contents_in bytes))

pub element_parts : (from : ℕ) (bytes : List ℕ) → IsFree (element_fault from bytes) → ElementParts from bytes
element_parts from bytes free =
    let short = short_fault (size_in bytes) (from + 4) (drop 4 bytes) in
    let message = message_fault (from + 4) (contents_in bytes) in
    let first = or_free (short_fault 4 from bytes) (option_or (size_fault (number_of bytes) from) (option_or short message)) free in
    let second = or_free (size_fault (number_of bytes) from) (option_or short message) first.1 in
    let third = or_free short message second.1 in
    record {
      sized = short_free 4 from bytes first.0;
      is_size = size_free (number_of bytes) from second.0;
      within = short_free (size_in bytes) (from + 4) (drop 4 bytes) third.0;
      message = third.1;
    }

element_read : (from : ℕ) (bytes : List ℕ) → IsFree (element_fault from bytes) → IsElement bytes (said_message (contents_in bytes)) (after_element bytes)
element_read from bytes free =
    let parts = element_parts from bytes free in
    record {
      size = size_in bytes;
      after_size = drop 4 bytes;
      sized = record { within = parts.sized; value = sym parts.is_size.is; after = refl };
      positive = parts.is_size.positive;
      aligned = parts.is_size.aligned;
      within = parts.within;
      told = message_read (from + 4) (contents_in bytes) parts.message;
      after = refl;
    }

free_sized : (size from : ℕ) (bytes : List ℕ) (message : OscMessage) → size ≤ length bytes → IsFree (message_fault from (take size bytes))
    → IsFree (sized_fault size from bytes)
free_sized size from bytes message within free =
    free_or (short_fault size from bytes) (message_fault from (take size bytes)) (free_short size from bytes within) free

element_free : (from : ℕ) (bytes left : List ℕ) (message : OscMessage) → IsElement bytes message left
    → IsFree (element_fault from bytes) × (left ≡ after_element bytes)
element_free from bytes left message e =
    let number = e.sized.value in
    let size : e.size ≡ size_in bytes = ap nat_abs number in
    let sized = free_sized e.size (from + 4) e.after_size message e.within (message_free (from + 4) (take e.size e.after_size) message e.told) in
    let here : IsFree (sized_fault (size_in bytes) (from + 4) (drop 4 bytes)) =
    subst (λ after. IsFree (sized_fault (size_in bytes) (from + 4) after)) e.sized.after
    (subst (λ n. IsFree (sized_fault n (from + 4) e.after_size)) size sized) in
    let a_size : IsFree (size_fault (number_of bytes) from) =
    subst (λ z. IsFree (size_fault z from)) number (free_size e.size from e.positive e.aligned) in
    let free : IsFree (element_fault from bytes) =
    free_or (short_fault 4 from bytes) _ (free_short 4 from bytes e.sized.within) (free_or (size_fault (number_of bytes) from) _ a_size here) in
    let after : left ≡ after_element bytes =
    e.after ∙ ap (λ n. drop n e.after_size) size ∙ ap (drop (size_in bytes)) e.sized.after in
    (free, after)

-- ---- one element after another
elements_skip : (offset skip : ℕ) (bytes : List ℕ) → elements_fault offset skip bytes ≡ elements_fault (offset + skip) 0 (drop skip bytes)
elements_skip offset zero bytes = let same : offset ≡ offset + 0 = omega arith in ap (λ p. elements_fault p 0 bytes) same
elements_skip offset (suc skip) [] = refl
elements_skip offset (suc skip) (byte ∷ bytes) =
    let same : offset + 1 + skip ≡ offset + suc skip = omega arith in
    elements_skip (offset + 1) skip bytes ∙ ap (λ p. elements_fault p 0 (drop skip bytes)) same

said_skip : (skip : ℕ) (bytes : List ℕ) → said_messages skip bytes ≡ said_messages 0 (drop skip bytes)
said_skip zero bytes = refl
said_skip (suc skip) [] = refl
said_skip (suc skip) (byte ∷ bytes) = said_skip skip bytes

pub elements_turn : (offset : ℕ) (bytes : List ℕ) → 0 < length bytes
    → elements_fault offset 0 bytes ≡ option_or (element_fault offset bytes) (elements_fault (offset + 4 + size_in bytes) 0 (after_element bytes))
elements_turn offset [] some = absurd (omega (arith, some))
elements_turn offset (byte ∷ bytes) some =
    let size = size_in (byte ∷ bytes) in
    let skipped = elements_skip (offset + 1) (3 + size) bytes in
    let same : offset + 1 + (3 + size) ≡ offset + 4 + size = omega arith in
    let left : drop (3 + size) bytes ≡ drop size (drop 3 bytes) = sym (drop-drop size 3 bytes) in
    ap (λ later. option_or (element_fault offset (byte ∷ bytes)) later)
    (skipped ∙ ap (λ p. elements_fault p 0 (drop (3 + size) bytes)) same ∙ ap (elements_fault (offset + 4 + size) 0) left)

pub messages_turn : (bytes : List ℕ) → 0 < length bytes
    → said_messages 0 bytes ≡ said_message (contents_in bytes) ∷ said_messages 0 (after_element bytes)
messages_turn [] some = absurd (omega (arith, some))
messages_turn (byte ∷ bytes) some =
    let size = size_in (byte ∷ bytes) in
    let left : drop (3 + size) bytes ≡ drop size (drop 3 bytes) = sym (drop-drop size 3 bytes) in
    ap (λ others. said_message (contents_in (byte ∷ bytes)) ∷ others) (said_skip (3 + size) bytes ∙ ap (said_messages 0) left)

pub elements_parts : (offset : ℕ) (bytes : List ℕ) → 0 < length bytes → IsFree (elements_fault offset 0 bytes)
    → IsFree (element_fault offset bytes) × IsFree (elements_fault (offset + 4 + size_in bytes) 0 (after_element bytes))
elements_parts offset bytes some free =
    or_free (element_fault offset bytes) (elements_fault (offset + 4 + size_in bytes) 0 (after_element bytes)) (sym (elements_turn offset bytes some) ∙ free)

-- an element was checked
pub element_on : (offset size : ℕ) (bytes : List ℕ) → Ok size ≡ checked (element_fault offset bytes) (4 + size_in bytes)
    → elements_fault (offset + size) 0 (take (length bytes - size) (drop size bytes)) ≡ elements_fault offset 0 bytes
element_on offset size bytes ok =
    let free = checked_free (element_fault offset bytes) (4 + size_in bytes) size ok in
    let is = checked_value (element_fault offset bytes) (4 + size_in bytes) size ok in
    let some : 0 < length bytes = omega (arith, (element_parts offset bytes free).sized) in
    let left : after_element bytes ≡ take (length bytes - size) (drop size bytes) =
    drop-drop (size_in bytes) 4 bytes ∙ ap (λ n. drop n bytes) (sym is) ∙ sym (take_rest bytes size) in
    let at : offset + 4 + size_in bytes ≡ offset + size = omega (arith, is) in
    let later = elements_fault (offset + 4 + size_in bytes) 0 (after_element bytes) in
    sym (elements_turn offset bytes some ∙ ap (λ found. option_or found later) free
    ∙ ap (λ n. elements_fault n 0 (after_element bytes)) at ∙ ap (elements_fault (offset + size) 0) left)

-- the bytes behind an element are fewer
shorter : (fuel : ℕ) (byte : ℕ) (bytes : List ℕ) → length (byte ∷ bytes) ≤ suc fuel → length (after_element (byte ∷ bytes)) ≤ fuel
shorter fuel byte bytes h =
    let size = size_in (byte ∷ bytes) in
    omega (arith, length-drop size (drop 3 bytes), length-drop 3 bytes, h)

elements_read : (fuel offset : ℕ) (bytes : List ℕ) → length bytes ≤ fuel → IsFree (elements_fault offset 0 bytes) → AreElements bytes (said_messages 0 bytes)
elements_read fuel offset [] h free = refl
elements_read zero offset (byte ∷ bytes) h free = absurd (omega (arith, h))
elements_read (suc fuel) offset (byte ∷ bytes) h free =
    let all = byte ∷ bytes in
    let some : 0 < length (byte ∷ bytes) = omega arith in
    let parts = elements_parts offset (byte ∷ bytes) some free in
    let others = elements_read fuel (offset + 4 + size_in (byte ∷ bytes)) (after_element (byte ∷ bytes)) (shorter fuel byte bytes h) parts.1 in
    subst (AreElements (byte ∷ bytes)) (sym (messages_turn (byte ∷ bytes) some))
    (after_element (byte ∷ bytes), element_read offset (byte ∷ bytes) parts.0, others)

no_elements : (offset : ℕ) (bytes : List ℕ) → bytes ≡ [] → IsFree (elements_fault offset 0 bytes)
no_elements offset [] e = refl
no_elements offset (byte ∷ bytes) e = absurd (omega (arith, ap length e))

elements_free : (offset : ℕ) (bytes : List ℕ) (messages : List OscMessage) → AreElements bytes messages → IsFree (elements_fault offset 0 bytes)
elements_free offset bytes [] a = no_elements offset bytes a
elements_free offset bytes (message ∷ messages) a =
    let some : 0 < length bytes = omega (arith, a.1.sized.within) in
    let one = element_free offset bytes a.0 message a.1 in
    let next = offset + 4 + size_in bytes in
    let others = subst (λ left. IsFree (elements_fault next 0 left)) one.1 (elements_free next a.0 messages a.2) in
    elements_turn offset bytes some ∙ free_or (element_fault offset bytes) (elements_fault next 0 (after_element bytes)) one.0 others

-- ---- the head
head_by : (bytes : List ℕ) (test : Bool) → bytes_eq head (take 8 bytes) ≡ test → IsFree (cond test None (fault BadHead 0)) → head ≡ take 8 bytes
head_by bytes true e free = (bytes_eq-Decides head (take 8 bytes)).0 e
head_by bytes false e free = absurd (no_fault _ free)

head_front : (bytes : List ℕ) → IsFree (head_fault bytes) → head ≡ take 8 bytes
head_front bytes free = head_by bytes (bytes_eq head (take 8 bytes)) refl free

pub head_within : (bytes : List ℕ) → IsFree (head_fault bytes) → 8 ≤ length bytes
head_within bytes free = omega (arith, ap length (head_front bytes free), length-take 8 bytes)

head_read : (bytes : List ℕ) → IsFree (head_fault bytes) → IsString bytes (codes "#bundle") (drop 8 bytes)
unfolding osc_string
head_read bytes free =
    let whole : osc_string (codes "#bundle") ++ drop 8 bytes ≡ bytes =
    ap (λ xs. xs ++ drop 8 bytes) (head_front bytes free) ∙ take-append-drop 8 bytes in
    subst (λ bs. IsString bs (codes "#bundle") (drop 8 bytes)) whole (string_read (codes "#bundle") (drop 8 bytes) (text_is_ascii (codes "#bundle")))

head_free : (bytes left : List ℕ) → IsString bytes (codes "#bundle") left → IsFree (head_fault bytes) × (left ≡ drop 8 bytes)
head_free bytes left a =
    let one : a.zeros ≡ 1 = string_zeros bytes (codes "#bundle") left a in
    let parts : bytes ≡ codes "#bundle" ++ 0 ∷ left = a.parts ∙ ap (λ n. codes "#bundle" ++ (replicate n 0 ++ left)) one in
    (subst (λ bs. IsFree (head_fault bs)) (sym parts) refl, sym (ap (drop 8) parts))

-- ---- the bundle
pub record BundleParts (bytes : List ℕ) : Type 0 where
  pub head : IsFree (head_fault bytes)
  pub timed : 8 ≤ length (drop 8 bytes)
  pub elements : IsFree (elements_fault 16 0 (drop 16 bytes))

pub bundle_parts : (bytes : List ℕ) → IsFree (bundle_fault bytes) → BundleParts bytes
bundle_parts bytes free =
    let elements = elements_fault 16 0 (drop 16 bytes) in
    let first = or_free (head_fault bytes) (option_or (short_fault 8 8 (drop 8 bytes)) elements) free in
    let second = or_free (short_fault 8 8 (drop 8 bytes)) elements first.1 in
    record { head = first.0; timed = short_free 8 8 (drop 8 bytes) second.0; elements = second.1 }

pub bundle_read : (bytes : List ℕ) → bundle_fault bytes ≡ None → IsBundle bytes (pos (big_number 8 (drop 8 bytes))) (said_messages 0 (drop 16 bytes))
bundle_read bytes free =
    let parts = bundle_parts bytes free in
    record {
      after_head = drop 8 bytes;
      after_tag = drop 16 bytes;
      head = head_read bytes parts.head;
      timed = record { within = parts.timed; value = refl; after = sym (drop-drop 8 8 bytes) };
      told = elements_read (length (drop 16 bytes)) 16 (drop 16 bytes) (omega arith) parts.elements;
    }

pub bundle_free : (bytes : List ℕ) (tag : ℤ) (messages : List OscMessage) → IsBundle bytes tag messages → bundle_fault bytes ≡ None
bundle_free bytes tag messages b =
    let front = head_free bytes b.after_head b.head in
    let within : 8 ≤ length (drop 8 bytes) = subst (λ left. 8 ≤ length left) front.1 b.timed.within in
    let after : b.after_tag ≡ drop 16 bytes = b.timed.after ∙ ap (drop 8) front.1 ∙ drop-drop 8 8 bytes in
    let elements = subst (λ left. IsFree (elements_fault 16 0 left)) after (elements_free 16 b.after_tag messages b.told) in
    free_or (head_fault bytes) _ front.0
    (free_or (short_fault 8 8 (drop 8 bytes)) (elements_fault 16 0 (drop 16 bytes)) (free_short 8 8 (drop 8 bytes) within) elements)

-- what a bundle's check answers, and what is read
pub none_is_bundle : (bytes : List ℕ) (found : Option BundleFault) → found ≡ bundle_fault bytes
    → IfNone found ((tag : ℤ) × ((messages : List OscMessage) × IsBundle bytes tag messages))
none_is_bundle bytes None e = (pos (big_number 8 (drop 8 bytes)), (said_messages 0 (drop 16 bytes), bundle_read bytes (sym e)))
none_is_bundle bytes (Some fault) e = tt

pub value_read : (bytes : List ℕ) (tag : ℕ) (messages : List OscMessage) → bundle_fault bytes ≡ None
    → tag ≡ big_number 8 (take (length bytes - 8) (drop 8 bytes)) → messages ≡ said_messages 0 (take (length bytes - 16) (drop 16 bytes))
    → IsBundle bytes (pos tag) messages
value_read bytes tag messages free timed said =
    let tag_is : tag ≡ big_number 8 (drop 8 bytes) = timed ∙ ap (big_number 8) (take_rest bytes 8) in
    let messages_are : messages ≡ said_messages 0 (drop 16 bytes) = said ∙ ap (said_messages 0) (take_rest bytes 16) in
    subst (λ ms. IsBundle bytes (pos tag) ms) (sym messages_are)
    (subst (λ n. IsBundle bytes (pos n) (said_messages 0 (drop 16 bytes))) (sym tag_is) (bundle_read bytes free))
