-- A message has no fault exactly where bytes are one.
use Rattle.std.proofs.Common.{◌≡◌, ℕ, suc, ◌+◌, ◌≤◌, nat_lt, ◌==◌, Bool, true, false, cond}
use Rattle.std.proofs.Common.{List, [], ◌∷◌, ◌++◌, length, get_or, take, drop, replicate, codes}
use Rattle.std.proofs.Common.{None, refl, sym, ap, ◌∙◌, subst, arith}
use Rattle.std.specs.List.{All}
use Rattle.std.specs.Option.{option_or}
use Rattle.std.proofs.lemmas.Bool.Decides.{nat_tests}
use Rattle.std.proofs.lemmas.List.Elements.{All-nil, All-cons, All-head, All-tail}
use Rattle.tdl_osc.specs.declared.faults.OscKind.TheVariants.{Short, BadTag, BadAddress}
use Rattle.tdl_osc.specs.BundleFault.{fault, short_fault, is_text_byte, text_size, text_of, string_size, string_fault, slash_fault, is_tag, tag_fault}
use Rattle.tdl_osc.specs.BundleFault.{comma_fault}
use Rattle.tdl_osc.specs.BundleFault.{tags_fault, tags_of, argument_fault, argument_size, past_fault, arguments_fault, contents_fault, message_fault, number_of}
use Rattle.tdl_osc.specs.inside.Said.{said_argument, said_arguments, said_message}
use Rattle.tdl_osc.specs.Message.{Argument, Int, Word}
use Rattle.tdl_osc.specs.OscBundle.{IsString, IsArgument, AreArguments, OscMessage, IsMessage}
use Rattle.tdl_osc.proofs.OneBundle.{first_zero}
use Rattle.tdl_osc.proofs.ReadStrings.{IsFree, or_free, free_or, no_fault, string_reads, string_within, string_free, string_is}

-- ---- the byte that a string begins with
text_step : (mark : ℕ) (bytes : List ℕ) (test : Bool) → test ≡ true → take (cond test (1 + text_size bytes) 0) (mark ∷ bytes) ≡ mark ∷ text_of bytes
text_step mark bytes true e =
    let more : 1 + text_size bytes ≡ suc (text_size bytes) = omega arith in
    ap (λ n. take n (mark ∷ bytes)) more
text_step mark bytes false e = cc

text_from : (mark : ℕ) (bytes : List ℕ) → is_text_byte mark ≡ true → text_of (mark ∷ bytes) ≡ mark ∷ text_of bytes
text_from mark bytes is_text = text_step mark bytes (is_text_byte mark) is_text

no_string : (from : ℕ) (bytes : List ℕ) → bytes ≡ [] → IsFree (string_fault from bytes) → ⊥
no_string from [] e free = no_fault _ free
no_string from (byte ∷ bytes) e free = absurd (omega (arith, ap length e))

-- it is this one, and the rest of the text follows
pub record BeginsWith (mark : ℕ) (bytes : List ℕ) : Type 0 where
  pub behind : List ℕ
  pub front : bytes ≡ mark ∷ behind
  pub text : text_of bytes ≡ mark ∷ text_of behind

begins_by : (mark byte : ℕ) (bytes : List ℕ) → is_text_byte mark ≡ true → byte ≡ mark → BeginsWith mark (byte ∷ bytes)
begins_by mark byte bytes is_text e =
    subst (λ b. BeginsWith mark (b ∷ bytes)) (sym e)
    (record { behind = bytes; front = refl; text = text_from mark bytes is_text })

-- ---- tags
abbrev pub IsTag : ℕ → Type 0
IsTag tag = is_tag tag ≡ true

tags_more : (byte : ℕ) (bytes : List ℕ) (test : Bool) → IsTag byte → All IsTag (text_of bytes)
    → All IsTag (take (cond test (1 + text_size bytes) 0) (byte ∷ bytes))
tags_more byte bytes true tag all =
    let more : 1 + text_size bytes ≡ suc (text_size bytes) = omega arith in
    rw more (All-cons IsTag byte (text_of bytes) tag all)
tags_more byte bytes false tag all = All-nil IsTag

no_text : (byte : ℕ) (bytes : List ℕ) → byte ≡ 0 → All IsTag (text_of (byte ∷ bytes))
no_text byte bytes e = subst (λ b. All IsTag (text_of (b ∷ bytes))) (sym e) (All-nil IsTag)

tag_more : (offset byte : ℕ) (bytes : List ℕ) (end test : Bool) → (byte == 0) ≡ end → is_tag byte ≡ test
    → IsFree (cond end None (cond test (tag_fault (offset + 1) bytes) (fault BadTag offset)))
    → (IsFree (tag_fault (offset + 1) bytes) → All IsTag (text_of bytes)) → All IsTag (text_of (byte ∷ bytes))
tag_more offset byte bytes true test e f free next = no_text byte bytes (grind (arith, nat_tests, e))
tag_more offset byte bytes false true e f free next = tags_more byte bytes (is_text_byte byte) f (next free)
tag_more offset byte bytes false false e f free next = absurd (no_fault _ free)

each_tag_read : (offset : ℕ) (bytes : List ℕ) → IsFree (tag_fault offset bytes) → All IsTag (text_of bytes)
each_tag_read offset [] free = All-nil IsTag
each_tag_read offset (byte ∷ bytes) free =
    tag_more offset byte bytes (byte == 0) (is_tag byte) refl refl free (each_tag_read (offset + 1) bytes)

comma_more : (from byte : ℕ) (bytes : List ℕ) (test : Bool) → (byte == 44) ≡ test
    → IsFree (cond test (tag_fault (from + 1) bytes) (fault BadTag from)) → (byte ≡ 44) × IsFree (tag_fault (from + 1) bytes)
comma_more from byte bytes true e free = (grind (arith, nat_tests, e), free)
comma_more from byte bytes false e free = absurd (no_fault _ free)

pub record TagsRead (bytes : List ℕ) : Type 0 where
  pub string : IsString bytes (codes "," ++ tags_of bytes) (drop (string_size bytes) bytes)
  pub tags : All IsTag (tags_of bytes)

tags_at : (bytes behind : List ℕ) → (text : text_of bytes ≡ 44 ∷ text_of behind) → IsString bytes (text_of bytes) (drop (string_size bytes) bytes)
    → All IsTag (text_of behind) → TagsRead bytes
tags_at bytes behind text string all =
    let tags : tags_of bytes ≡ text_of behind = ap (drop 1) text in
    let whole : text_of bytes ≡ codes "," ++ tags_of bytes = text ∙ ap (λ ts. 44 ∷ ts) (sym tags) in
    record {
      string = subst (λ t. IsString bytes t (drop (string_size bytes) bytes)) whole string;
      tags = subst (All IsTag) (sym tags) all;
    }

pub tags_read : (from : ℕ) (bytes : List ℕ) → IsFree (tags_fault from bytes) → TagsRead bytes
tags_read from [] free = absurd (no_string from [] refl (or_free (comma_fault from []) (string_fault from []) free).1)
tags_read from (byte ∷ bytes) free =
    let both = or_free (comma_fault from (byte ∷ bytes)) (string_fault from (byte ∷ bytes)) free in
    let comma = comma_more from byte bytes (byte == 44) refl both.0 in
    let begins = begins_by 44 byte bytes refl comma.0 in
    let behind : bytes ≡ begins.behind = ap (drop 1) begins.front in
    tags_at (byte ∷ bytes) begins.behind begins.text (string_reads from (byte ∷ bytes) both.1)
    (subst (λ bs. All IsTag (text_of bs)) behind (each_tag_read (from + 1) bytes comma.1))

tag_on : (offset tag : ℕ) (bytes : List ℕ) (end test : Bool) → (tag == 0) ≡ end → is_tag tag ≡ test → IsTag tag
    → IsFree (tag_fault (offset + 1) bytes) → IsFree (cond end None (cond test (tag_fault (offset + 1) bytes) (fault BadTag offset)))
tag_on offset tag bytes true test e f is free = refl
tag_on offset tag bytes false true e f is free = free
tag_on offset tag bytes false false e f is free = cc

each_tag_free : (offset : ℕ) (tags after : List ℕ) → All IsTag tags → IsFree (tag_fault offset (tags ++ 0 ∷ after))
each_tag_free offset [] after all = refl
each_tag_free offset (tag ∷ tags) after all =
    tag_on offset tag (tags ++ 0 ∷ after) (tag == 0) (is_tag tag) refl refl (All-head IsTag tag tags all)
    (each_tag_free (offset + 1) tags after (All-tail IsTag tag tags all))

pub tags_free : (from : ℕ) (bytes tags left : List ℕ) → IsString bytes (codes "," ++ tags) left → All IsTag tags → IsFree (tags_fault from bytes)
tags_free from bytes tags left a all =
    let zero_first = first_zero a.zeros left a.ended in
    let parts : bytes ≡ 44 ∷ (tags ++ 0 ∷ zero_first.0) = a.parts ∙ ap (λ after. 44 ∷ (tags ++ after)) zero_first.1 in
    let comma : IsFree (comma_fault from bytes) =
    subst (λ bs. IsFree (comma_fault from bs)) (sym parts) (each_tag_free (from + 1) tags zero_first.0 all) in
    free_or (comma_fault from bytes) (string_fault from bytes) comma (string_free from bytes (codes "," ++ tags) left a)

-- ---- numbers
pub short_free : (size from : ℕ) (bytes : List ℕ) → IsFree (short_fault size from bytes) → size ≤ length bytes
short_free size from bytes free = long_enough (nat_lt (length bytes) size) refl free
  where
    long_enough : (test : Bool) → nat_lt (length bytes) size ≡ test → IsFree (cond test (fault Short from) None) → size ≤ length bytes
    long_enough true e free = absurd (no_fault _ free)
    long_enough false e free = grind (arith, nat_tests, e)

pub free_short : (size from : ℕ) (bytes : List ℕ) → size ≤ length bytes → IsFree (short_fault size from bytes)
free_short size from bytes within = enough (nat_lt (length bytes) size) refl
  where
    enough : (test : Bool) → nat_lt (length bytes) size ≡ test → IsFree (cond test (fault Short from) None)
    enough true e = absurd (grind (arith, nat_tests, e))
    enough false e = refl

-- ---- arguments
string_tag : (tag : ℕ) → (tag == 115) ≡ true → tag ∷ [] ≡ codes "s"
string_tag tag e =
    let same : tag ≡ 115 = grind (arith, nat_tests, e) in
    ap (λ t. t ∷ []) same

number_tag : (tag : ℕ) → IsTag tag → (tag == 115) ≡ false → tag ∷ [] ≡ codes "i"
number_tag tag is e =
    let same : tag ≡ 105 = grind (arith, nat_tests, is, e) in
    ap (λ t. t ∷ []) same

argument_by : (tag from : ℕ) (bytes : List ℕ) (test : Bool) → (tag == 115) ≡ test → IsTag tag
    → IsFree (cond test (string_fault from bytes) (short_fault 4 from bytes))
    → IsArgument tag bytes (cond test (Word (text_of bytes)) (Int (number_of bytes))) (drop (cond test (string_size bytes) 4) bytes)
argument_by tag from bytes true e is free = (string_tag tag e, string_reads from bytes free)
argument_by tag from bytes false e is free = (number_tag tag is e, record { within = short_free 4 from bytes free; value = refl; after = refl })

argument_read : (tag from : ℕ) (bytes : List ℕ) → IsTag tag → IsFree (argument_fault tag from bytes)
    → IsArgument tag bytes (said_argument tag bytes) (drop (argument_size tag bytes) bytes)
argument_read tag from bytes is free = argument_by tag from bytes (tag == 115) refl is free

within_by : (tag from : ℕ) (bytes : List ℕ) (test : Bool) → IsFree (cond test (string_fault from bytes) (short_fault 4 from bytes))
    → cond test (string_size bytes) 4 ≤ length bytes
within_by tag from bytes true free = string_within from bytes free
within_by tag from bytes false free = short_free 4 from bytes free

pub argument_within : (tag from : ℕ) (bytes : List ℕ) → IsFree (argument_fault tag from bytes) → argument_size tag bytes ≤ length bytes
argument_within tag from bytes free = within_by tag from bytes (tag == 115) free

-- the tag is one, there is no fault, and this is left
record ArgumentFree (tag from : ℕ) (bytes left : List ℕ) : Type 0 where
  is : IsTag tag
  free : IsFree (argument_fault tag from bytes)
  after : left ≡ drop (argument_size tag bytes) bytes

argument_free : (tag from : ℕ) (bytes left : List ℕ) (argument : Argument) → IsArgument tag bytes argument left → ArgumentFree tag from bytes left
argument_free tag from bytes left (Int number) a =
    let same : tag ≡ 105 = ap (λ ts. get_or ts 0 0) a.0 in
    subst (λ t. ArgumentFree t from bytes left) (sym same)
    (record { is = refl; free = free_short 4 from bytes a.1.within; after = a.1.after })
argument_free tag from bytes left (Word text) a =
    let same : tag ≡ 115 = ap (λ ts. get_or ts 0 0) a.0 in
    subst (λ t. ArgumentFree t from bytes left) (sym same)
    (record { is = refl; free = string_free from bytes text left a.1; after = (string_is bytes text left a.1).1 })

past_none : (first : ℕ) (bytes : List ℕ) → IsFree (past_fault first bytes) → bytes ≡ []
past_none first [] free = refl
past_none first (byte ∷ bytes) free = absurd (no_fault _ free)

pub arguments_read : (first from : ℕ) (tags bytes : List ℕ) → All IsTag tags → IsFree (arguments_fault first from tags bytes)
    → AreArguments tags bytes (said_arguments tags bytes)
arguments_read first from [] bytes all free = past_none first bytes free
arguments_read first from (tag ∷ tags) bytes all free =
    let size = argument_size tag bytes in
    let both = or_free (argument_fault tag from bytes) (arguments_fault first (from + size) tags (drop size bytes)) free in (
      drop size bytes,
      argument_read tag from bytes (All-head IsTag tag tags all) both.0,
      arguments_read first (from + size) tags (drop size bytes) (All-tail IsTag tag tags all) both.1,
    )

no_bytes_past : (first : ℕ) (bytes : List ℕ) → bytes ≡ [] → IsFree (past_fault first bytes)
no_bytes_past first [] e = refl
no_bytes_past first (byte ∷ bytes) e = absurd (omega (arith, ap length e))

pub arguments_free : (first from : ℕ) (tags bytes : List ℕ) (arguments : List Argument) → AreArguments tags bytes arguments
    → All IsTag tags × IsFree (arguments_fault first from tags bytes)
arguments_free first from [] bytes [] a = (All-nil IsTag, no_bytes_past first bytes a)
arguments_free first from [] bytes (argument ∷ arguments) a = absurd a
arguments_free first from (tag ∷ tags) bytes [] a = absurd a
arguments_free first from (tag ∷ tags) bytes (argument ∷ arguments) a =
    let size = argument_size tag bytes in
    let one = argument_free tag from bytes a.0 argument a.1 in
    let others = arguments_free first (from + size) tags a.0 arguments a.2 in
    let here = subst (λ left. IsFree (arguments_fault first (from + size) tags left)) one.after others.1 in
    (All-cons IsTag tag tags one.is others.0, free_or (argument_fault tag from bytes) (arguments_fault first (from + size) tags (drop size bytes)) one.free here)

-- ---- messages
pub contents_parts : (first from : ℕ) (bytes : List ℕ) → IsFree (contents_fault first from bytes)
    → TagsRead bytes × IsFree (arguments_fault first (from + string_size bytes) (tags_of bytes) (drop (string_size bytes) bytes))
contents_parts first from bytes free =
    let both = or_free (tags_fault from bytes) (arguments_fault first (from + string_size bytes) (tags_of bytes) (drop (string_size bytes) bytes)) free in
    (tags_read from bytes both.0, both.1)

pub record MessageParts (from : ℕ) (bytes : List ℕ) : Type 0 where
  pub slash : IsFree (slash_fault from bytes)
  pub address : IsFree (string_fault from bytes)
  pub contents : IsFree (contents_fault from (from + string_size bytes) (drop (string_size bytes) bytes))

pub message_parts : (from : ℕ) (bytes : List ℕ) → IsFree (message_fault from bytes) → MessageParts from bytes
message_parts from bytes free =
    let contents = contents_fault from (from + string_size bytes) (drop (string_size bytes) bytes) in
    let first = or_free (slash_fault from bytes) (option_or (string_fault from bytes) contents) free in
    let others = or_free (string_fault from bytes) contents first.1 in
    record { slash = first.0; address = others.0; contents = others.1 }

slash_more : (from byte : ℕ) (test : Bool) → (byte == 47) ≡ test → IsFree (cond test None (fault BadAddress from)) → byte ≡ 47
slash_more from byte true e free = grind (arith, nat_tests, e)
slash_more from byte false e free = absurd (no_fault _ free)

slashed : (from : ℕ) (bytes : List ℕ) → IsFree (slash_fault from bytes) → IsFree (string_fault from bytes) → BeginsWith 47 bytes
slashed from [] slash free = absurd (no_string from [] refl free)
slashed from (byte ∷ bytes) slash free = begins_by 47 byte bytes refl (slash_more from byte (byte == 47) refl slash)

pub message_read : (from : ℕ) (bytes : List ℕ) → IsFree (message_fault from bytes) → IsMessage bytes (said_message bytes)
message_read from bytes free =
    let parts = message_parts from bytes free in
    let after = drop (string_size bytes) bytes in
    let begins = slashed from bytes parts.slash parts.address in
    let contents = contents_parts from (from + string_size bytes) after parts.contents in
    record {
      name = text_of begins.behind;
      after_address = after;
      tags = tags_of after;
      after_tags = drop (string_size after) after;
      slash = begins.text;
      addressed = string_reads from bytes parts.address;
      tagged = contents.0.string;
      told = arguments_read from (from + string_size bytes + string_size after) (tags_of after) (drop (string_size after) after) contents.0.tags contents.1;
    }

pub message_free : (from : ℕ) (bytes : List ℕ) (message : OscMessage) → IsMessage bytes message → IsFree (message_fault from bytes)
message_free from bytes message m =
    let size = string_size bytes in
    let begins : bytes ≡ 47 ∷ (m.name ++ (replicate m.addressed.zeros 0 ++ m.after_address)) =
    m.addressed.parts ∙ ap (λ address. address ++ (replicate m.addressed.zeros 0 ++ m.after_address)) m.slash in
    let slash : IsFree (slash_fault from bytes) = subst (λ bs. IsFree (slash_fault from bs)) (sym begins) refl in
    let address = string_free from bytes message.address m.after_address m.addressed in
    let after = (string_is bytes message.address m.after_address m.addressed).1 in
    let here = from + size in
    let told = arguments_free from (here + string_size m.after_address) m.tags m.after_tags message.arguments m.told in
    let tags = tags_free here m.after_address m.tags m.after_tags m.tagged told.0 in
    let string = string_is m.after_address (codes "," ++ m.tags) m.after_tags m.tagged in
    let same_tags : m.tags ≡ tags_of m.after_address = ap (drop 1) string.0 in
    let arguments =
    subst (λ ts. IsFree (arguments_fault from (here + string_size m.after_address) ts (drop (string_size m.after_address) m.after_address))) same_tags
    (subst (λ left. IsFree (arguments_fault from (here + string_size m.after_address) m.tags left)) string.1 told.1) in
    let contents : IsFree (contents_fault from here m.after_address) = free_or _ _ tags arguments in
    let contents_here : IsFree (contents_fault from here (drop size bytes)) = subst (λ left. IsFree (contents_fault from here left)) after contents in
    free_or (slash_fault from bytes) _ slash (free_or (string_fault from bytes) _ address contents_here)
