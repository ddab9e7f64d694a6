-- What is made of a bundle in its second pass, where nothing is at fault.
use Rattle.std.proofs.Common.{◌≡◌, ℕ, ◌+◌, ◌<◌, ◌≤◌, ◌^◌, nat_lt, Bool, true, false, cond, pos, nat_abs, ◌-ℤ◌}
use Rattle.std.proofs.Common.{List, [], ◌∷◌, ◌++◌, length, get_or, take, drop, map, refl, sym, ap, ◌∙◌, subst, arith}
use Rattle.std.proofs.lemmas.Int.{ints}
use Rattle.std.proofs.lemmas.List.{drop_more}
use Rattle.byteorder.specs.Endian.{big_number, twos_complement}
use Rattle.tdl_osc.specs.declared.reading.values.Arg.{Arg}
use Rattle.tdl_osc.specs.declared.reading.values.Message.{Message}
use Rattle.tdl_osc.specs.BundleFault.{string_size, tags_of, argument_size, argument_fault, arguments_fault, tags_fault, string_fault, comma_fault}
use Rattle.tdl_osc.specs.inside.Said.{said_argument, said_arguments, said_message, said_messages, AreFreeArguments, IsFreeMessage, AreFreeElements}
use Rattle.tdl_osc.specs.Values.{osc_argument, osc_message}
use Rattle.tdl_osc.proofs.ReadStrings.{or_free, string_within}
use Rattle.tdl_osc.proofs.ReadMessages.{argument_within, message_parts}
use Rattle.tdl_osc.proofs.ReadBundles.{size_in, contents_in, elements_parts, element_parts, messages_turn}

-- one more at the end
map_push : {X Y : Type 0} (f : X → Y) (xs : List X) (x : X) (ys : List Y) → map f (xs ++ x ∷ []) ++ ys ≡ map f xs ++ f x ∷ ys
map_push f [] x ys = refl
map_push f (y ∷ xs) x ys = ap (λ zs. f y ∷ zs) (map_push f xs x ys)

-- ---- arguments
pub record ArgumentLeft (tags bytes : List ℕ) (i : ℕ) : Type 0 where
  pub within : argument_size (get_or tags i 0) bytes ≤ length bytes
  pub free : AreFreeArguments (drop (i + 1) tags) (drop (argument_size (get_or tags i 0) bytes) bytes)

pub argument_left : (tags bytes : List ℕ) (i : ℕ) → i < length tags → AreFreeArguments (drop i tags) bytes → ArgumentLeft tags bytes i
argument_left tags bytes i k f =
    let tag = get_or tags i 0 in
    let first = f.0 in
    let from = f.1.0 in
    let next = from + argument_size tag bytes in
    let here = sym (ap (λ ts. arguments_fault first from ts bytes) (drop_more tags i 0 k)) ∙ f.1.1 in
    let both = or_free (argument_fault tag from bytes) (arguments_fault first next (drop (i + 1) tags) (drop (argument_size tag bytes) bytes)) here in
    record { within = argument_within tag from bytes both.0; free = (first, (next, both.1)) }

pub said_argument_on : (old new : List Arg) (arg : Arg) (tags bytes left : List ℕ) (i : ℕ) → i < length tags → new ≡ old ++ arg ∷ []
    → osc_argument arg ≡ said_argument (get_or tags i 0) bytes → left ≡ drop (argument_size (get_or tags i 0) bytes) bytes
    → map osc_argument new ++ said_arguments (drop (i + 1) tags) left ≡ map osc_argument old ++ said_arguments (drop i tags) bytes
said_argument_on old new arg tags bytes left i k pushed said after =
    let others = said_arguments (drop (i + 1) tags) left in
    let here : said_argument (get_or tags i 0) bytes ∷ said_arguments (drop (i + 1) tags) (drop (argument_size (get_or tags i 0) bytes) bytes)
    ≡ said_arguments (drop i tags) bytes = sym (ap (λ ts. said_arguments ts bytes) (drop_more tags i 0 k)) in
    ap (λ args. map osc_argument args ++ others) pushed
    ∙ map_push osc_argument old arg others
    ∙ ap (λ a. map osc_argument old ++ a ∷ others) said
    ∙ ap (λ rest. map osc_argument old ++ said_argument (get_or tags i 0) bytes ∷ said_arguments (drop (i + 1) tags) rest) after
    ∙ ap (λ all. map osc_argument old ++ all) here

-- ---- messages
pub record MessageLeft (bytes : List ℕ) : Type 0 where
  pub within : string_size bytes ≤ length bytes
  pub contents_within : string_size (drop (string_size bytes) bytes) ≤ length (drop (string_size bytes) bytes)
  pub arguments : AreFreeArguments (tags_of (drop (string_size bytes) bytes))
      (drop (string_size (drop (string_size bytes) bytes)) (drop (string_size bytes) bytes))

pub message_left : (bytes : List ℕ) → IsFreeMessage bytes → MessageLeft bytes
message_left bytes f =
    let from = f.0 in
    let parts = message_parts from bytes f.1 in
    let contents = drop (string_size bytes) bytes in
    let here = from + string_size bytes in
    let both = or_free (tags_fault here contents)
    (arguments_fault from (here + string_size contents) (tags_of contents) (drop (string_size contents) contents)) parts.contents in
    let tags = or_free (comma_fault here contents) (string_fault here contents) both.0 in
    record {
      within = string_within from bytes parts.address;
      contents_within = string_within here contents tags.1;
      arguments = (from, (here + string_size contents, both.1));
    }

-- ---- the messages of a bundle
size_by : (n : ℕ) (test : Bool) → nat_lt n (2 ^ 31) ≡ test → n < 2 ^ 32
    → cond test (pos n) (pos n -ℤ pos (2 ^ 32)) ≡ pos (nat_abs (cond test (pos n) (pos n -ℤ pos (2 ^ 32)))) → nat_abs (cond test (pos n) (pos n -ℤ pos (2 ^ 32))) ≡ n
size_by n true e h is = refl
size_by n false e h is = absurd (omega (arith, ints, is, h))

-- a size that is not negative is its number
size_is : (n : ℕ) → n < 2 ^ 32 → twos_complement 4 n ≡ pos (nat_abs (twos_complement 4 n)) → nat_abs (twos_complement 4 n) ≡ n
size_is n h is = size_by n (nat_lt n (2 ^ 31)) refl h is

pub record ElementLeft (bytes : List ℕ) (size : ℕ) : Type 0 where
  pub sized : 4 ≤ length bytes
  pub is : size_in bytes ≡ size
  pub within : size ≤ length (drop 4 bytes)
  pub message : IsFreeMessage (take size (drop 4 bytes))
  pub others : AreFreeElements (drop size (drop 4 bytes))

pub element_sized : (bytes : List ℕ) → 0 < length bytes → AreFreeElements bytes → 4 ≤ length bytes
element_sized bytes some f = (element_parts f.0 bytes (elements_parts f.0 bytes some f.1).0).sized

pub element_left : (bytes : List ℕ) (size : ℕ) → 0 < length bytes → size < 2 ^ 32 → size ≡ big_number 4 bytes → AreFreeElements bytes → ElementLeft bytes size
element_left bytes size some small e f =
    let from = f.0 in
    let both = elements_parts from bytes some f.1 in
    let parts = element_parts from bytes both.0 in
    let fits : big_number 4 bytes < 2 ^ 32 = subst (λ n. n < 2 ^ 32) e small in
    let is : size_in bytes ≡ size = size_is (big_number 4 bytes) fits parts.is_size.is ∙ sym e in
    record {
      sized = parts.sized;
      is = is;
      within = subst (λ n. n ≤ length (drop 4 bytes)) is parts.within;
      message = subst (λ n. IsFreeMessage (take n (drop 4 bytes))) is (from + 4, parts.message);
      others = subst (λ n. AreFreeElements (drop n (drop 4 bytes))) is (from + 4 + size_in bytes, both.1);
    }

pub said_message_on : (old new : List Message) (message : Message) (bytes left : List ℕ) (size : ℕ) → 0 < length bytes → size_in bytes ≡ size
    → new ≡ old ++ message ∷ [] → osc_message message ≡ said_message (take size (drop 4 bytes)) → left ≡ drop size (drop 4 bytes)
    → map osc_message new ++ said_messages 0 left ≡ map osc_message old ++ said_messages 0 bytes
said_message_on old new message bytes left size some is pushed said after =
    let others = said_messages 0 left in
    ap (λ ms. map osc_message ms ++ others) pushed
    ∙ map_push osc_message old message others
    ∙ ap (λ m. map osc_message old ++ m ∷ others) (said ∙ ap (λ n. said_message (take n (drop 4 bytes))) (sym is))
    ∙ ap (λ rest. map osc_message old ++ said_message (contents_in bytes) ∷ said_messages 0 rest) (after ∙ ap (λ n. drop n (drop 4 bytes)) (sym is))
    ∙ ap (λ all. map osc_message old ++ all) (sym (messages_turn bytes some))
