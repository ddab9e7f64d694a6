-- The first fault of bytes that are no bundle of OSC 1.0, in the order in which bytes are read: its kind, and the offset at
-- which it stands. `from` is the offset of the first byte of what is looked at. None says that it has no fault.
--     string_fault, string_size        of the string that bytes begin with, and how many bytes it takes
--     tags_fault, tags_of              of the tags of a message, and the tags
--     argument_fault, argument_size    of the argument that bytes begin with, by its tag, and how many bytes it takes
--     message_fault                    of bytes that are to be a message
--     element_fault                    of the message that bytes begin with, after its size
--     bundle_fault                     of bytes that are to be a bundle
use Rattle.std.specs.Prelude.{ℕ, zero, suc, ◌+◌, ◌-◌, ◌%◌, Bool, ◌&&◌, ◌||◌, nat_lt, ◌==◌, if◌then◌else◌, ℤ, pos, negsuc, nat_abs}
use Rattle.std.specs.Prelude.{Option, Some, None, List, [], ◌∷◌, ◌++◌, length, take, drop, codes, nat_eq}
use Rattle.std.specs.List.{prefix_len, starts_with}
use Rattle.std.specs.Option.{option_or}
use Rattle.byteorder.specs.Endian.{big_number, twos_complement}
use Rattle.tdl_osc.specs.declared.faults.BundleFault.{BundleFault}
use Rattle.tdl_osc.specs.declared.faults.OscKind.{OscKind}
use Rattle.tdl_osc.specs.declared.faults.OscKind.TheVariants.{BadHead, Short, BadPad, BadTag, BadSize, BadAddress, NotAscii}

abbrev pub fault : OscKind → ℕ → Option BundleFault
fault kind at = Some (record { kind = kind; at = at })

-- there are fewer than so many bytes
abbrev pub short_fault : ℕ → ℕ → List ℕ → Option BundleFault
short_fault size from bytes = if nat_lt (length bytes) size then fault Short from else None

-- ---- strings
abbrev pub is_text_byte : ℕ → Bool
is_text_byte byte = nat_lt 0 byte && nat_lt byte 128

-- how many bytes of text stand in front
abbrev pub text_size : List ℕ → ℕ
text_size bytes = prefix_len is_text_byte bytes

abbrev pub text_of : List ℕ → List ℕ
text_of bytes = take (text_size bytes) bytes

-- how many zeros follow the first one that ends a text of so many bytes
abbrev pub more_zeros : ℕ → ℕ
more_zeros size = 3 - size % 4

abbrev pub string_size : List ℕ → ℕ
string_size bytes = text_size bytes + suc (more_zeros (text_size bytes))

-- of the string from `from`, whose next byte stands at `offset` and is to be a zero, as are so many behind it
abbrev pub padding_fault : ℕ → ℕ → ℕ → List ℕ → Option BundleFault
padding_fault from offset zero bytes = None
padding_fault from offset (suc more) [] = fault Short from
padding_fault from offset (suc more) (byte ∷ bytes) =
    if byte == 0 then padding_fault from (offset + 1) more bytes else fault BadPad offset

-- of the string from `from`, whose text ends before `offset`
abbrev pub end_fault : ℕ → ℕ → ℕ → List ℕ → Option BundleFault
end_fault from offset more [] = fault Short from
end_fault from offset more (byte ∷ bytes) =
    if byte == 0 then padding_fault from (offset + 1) more bytes else fault NotAscii offset

abbrev pub string_fault : ℕ → List ℕ → Option BundleFault
string_fault from bytes =
    end_fault from (from + text_size bytes) (more_zeros (text_size bytes)) (drop (text_size bytes) bytes)

-- ---- messages
-- an address begins with `/`
abbrev pub slash_fault : ℕ → List ℕ → Option BundleFault
slash_fault from [] = None
slash_fault from (byte ∷ bytes) = if byte == 47 then None else fault BadAddress from

-- `i` and `s`
abbrev pub is_tag : ℕ → Bool
is_tag byte = (byte == 105) || (byte == 115)

-- each byte before the first zero is a tag
abbrev pub tag_fault : ℕ → List ℕ → Option BundleFault
tag_fault offset [] = None
tag_fault offset (byte ∷ bytes) =
    if byte == 0 then None else (if is_tag byte then tag_fault (offset + 1) bytes else fault BadTag offset)

-- tags come after a comma
abbrev pub comma_fault : ℕ → List ℕ → Option BundleFault
comma_fault from [] = None
comma_fault from (byte ∷ bytes) = if byte == 44 then tag_fault (from + 1) bytes else fault BadTag from

abbrev pub tags_fault : ℕ → List ℕ → Option BundleFault
tags_fault from bytes = option_or (comma_fault from bytes) (string_fault from bytes)

abbrev pub tags_of : List ℕ → List ℕ
tags_of bytes = drop 1 (text_of bytes)

-- a string where the tag is `s`, and else a number
abbrev pub argument_fault : ℕ → ℕ → List ℕ → Option BundleFault
argument_fault tag from bytes = if tag == 115 then string_fault from bytes else short_fault 4 from bytes

abbrev pub argument_size : ℕ → List ℕ → ℕ
argument_size tag bytes = if tag == 115 then string_size bytes else 4

-- the message from `first` goes on past its arguments
abbrev pub past_fault : ℕ → List ℕ → Option BundleFault
past_fault first [] = None
past_fault first (byte ∷ bytes) = fault BadSize first

-- of the arguments with these tags, of the message from `first`
abbrev pub arguments_fault : ℕ → ℕ → List ℕ → List ℕ → Option BundleFault
arguments_fault first from [] bytes = past_fault first bytes
arguments_fault first from (tag ∷ tags) bytes = option_or (argument_fault tag from bytes)
    (arguments_fault first (from + argument_size tag bytes) tags (drop (argument_size tag bytes) bytes))

-- of the tags and the arguments of the message from `first`
abbrev pub contents_fault : ℕ → ℕ → List ℕ → Option BundleFault
contents_fault first from bytes = option_or (tags_fault from bytes)
    (arguments_fault first (from + string_size bytes) (tags_of bytes) (drop (string_size bytes) bytes))

abbrev pub message_fault : ℕ → List ℕ → Option BundleFault
message_fault from bytes = option_or (slash_fault from bytes) (option_or (string_fault from bytes)
    (contents_fault from (from + string_size bytes) (drop (string_size bytes) bytes)))

-- ---- bundles
-- the number of 32 bits in the first 4 bytes
abbrev pub number_of : List ℕ → ℤ
number_of bytes = twos_complement 4 (big_number 4 bytes)

-- a size is above 0 and a multiple of 4
abbrev pub size_fault : ℤ → ℕ → Option BundleFault
size_fault (pos size) from = if nat_lt 0 size && (size % 4 == 0) then None else fault BadSize from
size_fault (negsuc below) from = fault BadSize from

-- of the message of so many bytes
abbrev pub sized_fault : ℕ → ℕ → List ℕ → Option BundleFault
sized_fault size from bytes = option_or (short_fault size from bytes) (message_fault from (take size bytes))

abbrev pub element_fault : ℕ → List ℕ → Option BundleFault
element_fault from bytes = option_or (short_fault 4 from bytes) (option_or (size_fault (number_of bytes) from)
    (sized_fault (nat_abs (number_of bytes)) (from + 4) (drop 4 bytes)))

-- of the messages behind so many bytes, each after its size
abbrev pub elements_fault : ℕ → ℕ → List ℕ → Option BundleFault
elements_fault offset skip [] = None
elements_fault offset (suc skip) (byte ∷ bytes) = elements_fault (offset + 1) skip bytes
elements_fault offset zero (byte ∷ bytes) = option_or (element_fault offset (byte ∷ bytes))
    (elements_fault (offset + 1) (3 + nat_abs (number_of (byte ∷ bytes))) bytes)

-- `#bundle` and a zero
abbrev pub head : List ℕ
head = codes "#bundle" ++ 0 ∷ []

abbrev pub head_fault : List ℕ → Option BundleFault
head_fault bytes = if starts_with nat_eq bytes head then None else fault BadHead 0

-- the head, the time tag, and messages up to the end
abbrev pub bundle_fault : List ℕ → Option BundleFault
bundle_fault bytes = option_or (head_fault bytes) (option_or (short_fault 8 8 (drop 8 bytes)) (elements_fault 16 0 (drop 16 bytes)))
