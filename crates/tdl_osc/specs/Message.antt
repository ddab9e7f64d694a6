-- Messages of OSC 1.0: an address, the tags of the arguments as a text, and the arguments.
use Rattle.std.specs.Prelude.{ℕ, ℤ, List, ◌++◌, codes}
use Rattle.std.specs.List.{flat_map}
use Rattle.tdl_osc.specs.Encoding.{int32_bytes, osc_string}

-- a number of 32 bits, or a text
pub data Argument : Type 0 where
  Int : ℤ → Argument
  Word : List ℕ → Argument

abbrev pub tag_of : Argument → List ℕ
tag_of (Int number) = codes "i"
tag_of (Word text) = codes "s"

abbrev pub argument_bytes : Argument → List ℕ
argument_bytes (Int number) = int32_bytes number
argument_bytes (Word text) = osc_string text

-- a comma, and the arguments' tags
abbrev pub type_tags : List Argument → List ℕ
type_tags arguments = codes "," ++ flat_map tag_of arguments

unfoldable pub message_bytes : List ℕ → List Argument → List ℕ
message_bytes address arguments =
    osc_string address ++ osc_string (type_tags arguments) ++ flat_map argument_bytes arguments
