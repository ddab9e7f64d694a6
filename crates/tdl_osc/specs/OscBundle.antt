-- What some bytes say by OSC 1.0, read from the front: each relation names what stands there, and what is left.
--     IsTextByte, IsString    a byte of a text, and a string
--     IsInt, IsTime           a number of 32 bits, and a time tag
--     AreArguments            an argument for each tag, and nothing after them
--     OscMessage, IsMessage   an address, the tags of the arguments, and the arguments
--     IsElement               a message after its size
--     IsBundle                the head, a time tag, and messages up to the end
use Rattle.std.specs.Prelude.{◌≡◌, ℕ, ◌+◌, ◌%◌, ◌<◌, ◌≤◌, ℤ, pos, List, [], ◌∷◌, ◌++◌, length, take, drop, replicate, codes}
use Rattle.std.specs.List.{All}
use Rattle.byteorder.specs.Endian.{big_number, twos_complement}
use Rattle.tdl_osc.specs.Message.{Argument, Int, Word}

-- a byte of a text is ASCII and not 0
abbrev pub IsTextByte : ℕ → Type 0
IsTextByte byte = (0 < byte) × (byte < 128)

-- the bytes of a text, and then one zero or more, up to a multiple of 4
pub record IsString (bytes text left : List ℕ) : Type 0 where
  pub zeros : ℕ
  pub parts : bytes ≡ text ++ (replicate zeros 0 ++ left)
  pub ascii : All IsTextByte text
  pub ended : 1 ≤ zeros
  pub shortest : zeros ≤ 4
  pub aligned : (length text + zeros) % 4 ≡ 0

-- 4 bytes, the highest first, in two's complement
pub record IsInt (bytes : List ℕ) (number : ℤ) (left : List ℕ) : Type 0 where
  pub within : 4 ≤ length bytes
  pub value : number ≡ twos_complement 4 (big_number 4 bytes)
  pub after : left ≡ drop 4 bytes

-- 8 bytes, the highest first
pub record IsTime (bytes : List ℕ) (tag : ℤ) (left : List ℕ) : Type 0 where
  pub within : 8 ≤ length bytes
  pub value : tag ≡ pos (big_number 8 bytes)
  pub after : left ≡ drop 8 bytes

-- a number where the tag is `i`, and a string where it is `s`
abbrev pub IsArgument : ℕ → List ℕ → Argument → List ℕ → Type 0
IsArgument tag bytes (Int number) left = (tag ∷ [] ≡ codes "i") × IsInt bytes number left
IsArgument tag bytes (Word text) left = (tag ∷ [] ≡ codes "s") × IsString bytes text left

abbrev pub AreArguments : List ℕ → List ℕ → List Argument → Type 0
AreArguments [] bytes [] = bytes ≡ []
AreArguments [] bytes (argument ∷ arguments) = ⊥
AreArguments (tag ∷ tags) bytes [] = ⊥
AreArguments (tag ∷ tags) bytes (argument ∷ arguments) =
    (left : List ℕ) × IsArgument tag bytes argument left × AreArguments tags left arguments

pub record OscMessage : Type 0 where
  pub address : List ℕ
  pub arguments : List Argument

-- the address begins with `/` and the tags with `,`
pub record IsMessage (bytes : List ℕ) (message : OscMessage) : Type 0 where
  pub name : List ℕ
  pub after_address : List ℕ
  pub tags : List ℕ
  pub after_tags : List ℕ
  pub slash : message.address ≡ codes "/" ++ name
  pub addressed : IsString bytes message.address after_address
  pub tagged : IsString after_address (codes "," ++ tags) after_tags
  pub told : AreArguments tags after_tags message.arguments

-- a size above 0 that is a multiple of 4, and a message of so many bytes
pub record IsElement (bytes : List ℕ) (message : OscMessage) (left : List ℕ) : Type 0 where
  pub size : ℕ
  pub after_size : List ℕ
  pub sized : IsInt bytes (pos size) after_size
  pub positive : 0 < size
  pub aligned : size % 4 ≡ 0
  pub within : size ≤ length after_size
  pub told : IsMessage (take size after_size) message
  pub after : left ≡ drop size after_size

abbrev pub AreElements : List ℕ → List OscMessage → Type 0
AreElements bytes [] = bytes ≡ []
AreElements bytes (message ∷ messages) =
    (left : List ℕ) × IsElement bytes message left × AreElements left messages

pub record IsBundle (bytes : List ℕ) (tag : ℤ) (messages : List OscMessage) : Type 0 where
  pub after_head : List ℕ
  pub after_tag : List ℕ
  pub head : IsString bytes (codes "#bundle") after_head
  pub timed : IsTime after_head tag after_tag
  pub told : AreElements after_tag messages
