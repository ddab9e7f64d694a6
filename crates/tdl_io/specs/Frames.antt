-- Packets in one text, each after its length.
use Rattle.std.specs.Prelude.{◌≡◌, ◌↔◌, ℕ, ◌^◌, ◌<◌, nat_lt, Bool, true, false, ◌&&◌, List, [], ◌∷◌, ◌++◌, length, drop, Option, None, Some, is_some}
use Rattle.std.specs.List.{All}
use Rattle.std.specs.Option.{option_map}
use Rattle.std.specs.Str.{bytes_eq}
use Rattle.byteorder.specs.Endian.{big_bytes}

-- a packet of more bytes has no frame, since its length is no number of 32 bits with a sign
abbrev pub HasFrame : List ℕ → Type 0
HasFrame packet = length packet < 2 ^ 31

-- the length of a packet, in four bytes, the highest first
abbrev pub frame_size : List ℕ → List ℕ
frame_size packet = big_bytes 4 (length packet)

-- a packet after its length
abbrev pub frame : List ℕ → List ℕ
frame packet = frame_size packet ++ packet

-- packets one behind another, each after its length
abbrev pub frames : List (List ℕ) → List ℕ
frames [] = []
frames (packet ∷ packets) = frame packet ++ frames packets

-- these bytes are the frame of what stands behind the first four
abbrev pub is_frame : List ℕ → Bool
is_frame bytes = bytes_eq bytes (frame (drop 4 bytes)) && nat_lt (length (drop 4 bytes)) (2 ^ 31)

-- no packets, if nothing was read that is in no whole frame
abbrev pub none_after : List ℕ → Option (List (List ℕ))
none_after [] = Some []
none_after (first ∷ read) = None

-- the packets whose frames these bytes are, read byte by byte. What was read before, and is in no whole frame yet, comes first
abbrev pub packets_from : List ℕ → List ℕ → Option (List (List ℕ))
packets_from read [] = none_after read
packets_from read (byte ∷ bytes) = elim (is_frame (read ++ byte ∷ [])) [
  | true ↦ option_map (λ packets. drop 4 (read ++ byte ∷ []) ∷ packets) (packets_from [] bytes)
  | false ↦ packets_from (read ++ byte ∷ []) bytes
]

-- the packets whose frames are all that is told, where that is frames and nothing else
abbrev pub packets_told : Option (List ℕ) → Option (List (List ℕ))
packets_told None = None
packets_told (Some bytes) = packets_from [] bytes

-- what is told is frames and nothing else
abbrev pub are_frames : Option (List ℕ) → Bool
are_frames told = is_some (packets_told told)

-- what these mean: the packets of a text are those whose frames it is, and it is the frames of no others
pub record FrameLaws : Type 0 where
  pub told : (bytes : List ℕ) (packets : List (List ℕ))
      → (packets_told (Some bytes) ≡ Some packets) ↔ ((bytes ≡ frames packets) × All HasFrame packets)
  pub one : (left right : List (List ℕ)) → All HasFrame left → All HasFrame right → frames left ≡ frames right → left ≡ right
