-- What a device tells of its content before a call and after it. A device that tells nothing stands at `None`.
use Rattle.std.specs.Prelude.{◌≡◌, ◌⊎◌, List, ◌++◌, Option, None, Some}

-- what is told, and then the piece
abbrev pub with_piece : {A : Type 0} → Option (List A) → List A → Option (List A)
with_piece None piece = None
with_piece (Some told) piece = Some (told ++ piece)

-- the piece, and then what is told
abbrev pub after_piece : {A : Type 0} → List A → Option (List A) → Option (List A)
after_piece piece None = None
after_piece piece (Some told) = Some (piece ++ told)

-- the device gained the piece
pub record GainedExactly {A : Type 0} (old new : Option (List A)) (piece : List A) : Type 0 where
  pub is : new ≡ with_piece old piece

-- the device gained the front of the piece, which may be none of it or all
pub record GainedPrefix {A : Type 0} (old new : Option (List A)) (piece : List A) : Type 0 where
  pub front : List A
  pub back : List A
  pub parts : piece ≡ front ++ back
  pub gained : GainedExactly old new front

-- the device gave the piece, which was the next that it had left
pub record GaveExactly {A : Type 0} (old new : Option (List A)) (piece : List A) : Type 0 where
  pub was : old ≡ after_piece piece new

-- what is told is as before, or is no longer told
pub record AsBeforeOrUntold {A : Type 0} (old new : Option (List A)) : Type 0 where
  pub either : (new ≡ old) ⊎ (new ≡ None)
