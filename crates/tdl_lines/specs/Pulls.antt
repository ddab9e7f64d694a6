-- What a reader of lines asks of its source.
--     Pulls              the source gave these pieces, one pull after another, each asked for where no line was waiting
--     Pulled, PulledAs   so it gave these bytes in a call of the reader, and perhaps a last pull failed
use Rattle.std.specs.Prelude.{◌≡◌, ℕ, IsTrue, List, [], ◌∷◌, ◌++◌, Result, Ok, Err}
use Rattle.std.specs.List.{concat}
use Rattle.tdl_lines.specs.declared.reader.Next.{Next}
use Rattle.tdl_lines.specs.declared.faults.ReadFault.{ReadFault}
use Rattle.tdl_lines.specs.declared.faults.ReadFault.TheVariants.{NoMemory, Failed}
use Rattle.tdl_lines.specs.Lines.{HasNoFeed}
use Rattle.tdl_lines.specs.Reading.{Reading}

abbrev pub Pulls : {S : Type 0} → (S → List ℕ → S → Type 0) → List ℕ → List (List ℕ) → S → S → Type 0
Pulls gave pending [] old new = new ≡ old
Pulls {S} gave pending (piece ∷ pieces) old new =
    HasNoFeed pending × ((between : S) × gave old piece between × Pulls gave (pending ++ piece) pieces between new)

-- a source that was seen to end is asked no more
pub record Pulled {S : Type 0} (gave : S → List ℕ → S → Type 0) (reading : Reading) (old new : S) (bytes : List ℕ) : Type 0 where
  pub pieces : List (List ℕ)
  pub joined : bytes ≡ concat pieces
  pub made : Pulls gave reading.pending pieces old new
  pub unasked : IsTrue reading.ended → pieces ≡ []

pub record PulledThenLost {S : Type 0} (gave : S → List ℕ → S → Type 0) (lost_from : S → S → Type 0) (reading : Reading) (old new : S) (bytes : List ℕ)
    : Type 0 where
  pub between : S
  pub pulled : Pulled gave reading old between bytes
  pub none_waits : HasNoFeed (reading.pending ++ bytes)
  pub goes : IsTrue reading.ended → ⊥
  pub lost : lost_from between new

abbrev pub PulledAs : {S : Type 0} → (S → List ℕ → S → Type 0) → (S → S → Type 0) → Result Next ReadFault → Reading → S → S → List ℕ → Type 0
PulledAs gave lost (Ok next) reading old new bytes = Pulled gave reading old new bytes
PulledAs gave lost (Err NoMemory) reading old new bytes = Pulled gave reading old new bytes
PulledAs gave lost (Err Failed) reading old new bytes = PulledThenLost gave lost reading old new bytes
