-- Calls that are made again where a signal interrupts them.
use Rattle.std.specs.Prelude.{◌≡◌, ◌⊎◌, ℕ, zero, suc, List, Option, Result, Ok, Err, ◌≤◌, length, IfOk}
use Rattle.std.specs.Io.KnownBytes.{ReadConsumes, WriteAppends}
use Rattle.std.specs.IoError.{error_kind}
use Rattle.std.specs.declared.io.Error.{Error}
use Rattle.std.specs.declared.io.ErrorKind.TheVariants.{Interrupted}
use Rattle.tdl_io.specs.declared.patient.StdReader.{StdReader}
use Rattle.tdl_io.specs.declared.patient.UdpSender.{UdpSender}
use Rattle.tdl_io.specs.declared.patient.StdWriter.{StdWriter}

-- how often a call is made again at most
abbrev pub most_again : ℕ
most_again = 16

-- a signal interrupted the call
abbrev pub IsInterrupted : Result ℕ Error → Type 0
IsInterrupted (Ok count) = ⊥
IsInterrupted (Err error) = error_kind error ≡ Interrupted

-- a call that may be made again so often gives this answer, where `Once` is what a call may do that is made once. With no try left, it
-- is what that answers. Else it is that too, if no signal interrupted it; or one did, and this came of the next call, with one try less
unfoldable pub MadeAgain : {D : Type 0} → (D → Result ℕ Error → D → Type 0) → ℕ → D → Result ℕ Error → D → Type 0
MadeAgain Once zero old answer new = Once old answer new
MadeAgain {D} Once (suc tries) old answer new =
    (Once old answer new × ¬ (IsInterrupted answer))
    ⊎ ((failed : Result ℕ Error) × (mid : D) × IsInterrupted failed × Once old failed mid × MadeAgain Once tries mid answer new)

-- what one read does to the bytes that its reader has left and to the buffer
abbrev pub ReadsOnce : Option (List ℕ) → List ℕ → Result ℕ Error → Option (List ℕ) → List ℕ → Type 0
ReadsOnce left buffer answer left_after buffer_after =
    (length buffer_after ≡ length buffer) × IfOk answer (λ count. count ≤ length buffer_after) × ReadConsumes left left_after answer buffer_after

-- what one write of a piece does to the bytes that its writer holds
abbrev pub WritesOnce : List ℕ → Option (List ℕ) → Result ℕ Error → Option (List ℕ) → Type 0
WritesOnce piece held answer held_after = IfOk answer (λ count. count ≤ length piece) × WriteAppends held held_after answer piece

-- the same of a reader and its buffer, by what the reader has left
abbrev pub ReadsOnceOf : {R : Type 0} → (R → Option (List ℕ)) → StdReader R × List ℕ → Result ℕ Error → StdReader R × List ℕ → Type 0
ReadsOnceOf left old answer new = ReadsOnce (left old.0.reader) old.1 answer (left new.0.reader) new.1

-- the same of a writer, by what it holds
abbrev pub WritesOnceOf : {W : Type 0} → (W → Option (List ℕ)) → List ℕ → StdWriter W → Result ℕ Error → StdWriter W → Type 0
WritesOnceOf held piece old answer new = WritesOnce piece (held old.writer) answer (held new.writer)

-- one send of a packet takes no more bytes than it has
abbrev pub SendsOnce : List ℕ → UdpSender → Result ℕ Error → UdpSender → Type 0
SendsOnce packet old answer new = IfOk answer (λ count. count ≤ length packet)
