-- What one line of a performer does to a pass and a sink.
--     LineAnswered    the line was answered, and its reply was made, or there was no memory for it
--     LineServed      the line was answered, and its reply was put
--     LineBegun       the line was answered, and its reply was not put whole
--     ReplyHalted     what the sink knows of that: it was not called, or its put failed
use Rattle.std.specs.Prelude.{◌≡◌, ℕ, List, ◌++◌, Result, IfOk}
use Rattle.tdl_io.specs.Told.{GainedExactly}
use Rattle.tdl_io.specs.Faults.{CountRose}
use Rattle.tdl_tempo.specs.Tempo.{Pace}
use Rattle.tdl_score.specs.declared.histories.Entry.{Entry}
use Rattle.tdl_answer.specs.Account.{Account}
use Rattle.tdl_perform.specs.declared.lines.Halt.{Halt}
use Rattle.tdl_perform.specs.declared.lines.Halt.TheVariants.{Memory, Put}
use Rattle.tdl_perform.specs.Serves.{ServesLine}

-- a text that was made is that of the reply
pub record LineAnswered {E : Type 0} (tempo : Pace) (who : ℕ) (old : List Entry) (line : List ℕ) (new : List Entry) (text : Result (List ℕ) E) : Type 0 where
  pub reply : List ℕ
  pub serves : ServesLine tempo who old line new reply
  pub made : IfOk text (λ bytes. bytes ≡ reply)

pub record LineServed (tempo : Pace) (who : ℕ) (old : List Entry) (line : List ℕ) (new : List Entry) (sink : Account ℕ) : Type 0 where
  pub reply : List ℕ
  pub serves : ServesLine tempo who old line new reply
  pub put : GainedExactly sink.told_before sink.told_after reply

-- the sink may have caused it
abbrev pub HasSinkCause : Halt → Account ℕ → Type 0
HasSinkCause Memory sink = Unit {0}
HasSinkCause Put sink = CountRose sink.faults_before sink.faults_after

-- a front of the reply was put
pub record LineBegun (tempo : Pace) (who : ℕ) (old : List Entry) (line : List ℕ) (new : List Entry) (halt : Halt) (sink : Account ℕ) : Type 0 where
  pub reply : List ℕ
  pub serves : ServesLine tempo who old line new reply
  pub front : List ℕ
  pub missing : List ℕ
  pub parts : reply ≡ front ++ missing
  pub put : GainedExactly sink.told_before sink.told_after front
  pub cause : HasSinkCause halt sink

abbrev pub ReplyHalted : {K : Type 0} → (K → List ℕ → K → Type 0) → Halt → K → K → Type 0
ReplyHalted broke Memory old new = new ≡ old
ReplyHalted broke Put old new = (reply : List ℕ) × broke old reply new
