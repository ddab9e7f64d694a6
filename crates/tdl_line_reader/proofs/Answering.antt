-- How a call of the reader answers for a step of the machine, by what it calls and by the rules that hold or fail.
use Rattle.std.specs.Prelude.{IsErrAnd}
use Rattle.std.proofs.Common.{◌≡◌, Bool, true, Option, None, Result, Ok, Err}
use Rattle.tdl_line_machine.specs.declared.faults.LineKind.{LineKind}
use Rattle.tdl_line_reader.specs.declared.faults.Fault.{Fault}
use Rattle.tdl_line_reader.specs.declared.faults.Fault.TheVariants.{NoMemory, At}
use Rattle.tdl_line_reader.specs.declared.stages.Stage.{Stage}
use Rattle.tdl_line_reader.specs.declared.reader.LineTokenReader.{LineTokenReader}
use Rattle.tdl_line_machine.specs.Tokens.{Tok}
use Rattle.tdl_line_machine.specs.Machine.States.{Core, Step, refused, obeying}
use Rattle.tdl_line_reader.specs.ReaderView.{Agrees, Stops, FailsAt, core_of, here}

pub answers_by : (a b : Step) (t : Tok) (new : LineTokenReader) (result : Result (Option Stage) Fault) → Agrees b t new result → a ≡ b → Agrees a t new result
answers_by a b t new result h e = rw e h

pub stops_by : (a b : Step) (fault : Fault) → Stops b fault → a ≡ b → Stops a fault
stops_by a b fault h e = rw e h

-- nothing goes on with the token
pub refuses : (step : Step) (t : Tok) (new : LineTokenReader) → step ≡ refused (core_of new) t → Agrees step t new (Ok None)
refuses step t new e = record { ok = e; err = tt }

-- ---- stops
pub stopped : (step : Step) (t : Tok) (new : LineTokenReader) (fault : Fault) → Stops step fault → Agrees step t new (Err fault)
stopped step t new fault h = record { ok = tt; err = h }

-- a fault that `?` hands on
pub handed_on : (step : Step) (t : Tok) (new : LineTokenReader) (result : Result (Option Stage) Fault) (fault : Fault) → IsErrAnd result (λ e. e ≡ fault)
    → Stops step fault → Agrees step t new result
handed_on step t new (Ok p) fault h s = absurd h
handed_on step t new (Err e) fault h s = rw h (stopped step t new fault s)

-- ---- rules
pub obeyed : (c : Core) (kind : LineKind) (holds : Bool) (next : Step) (t : Tok) (new : LineTokenReader) (result : Result (Option Stage) Fault)
    → Agrees next t new result → holds ≡ true → Agrees (obeying true c kind holds next) t new result
obeyed c kind holds next t new result h e = rw e h

pub failing : (old : LineTokenReader) (kind : LineKind) (holds : Bool) (next : Step) (fault : Fault) → FailsAt kind (here old 0) holds fault
    → Stops (obeying true (core_of old) kind holds next) fault
failing old kind holds next NoMemory h = absurd h
failing old kind holds next (At k p) h = rw h.2 (h.0, h.1)
