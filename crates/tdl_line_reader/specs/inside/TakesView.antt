-- What the calls say that take a token.
--     whole_part, whole_in    the whole number without sign that a number is, and that a token is
--     CountsAs                a token is this count for the machine, which goes on with it, or is none
--     IsNotCounted            the machine stops at a token where a count is wanted
--     begins_operand          an operand begins with a name
use Rattle.std.specs.Prelude.{◌≡◌, ℕ, Bool, true, false, if◌then◌else◌, Option, Some, None}
use Rattle.tdl_mini_tree.specs.declared.leaves.Kind.{Kind}
use Rattle.tdl_mini_tree.specs.declared.leaves.Number.{Number}
use Rattle.tdl_line_reader.specs.declared.faults.Fault.{Fault}
use Rattle.tdl_line_machine.specs.declared.names.Name.{Name}
use Rattle.tdl_line_machine.specs.declared.names.Name.TheVariants as name
use Rattle.tdl_line_reader.specs.declared.reader.LineTokenReader.{LineTokenReader}
use Rattle.tdl_line_reader.specs.declared.tokens.Tok.{Tok}
use Rattle.tdl_line_reader.specs.declared.tokens.Tok.TheVariants as tok
use Rattle.tdl_command.specs.declared.tree.Count.{Count}
use Rattle.tdl_mini_tree.specs.Reading.{Reading}
use Rattle.tdl_command.specs.View.{count_of}
use Rattle.tdl_line_machine.specs.Machine.Arguments.{at_count, counted, is_unsigned}
use Rattle.tdl_line_machine.specs.Tokens as token
use Rattle.tdl_line_machine.specs.Machine.States.{Core, Spot, Step, CountCall, refused}
use Rattle.tdl_line_reader.specs.ReaderView.{AreReadings, Reads, StopsAt, core_of, tok_value}

abbrev pub whole_part : Number → Option ℕ
whole_part n = if is_unsigned n then Some n.whole else None

abbrev pub whole_in : {Q : Type 0} → Tok Q → Option ℕ
whole_in (tok.Number n) = whole_part n
whole_in (tok.Name n) = None
whole_in (tok.Quoted quoted) = None
whole_in (tok.Mark m) = None
whole_in tok.End = None

abbrev pub counted_on : Core → token.Tok → Spot → CountCall → Option Count → Step
counted_on c t spot call (Some n) = counted true c spot call (count_of n)
counted_on c t spot call None = refused c t

abbrev pub CountsAs : {Q : Type 0} → Reads Q → LineTokenReader → Tok Q → Option Count → Type 0
CountsAs reads r t count = (readings : Kind → Reading) → AreReadings reads readings t → (spot : Spot) (call : CountCall)
    → at_count true (core_of r) (tok_value readings t) spot call ≡ counted_on (core_of r) (tok_value readings t) spot call count

abbrev pub IsNotCounted : {Q : Type 0} → Reads Q → LineTokenReader → Tok Q → Fault → Type 0
IsNotCounted reads r t fault = (spot : Spot) (call : CountCall) → StopsAt reads (λ c token. at_count true c token spot call) r t fault

abbrev pub begins_operand : Name → Bool
begins_operand name.Silence = true
begins_operand (name.Key key) = true
begins_operand (name.List shape) = true
begins_operand name.Timecat = true
begins_operand _ = false
