-- What is read of the tokens of a text.
--     IsTokenFault     the text is refused for this at the byte where it stands in its token
--     IsWithin         a fault stands at one of the tokens, which are those of a short text
--     IsAtByte         a fault at the byte where it stands in its token
--     with_kind        a fault of the bytes as one of the line
use Rattle.std.specs.Prelude.{◌≡◌, ℕ, ◌+◌, ◌<◌, ◌≤◌, List, length}
use Rattle.std.specs.List.{HoldsAt}
use Rattle.tdl_control.specs.declared.faults.Faulted.{Faulted}
use Rattle.tdl_control.specs.declared.faults.Faulted.TheVariants.{NoMemory, At}
use Rattle.tdl_lexer.specs.declared.signs.LexKind.{LexKind}
use Rattle.tdl_lexer.specs.declared.signs.Token.{Token}
use Rattle.tdl_line_machine.specs.declared.faults.LineKind.{LineKind}
use Rattle.tdl_line_machine.specs.declared.goals.Goal.{Goal}
use Rattle.tdl_line_reader.specs.declared.faults.Fault.{Fault}
use Rattle.tdl_line_reader.specs.declared.faults.Fault.TheVariants as fault
use Rattle.tdl_line_texts.specs.Limits.{max_line}
use Rattle.tdl_line_texts.specs.Texts.{RefusesWhole, lexer_kind}

abbrev pub IsWithin : List Token → Fault → Type 0
IsWithin tokens fault.NoMemory = Unit {0}
IsWithin tokens (fault.At kind place) = (place.token < length tokens) × HoldsAt (λ (t : Token). t.at ≤ max_line) tokens place.token

-- out of memory says nothing
abbrev pub IsTokenFault : Goal → List ℕ → List Token → Fault → Type 0
IsTokenFault goal text tokens fault.NoMemory = Unit {0}
IsTokenFault goal text tokens (fault.At kind place) =
    IsWithin tokens (fault.At kind place) × HoldsAt (λ (t : Token). RefusesWhole goal text (At kind (t.at + place.offset))) tokens place.token

abbrev pub IsAtByte : List Token → Fault → Faulted LineKind → Type 0
IsAtByte tokens fault.NoMemory result = result ≡ NoMemory
IsAtByte tokens (fault.At kind place) result = HoldsAt (λ (t : Token). result ≡ At kind (t.at + place.offset)) tokens place.token

abbrev pub with_kind : Faulted LexKind → Faulted LineKind
with_kind NoMemory = NoMemory
with_kind (At fault at) = At (lexer_kind fault) at
