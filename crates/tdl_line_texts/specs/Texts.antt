-- The tokens of a line as the grammar sees them, and what a reader says of a line.
--     mark_of            the mark that the bytes of a token are
--     IsTok              a token of a line is this token of the grammar
--     line_texts         how lines, or patterns alone, are written
--     IsLine             a line, with this tree
--     RefusesLine        what a refusal says of a line
--     IsPattern          a pattern, with this tree; RefusesPattern
--     IsDecided          a text has a tree, or is refused
--     is_one_line        a text without line feeds
--     IsTrimmed          a text without the blanks round it
use Rattle.std.specs.Prelude.{◌≡◌, ℕ, ◌-◌, ◌<◌, ◌≤◌, Bool, false, ◌==◌, if◌then◌else◌, List, [], ◌∷◌, ◌++◌, length, drop, take, slice_range}
use Rattle.std.specs.Prelude.{Contains, ◌⊎◌, reverse, IsTrue}
use Rattle.std.specs.List.{list_all}
use Rattle.tdl_control.specs.declared.faults.Faulted.{Faulted}
use Rattle.tdl_control.specs.declared.faults.Faulted.TheVariants.{NoMemory, At}
use Rattle.tdl_control.specs.declared.ops.MapOp.{MapOp}
use Rattle.tdl_control.specs.declared.ops.MapOp.TheVariants.{Union, Add, Sub, Mul}
use Rattle.tdl_expr.specs.declared.joinings.Side.{Side}
use Rattle.tdl_expr.specs.declared.joinings.Side.TheVariants.{Left, Right, Both}
use Rattle.tdl_lexer.specs.declared.signs.LexKind.{LexKind}
use Rattle.tdl_lexer.specs.declared.signs.LexKind.TheVariants as lex
use Rattle.tdl_lexer.specs.declared.signs.Sign.{Sign}
use Rattle.tdl_lexer.specs.declared.signs.Sign.TheVariants as sign
use Rattle.tdl_lexer.specs.declared.signs.Token.{Token}
use Rattle.tdl_lexer.specs.Bytes.{is_line_byte}
use Rattle.tdl_lexer.specs.declared.signs.Mode.TheVariants.{Line as InLine}
use Rattle.tdl_texts.specs.Texts.{Notation, IsWritten, RefusesAt}
use Rattle.tdl_mini_tree.specs.declared.faults.MiniKind.TheVariants as mini
use Rattle.tdl_mini_tree.specs.declared.leaves.Kind.{Kind}
use Rattle.tdl_mini_tree.specs.declared.leaves.Kind.TheVariants.{Sound}
use Rattle.tdl_mini_grammar.specs.Readings.{IsReading}
use Rattle.tdl_mini_grammar.specs.Texts.{IsMini, Refuses, number_of}
use Rattle.tdl_line_machine.specs.declared.faults.LineKind.{LineKind}
use Rattle.tdl_line_machine.specs.declared.faults.LineKind.TheVariants.{Mini, Unclosed, LineTooLong}
use Rattle.tdl_line_machine.specs.declared.marks.Mark.{Mark}
use Rattle.tdl_line_machine.specs.declared.marks.Mark.TheVariants as mark
use Rattle.tdl_command.specs.declared.marks.Way.TheVariants.{Earlier, Later}
use Rattle.tdl_line_texts.specs.Limits.{max_line}
use Rattle.tdl_line_texts.specs.Names.{name_of}
use Rattle.tdl_line_machine.specs.Tokens.{Tok}
use Rattle.tdl_line_machine.specs.Tokens as token
use Rattle.tdl_command.specs.Tree.{Line, Whole, line, pattern, PatternTree, sounds, expression}
use Rattle.tdl_mini_tree.specs.Reading.{Reading}
use Rattle.tdl_line_machine.specs.declared.goals.Goal.{Goal}
use Rattle.tdl_line_machine.specs.declared.goals.Goal.TheVariants.{Line as a_line, Pattern as a_pattern}
use Rattle.tdl_line_grammar.specs.Faults.{lines}

abbrev pub operator : Side → MapOp → Mark
operator side op = mark.Operator (record { side = side; op = op })

-- the operator of a sign
abbrev pub sign_of : ℕ → MapOp
sign_of byte = if byte == 43 then Add else (if byte == 45 then Sub else Mul)

abbrev pub byte_mark : ℕ → Mark
byte_mark byte =
    if byte == 36 then mark.Dollar
    else (if byte == 40 then mark.OpenRound
    else (if byte == 41 then mark.CloseRound
    else (if byte == 91 then mark.OpenSquare
    else (if byte == 93 then mark.CloseSquare
    else (if byte == 44 then mark.Comma
    else (if byte == 46 then mark.Dot
    else (if byte == 47 then mark.Slash
    else (if byte == 45 then mark.Minus
    else operator Left Union))))))))

-- a shift, or an operator with a bar on one side
abbrev pub pair_mark : ℕ → ℕ → Mark
pair_mark one two =
    if one == 60 then mark.Shift Earlier
    else (if one == 126 then mark.Shift Later
    else (if one == 124 then operator Left (sign_of two)
    else operator Right (sign_of one)))

abbrev pub mark_of : List ℕ → Mark
mark_of [] = operator Left Union
mark_of (byte ∷ []) = byte_mark byte
mark_of (one ∷ two ∷ []) = pair_mark one two
mark_of (one ∷ two ∷ rest) = operator Both (sign_of two)

abbrev pub IsSigned : Sign → List ℕ → Tok → Type 0
IsSigned sign.Number bytes t = t ≡ token.number (number_of bytes)
IsSigned sign.Word bytes t = t ≡ token.name (name_of bytes)
IsSigned sign.Quoted bytes t = (readings : Kind → Reading) × (t ≡ token.quoted readings)
    × ((kind : Kind) → IsReading kind (take (length bytes - 2) (drop 1 bytes)) (readings kind))
IsSigned sign.Mark bytes t = t ≡ token.mark (mark_of bytes)
IsSigned sign.End bytes t = t ≡ token.end

abbrev pub IsTok : List ℕ → Token → Tok → Type 0
IsTok text t tok = IsSigned t.sign (slice_range text t.at t.end) tok

abbrev pub lexer_kind : LexKind → LineKind
lexer_kind lex.NotAscii = Mini mini.NotAscii
lexer_kind lex.UnknownSign = Mini mini.UnknownSign
lexer_kind lex.NumberTooLarge = Mini mini.NumberTooLarge
lexer_kind lex.WordTooLong = Mini mini.WordTooLong
lexer_kind lex.Unclosed = Unclosed

abbrev pub line_texts : (goal : Goal) → Notation (lines goal)
line_texts goal = record {
  mode = InLine;
  IsTok = IsTok;
  cut_kind = lexer_kind;
  token = λ place. place.token;
  offset = λ place. place.offset;
}

-- a line or a pattern with this tree
pub record IsWhole (goal : Goal) (text : List ℕ) (w : Whole) : Type 0 where
  pub short : length text ≤ max_line
  pub written : IsWritten (line_texts goal) text w

abbrev pub IsTooLong : List ℕ → LineKind → ℕ → Type 0
IsTooLong text kind at = (max_line < length text) × (kind ≡ LineTooLong) × (at ≡ max_line)

-- out of memory says nothing of the text
abbrev pub RefusesWhole : Goal → List ℕ → Faulted LineKind → Type 0
RefusesWhole goal text NoMemory = Unit {0}
RefusesWhole goal text (At kind at) = IsTooLong text kind at ⊎ ((length text ≤ max_line) × RefusesAt (line_texts goal) text kind at)

-- a text has a tree, or is refused
abbrev pub IsDecided : Goal → List ℕ → Type 0
IsDecided goal text = ((w : Whole) × IsWhole goal text w) ⊎ ((kind : LineKind) × (at : ℕ) × RefusesWhole goal text (At kind at))

abbrev pub IsLine : List ℕ → Line → Type 0
IsLine text l = IsWhole a_line text (line l)

abbrev pub RefusesLine : List ℕ → Faulted LineKind → Type 0
RefusesLine text fault = RefusesWhole a_line text fault

-- ---- patterns
-- an expression where the text has a `"`, and else mini-notation of sounds
abbrev pub IsPattern : List ℕ → PatternTree → Type 0
IsPattern text (sounds ls) = (length text ≤ max_line) × (Contains text 34 → ⊥) × IsMini Sound text ls
IsPattern text (expression e) = Contains text 34 × IsWhole a_pattern text (pattern e)

abbrev pub RefusesSounds : List ℕ → LineKind → ℕ → Type 0
RefusesSounds text (Mini kind) at = (length text ≤ max_line) × (Contains text 34 → ⊥) × Refuses Sound text (At kind at)
RefusesSounds text _ at = ⊥

abbrev pub RefusesPattern : List ℕ → Faulted LineKind → Type 0
RefusesPattern text NoMemory = Unit {0}
RefusesPattern text (At kind at) =
    IsTooLong text kind at ⊎ (RefusesSounds text kind at ⊎ (Contains text 34 × (length text ≤ max_line) × RefusesAt (line_texts a_pattern) text kind at))

-- ---- the text of a line
abbrev pub is_one_line : List ℕ → Bool
is_one_line text = list_all is_line_byte text

abbrev pub begins_blank : List ℕ → Bool
begins_blank [] = false
begins_blank (byte ∷ rest) = byte == 32

pub record IsTrimmed (text kept : List ℕ) : Type 0 where
  pub before : List ℕ
  pub after : List ℕ
  pub joined : text ≡ before ++ (kept ++ after)
  pub blank_before : IsTrue (list_all (λ byte. byte == 32) before)
  pub blank_after : IsTrue (list_all (λ byte. byte == 32) after)
  pub first : begins_blank kept ≡ false
  pub last : begins_blank (reverse kept) ≡ false
