-- The tokens of a text as the grammar sees them, and what a reader says of a text.
--     number_of          the number that the bytes of a token are
--     mark_of            the mark that they are
--     tok_of             the token of the text that is cut there
--     mini_texts         how the texts of a kind are written
--     IsMini             a text of a kind, with this tree
--     Refuses            what a refusal says of the text
--     Decided            it is one or the other
use Rattle.std.specs.Prelude.{◌≡◌, ℕ, ◌-◌, ◌*◌, ◌^◌, Bool, true, false, ◌&&◌, ◌==◌, if◌then◌else◌, List, [], ◌∷◌, length, drop, slice_range}
use Rattle.std.specs.List.{take_while}
use Rattle.std.specs.Char.{is_ascii_digit}
use Rattle.std.specs.Str.Parse.{digits_value}
use Rattle.tdl_control.specs.Limits.{max_decimals}
use Rattle.tdl_control.specs.declared.faults.Faulted.{Faulted}
use Rattle.tdl_lexer.specs.declared.signs.LexKind.{LexKind}
use Rattle.tdl_lexer.specs.declared.signs.LexKind.TheVariants as lex
use Rattle.tdl_lexer.specs.declared.signs.Sign.TheVariants as sign
use Rattle.tdl_lexer.specs.declared.signs.Token.{Token}
use Rattle.tdl_lexer.specs.Bytes.{begins}
use Rattle.tdl_lexer.specs.declared.signs.Mode.TheVariants.{Mini}
use Rattle.tdl_lexer.specs.Tokens.{byte_before}
use Rattle.tdl_texts.specs.Texts as texts
use Rattle.tdl_texts.specs.Texts.{Notation, IsWritten, IsDecided}
use Rattle.tdl_lexer.specs.declared.signs.Sign.{Sign}
use Rattle.tdl_mini_tree.specs.declared.faults.MiniKind.{MiniKind}
use Rattle.tdl_mini_tree.specs.declared.faults.MiniKind.TheVariants as mini
use Rattle.tdl_mini_tree.specs.declared.leaves.Kind.{Kind}
use Rattle.tdl_mini_tree.specs.declared.leaves.Number.{Number}
use Rattle.tdl_mini_tree.specs.declared.leaves.Tail.{Tail}
use Rattle.tdl_mini_tree.specs.declared.leaves.Tail.TheVariants.{Whole, Decimals, Over}
use Rattle.tdl_mini_tree.specs.declared.leaves.Bracket.TheVariants.{Square, Angle, Brace}
use Rattle.tdl_mini_machine.specs.declared.marks.Mark.{Mark}
use Rattle.tdl_mini_machine.specs.declared.marks.Mark.TheVariants as marks
use Rattle.tdl_mini_machine.specs.Tokens.{Tok, digits, letters, mark, end}
use Rattle.tdl_mini_grammar.specs.Faults.{mini as grammar}
use Rattle.tdl_mini_tree.specs.Tree.{Layers}

abbrev pub tail_of : List ℕ → Tail
tail_of [] = Whole
tail_of (byte ∷ rest) = if byte == 46 then Decimals (digits_value 10 rest * 10 ^ (max_decimals - length rest)) else Over (digits_value 10 rest)

abbrev pub unsigned_of : Bool → List ℕ → Number
unsigned_of negative text = record {
  is_negative = negative;
  whole = digits_value 10 (take_while is_ascii_digit text);
  tail = tail_of (drop (length (take_while is_ascii_digit text)) text);
}

abbrev pub number_of : List ℕ → Number
number_of [] = unsigned_of false []
number_of (byte ∷ rest) = if byte == 45 then unsigned_of true rest else unsigned_of false (byte ∷ rest)

abbrev pub byte_mark : ℕ → Mark
byte_mark byte =
    if byte == 126 then marks.Rest
    else (if byte == 91 then marks.Open Square
    else (if byte == 93 then marks.Close Square
    else (if byte == 60 then marks.Open Angle
    else (if byte == 62 then marks.Close Angle
    else (if byte == 123 then marks.Open Brace
    else (if byte == 125 then marks.Close Brace
    else (if byte == 40 then marks.OpenRound
    else (if byte == 41 then marks.CloseRound
    else (if byte == 44 then marks.Comma
    else (if byte == 33 then marks.Repeat
    else (if byte == 42 then marks.Star
    else (if byte == 47 then marks.Slash
    else (if byte == 64 then marks.At
    else (if byte == 58 then marks.Colon
    else (if byte == 37 then marks.Percent
    else (if byte == 63 then marks.Question
    else (if byte == 124 then marks.Bar
    else (if byte == 95 then marks.Hold
    else (if byte == 46 then marks.Dot
    else marks.Caret)))))))))))))))))))

-- `..` is the one mark of two bytes
abbrev pub mark_of : List ℕ → Mark
mark_of [] = marks.Caret
mark_of (byte ∷ []) = byte_mark byte
mark_of (byte ∷ next ∷ rest) = marks.Range

-- a number or a word is a count where it begins with a digit directly after `!`
abbrev pub is_count_at : List ℕ → ℕ → List ℕ → Bool
is_count_at text at bytes = (byte_before text at == 33) && begins is_ascii_digit bytes

-- mini-notation has no quoted texts
abbrev pub signed_tok : Sign → List ℕ → Bool → Tok
signed_tok sign.Number bytes is_count = digits (number_of bytes) bytes is_count
signed_tok sign.Word bytes is_count = letters bytes is_count
signed_tok sign.Mark bytes is_count = mark (mark_of bytes)
signed_tok sign.Quoted bytes is_count = end
signed_tok sign.End bytes is_count = end

abbrev pub tok_of : List ℕ → Token → Tok
tok_of text t = signed_tok t.sign (slice_range text t.at t.end) (is_count_at text t.at (slice_range text t.at t.end))

-- nothing is unclosed without quoted texts
abbrev pub lexer_kind : LexKind → MiniKind
lexer_kind lex.NotAscii = mini.NotAscii
lexer_kind lex.UnknownSign = mini.UnknownSign
lexer_kind lex.NumberTooLarge = mini.NumberTooLarge
lexer_kind lex.WordTooLong = mini.WordTooLong
lexer_kind lex.Unclosed = mini.UnknownSign

-- a fault stands at the first byte of its token
abbrev pub mini_texts : (kind : Kind) → Notation (grammar kind)
mini_texts kind = record {
  mode = Mini;
  IsTok = λ text t tok. tok ≡ tok_of text t;
  cut_kind = lexer_kind;
  token = λ place. place;
  offset = λ place. 0;
}

abbrev pub IsMini : Kind → List ℕ → Layers → Type 0
IsMini kind text ls = IsWritten (mini_texts kind) text ls

abbrev pub Refuses : Kind → List ℕ → Faulted MiniKind → Type 0
Refuses kind text fault = texts.Refuses (mini_texts kind) text fault

abbrev pub Decided : Kind → List ℕ → Type 0
Decided kind text = IsDecided (mini_texts kind) text
