-- The run and the number that stand at the front of what is left of a text.
use Rattle.std.specs.Prelude.{ℕ, Bool, ◌+◌, if◌then◌else◌, Result, Ok, Err, List, [], length, take, drop}
use Rattle.std.specs.List.{take_while}
use Rattle.std.specs.Char.{is_ascii_digit}
use Rattle.tdl_lexer.specs.declared.lexemes.Lexeme.{Lexeme}
use Rattle.tdl_lexer.specs.declared.signs.Sign.TheVariants as sign
use Rattle.tdl_lexer.specs.declared.signs.LexKind.{LexKind}
use Rattle.tdl_lexer.specs.declared.signs.LexKind.TheVariants.{NumberTooLarge}
use Rattle.tdl_lexer.specs.Bytes.{is_run_byte}
use Rattle.tdl_lexer.specs.Numbers.{Number, number_text, begins_tail, is_small}

abbrev pub run_of : List ℕ → List ℕ
run_of text = take_while is_run_byte text

abbrev pub digits_of : List ℕ → List ℕ
digits_of text = take_while is_ascii_digit text

-- what follows the first digits and still belongs to the number
abbrev pub tail_of : List ℕ → List ℕ
tail_of after = if begins_tail after then take (1 + length (digits_of (drop 1 after))) after else []

abbrev pub number_of : Bool → List ℕ → Number
number_of negative text = record { negative = negative; whole = run_of text; tail = tail_of (drop (length (run_of text)) text) }

abbrev pub number_lexeme : Number → Result Lexeme LexKind
number_lexeme n = if is_small n then Ok (record { sign = sign.Number; len = length (number_text n) }) else Err NumberTooLarge
