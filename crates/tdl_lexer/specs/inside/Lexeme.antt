-- What stands at the front of what is left of a text: a token, or a fault.
use Rattle.std.specs.Prelude.{ℕ, Option, Some, None, Result, Ok, Err, List, length, drop}
use Rattle.tdl_lexer.specs.declared.lexemes.Lexeme.{Lexeme}
use Rattle.tdl_lexer.specs.declared.lexemes.Flaw.{Flaw}
use Rattle.tdl_lexer.specs.declared.signs.Mode.{Mode}
use Rattle.tdl_lexer.specs.declared.signs.Mode.TheVariants.{Mini, Line}
use Rattle.tdl_lexer.specs.Languages.{Language, at_front}
use Rattle.tdl_lexer.specs.MiniForms.{mini_notation}
use Rattle.tdl_lexer.specs.LineForms.{line_notation}
use Rattle.tdl_lexer.specs.Tokens.{language, unlisted}
use Rattle.tdl_lexer.specs.inside.FindMini.{mini_form_at}
use Rattle.tdl_lexer.specs.inside.FindLine.{line_form_at}

abbrev pub judged : Lexeme → Option Flaw → Result Lexeme Flaw
judged x None = Ok x
judged x (Some flaw) = Err flaw

-- the lexeme of a form at the front of a text
abbrev pub lexeme_of : (L : Language) → List ℕ → L.Form → Result Lexeme Flaw
lexeme_of L rest form = judged (record { sign = L.sign form; len = length (L.spell form) }) (L.flaw form (drop (length (L.spell form)) rest))

abbrev pub lexeme_or : (L : Language) → List ℕ → Option L.Form → Result Lexeme Flaw
lexeme_or L rest None = Err (at_front (unlisted rest))
lexeme_or L rest (Some form) = lexeme_of L rest form

abbrev pub form_at : (mode : Mode) → ℕ → List ℕ → Option (language mode).Form
form_at Mini last rest = mini_form_at last rest
form_at Line last rest = line_form_at rest

abbrev pub lexeme_at : Mode → ℕ → List ℕ → Result Lexeme Flaw
lexeme_at mode last rest = lexeme_or (language mode) rest (form_at mode last rest)

abbrev pub mini_lexeme : ℕ → List ℕ → Result Lexeme Flaw
mini_lexeme last rest = lexeme_or mini_notation rest (mini_form_at last rest)

abbrev pub line_lexeme : List ℕ → Result Lexeme Flaw
line_lexeme rest = lexeme_or line_notation rest (line_form_at rest)
