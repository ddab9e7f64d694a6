-- In each mode a text is cut in one way, or has one first fault; and one of both holds.
use Rattle.std.proofs.Common.{◌≡◌, ℕ, List}
use Rattle.tdl_lexer.specs.declared.signs.Mode.{Mode}
use Rattle.tdl_lexer.specs.declared.signs.Token.{Token}
use Rattle.tdl_lexer.specs.declared.signs.LexKind.{LexKind}
use Rattle.tdl_lexer.specs.Tokens.{language, IsCut, IsFaultAt}
use Rattle.tdl_lexer.specs.inside.Lexeme.{form_at}
use Rattle.tdl_lexer.proofs.ModeFinds.{finds}
use Rattle.tdl_lexer.proofs.OneCut.{cut_unique, cut_no_fault, fault_unique}
use Rattle.tdl_lexer.proofs.Totality.{CutOrFaulty, cut_or_faulty}

pub IsCut-unique : (mode : Mode) (text : List ℕ) (a b : List Token) → IsCut (language mode) text a → IsCut (language mode) text b → a ≡ b
IsCut-unique mode = cut_unique (language mode) (form_at mode) (finds mode)

pub IsCut-no_fault : (mode : Mode) (text : List ℕ) (tokens : List Token) (kind : LexKind) (at : ℕ) → IsCut (language mode) text tokens
    → IsFaultAt (language mode) text kind at → ⊥
IsCut-no_fault mode = cut_no_fault (language mode) (form_at mode) (finds mode)

pub IsFaultAt-unique : (mode : Mode) (text : List ℕ) (k l : LexKind) (m n : ℕ) → IsFaultAt (language mode) text k m → IsFaultAt (language mode) text l n
    → (k ≡ l) × (m ≡ n)
IsFaultAt-unique mode = fault_unique (language mode) (form_at mode) (finds mode)

pub is_decided : (mode : Mode) (text : List ℕ) → CutOrFaulty (language mode) text
is_decided mode = cut_or_faulty (language mode) (form_at mode) (finds mode)
