-- What is to be shown of a notation of a grammar and of a machine that reads it.
--     Fits     each token of a text is one of the grammar, the end ends it, and faults stand at tokens
use Rattle.std.specs.Prelude.{◌≡◌, ℕ, ◌<◌, List, length}
use Rattle.tdl_grammar.specs.Grammar.{Grammar}
use Rattle.tdl_grammar.specs.Faults.{IsFault}
use Rattle.tdl_grammar.specs.inside.TokenMachine.{TokenMachine}
use Rattle.tdl_lexer.specs.declared.signs.Token.{Token}
use Rattle.tdl_lexer.specs.Tokens.{end_token}
use Rattle.tdl_texts.specs.Texts.{Notation}

pub record Fits {g : Grammar} (n : Notation g) (m : TokenMachine g) : Type 0 where
  -- a token of a text is one of the grammar, and one alone
  pub some : (text : List ℕ) (t : Token) → (x : g.Token) × n.IsTok text t x
  pub one : (text : List ℕ) (t : Token) (x y : g.Token) → n.IsTok text t x → n.IsTok text t y → x ≡ y
  -- the end of a text ends it
  pub ends : (text : List ℕ) (at : ℕ) (x : g.Token) → n.IsTok text (end_token at) x → m.IsEnd x
  -- a fault stands at one of the tokens
  pub within : (toks : List g.Token) (kind : g.Kind) (place : g.Place) → IsFault g toks kind place → n.token place < length toks
