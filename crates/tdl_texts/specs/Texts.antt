-- Texts of a grammar: bytes that are cut into tokens, which the grammar reads.
--     Notation         how the texts of a grammar are written
--     AreToks          the tokens of a text, as the grammar sees them
--     IsWritten        a text with this tree
--     HasNoTokens      the text has no tokens, by the first fault of its bytes
--     IsNoText         the first fault of its tokens stands at this byte
--     Refuses          what a refusal says of the text
--     IsDecided        the text has a tree, or is refused
use Rattle.std.specs.Prelude.{◌≡◌, ℕ, ◌+◌, ◌⊎◌, List, ◌∷◌, ◌++◌, length}
use Rattle.std.specs.List.{AllZip}
use Rattle.tdl_control.specs.declared.faults.Faulted.{Faulted}
use Rattle.tdl_control.specs.declared.faults.Faulted.TheVariants.{NoMemory, At}
use Rattle.tdl_grammar.specs.Grammar.{Grammar}
use Rattle.tdl_grammar.specs.Faults.{IsText, IsFault}
use Rattle.tdl_lexer.specs.declared.signs.LexKind.{LexKind}
use Rattle.tdl_lexer.specs.declared.signs.Mode.{Mode}
use Rattle.tdl_lexer.specs.declared.signs.Token.{Token}
use Rattle.tdl_lexer.specs.Tokens.{IsCut, IsFaultAt, language}

pub record Notation (g : Grammar) : Type 1 where
  -- the language that cuts its bytes
  pub mode : Mode
  -- a token of a text is this one of the grammar
  pub IsTok : List ℕ → Token → g.Token → Type 0
  -- the fault of bytes that are no tokens
  pub cut_kind : LexKind → g.Kind
  -- where a place stands: at the token of this number, and so many bytes behind its first
  pub token : g.Place → ℕ
  pub offset : g.Place → ℕ

pub record AreToks {g : Grammar} (n : Notation g) (text : List ℕ) (tokens : List Token) (toks : List g.Token) : Type 0 where
  pub cut : IsCut (language n.mode) text tokens
  pub are : AllZip (n.IsTok text) tokens toks

pub record IsWritten {g : Grammar} (n : Notation g) (text : List ℕ) (tree : g.Tree) : Type 0 where
  pub tokens : List Token
  pub toks : List g.Token
  pub tokenized : AreToks n text tokens toks
  pub is : IsText g toks tree

pub record HasNoTokens {g : Grammar} (n : Notation g) (text : List ℕ) (kind : g.Kind) (at : ℕ) : Type 0 where
  pub cause : LexKind
  pub same : kind ≡ n.cut_kind cause
  pub fault : IsFaultAt (language n.mode) text cause at

pub record IsNoText {g : Grammar} (n : Notation g) (text : List ℕ) (kind : g.Kind) (at : ℕ) : Type 0 where
  pub tokens : List Token
  pub toks : List g.Token
  pub tokenized : AreToks n text tokens toks
  pub place : g.Place
  pub first : IsFault g toks kind place
  pub before : List Token
  pub there : Token
  pub after : List Token
  pub joined : tokens ≡ before ++ there ∷ after
  pub number : n.token place ≡ length before
  pub byte : at ≡ there.at + n.offset place

abbrev pub RefusesAt : {g : Grammar} → Notation g → List ℕ → g.Kind → ℕ → Type 0
RefusesAt n text kind at = HasNoTokens n text kind at ⊎ IsNoText n text kind at

-- out of memory says nothing of the text
abbrev pub Refuses : {g : Grammar} → Notation g → List ℕ → Faulted g.Kind → Type 0
Refuses n text NoMemory = Unit {0}
Refuses n text (At kind at) = RefusesAt n text kind at

abbrev pub IsDecided : {g : Grammar} → Notation g → List ℕ → Type 0
IsDecided {g} n text = ((tree : g.Tree) × IsWritten n text tree) ⊎ ((kind : g.Kind) × (at : ℕ) × RefusesAt n text kind at)
