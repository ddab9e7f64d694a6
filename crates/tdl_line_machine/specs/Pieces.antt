-- What the terminals and rules of a text are made of, for the machine that reads them and for the grammar.
--     Terminal        a token, or a quoted text that is this in its kind
--     Rule            a rule: the fault at the next token and an offset in it, if the rule does not hold, and
--                     how many more tokens belong to what it speaks of
--     Piece           a terminal, or a rule
--     Place           a token, by how many are before it, and an offset in it
--     tests_from      the rules of pieces, each on the token that comes after it
use Rattle.std.specs.Prelude.{ℕ, suc, ◌+◌, Bool, false, List, [], ◌∷◌}
use Rattle.tdl_grammar.specs.Grammar.{Test}
use Rattle.tdl_mini_tree.specs.declared.leaves.Kind.{Kind}
use Rattle.tdl_mini_tree.specs.Reading.{Reading, read, unread}
use Rattle.tdl_line_machine.specs.declared.faults.LineKind.{LineKind}
use Rattle.tdl_line_machine.specs.declared.faults.LineKind.TheVariants.{Mini}
use Rattle.tdl_line_machine.specs.Tokens.{Tok}

pub data Terminal : Type 0 where
  fixed : Tok → Terminal
  text : Kind → Reading → Terminal

pub record Rule : Type 0 where
  pub kind : LineKind
  pub offset : ℕ
  pub more : ℕ
  pub holds : Bool

pub data Piece : Type 0 where
  spells : Terminal → Piece
  obeys : Rule → Piece

pub record Place : Type 0 where
  pub token : ℕ
  pub offset : ℕ

-- a rule on the token that comes after so many others
abbrev pub test_at : ℕ → Rule → Test LineKind Place
test_at from r = record {
  kind = r.kind;
  at = record { token = from; offset = r.offset };
  ends = suc (r.more + from);
  waits = false;
  holds = r.holds;
}

abbrev pub tests_from : ℕ → List Piece → List (Test LineKind Place)
tests_from from [] = []
tests_from from (spells t ∷ others) = tests_from (suc from) others
tests_from from (obeys r ∷ others) = test_at from r ∷ tests_from from others

-- a fault of a text stands in it, after its `"`
abbrev pub reading_rules : Reading → List Piece
reading_rules (read k ls) = []
reading_rules (unread kind at) = obeys (record { kind = Mini kind; offset = suc at; more = 0; holds = false }) ∷ []
