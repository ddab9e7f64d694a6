-- The grammar of the texts of a kind, and their first faults. A token's index is how many tokens are before it.
--     mini             the grammar: a fault stands at the index of a token
--     IsText           the tokens, the end too, are a text with this tree
--     IsFault          the first fault of the tokens, and the index of its token
use Rattle.std.specs.Prelude.{ℕ, List, length}
use Rattle.tdl_grammar.specs.Grammar.{Grammar}
use Rattle.tdl_grammar.specs.Faults as faults
use Rattle.tdl_mini_tree.specs.declared.faults.MiniKind.{MiniKind}
use Rattle.tdl_mini_tree.specs.declared.leaves.Kind.{Kind}
use Rattle.tdl_mini_machine.specs.Tokens.{Tok, is_joined}
use Rattle.tdl_mini_grammar.specs.Grammar.{Reads}
use Rattle.tdl_mini_grammar.specs.Tests.{tests}
use Rattle.tdl_mini_tree.specs.Tree.{Layers}
use Rattle.tdl_mini_machine.specs.WrongTokens.{depth_from, wrong_token}

abbrev pub mini : Kind → Grammar
mini kind = record {
  Token = Tok;
  Tree = Layers;
  Kind = MiniKind;
  Place = ℕ;
  Reads = Reads kind;
  tests = tests kind;
  is_joined = is_joined;
  wrong_kind = λ front next. wrong_token (depth_from 0 front) next;
  wrong_at = λ front next. length front;
}

abbrev pub IsText : Kind → List Tok → Layers → Type 0
IsText kind tokens ls = faults.IsText (mini kind) tokens ls

abbrev pub IsFault : Kind → List Tok → MiniKind → ℕ → Type 0
IsFault kind tokens fault at = faults.IsFault (mini kind) tokens fault at
