-- The rules on a text in the order in which it is read, and first faults.
--     nested           pieces with the rule on brackets besides
--     tests            the rules on a line or a pattern
--     lines            the grammar with its rules and faults
use Rattle.std.specs.Prelude.{ℕ, false, nat_lt, List, [], ◌∷◌, ◌++◌, length}
use Rattle.tdl_grammar.specs.Grammar.{Test, Grammar}
use Rattle.tdl_mini_tree.specs.Limits.{max_depth}
use Rattle.tdl_mini_tree.specs.declared.faults.MiniKind.TheVariants.{TooDeep}
use Rattle.tdl_line_machine.specs.declared.faults.LineKind.{LineKind}
use Rattle.tdl_line_machine.specs.declared.faults.LineKind.TheVariants.{Mini}
use Rattle.tdl_line_machine.specs.declared.marks.Mark.TheVariants as mark
use Rattle.tdl_line_machine.specs.declared.goals.Goal.{Goal}
use Rattle.tdl_line_machine.specs.Tokens.{Tok}
use Rattle.tdl_line_machine.specs.Tokens as token
use Rattle.tdl_line_machine.specs.Pieces.{Terminal, fixed, text, Rule, Piece, spells, obeys, Place, tests_from}
use Rattle.tdl_line_machine.specs.WrongTokens.{opened, depth_from, wrong_token}
use Rattle.tdl_line_grammar.specs.Spelling.{spell}
use Rattle.tdl_line_grammar.specs.Grammar.{Reads}
use Rattle.tdl_command.specs.Tree.{Whole}

-- a bracket has fewer than 16 open ones round it
abbrev pub nesting : ℕ → Rule
nesting depth = record { kind = Mini TooDeep; offset = 0; more = 0; holds = nat_lt depth max_depth }

abbrev pub nesting_of : ℕ → Terminal → List Piece
nesting_of depth (fixed (token.mark mark.OpenRound)) = obeys (nesting depth) ∷ []
nesting_of depth (fixed (token.mark mark.OpenSquare)) = obeys (nesting depth) ∷ []
nesting_of depth x = []

abbrev pub opened_by : Terminal → ℕ → ℕ
opened_by (fixed t) depth = opened t depth
opened_by (text kind reading) depth = depth

-- pieces inside so many brackets, with the rule on brackets
abbrev pub nested : ℕ → List Piece → List Piece
nested depth [] = []
nested depth (spells x ∷ others) = nesting_of depth x ++ spells x ∷ nested (opened_by x depth) others
nested depth (obeys r ∷ others) = obeys r ∷ nested depth others

abbrev pub tests : Whole → List (Test LineKind Place)
tests w = tests_from 0 (nested 0 (spell w))

abbrev pub lines : Goal → Grammar
lines goal = record {
  Token = Tok;
  Tree = Whole;
  Kind = LineKind;
  Place = Place;
  Reads = Reads goal;
  tests = tests;
  is_joined = λ t. false;
  wrong_kind = λ front t. wrong_token (depth_from 0 front) t;
  wrong_at = λ front t. record { token = length front; offset = 0 };
}
