-- The rules on a tree, in the order in which a text is read, each at the indices of the tokens that it speaks of.
--     after           how many tokens there are with those of pieces
--     tests           the tests of the layers of a text of a kind
use Rattle.tdl_mini_machine.specs.Rules.{Test, test_between}
use Rattle.std.specs.Prelude.{ℕ, suc, List, [], ◌++◌, map}
use Rattle.tdl_mini_tree.specs.declared.leaves.Kind.{Kind}
use Rattle.tdl_mini_grammar.specs.Spelling.{Pieces, nothing, spells, ◌▸◌, ◌obeying◌, spell}
use Rattle.tdl_mini_tree.specs.Tree.{Layers}

abbrev pub after : ℕ → Pieces → ℕ
after from nothing = from
after from (spells x) = suc from
after from (a ▸ b) = after (after from a) b
after from (a obeying rules) = after from a

-- of pieces after so many tokens
abbrev pub tests_from : ℕ → Pieces → List Test
tests_from from nothing = []
tests_from from (spells x) = []
tests_from from (a ▸ b) = tests_from from a ++ tests_from (after from a) b
tests_from from (a obeying rules) = tests_from from a ++ map (test_between from (after from a)) rules

abbrev pub tests : Kind → Layers → List Test
tests kind ls = tests_from 0 (spell kind ls)
