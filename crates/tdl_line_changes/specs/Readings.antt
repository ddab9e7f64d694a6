-- What texts say, with no reader and no program among it.
--     ReadsSwap       the text reads as this change, from the next multiple of so many cycles on: a line that asks for it,
--                     within the limits of patterns
--     ReadsLook       the text reads as a look
--     program_tree    the tree of a program
use Rattle.std.specs.Prelude.{◌≡◌, ℕ, None, List}
use Rattle.std.specs.Option.{option_and_then}
use Rattle.tdl_desk.specs.declared.changes.Change.{Change}
use Rattle.tdl_desk.specs.Changes.{map_change, pattern_in}
use Rattle.tdl_expr.specs.Rows.{tree_at}
use Rattle.tdl_expr.specs.Tree.{Tree}
use Rattle.tdl_compile.specs.Compiled.{Compiled}
use Rattle.tdl_rows.specs.Built.{Built}
use Rattle.tdl_command.specs.Tree.{Line}
use Rattle.tdl_line_texts.specs.Texts.{IsLine}
use Rattle.tdl_prepare.specs.Asked.{asked, swap, look}
use Rattle.tdl_prepare.specs.Prepared.{prepare_fault}

pub record ReadsSwap (text : List ℕ) (every : ℕ) (change : Change Tree) : Type 0 where
  pub line : Line
  pub read : IsLine text line
  pub made : Change (Built Tree)
  pub asks : asked line ≡ swap every made
  pub within : option_and_then prepare_fault (pattern_in made) ≡ None
  pub same : map_change (λ b. b.value) made ≡ change

pub record ReadsLook (text : List ℕ) : Type 0 where
  pub line : Line
  pub read : IsLine text line
  pub asks : asked line ≡ look

abbrev pub program_tree : Compiled → Tree
program_tree program = tree_at program.nodes program.root
