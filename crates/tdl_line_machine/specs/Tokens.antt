-- Tokens as the grammar of lines sees them.
--     Tok             a number, a name, a quoted text by what it is in each kind, a mark, or the end
use Rattle.tdl_mini_tree.specs.declared.leaves.Number.{Number}
use Rattle.tdl_mini_tree.specs.declared.leaves.Kind.{Kind}
use Rattle.tdl_line_machine.specs.declared.names.Name.{Name}
use Rattle.tdl_line_machine.specs.declared.marks.Mark.{Mark}
use Rattle.tdl_mini_tree.specs.Reading.{Reading}

pub data Tok : Type 0 where
  number : Number → Tok
  name : Name → Tok
  quoted : (Kind → Reading) → Tok
  mark : Mark → Tok
  end : Tok
