-- What a text is in a kind: layers, or its first fault and the offset of that.
use Rattle.std.specs.Prelude.{ℕ}
use Rattle.tdl_mini_tree.specs.declared.faults.MiniKind.{MiniKind}
use Rattle.tdl_mini_tree.specs.declared.leaves.Kind.{Kind}
use Rattle.tdl_mini_tree.specs.Tree.{Layers}

pub data Reading : Type 0 where
  read : Kind → Layers → Reading
  unread : MiniKind → (at : ℕ) → Reading
