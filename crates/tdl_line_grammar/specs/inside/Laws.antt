-- What the laws of the machine say.
--     final_state      the state after a whole text of so many tokens
--     tree_of          the tree of a text that is read to its end
--     IsEnded          a text is read to its end
use Rattle.std.specs.Prelude.{◌≡◌, ℕ, []}
use Rattle.tdl_command.specs.Tree as tree
use Rattle.tdl_command.specs.Tree.{Line, Whole}
use Rattle.tdl_line_machine.specs.Machine.States.{Front, alone, plays, jumps, Stage, State, ended}

abbrev pub line_front : Line → Front
line_front (tree.play o e) = plays o
line_front (tree.jump n every e) = jumps n every
line_front _ = alone

abbrev pub front_of : Whole → Front
front_of (tree.line l) = line_front l
front_of (tree.pattern e) = alone

abbrev pub final_state : Whole → ℕ → State
final_state w n = record { core = record { frames = []; level = []; depth = 0; front = front_of w; read = n }; stage = ended w }

-- nothing, where the text is not read to its end
abbrev pub tree_at : Stage → Whole
tree_at (ended w) = w
tree_at _ = tree.line tree.nothing

abbrev pub tree_of : State → Whole
tree_of s = tree_at s.stage

abbrev pub IsEnded : State → Type 0
IsEnded s = s.stage ≡ ended (tree_of s)
