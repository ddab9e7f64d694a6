-- Ways to read the texts of lines.
--     Reading       a text reads as a change of what is played, from the next multiple of so many cycles on
--     IsPlayable    a tree that can be played up to the last cycle
--     IsReading     a text has one reading at most, of 1 to 4,096 cycles, with a pattern that can be played, and no line feed
use Rattle.std.specs.Prelude.{◌≡◌, ◌≤◌, ℕ, true, not, ◌==◌, List, IfSome}
use Rattle.std.specs.List.{list_all}
use Rattle.tdl_control.specs.Limits.{max_every}
use Rattle.tdl_desk.specs.declared.changes.Change.{Change}
use Rattle.tdl_desk.specs.Changes.{pattern_in}
use Rattle.tdl_desk.specs.Desk.{HasOrbit}
use Rattle.tdl_expr.specs.Tree.{Tree}
use Rattle.tdl_expr.specs.Valid.{IsValid, IsWithinLimits}

abbrev pub Reading : Type 1
Reading = List ℕ → ℕ → Change Tree → Type 0

pub record IsPlayable (tree : Tree) : Type 0 where
  pub valid : IsValid tree
  pub limits : IsWithinLimits tree

-- what every reading of a change keeps
pub record IsGood (text : List ℕ) (every : ℕ) (change : Change Tree) : Type 0 where
  pub from_one : 1 ≤ every
  pub to_most : every ≤ max_every
  pub orbit : HasOrbit change
  pub playable : IfSome (pattern_in change) IsPlayable
  pub one_line : list_all (λ byte. not (byte == 10)) text ≡ true

pub record IsReading (Reads : Reading) : Type 0 where
  pub one_every : (text : List ℕ) (m n : ℕ) (c d : Change Tree) → Reads text m c → Reads text n d → m ≡ n
  pub one_change : (text : List ℕ) (m n : ℕ) (c d : Change Tree) → Reads text m c → Reads text n d → c ≡ d
  pub good : (text : List ℕ) (every : ℕ) (change : Change Tree) → Reads text every change → IsGood text every change
