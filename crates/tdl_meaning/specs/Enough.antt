-- A tree asks its children for all that its meaning uses of them.
--     with_children    a tree, with what a function gives for each of its children in that child's place
--     HasAsked         such a child has the same events in each arc that the tree asks for
--     EnoughLaw        and then the tree has the same events
use Rattle.std.specs.Prelude.{◌≡◌, ℕ}
use Rattle.tdl_fraction.specs.Arc.{Arc, IsArc}
use Rattle.tdl_expr.specs.Tree.{Tree, Silence, Pure, Fast, TimeCat, Cat, Stack, Rev, Pick, When, Shift, Join, Ply, Gate, Trees, empty, child, Steps, none}
use Rattle.tdl_expr.specs.Tree.{step}
use Rattle.tdl_expr.specs.Valid.{IsValid}
use Rattle.tdl_meaning.specs.Pattern.{over}
use Rattle.tdl_meaning.specs.Meaning.{cyc}
use Rattle.tdl_meaning.specs.Asks.{Asks}

module _ (f : Tree → Tree) where
  abbrev pub each_tree : Trees → Trees
  each_tree empty = empty
  each_tree (child e trees) = child (f e) (each_tree trees)

  abbrev pub each_step : Steps → Steps
  each_step none = none
  each_step (step w e steps) = step w (f e) (each_step steps)

  abbrev pub with_children : Tree → Tree
  with_children Silence = Silence
  with_children (Pure v) = Pure v
  with_children (Fast r e) = Fast r (f e)
  with_children (TimeCat steps) = TimeCat (each_step steps)
  with_children (Cat trees) = Cat (each_tree trees)
  with_children (Stack trees) = Stack (each_tree trees)
  with_children (Rev e) = Rev (f e)
  with_children (Pick selector trees) = Pick (f selector) (each_tree trees)
  with_children (When modulus test d e) = When modulus test (f d) (f e)
  with_children (Shift t e) = Shift t (f e)
  with_children (Join side op d e) = Join side op (f d) (f e)
  with_children (Ply n e) = Ply n (f e)
  with_children (Gate from to inside e) = Gate from to inside (f e)

-- where the tree, asked for the arc a, asks a child for an arc, the tree in the child's place has the same events there
abbrev pub HasAsked : ℕ → ℕ → (Tree → Tree) → Tree → Arc → Type 0
HasAsked q m f e a = (p n : ℕ) (d : Tree) (b : Arc) → Asks q m e a p n d b → over (cyc (f d)) b ≡ over (cyc d) b

abbrev pub EnoughLaw : Type 0
EnoughLaw = (q m : ℕ) (f : Tree → Tree) (e : Tree) (a : Arc) → IsValid e → IsValid (with_children f e) → IsArc a → HasAsked q m f e a
    → over (cyc (with_children f e)) a ≡ over (cyc e) a
