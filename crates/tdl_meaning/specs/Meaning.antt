-- What pattern trees mean.
--     cyc     the events of a tree in each cycle: each kind is one combinator over patterns
use Rattle.std.specs.Prelude.{List, [], ◌∷◌}
use Rattle.tdl_expr.specs.Tree.{Tree, Silence, Pure, Fast, TimeCat, Cat, Stack, Rev, Pick, When, Shift, Join, Ply, Gate, Trees, empty, child, Steps, none}
use Rattle.tdl_expr.specs.Tree.{step}
use Rattle.tdl_meaning.specs.Pattern.{Pattern, Share, silence, pure, fast, time_cat, cat, stack, rev, pick}
use Rattle.tdl_meaning.specs.Kinds.{when, shift, ply, gate}
use Rattle.tdl_meaning.specs.Values.{meets, value_of, join}

abbrev mutual
  pub cyc : Tree → Pattern
  cyc Silence = silence
  cyc (Pure v) = pure v
  cyc (Fast r e) = fast r (cyc e)
  cyc (TimeCat steps) = time_cat (weighted steps)
  cyc (Cat trees) = cat (patterns trees)
  cyc (Stack trees) = stack (patterns trees)
  cyc (Rev e) = rev (cyc e)
  cyc (Pick selector trees) = pick (cyc selector) (patterns trees)
  cyc (When modulus test d e) = when modulus (meets test) (cyc d) (cyc e)
  cyc (Shift t e) = shift t (cyc e)
  cyc (Join side op d e) = join side (value_of op) (cyc d) (cyc e)
  cyc (Ply n e) = ply n (cyc e)
  cyc (Gate from to inside e) = gate from to inside (cyc e)

  pub patterns : Trees → List Pattern
  patterns empty = []
  patterns (child e trees) = cyc e ∷ patterns trees

  pub weighted : Steps → List Share
  weighted none = []
  weighted (step w e steps) = record { weight = w; pattern = cyc e } ∷ weighted steps
