-- In a valid tree each event of a cycle has a part of positive width, in its whole and in the cycle.
use Rattle.std.proofs.Common.{◌<◌}
use Rattle.tdl_expr.specs.Tree.{Tree, Silence, Pure, Fast, TimeCat, Cat, Stack, Rev, Pick, When, Shift, Join, Ply, Gate, Trees, empty, child, Steps, none}
use Rattle.tdl_expr.specs.Tree.{step}
use Rattle.tdl_expr.specs.Valid.{IsValid, AreValid, AreValidSteps}
use Rattle.tdl_meaning.specs.Meaning.{cyc, patterns, weighted}
use Rattle.tdl_meaning.specs.Proper.{Each, HasProperEvents}
use Rattle.tdl_meaning.specs.Values.{meets, value_of}
use Rattle.tdl_meaning.proofs.kinds.Proper.{silence_proper, pure_proper, fast_proper, time_cat_proper, cat_proper, stack_proper, rev_proper, pick_proper}
use Rattle.tdl_meaning.proofs.kinds.When.{when_proper}
use Rattle.tdl_meaning.proofs.kinds.Shift.{shift_proper}
use Rattle.tdl_meaning.proofs.kinds.Join.{join_proper}
use Rattle.tdl_meaning.proofs.kinds.Ply.{ply_proper}
use Rattle.tdl_meaning.proofs.kinds.Gate.{gate_proper}

mutual
  pub proper : (e : Tree) → IsValid e → HasProperEvents (cyc e)
  proper Silence valid = silence_proper
  proper (Pure v) valid = pure_proper v
  proper (Fast r e) valid = fast_proper r (cyc e) valid.0 (proper e valid.1)
  proper (TimeCat steps) valid = time_cat_proper (weighted steps) (propers_of_steps steps valid.1)
  proper (Cat trees) valid = cat_proper (patterns trees) (propers trees valid)
  proper (Stack trees) valid = stack_proper (patterns trees) (propers trees valid)
  proper (Rev e) valid = rev_proper (cyc e) (proper e valid)
  proper (Pick selector trees) valid = pick_proper (cyc selector) (patterns trees) (proper selector valid.0) (propers trees valid.1)
  proper (When modulus test d e) valid = when_proper modulus (meets test) (cyc d) (cyc e) (proper d valid.1) (proper e valid.2)
  proper (Shift t e) valid = shift_proper t (cyc e) (proper e valid)
  proper (Join side op d e) valid = join_proper (value_of op) (cyc d) (cyc e) side (proper d valid.0) (proper e valid.1)
  proper (Ply n e) valid = ply_proper n (cyc e) (proper e valid.1)
  proper (Gate from to inside e) valid = gate_proper from to inside (cyc e) (proper e valid)

  pub propers : (trees : Trees) → AreValid trees → Each HasProperEvents (patterns trees)
  propers empty valid = tt
  propers (child e trees) valid = (proper e valid.0, propers trees valid.1)

  pub propers_of_steps : (steps : Steps) → AreValidSteps steps → Each (λ s. (0 < s.weight) × HasProperEvents s.pattern) (weighted steps)
  propers_of_steps none valid = tt
  propers_of_steps (step w e steps) valid = ((valid.0, proper e valid.1), propers_of_steps steps valid.2)
