use Rattle.std.proofs.Common.{◌∙◌, ap, ◌+ℤ◌, pos}
use Rattle.tdl_expr.specs.Tree.{Tree}
use Rattle.tdl_meaning.specs.Meaning.{cyc}
use Rattle.tdl_mini.proofs.TextLaws.{turns_cat}
use Rattle.tdl_mini.proofs.MeaningLaws.{in_even, in_odd}
use Rattle.tdl_mini.proofs.laws.angles_take_turns.Goals as goal

pub returns-clause-even : goal.returns-clause-even
returns-clause-even c kind a b k = ap (λ (t : Tree). cyc t (k +ℤ k)) (turns_cat kind a b) ∙ in_even _ _ k

pub returns-clause-odd : goal.returns-clause-odd
returns-clause-odd c kind a b k = ap (λ (t : Tree). cyc t (k +ℤ k +ℤ pos 1)) (turns_cat kind a b) ∙ in_odd _ _ k
