use Rattle.std.proofs.Common.{sym}
use Rattle.tdl_mini_tree.proofs.FirstBracket.{first_values, first_valid}
use Rattle.tdl_mini_tree.proofs.tree.Operand.first.Goals as goal

pub returns-in-Some-clause-values : goal.returns-in-Some-clause-values
returns-in-Some-clause-values c =
    λ trees. sym (first_values trees c.deref.result.now c.args.self.now.braces.items c.in-Some.first.now c.args.self.now.last c.in-Some.ensures.value
    c.deref.ensures.value)

pub returns-in-Some-clause-valid : goal.returns-in-Some-clause-valid
returns-in-Some-clause-valid c =
    λ kind trees valid. first_valid kind trees c.deref.result.now c.args.self.now.braces.items c.in-Some.first.now c.args.self.now.last
    c.in-Some.ensures.value c.deref.ensures.value valid
