use Rattle.std.proofs.Common.{rules}
use Rattle.tdl_expr.specs.Tree.{Pure}
use Rattle.tdl_fraction.proofs.Order.{≤ℚ_refl}
use Rattle.tdl_meaning.proofs.PlainLemmas.{pure_made}
use Rattle.tdl_meaning.proofs.Moving.{cycle_small}
use Rattle.tdl_meaning.proofs.evaluator.once.Goals as goal

pub later-requires : goal.later-requires
later-requires c = (cycle_small (Pure c.args.leaf.now) c.args.cycle c.requires).1

pub invariant_of-push : goal.invariant_of-push
invariant_of-push c = (≤ℚ_refl _, ≤ℚ_refl _)

pub returns : goal.returns
returns c = pure_made c.args.leaf.now c.args.cycle c.unwrap-whole.result c.push.new.self (search rules) (search rules) (search rules)
