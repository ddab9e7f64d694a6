use Rattle.std.proofs.Common.{sym, subst}
use Rattle.tdl_rows.specs.Arguments.{HasBoundedParts}
use Rattle.tdl_prepare.proofs.NumberParts.{negative_bounded}
use Rattle.tdl_prepare.proofs.numbers.negated.Goals as goal

pub returns-then-is_negative-clause-bounded : goal.returns-then-is_negative-clause-bounded
returns-then-is_negative-clause-bounded c = subst HasBoundedParts (sym c.negative.ensures) (negative_bounded c.args.number c.requires)
