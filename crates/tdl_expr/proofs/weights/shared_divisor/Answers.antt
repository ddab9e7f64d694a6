-- A number divides itself.
use Rattle.std.proofs.Common.{ap, sym, ◌∙◌}
use Rattle.tdl_fraction.specs.Divisor.{gcd}
use Rattle.tdl_fraction.proofs.Coprime.{gcd_same}
use Rattle.tdl_expr.proofs.weights.shared_divisor.Goals as goal

pub returns-then-a-b : goal.returns-then-a-b
returns-then-a-b c = sym (gcd_same c.args.a) ∙ ap (gcd c.args.a) c.if-a-b.true
