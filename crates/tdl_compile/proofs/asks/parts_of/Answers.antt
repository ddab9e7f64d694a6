use Rattle.std.proofs.Common.{◌≡◌, rules, arith}
use Rattle.tdl_expr.specs.Bounds.{upper}
use Rattle.tdl_expr.proofs.Numbers.{upper_positive}
use Rattle.tdl_compile.proofs.asks.parts_of.Goals as goal

pub returns-clause-upper_positive : goal.returns-clause-upper_positive
returns-clause-upper_positive c =
    let value : c.unsigned_abs.result ≡ upper c.args.rate = search rules in
    omega (arith, upper_positive c.args.rate c.requires, value)
