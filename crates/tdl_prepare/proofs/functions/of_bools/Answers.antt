use Rattle.std.proofs.Common.{sym, ap}
use Rattle.tdl_expr.specs.Rows.{tree_at}
use Rattle.tdl_command.specs.declared.names.BoolsFun.{BoolsFun}
use Rattle.tdl_prepare.specs.Built.{bools_fun}
use Rattle.tdl_prepare.proofs.functions.of_bools.Goals as goal

pub returns-in-Struct : goal.returns-in-Struct
returns-in-Struct c = λ nodes h. record { of_rows = h; is = ap (λ (name : BoolsFun). bools_fun name (tree_at nodes c.args.bools)) (sym c.in-Struct.is) }

pub returns-in-Mask : goal.returns-in-Mask
returns-in-Mask c = λ nodes h. record { of_rows = h; is = ap (λ (name : BoolsFun). bools_fun name (tree_at nodes c.args.bools)) (sym c.in-Mask.is) }
