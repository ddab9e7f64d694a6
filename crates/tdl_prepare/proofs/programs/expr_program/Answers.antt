use Rattle.std.proofs.Common.{subst}
use Rattle.tdl_expr.specs.Rows.{IsTable}
use Rattle.tdl_prepare.specs.Built.{built}
use Rattle.tdl_command.specs.View.{expr_of}
use Rattle.tdl_prepare.proofs.Preparing.{push_refused, compile_refused, prepared_ok, err_is}
use Rattle.tdl_prepare.proofs.programs.expr_program.Goals as goal

pub returns-in_err-root : goal.returns-in_err-root
returns-in_err-root c =
    push_refused (built (expr_of c.args.expr.now)) _ c.from_residual-in_err-root.result c.in_ok-table.ensures c.in_err-root.ensures
    (err_is c.from_residual-in_err-root.result _ c.from_residual-in_err-root.ensures.1)

pub returns-in_err-program : goal.returns-in_err-program
returns-in_err-program c =
    compile_refused (built (expr_of c.args.expr.now)) _ c.from_residual-in_err-program.result c.in_ok-table.ensures c.in_ok-root.ensures
    c.in_err-program.ensures.only (err_is c.from_residual-in_err-program.result _ c.from_residual-in_err-program.ensures.1)

pub returns : goal.returns
returns c =
    prepared_ok (built (expr_of c.args.expr.now)) c.in_ok-program.program c.compile.result c.in_ok-table.ensures c.in_ok-root.ensures c.in_ok-program.was
    c.in_ok-program.ensures.ok (c.validity_law.ensures c.in_ok-program.program.nodes c.in_ok-program.program.root
    (subst IsTable c.table-2.ensures c.table_law.ensures)) c.in_ok-program.ensures.limits c.compile.ensures.refused
