use Rattle.std.proofs.Common.{Ok, subst}
use Rattle.tdl_expr.specs.Rows.{IsTable}
use Rattle.tdl_mini_tree.specs.declared.leaves.Kind.{Kind}
use Rattle.tdl_mini_tree.specs.Syntax.{syntax_of}
use Rattle.tdl_mini_rows.specs.Lowered.{lowered}
use Rattle.tdl_prepare.specs.Prepared.{PreparesTo}
use Rattle.tdl_prepare.proofs.Preparing.{push_refused, compile_refused, prepared_ok, err_is}
use Rattle.tdl_prepare.proofs.programs.mini_program.Goals as goal

pub returns-in_err-root : goal.returns-in_err-root
returns-in_err-root c =
    let tree = c.args.tree.now in
    subst (λ (kind : Kind). PreparesTo (lowered kind (syntax_of tree)) c.from_residual.result) c.requires
    (push_refused (lowered tree.kind (syntax_of tree)) _ c.from_residual.result c.new-table.ensures c.in_err-root.ensures
    (err_is c.from_residual.result _ c.from_residual.ensures.1))

pub returns-in_err-program : goal.returns-in_err-program
returns-in_err-program c =
    let tree = c.args.tree.now in
    subst (λ (kind : Kind). PreparesTo (lowered kind (syntax_of tree)) c.from_residual-in_err-program.result) c.requires
    (compile_refused (lowered tree.kind (syntax_of tree)) _ c.from_residual-in_err-program.result c.new-table.ensures c.in_ok-root.ensures
    c.in_err-program.ensures.only (err_is c.from_residual-in_err-program.result _ c.from_residual-in_err-program.ensures.1))

pub returns : goal.returns
returns c =
    let tree = c.args.tree.now in
    subst (λ (kind : Kind). PreparesTo (lowered kind (syntax_of tree)) (Ok c.in_ok-program.program)) c.requires
    (prepared_ok (lowered tree.kind (syntax_of tree)) c.in_ok-program.program c.compile.result c.new-table.ensures c.in_ok-root.ensures c.in_ok-program.was
    c.in_ok-program.ensures.ok (c.validity_law.ensures c.in_ok-program.program.nodes c.in_ok-program.program.root
    (subst IsTable c.table-2.ensures c.table_law.ensures)) c.in_ok-program.ensures.limits c.compile.ensures.refused)
