use Rattle.std.proofs.Common.{arith}
use Rattle.std.proofs.lemmas.Result.{on_err_weaker}
use Rattle.tdl_control.proofs.PrintLemmas.{on_err_always, adds_within, adds_after, print_of-parts}
use Rattle.tdl_control.proofs.maps.Map.print.Goals as goal

-- the first entry finds no memory
pub returns-in_err-print-in-len1-up-clause-err : goal.returns-in_err-print-in-len1-up-clause-err
returns-in_err-print-in-len1-up-clause-err c =
    let parts = print_of-parts c.as_slice.result.now c.first-item.result (omega arith) c.first-item.is in
    on_err_always c.from_residual.result
    (rw (← c.self.view_is, ← c.as_slice.ensures, parts) (adds_within _ _ c.args.out.now c.print.new.out c.in_err-print-in-len1-up.ensures.err))

-- the others find no memory
pub returns-in_ok-print-in-len1-up-clause-err : goal.returns-in_ok-print-in-len1-up-clause-err
returns-in_ok-print-in-len1-up-clause-err c =
    let parts = print_of-parts c.as_slice.result.now c.first-item.result (omega arith) c.first-item.is in
    rw (← c.self.view_is, ← c.as_slice.ensures, parts)
    (on_err_weaker c.print_others.result (adds_after _ _ c.args.out.now c.print.new.out c.print_others.new.out c.in_ok-print-in-len1-up.ensures.ok)
    c.print_others.ensures.err)
