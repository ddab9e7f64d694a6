use Rattle.std.proofs.Common.{◌++◌, codes}
use Rattle.std.proofs.lemmas.Result.{on_err_weaker}
use Rattle.tdl_control.proofs.PrintLemmas.{on_err_always, adds_within, adds_after, adds_nothing}
use Rattle.tdl_event.proofs.Lines.{added_both, adds_first}
use Rattle.tdl_fraction.specs.Digits.{digits_bytes}
use Rattle.tdl_event.proofs.printing.add_ends.Goals as goal

pub returns-in_err-push-clause-err : goal.returns-in_err-push-clause-err
returns-in_err-push-clause-err c =
    let start = digits_bytes c.args.start.now in
    let added = rw c.bytes.ensures.value at c.in_ok-add.ensures.ok in
    let stopped = adds_first start (codes " ") c.args.out.now c.add.new.self c.push.new.self added c.in_err-push.ensures.err in
    on_err_always _ (adds_within (start ++ codes " ") (digits_bytes c.args.stop.now) c.args.out.now c.push.new.self stopped)
