use Rattle.std.proofs.Common.{◌++◌, codes}
use Rattle.std.proofs.lemmas.Result.{on_err_weaker}
use Rattle.tdl_control.specs.Map.{print_of as map_text}
use Rattle.tdl_control.proofs.PrintLemmas.{on_err_always, adds_within, adds_after}
use Rattle.tdl_event.specs.Event.{arcs_text}
use Rattle.tdl_event.proofs.Lines.{added_both, adds_first}
use Rattle.tdl_event.proofs.printing.print_line.Goals as goal

pub returns-in_err-print_arcs-clause-err : goal.returns-in_err-print_arcs-clause-err
returns-in_err-print_arcs-clause-err c =
    on_err_always _ (adds_within _ _ _ _ (adds_within _ _ _ _ (adds_within _ _ _ _ c.in_err-print_arcs.ensures.err)))

pub returns-in_err-push-clause-err : goal.returns-in_err-push-clause-err
returns-in_err-push-clause-err c =
    let arcs = arcs_text c.args.event.now in
    let controls = map_text c.args.controls.now in
    let old = c.args.out.now in
    let new = c.push.new.self in
    let stopped = adds_first arcs (codes " ") old _ new c.in_ok-print_arcs.ensures.ok c.in_err-push.ensures.err in
    on_err_always _ (adds_within (arcs ++ codes " " ++ controls) (codes "\n") old new (adds_within (arcs ++ codes " ") controls old new stopped))

pub returns-in_err-print-clause-err : goal.returns-in_err-print-clause-err
returns-in_err-print-clause-err c =
    on_err_always _
    (adds_within _ _ _ _ (adds_after _ _ _ _ _ (added_both _ _ _ _ _ c.in_ok-print_arcs.ensures.ok c.in_ok-push.ensures.ok) c.in_err-print.ensures.err))

pub returns-clause-err : goal.returns-clause-err
returns-clause-err c =
    let arcs = arcs_text c.args.event.now in
    let controls = map_text c.args.controls.now in
    let old = c.args.out.now in
    let spaced = added_both arcs (codes " ") old _ _ c.in_ok-print_arcs.ensures.ok c.in_ok-push.ensures.ok in
    let written = added_both (arcs ++ codes " ") controls old _ c.print.new.out spaced c.in_ok-print.ensures.ok in
    on_err_weaker c.push-2.result (adds_first (arcs ++ codes " " ++ controls) (codes "\n") old c.print.new.out c.push-2.new.self written) c.push-2.ensures.err
