use Rattle.std.proofs.Common.{arith, map}
use Rattle.std.proofs.Math.ListN.{length-map}
use Rattle.tdl_control.specs.KeyValue.{key_value_of}
use Rattle.tdl_control.proofs.PrintLemmas.{on_err_always, entry_at, stops_before, stops_within, goes_on}
use Rattle.tdl_control.proofs.maps.print_others.Goals as goal

-- the space finds no memory
pub returns-in_err-push-clause-err : goal.returns-in_err-push-clause-err
returns-in_err-push-clause-err c =
    on_err_always c.from_residual.result
    (stops_before (map key_value_of c.args.others.now) c.loop-entry.entry-index (key_value_of c.entry-item.result) (rw length-map (omega arith))
    (entry_at c.args.others.now c.loop-entry.entry-index _ c.entry-item.is) c.args.out.now c.loop-entry.out c.loop-entry.out c.loop-entry.invariant
    c.push.new.self c.in_err-push.ensures.err)

-- the entry finds no memory
pub returns-in_err-print-clause-err : goal.returns-in_err-print-clause-err
returns-in_err-print-clause-err c =
    on_err_always c.from_residual-in_err-print.result
    (stops_within (map key_value_of c.args.others.now) c.loop-entry.entry-index (key_value_of c.entry-item.result) (rw length-map (omega arith))
    (entry_at c.args.others.now c.loop-entry.entry-index _ c.entry-item.is) c.args.out.now c.loop-entry.out c.push.new.self c.loop-entry.invariant
    c.print.new.out c.in_ok-push.ensures.ok c.in_err-print.ensures.err)

-- the space and the entry are added
pub loop-entry-preserved : goal.loop-entry-preserved
loop-entry-preserved c =
    goes_on (map key_value_of c.args.others.now) c.loop-entry.entry-index (key_value_of c.entry-item.result) (rw length-map (omega arith))
    (entry_at c.args.others.now c.loop-entry.entry-index _ c.entry-item.is) c.args.out.now c.loop-entry.out c.push.new.self c.loop-entry.invariant
    c.print.new.out c.in_ok-push.ensures.ok c.in_ok-print.ensures.ok
