use Rattle.std.proofs.Common.{arith}
use Rattle.tdl_control.proofs.PrintLemmas.{on_err_always}
use Rattle.tdl_log.proofs.PutLines.{is_ending, ports_more, ports_within}
use Rattle.tdl_log.proofs.logs.put_ports.Goals as goal

pub returns-in_err-put_port-clause-err : goal.returns-in_err-put_port-clause-err
returns-in_err-put_port-clause-err g c =
    on_err_always c.from_residual.result
    (ports_within c.args.ends.now c.loop-i.i _ (omega arith) (is_ending c.args.ends.now c.loop-i.i c.get-port.result.0 c.get-port.result.1 c.get-port.ensures)
    c.loop-i.invariant.written c.in_err-put_port.ensures.err)

pub loop-i-preserved : goal.loop-i-preserved
loop-i-preserved g c = record {
  written = ports_more c.args.ends.now c.loop-i.i _ (omega arith)
      (is_ending c.args.ends.now c.loop-i.i c.get-port.result.0 c.get-port.result.1 c.get-port.ensures)
      c.loop-i.invariant.written c.in_ok-put_port.ensures.ok;
  kept = omega (arith, c.loop-i.invariant.kept, c.put_port.ensures.cause.kept);
}
