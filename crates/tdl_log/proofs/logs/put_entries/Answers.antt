use Rattle.std.proofs.Common.{arith}
use Rattle.tdl_control.proofs.PrintLemmas.{on_err_always}
use Rattle.tdl_log.proofs.PutLines.{entries_more, entries_within}
use Rattle.tdl_log.proofs.logs.put_entries.Goals as goal

pub returns-in_err-put_entry-clause-err : goal.returns-in_err-put_entry-clause-err
returns-in_err-put_entry-clause-err g c =
    on_err_always c.from_residual.result
    (entries_within c.args.history.now.entries c.loop-i.i c.get.result.now (omega arith) (c.get.ensures.entry c.get.result.now)
    c.loop-i.invariant.written c.in_err-put_entry.ensures.err)

pub loop-i-preserved : goal.loop-i-preserved
loop-i-preserved g c = record {
  written = entries_more c.args.history.now.entries c.loop-i.i c.get.result.now (omega arith) (c.get.ensures.entry c.get.result.now)
      c.loop-i.invariant.written c.in_ok-put_entry.ensures.ok;
  kept = omega (arith, c.loop-i.invariant.kept, c.put_entry.ensures.cause.kept);
}
