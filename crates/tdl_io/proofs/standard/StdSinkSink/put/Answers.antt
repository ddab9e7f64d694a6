use Rattle.tdl_io.proofs.Written.{wrote_more}
use Rattle.tdl_io.proofs.standard.StdSinkSink.put.Goals as goal

pub loop-rest-preserved : goal.loop-rest-preserved
loop-rest-preserved g c = record {
  wrote = wrote_more _ _ _ _ c.loop-rest.rest.now c.in-Ok.count c.loop-rest.invariant.wrote c.in-Ok.ensures.does.1;
  no_fault = c.loop-rest.invariant.no_fault;
}
