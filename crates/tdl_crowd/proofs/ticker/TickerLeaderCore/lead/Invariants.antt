use Rattle.tdl_score.specs.declared.histories.Entry.{Entry}
use Rattle.tdl_session.specs.Passes.{SamePass, mine}
use Rattle.tdl_core.specs.Replies.{MayPlay}
use Rattle.tdl_crowd.proofs.ticker.TickerLeaderCore.lead.Given as goal

abbrev pub invariant-loop-tick : goal.invariant-loop-tick
invariant-loop-tick g l = record {
  pass : SamePass l.fn.pass l.pass;
  may : MayPlay (mine (λ (e : Entry). e.who) l.pass) l.pass.number;
}
