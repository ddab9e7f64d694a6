use Rattle.std.proofs.Common.{refl, arith}
use Rattle.tdl_io.proofs.Counts.{rose_after}
use Rattle.tdl_answer.specs.Account.{account}
use Rattle.tdl_answer.proofs.SentPackets.{more_sent, sent_until, on_err}
use Rattle.tdl_answer.proofs.sends.send_all.Goals as goal

pub returns-in_err-send-clause-err : goal.returns-in_err-send-clause-err
returns-in_err-send-clause-err g c =
    on_err c.from_residual.result
    (sent_until c.args.packets.now c.loop-i.i (g.W.Wire.sent c.loop-i.wire) (account g.W.Wire.sent g.W.Wire.faults c.args.wire.now c.send.new.self)
    c.loop-i.invariant.gained c.in_err-send.ensures.err
    (rose_after c.loop-i.invariant.kept (c.in_err-send.ensures.cause.failed refl)))

pub returns-in_err-send-clause-cause : goal.returns-in_err-send-clause-cause
returns-in_err-send-clause-cause g c = record {
  kept = omega (arith, c.loop-i.invariant.kept, c.send.ensures.cause.kept);
  failed = λ e. rose_after c.loop-i.invariant.kept (c.in_err-send.ensures.cause.failed refl);
}

pub loop-i-preserved : goal.loop-i-preserved
loop-i-preserved g c = record {
  gained = more_sent c.args.packets.now c.loop-i.i c.get.result.now c.bytes.result.now (omega arith) (c.get.ensures c.get.result.now) c.bytes.ensures
      c.loop-i.invariant.gained c.in_ok-send.ensures.ok;
  kept = omega (arith, c.loop-i.invariant.kept, c.send.ensures.cause.kept);
}
