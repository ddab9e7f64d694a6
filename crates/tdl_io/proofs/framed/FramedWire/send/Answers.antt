use Rattle.std.proofs.Common.{◌≡◌, arith}
use Rattle.std.proofs.lemmas.Result.{on_err_weaker}
use Rattle.tdl_control.proofs.PrintLemmas.{on_err_always}
use Rattle.tdl_io.proofs.SentFrames.{unless_err, not_err, count_kept, no_fault, frame_gained, cut_in_size, cut_in_packet, frames_go_on, packet_told}
use Rattle.tdl_io.proofs.framed.FramedWire.send.Goals as goal

pub returns-in_err-send-clause-err : goal.returns-in_err-send-clause-err
returns-in_err-send-clause-err g c =
    on_err_always c.from_residual.result (cut_in_size c.args.packet.now c.in-Some.ensures.1 c.in_err-send.ensures.err)

pub invariant_of-self-2 : goal.invariant_of-self-2
invariant_of-self-2 g c = record {
  goes_on = λ still are.
      let gained = frame_gained c.in-Some.ensures.1 c.in_ok-send.ensures.ok
      (not_err c.send-2.result c.send-2.ensures.ok (λ failed. omega (arith, still, c.send-2.ensures.closed.0 failed))) in
      let kept = count_kept c.send-2.result c.send-2.ensures.counts (λ failed. omega (arith, still, c.send-2.ensures.closed.0 failed)) in
      let none : c.args.self.now.wire.faults ≡ 0 = omega (arith, still, kept, c.in_ok-send.ensures.counts) in
      frames_go_on c.args.packet.now c.in-Some.ensures.0 gained (c.args.self.now.goes_on none are);
}

pub returns-clause-sent : goal.returns-clause-sent
returns-clause-sent g c =
    unless_err c.send-2.result
    (λ ok.
    let gained = frame_gained c.in-Some.ensures.1 c.in_ok-send.ensures.ok (not_err c.send-2.result c.send-2.ensures.ok ok) in
    let still = no_fault c.send-2.result c.send-2.new.self.faults c.send-2.ensures.closed ok in
    let kept = count_kept c.send-2.result c.send-2.ensures.counts ok in
    let none : c.args.self.now.wire.faults ≡ 0 = omega (arith, still, kept, c.in_ok-send.ensures.counts) in
    packet_told (g.K.Sink.held c.args.self.now.begun.value) _ _ c.args.packet.now c.in-Some.ensures.0 none still (c.args.self.now.goes_on none) gained)

pub returns-clause-err : goal.returns-clause-err
returns-clause-err g c =
    on_err_weaker c.send-2.result (λ cut. cut_in_packet c.in-Some.ensures.1 c.in_ok-send.ensures.ok cut) c.send-2.ensures.err
