use Rattle.std.proofs.Common.{inl, inr, sym, subst, arith}
use Rattle.std.proofs.lemmas.Bool.{cases_eq}
use Rattle.std.proofs.lemmas.Result.{on_err_weaker}
use Rattle.tdl_control.proofs.PrintLemmas.{on_err_always}
use Rattle.tdl_io.specs.Standard.{writer_of, WroteFront}
use Rattle.tdl_io.proofs.Written.{wrote_nothing}
use Rattle.tdl_io.proofs.choice.AnyWireWire.send.Goals as goal

pub returns-in-Udp-clause-err : goal.returns-in-Udp-clause-err
returns-in-Udp-clause-err g c = on_err_always c.send.result (rw c.in-Udp.is (wrote_nothing _ c.args.packet.now))

pub returns-in-Plain-clause-err : goal.returns-in-Plain-clause-err
returns-in-Plain-clause-err g c =
    let before = g.W.Write.contents (writer_of c.in-Plain.wire.sink) in
    rw c.in-Plain.is
    (elim (cases_eq c.in-Plain.wire.faults 0) [
      | inl none ↦ on_err_weaker c.send-in-Plain.result (λ wrote. wrote.0) (c.send-in-Plain.ensures.broke (λ failed. omega (arith, none, failed)))
      | inr some ↦ on_err_always c.send-in-Plain.result
          (subst (λ sink. WroteFront before (g.W.Write.contents (writer_of sink)) c.args.packet.now)
          (sym (c.send-in-Plain.ensures.later (omega (arith, some))).1)
          (wrote_nothing before c.args.packet.now))
    ])
