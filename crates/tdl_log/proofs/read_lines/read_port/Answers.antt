use Rattle.std.proofs.Common.{arith}
use Rattle.tdl_log.proofs.ReadFronts.{if_none_always}
use Rattle.tdl_log.proofs.ReadPorts.{other_port, port_parts}
use Rattle.tdl_log.proofs.read_lines.read_port.Goals as goal

pub returns-in_err-number-2-clause-none : goal.returns-in_err-number-2-clause-none
returns-in_err-number-2-clause-none c =
    if_none_always c.from_residual-in_err-number-2.result
    (λ ending small e.
    c.in_err-number-2.ensures.none ending.port (omega arith)
    (port_parts c.args.line.now c.in_ok-after.field-0.now c.in_ok-number.number.now c.in_ok-number.word.now
    c.in_ok-after.ensures.some c.in_ok-number.ensures.some ending small e).0)

pub returns-then-number-gt255-clause-none : goal.returns-then-number-gt255-clause-none
returns-then-number-gt255-clause-none c = λ ending small e.
    other_port c.in_ok-number.number.now c.in_ok-number-2.number ending.port (omega arith) small c.if-number-gt255.true c.in_ok-number-2.ensures.some
    (port_parts c.args.line.now c.in_ok-after.field-0.now c.in_ok-number.number.now c.in_ok-number.word.now
    c.in_ok-after.ensures.some c.in_ok-number.ensures.some ending small e).0

pub returns-in_err-read_end-clause-none : goal.returns-in_err-read_end-clause-none
returns-in_err-read_end-clause-none c =
    if_none_always c.from_residual-in_err-read_end.result
    (λ ending small e.
    c.in_err-read_end.ensures.none ending.end
    (port_parts c.args.line.now c.in_ok-after.field-0.now c.in_ok-number.number.now c.in_ok-number.word.now
    c.in_ok-after.ensures.some c.in_ok-number.ensures.some ending small e).1)
