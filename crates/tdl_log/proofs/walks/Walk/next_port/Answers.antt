use Rattle.std.proofs.Common.{arith}
use Rattle.tdl_control.proofs.NumberLemmas.{if_none_always}
use Rattle.tdl_log.proofs.NextLines.{rising_least}
use Rattle.tdl_log.proofs.WalkSteps.{no_port, port_stands}
use Rattle.tdl_log.proofs.walks.Walk.next_port.Goals as goal
use Rattle.tdl_log.proofs.walks.Walk.next_port.Goals.{else-len-lt-MOST_ENDS-via-then-len-lt-MOST_ENDS+else-self-from}
use Rattle.tdl_log.proofs.walks.Walk.next_port.Goals.{else-len-lt-MOST_ENDS-via-else-len-lt-MOST_ENDS}

pub returns-in_err-ending-clause-none : goal.returns-in_err-ending-clause-none
returns-in_err-ending-clause-none c =
    if_none_always c.from_residual.result
    (λ ending rising few same. c.in_err-ending.ensures.none ending (rising_least c.args.self.now.sheet.ends ending rising).1 same)

pub returns-then-self-from-clause-some : goal.returns-then-self-from-clause-some
returns-then-self-from-clause-some c = (
  port_stands c.args.self.now.sheet.ends c.args.self.now.least_port c.in_ok-ending.ending c.requires.least c.requires.rising
      (omega arith) c.in_ok-ending.ensures.byte,
  omega arith,
  c.in_ok-ending.ensures.some,
)

pub returns-else-len-lt-MOST_ENDS-clause-none : goal.returns-else-len-lt-MOST_ENDS-clause-none
returns-else-len-lt-MOST_ENDS-clause-none c =
    no_port c.args.self.now.sheet.ends c.in_ok-ending.ending c.args.line.now c.in_ok-ending.ensures.some c.in_ok-ending.ensures.byte
    (λ rising few.
    let least = rising_least c.args.self.now.sheet.ends c.in_ok-ending.ending rising in
    elim c.else-len-lt-MOST_ENDS.branch [
      | else-len-lt-MOST_ENDS-via-then-len-lt-MOST_ENDS+else-self-from w ↦ omega (arith, least.0, c.requires.least)
      | else-len-lt-MOST_ENDS-via-else-len-lt-MOST_ENDS w ↦ omega (arith, c.len.ensures.value)
    ])
