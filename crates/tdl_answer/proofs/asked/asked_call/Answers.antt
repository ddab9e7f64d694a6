use Rattle.std.proofs.Common.{subst}
use Rattle.tdl_answer.specs.inside.PreparedTexts.{IsPreparedText}
use Rattle.tdl_answer.specs.TextFaults.{IsFaultOfText}
use Rattle.tdl_answer.proofs.AskedCalls.{may_swap}
use Rattle.tdl_answer.proofs.asked.asked_call.Goals as goal

pub returns-in-Ok-Nothing-clause-err : goal.returns-in-Ok-Nothing-clause-err
returns-in-Ok-Nothing-clause-err c = subst (IsPreparedText c.args.text.now) c.in-Ok-Nothing.field-0-is c.in-Ok-Nothing.ensures.ok

pub returns-in-Ok-Look-clause-ok : goal.returns-in-Ok-Look-clause-ok
returns-in-Ok-Look-clause-ok c =
    (subst (IsPreparedText c.args.text.now) c.in-Ok-Look.field-0-is c.in-Ok-Look.ensures.ok, λ who own named. named)

pub returns-in-Ok-Swap-clause-ok : goal.returns-in-Ok-Swap-clause-ok
returns-in-Ok-Swap-clause-ok c =
    let says = subst (IsPreparedText c.args.text.now) c.in-Ok-Swap.field-0-is c.in-Ok-Swap.ensures.ok in (
      says,
      λ who own named. may_swap c.prepared_lines_are_read.ensures.swaps own who c.args.text.now c.in-Ok-Swap.text c.in-Ok-Swap.every
          c.in-Ok-Swap.change named says,
    )

pub returns-in-Err-Refused-clause-err : goal.returns-in-Err-Refused-clause-err
returns-in-Err-Refused-clause-err c = subst (IsFaultOfText c.args.text.now) c.in-Err-Refused.field-0-is c.in-Err-Refused.ensures.err
