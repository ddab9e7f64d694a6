use Rattle.tdl_osc.proofs.Messages.{length-message_of}
use Rattle.tdl_osc.proofs.bundles.message_size.Goals as goal

pub returns-clause-value : goal.returns-clause-value
returns-clause-value c =
    λ tempo. rw c.controls_size-controls.ensures.value
    (length-message_of c.args.row.now tempo c.string_size.result (rw (← c.len.ensures) c.string_size.ensures.value))
