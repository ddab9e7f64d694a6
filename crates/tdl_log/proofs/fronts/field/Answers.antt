use Rattle.std.proofs.Common.{◌∷◌}
use Rattle.tdl_log.proofs.ReadFronts.{behind_front, if_none_weaker}
use Rattle.tdl_log.proofs.fronts.field.Goals as goal

pub returns-clause-none : goal.returns-clause-none
returns-clause-none c =
    if_none_weaker c.after-2.result
    (λ none left e. none left (behind_front c.args.front.now c.args.text.now c.in_ok-after.field-0.now (32 ∷ left) c.in_ok-after.ensures.some e))
    c.after-2.ensures.none
