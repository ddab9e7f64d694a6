use Rattle.std.proofs.Common.{ℕ, ◌∙◌, ap, arith}
use Rattle.std.specs.Str.Parse.{digits_value}
use Rattle.tdl_log.specs.LineKinds.{is_part}
use Rattle.tdl_log.proofs.LineForms.{over_none, over_some}
use Rattle.tdl_log.proofs.forms.is_over.Goals as goal

pub returns-in-Some : goal.returns-in-Some
returns-in-Some c =
    c.is_part.ensures
    ∙ ap (λ (d : ℕ). is_part (digits_value 10 c.args.above.now) d) c.from.ensures
    ∙ over_some c.args.above.now c.args.below.now c.in-Some.divisor c.in-Some.ensures.some (omega arith)

pub returns-in-None : goal.returns-in-None
returns-in-None c = over_none c.args.above.now c.args.below.now c.in-None.ensures.none
