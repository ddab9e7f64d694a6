use Rattle.std.proofs.Common.{◌∙◌, ap₂}
use Rattle.tdl_fraction.specs.Rational.{min_ℚ, max_ℚ}
use Rattle.tdl_fraction.specs.Arc.{arc_between, meet}
use Rattle.tdl_fraction.proofs.arc.TimeArc.meet.Goals as goal

pub returns : goal.returns
unfolding meet
returns c =
    let start = c.max-start.ensures.value ∙ ap₂ max_ℚ c.start.ensures.value c.start-2.ensures.value in
    let stop = c.min-stop.ensures.value ∙ ap₂ min_ℚ c.stop.ensures.value c.stop-2.ensures.value in
    c.of.ensures.value ∙ ap₂ arc_between start stop
