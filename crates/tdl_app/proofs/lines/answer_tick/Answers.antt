use Rattle.std.proofs.Common.{inl, inr, refl, subst}
use Rattle.tdl_app.specs.Script.{ReadsTime, tick}
use Rattle.tdl_app.specs.Plays.{unread}
use Rattle.tdl_app.specs.inside.OneLine.{AnswersOf}
use Rattle.tdl_app.proofs.LineAnswers.{replied_alone, may_play, tick_so_far}
use Rattle.tdl_app.proofs.lines.answer_tick.Goals as goal

pub answer_call-requires : goal.answer_call-requires
answer_call-requires g c = may_play c.args.core.now.history c.requires.going

pub returns-in_default-clause-replied : goal.returns-in_default-clause-replied
returns-in_default-clause-replied g c =
    replied_alone g.W.Wire.sent g.W.Wire.faults c.args.wires.now (AnswersOf c.args.core.now (tick c.args.text.now)) c.args.core.now _
    (unread (inl (c.in_default.ensures.none, c.fixed.ensures)) refl)

pub returns-in-Some-units_of-clause-replied : goal.returns-in-Some-units_of-clause-replied
returns-in-Some-units_of-clause-replied g c =
    tick_so_far c.args.core.now c.answer_call.new.core c.args.text.now c.in-Some-units_of.to c.answer_call.result _
    (subst (ReadsTime c.args.text.now) c.in-Some-units_of.ensures.some c.in-Some.ensures.some) c.answer_call.ensures.replied

pub returns-in-None-clause-replied : goal.returns-in-None-clause-replied
returns-in-None-clause-replied g c =
    replied_alone g.W.Wire.sent g.W.Wire.faults c.args.wires.now (AnswersOf c.args.core.now (tick c.args.text.now)) c.args.core.now _
    (unread (inr (
      record { time = c.in-Some.time; reads = c.in-Some.ensures.some; off_grid = c.in-None.ensures.off_grid c.in-Some.ensures.some.from_zero },
      c.fixed-in-None.ensures,
    )) refl)
