use Rattle.std.proofs.Common.{Ok, refl, sym, subst}
use Rattle.std.specs.Fmt.{digits}
use Rattle.tdl_app.specs.Script.{performers, tick, finish, other, too_long}
use Rattle.tdl_app.specs.inside.OneLine.{AnswersOf}
use Rattle.tdl_app.proofs.LineAnswers.{class_so_far, finish_so_far, replied_alone, may_play}
use Rattle.tdl_app.proofs.ScriptReadings.{HasPerformer, line_performer}
use Rattle.tdl_app.proofs.lines.answer_line.Goals as goal

pub answer_performer-requires : goal.answer_performer-requires
answer_performer-requires g c = subst HasPerformer (sym c.in-Performer.ensures) (line_performer c.args.line.now)

pub returns-in-Performer-clause-replied : goal.returns-in-Performer-clause-replied
returns-in-Performer-clause-replied g c =
    class_so_far c.args.core.now c.answer_performer.new.core c.args.line.now (performers c.in-Performer.who c.in-Performer.text.now)
    c.answer_performer.result _ c.in-Performer.ensures c.answer_performer.ensures.replied

pub returns-in-Tick-clause-replied : goal.returns-in-Tick-clause-replied
returns-in-Tick-clause-replied g c =
    class_so_far c.args.core.now c.answer_tick.new.core c.args.line.now (tick c.in-Tick.text.now) c.answer_tick.result _ c.in-Tick.ensures
    c.answer_tick.ensures.replied

pub returns-in-Finish-clause-replied : goal.returns-in-Finish-clause-replied
returns-in-Finish-clause-replied g c =
    class_so_far c.args.core.now c.answer_call.new.core c.args.line.now finish c.answer_call.result _ c.in-Finish.ensures
    (finish_so_far c.args.core.now c.answer_call.new.core c.answer_call.result _ c.answer_call.ensures.replied)

pub answer_call-requires : goal.answer_call-requires
answer_call-requires g c = may_play c.args.core.now.history c.requires.going

pub returns-in-Other-clause-replied : goal.returns-in-Other-clause-replied
returns-in-Other-clause-replied g c =
    class_so_far c.args.core.now c.args.core.now c.args.line.now other (Ok c.fixed.result) _ c.in-Other.ensures
    (replied_alone g.W.Wire.sent g.W.Wire.faults c.args.wires.now (AnswersOf c.args.core.now other) c.args.core.now _
    (refl, c.fixed.ensures))

pub returns-in-TooLong-clause-replied : goal.returns-in-TooLong-clause-replied
unfolding digits
returns-in-TooLong-clause-replied g c =
    class_so_far c.args.core.now c.args.core.now c.args.line.now too_long (Ok c.fixed-in-TooLong.result) _ c.in-TooLong.ensures
    (replied_alone g.W.Wire.sent g.W.Wire.faults c.args.wires.now (AnswersOf c.args.core.now too_long) c.args.core.now _
    (refl, c.fixed-in-TooLong.ensures))
