use Rattle.std.proofs.Common.{◌∙◌, arith}
use Rattle.tdl_meaning.specs.Ranges.{HasEnds}
use Rattle.tdl_meaning.specs.Pattern.{moved}
use Rattle.tdl_meaning.specs.Motions.{CanMove, time_at}
use Rattle.tdl_meaning.proofs.Moves.{none_moved, read_at}
use Rattle.tdl_meaning.proofs.motions.Motion.apply.Goals as goal

pub arc_at-there-requires-clause-start : goal.arc_at-there-requires-clause-start
arc_at-there-requires-clause-start c =
    let m = c.args.self.now in
    let from = c.args.from in
    let ends = read_at from from (omega arith) (HasEnds (CanMove m)) (moved (time_at m)) c.args.events.now _ _
    (none_moved (moved (time_at m)) from c.args.events.now) (omega (arith, c.if-from-len.true, c.len.ensures))
    (c.behind-events.view_is ∙ c.get.ensures _) c.requires.times in
    ends.whole_start

pub arc_at-there-requires-clause-stop : goal.arc_at-there-requires-clause-stop
arc_at-there-requires-clause-stop c =
    let m = c.args.self.now in
    let from = c.args.from in
    let ends = read_at from from (omega arith) (HasEnds (CanMove m)) (moved (time_at m)) c.args.events.now _ _
    (none_moved (moved (time_at m)) from c.args.events.now) (omega (arith, c.if-from-len.true, c.len.ensures))
    (c.behind-events.view_is ∙ c.get.ensures _) c.requires.times in
    ends.whole_stop
