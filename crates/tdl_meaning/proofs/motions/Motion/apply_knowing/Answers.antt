use Rattle.std.proofs.Common.{rules, ◌<◌, ◌∙◌, length, refl, ap, arith}
use Rattle.tdl_meaning.specs.Ranges.{HasEnds}
use Rattle.tdl_meaning.specs.Pattern.{moved}
use Rattle.tdl_meaning.specs.Motions.{CanMove, time_at}
use Rattle.tdl_meaning.proofs.Moves.{none_moved, all_moved, length-moved, read_at, moved_more, motion_inside}
use Rattle.tdl_meaning.proofs.motions.Motion.apply_knowing.Goals as goal

pub loop-i-init : goal.loop-i-init
loop-i-init c = record { events = none_moved (moved (time_at c.args.self.now)) c.args.from c.args.events.now; there = c.requires.there }

pub get-event-requires : goal.get-event-requires
get-event-requires c =
    let here = length-moved (moved (time_at c.args.self.now)) c.args.from c.loop-i.i c.args.events.now c.loop-i.auto.i in
    omega (arith, here, ap length c.loop-i.invariant.events)

pub arc_knowing-moved-requires-clause-start : goal.arc_knowing-moved-requires-clause-start
arc_knowing-moved-requires-clause-start c =
    let m = c.args.self.now in
    let within : c.loop-i.i < length c.args.events.now = search rules in
    let item = c.event.view_is ∙ c.get-event.ensures _ in
    let ends = read_at c.args.from c.loop-i.i c.loop-i.auto.i (HasEnds (CanMove m)) (moved (time_at m)) c.args.events.now _ _
    c.loop-i.invariant.events within item c.requires.times in
    ends.whole_start

pub arc_knowing-moved-requires-clause-stop : goal.arc_knowing-moved-requires-clause-stop
arc_knowing-moved-requires-clause-stop c =
    let m = c.args.self.now in
    let within : c.loop-i.i < length c.args.events.now = search rules in
    let item = c.event.view_is ∙ c.get-event.ensures _ in
    let ends = read_at c.args.from c.loop-i.i c.loop-i.auto.i (HasEnds (CanMove m)) (moved (time_at m)) c.args.events.now _ _
    c.loop-i.invariant.events within item c.requires.times in
    ends.whole_stop

pub arc_knowing-part-requires-clause-start : goal.arc_knowing-part-requires-clause-start
arc_knowing-part-requires-clause-start c =
    let m = c.args.self.now in
    let within : c.loop-i.i < length c.args.events.now = search rules in
    let item = c.event.view_is ∙ c.get-event.ensures _ in
    let ends = read_at c.args.from c.loop-i.i c.loop-i.auto.i (HasEnds (CanMove m)) (moved (time_at m)) c.args.events.now _ _
    c.loop-i.invariant.events within item c.requires.times in
    ends.part_start

pub arc_knowing-part-requires-clause-stop : goal.arc_knowing-part-requires-clause-stop
arc_knowing-part-requires-clause-stop c =
    let m = c.args.self.now in
    let within : c.loop-i.i < length c.args.events.now = search rules in
    let item = c.event.view_is ∙ c.get-event.ensures _ in
    let ends = read_at c.args.from c.loop-i.i c.loop-i.auto.i (HasEnds (CanMove m)) (moved (time_at m)) c.args.events.now _ _
    c.loop-i.invariant.events within item c.requires.times in
    ends.part_stop

pub retime-requires-clause-inside : goal.retime-requires-clause-inside
retime-requires-clause-inside c =
    rw (c.arc_knowing-moved.ensures, c.arc_knowing-part.ensures)
    (motion_inside c.args.self.now c.requires.forward c.event.inside.part c.event.inside.whole c.event.invariant)

pub loop-i-preserved : goal.loop-i-preserved
loop-i-preserved c =
    let m = c.args.self.now in
    let within : c.loop-i.i < length c.args.events.now = search rules in
    let item = c.event.view_is ∙ c.get-event.ensures _ in
    record {
      events = moved_more c.args.from c.loop-i.i c.loop-i.auto.i (moved (time_at m)) c.args.events.now c.loop-i.events c.retime.new.self _ _ _
          c.loop-i.invariant.events within item (c.retime.ensures _) c.arc_knowing-moved.ensures c.arc_knowing-part.ensures refl;
      there = c.arc_knowing-moved.ensures;
    }

pub returns : goal.returns
returns c = all_moved (moved (time_at c.args.self.now)) c.args.from c.loop-i.i c.args.events.now _ c.loop-i.invariant.events (omega arith)
