use Rattle.std.proofs.Common.{rules, ◌<◌, ◌∙◌, length, refl, ap, arith}
use Rattle.tdl_meaning.specs.Ranges.{HasEnds}
use Rattle.tdl_meaning.specs.Pattern.{turned_event}
use Rattle.tdl_meaning.specs.Turns.{CanTurn}
use Rattle.tdl_meaning.proofs.Moves.{none_moved, all_moved, length-moved, read_at, moved_more, turn_inside}
use Rattle.tdl_meaning.proofs.turns.turn.Goals as goal

pub loop-i-init : goal.loop-i-init
loop-i-init c = none_moved (turned_event c.args.cycle) c.args.from c.args.events.now

pub get-event-requires : goal.get-event-requires
get-event-requires c =
    let here = length-moved (turned_event c.args.cycle) c.args.from c.loop-i.i c.args.events.now c.loop-i.auto.i in
    omega (arith, here, ap length c.loop-i.invariant)

pub turned-whole-requires-clause-start : goal.turned-whole-requires-clause-start
turned-whole-requires-clause-start c =
    let within : c.loop-i.i < length c.args.events.now = search rules in
    let item = c.event.view_is ∙ c.get-event.ensures _ in
    let ends = read_at c.args.from c.loop-i.i c.loop-i.auto.i (HasEnds (CanTurn c.args.cycle)) (turned_event c.args.cycle) c.args.events.now _ _
    c.loop-i.invariant within item c.requires.times in
    ends.whole_start

pub turned-whole-requires-clause-stop : goal.turned-whole-requires-clause-stop
turned-whole-requires-clause-stop c =
    let within : c.loop-i.i < length c.args.events.now = search rules in
    let item = c.event.view_is ∙ c.get-event.ensures _ in
    let ends = read_at c.args.from c.loop-i.i c.loop-i.auto.i (HasEnds (CanTurn c.args.cycle)) (turned_event c.args.cycle) c.args.events.now _ _
    c.loop-i.invariant within item c.requires.times in
    ends.whole_stop

pub turned-part-requires-clause-start : goal.turned-part-requires-clause-start
turned-part-requires-clause-start c =
    let within : c.loop-i.i < length c.args.events.now = search rules in
    let item = c.event.view_is ∙ c.get-event.ensures _ in
    let ends = read_at c.args.from c.loop-i.i c.loop-i.auto.i (HasEnds (CanTurn c.args.cycle)) (turned_event c.args.cycle) c.args.events.now _ _
    c.loop-i.invariant within item c.requires.times in
    ends.part_start

pub turned-part-requires-clause-stop : goal.turned-part-requires-clause-stop
turned-part-requires-clause-stop c =
    let within : c.loop-i.i < length c.args.events.now = search rules in
    let item = c.event.view_is ∙ c.get-event.ensures _ in
    let ends = read_at c.args.from c.loop-i.i c.loop-i.auto.i (HasEnds (CanTurn c.args.cycle)) (turned_event c.args.cycle) c.args.events.now _ _
    c.loop-i.invariant within item c.requires.times in
    ends.part_stop

pub retime-requires-clause-inside : goal.retime-requires-clause-inside
retime-requires-clause-inside c =
    rw (c.turned-whole.ensures, c.turned-part.ensures) (turn_inside c.args.cycle c.event.inside.part c.event.inside.whole c.event.invariant)

pub loop-i-preserved : goal.loop-i-preserved
loop-i-preserved c =
    let within : c.loop-i.i < length c.args.events.now = search rules in
    let item = c.event.view_is ∙ c.get-event.ensures _ in
    moved_more c.args.from c.loop-i.i c.loop-i.auto.i (turned_event c.args.cycle) c.args.events.now c.loop-i.events c.retime.new.self _ _ _
    c.loop-i.invariant within item (c.retime.ensures _) c.turned-whole.ensures c.turned-part.ensures refl

pub returns : goal.returns
returns c = all_moved (turned_event c.args.cycle) c.args.from c.loop-i.i c.args.events.now _ c.loop-i.invariant (omega arith)
