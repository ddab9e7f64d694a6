use Rattle.std.proofs.Common.{rules, ◌<◌, [], length, refl, arith}
use Rattle.std.specs.List.{flat_map}
use Rattle.tdl_event.specs.Event.{Event}
use Rattle.tdl_meaning.specs.Values.{value_of}
use Rattle.tdl_meaning.specs.Pairs.{made_with}
use Rattle.tdl_meaning.proofs.Added.{nothing_added, next_added, all_added}
use Rattle.tdl_meaning.proofs.joins.add_pairs.Goals as goal

pub loop-i-init : goal.loop-i-init
loop-i-init c = nothing_added c.args.out.now [] refl

pub loop-i-preserved : goal.loop-i-preserved
loop-i-preserved c =
    let makes = λ (e : Event). flat_map (λ (o : Event). made_with c.args.side (value_of c.args.op) e o) c.args.others.now in
    let within : c.loop-i.i < length c.args.firsts.now = search rules in
    next_added makes c.args.firsts.now c.loop-i.i _ _ c.loop-i.invariant c.get.result.now _ within (c.get.ensures _) c.in_ok-add_with_each.ensures

pub returns : goal.returns
returns c =
    let makes = λ (e : Event). flat_map (λ (o : Event). made_with c.args.side (value_of c.args.op) e o) c.args.others.now in
    all_added makes c.args.firsts.now c.loop-i.i _ _ c.loop-i.invariant (omega arith)
