use Rattle.std.proofs.Common.{rules, ◌<◌, length, refl, sym, arith}
use Rattle.std.proofs.lemmas.List.Folds.{flat_map-map}
use Rattle.tdl_event.specs.Event.{Event}
use Rattle.tdl_meaning.specs.Values.{value_of}
use Rattle.tdl_meaning.specs.Pairs.{made_with}
use Rattle.tdl_grid.specs.Item.{Item, event_of}
use Rattle.tdl_grid.proofs.Gained.{adds_none, adds_as, adds_next, adds_all}
use Rattle.tdl_grid.proofs.joins.add_with_each.Goals as goal

pub loop-i-init : goal.loop-i-init
loop-i-init c = λ u h. adds_none u c.args.out.now _ refl

pub loop-i-preserved : goal.loop-i-preserved
loop-i-preserved c =
    let within : c.loop-i.i < length c.args.others.now = search rules in
    λ u h.
    adds_next u (λ (o : Item). made_with c.args.side (value_of c.args.op) (event_of u c.args.first.now) (event_of u o)) c.args.others.now c.loop-i.i
    c.get.result.now _ _ _ within (c.get.ensures _) (c.loop-i.invariant u h) (c.in_ok-add_made.ensures u h)

pub returns : goal.returns
returns c =
    λ u h.
    let makes = λ (o : Event). made_with c.args.side (value_of c.args.op) (event_of u c.args.first.now) o in
    adds_as u _ _ _ _ (sym (flat_map-map makes (event_of u) c.args.others.now))
    (adds_all u (λ (o : Item). makes (event_of u o)) c.args.others.now c.loop-i.i _ _ (omega arith) (c.loop-i.invariant u h))
