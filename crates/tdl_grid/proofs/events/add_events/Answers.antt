use Rattle.std.proofs.Common.{◌≡◌, ◌++◌, ◌∷◌, [], List, sym, ap, ap₂, ◌∙◌, subst, append_assoc}
use Rattle.std.proofs.lemmas.List.{map-append}
use Rattle.std.proofs.IntoIterSteps.{All-taken}
use Rattle.tdl_grid.specs.Item.{Item, event_of}
use Rattle.tdl_grid.specs.ItemLaws.{events_of}
use Rattle.tdl_grid.specs.Times.{HasTimes}
use Rattle.tdl_grid.proofs.Gained.{each_taken}
use Rattle.tdl_grid.proofs.events.add_events.Goals as goal

pub event-requires : goal.event-requires
event-requires c =
    let it = c.into_iter-item-iterator in
    let has = each_taken (HasTimes c.args.unit) c.args.items c.loop-item.yielded c.in-Some.item it.result c.loop-item.item-iterator c.next.new.self
    (it.ensures.into_iter_gives.0 ∙ c.into_vec-item-items.ensures) c.loop-item.yielded_by c.in-Some.ensures.steps.0 c.requires.in_range in
    rw c.loop-item.invariant.unit has

pub loop-item-preserved : goal.loop-item-preserved
loop-item-preserved c =
    let u = c.args.unit in
    let so_far = c.loop-item.invariant in
    let event : c.in_ok-event.field-0 ≡ event_of u c.in-Some.item = c.in_ok-event.ensures.value ∙ ap (λ k. event_of k c.in-Some.item) so_far.unit in
    record {
      out = c.in_ok-push.ensures.ok ∙ ap₂ (λ es e. es ++ e ∷ []) so_far.out event ∙ append_assoc c.args.out.now (events_of u c.loop-item.yielded) _
          ∙ ap (λ es. c.args.out.now ++ es) (sym (map-append (event_of u) c.loop-item.yielded (c.in-Some.item ∷ [])));
      unit = c.event.ensures.unit ∙ so_far.unit;
    }

pub returns : goal.returns
returns c =
    let it = c.into_iter-item-iterator in
    let loop = c.loop-item in
    let all : loop.yielded ≡ c.args.items =
    All-taken it.result loop.yielded (c.next.new.self, (loop.item-iterator, loop.yielded_by, c.in-None.ensures.steps)) ∙ it.ensures.into_iter_gives.0
    ∙ c.into_vec-item-items.ensures in
    subst (λ (l : List Item). loop.out ≡ c.args.out.now ++ events_of c.args.unit l) all loop.invariant.out
