use Rattle.std.proofs.Common.{◌≡◌, List, refl, sym, subst, ◌∙◌}
use Rattle.std.specs.List.{flat_map}
use Rattle.std.proofs.lemmas.List.Folds.{flat_map-map}
use Rattle.std.proofs.IntoIterSteps.{All-taken}
use Rattle.tdl_meaning.specs.Kinds.{fragments}
use Rattle.tdl_grid.specs.Item.{Item, HasWholePieces, event_of, Adds}
use Rattle.tdl_grid.specs.ItemLaws.{events_of}
use Rattle.tdl_grid.proofs.Gained.{adds_none, adds_as, adds_yielded, each_taken}
use Rattle.tdl_grid.proofs.plies.add_plied.Goals as goal

pub loop-item-init : goal.loop-item-init
loop-item-init c = λ u h. adds_none u c.args.out.now _ refl

pub add_fragments-requires-clause-exact : goal.add_fragments-requires-clause-exact
add_fragments-requires-clause-exact c =
    let it = c.into_iter-item-iterator in
    each_taken (HasWholePieces c.args.times) c.args.items c.loop-item.yielded c.in-Some.item it.result c.loop-item.item-iterator c.next.new.self
    (it.ensures.into_iter_gives.0 ∙ c.into_vec-item-items.ensures) c.loop-item.yielded_by c.in-Some.ensures.steps.0 c.requires.exact

pub loop-item-preserved : goal.loop-item-preserved
loop-item-preserved c =
    λ u h.
    adds_yielded u (λ (i : Item). fragments c.args.times (event_of u i)) c.loop-item.yielded c.in-Some.item _ _ _ (c.loop-item.invariant u h)
    (c.in_ok-add_fragments.ensures u h)

pub returns : goal.returns
returns c =
    let it = c.into_iter-item-iterator in
    let loop = c.loop-item in
    let all : loop.yielded ≡ c.args.items =
    All-taken it.result loop.yielded (c.next.new.self, (loop.item-iterator, loop.yielded_by, c.in-None.ensures.steps)) ∙ it.ensures.into_iter_gives.0
    ∙ c.into_vec-item-items.ensures in
    λ u h.
    subst (λ (l : List Item). Adds u c.args.out.now loop.out (flat_map (fragments c.args.times) (events_of u l))) all
    (adds_as u _ _ _ _ (sym (flat_map-map (fragments c.args.times) (event_of u) loop.yielded)) (loop.invariant u h))
