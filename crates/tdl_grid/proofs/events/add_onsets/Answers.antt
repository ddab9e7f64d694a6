use Rattle.std.proofs.Common.{◌≡◌, ◌++◌, List, sym, ◌∙◌, subst}
use Rattle.std.specs.List.{filter}
use Rattle.std.proofs.IntoIterSteps.{All-taken}
use Rattle.tdl_meaning.specs.Onsets.{has_onset}
use Rattle.tdl_grid.specs.Item.{Item}
use Rattle.tdl_grid.specs.ItemLaws.{events_of}
use Rattle.tdl_grid.proofs.Begun.{onset_missed}
use Rattle.tdl_grid.proofs.events.add_onsets.Goals as goal

pub loop-item-preserved : goal.loop-item-preserved
loop-item-preserved c = record {
  out = onset_missed c.args.unit c.args.out.now c.loop-item.yielded c.in-Some.item c.loop-item.out c.loop-item.invariant.out
      (sym (c.has_onset.ensures c.args.unit c.requires.positive) ∙ c.if-has_onset.false);
  unit = c.loop-item.invariant.unit;
}

pub returns : goal.returns
returns c =
    let it = c.into_iter-item-iterator in
    let loop = c.loop-item in
    let all : loop.yielded ≡ c.args.items =
    All-taken it.result loop.yielded (c.next.new.self, (loop.item-iterator, loop.yielded_by, c.in-None.ensures.steps)) ∙ it.ensures.into_iter_gives.0
    ∙ c.into_vec-item-items.ensures in
    subst (λ (l : List Item). loop.out ≡ c.args.out.now ++ filter has_onset (events_of c.args.unit l)) all loop.invariant.out
