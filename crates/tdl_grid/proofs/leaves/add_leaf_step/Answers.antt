use Rattle.std.proofs.Common.{◌≡◌, ◌++◌, ◌∷◌, [], OnOk, sym, ap, ◌∙◌, subst}
use Rattle.tdl_grid.specs.Span.{Span, met}
use Rattle.tdl_grid.specs.Item.{Item}
use Rattle.tdl_grid.proofs.SpanArcs.{met_part}
use Rattle.tdl_grid.proofs.LeafSteps.{leaf_gains, no_leaf_gains}
use Rattle.tdl_grid.proofs.leaves.add_leaf_step.Goals as goal

pub invariant_of-push : goal.invariant_of-push
invariant_of-push g c = (met_part c.share-whole.result c.args.arc c.in-Some.part (sym c.meet.ensures.counts ∙ c.in-Some.is)).0

pub returns-in-Some : goal.returns-in-Some
returns-in-Some g c =
    let same = ap (λ (span : Span). met span c.args.arc) c.share-whole.ensures in
    let item : Span → Item = λ whole. record { whole = whole; part = c.in-Some.part; value = c.args.leaf.now } in
    leaf_gains c.args.step.now c.requires c.args.leaf.now c.args.arc c.in-Some.part (sym same ∙ sym c.meet.ensures.counts ∙ c.in-Some.is) c.push.result
    c.args.out.now c.push.new.self c.args.steps.now _
    (subst (λ whole. OnOk c.push.result (c.push.new.self ≡ c.args.out.now ++ item whole ∷ [])) c.share-whole.ensures c.push.ensures.ok) c.tick.ensures

pub returns-in-None : goal.returns-in-None
returns-in-None g c =
    let same = ap (λ (span : Span). met span c.args.arc) c.share-whole.ensures in
    no_leaf_gains c.args.step.now c.requires c.args.leaf.now c.args.arc _ _ (sym same ∙ sym c.meet.ensures.counts ∙ c.in-None.is)
