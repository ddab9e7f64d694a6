use Rattle.std.proofs.Common.{◌<◌, sym, ap, ◌∙◌, subst}
use Rattle.tdl_euclid.specs.Euclid.{laid_out}
use Rattle.tdl_euclid.proofs.ListLemmas.{IsOnWay, list_count, IsOnWay-first, IsOnWay-regrouped, EndsIn-last, fewer_lists}
use Rattle.tdl_euclid.proofs.grouping.spread.Goals as goal

pub loop-lists-init : goal.loop-lists-init
loop-lists-init c =
    subst (λ l. IsOnWay c.args.hits c.args.steps l) (sym c.of-lists.ensures)
    (IsOnWay-first c.args.hits c.args.steps c.requires.no_more c.requires.some)

pub loop-lists-smaller : goal.loop-lists-smaller
loop-lists-smaller c =
    subst (λ l. list_count l < list_count c.loop-lists.lists) (sym c.regroup-lists.ensures)
    (fewer_lists c.loop-lists.lists (sym c.can_regroup.ensures ∙ c.loop-lists-test.true))

pub loop-lists-preserved : goal.loop-lists-preserved
loop-lists-preserved c =
    subst (λ l. IsOnWay c.args.hits c.args.steps l) (sym c.regroup-lists.ensures)
    (IsOnWay-regrouped c.args.hits c.args.steps c.loop-lists.lists (sym c.can_regroup.ensures ∙ c.loop-lists-test.true) c.loop-lists.invariant)

pub returns-clause-value : goal.returns-clause-value
returns-clause-value c =
    c.join.ensures
    ∙ ap laid_out (EndsIn-last _ c.loop-lists.lists (sym c.can_regroup.ensures ∙ c.loop-lists-test.false) c.loop-lists.invariant.ends)
