use Rattle.std.proofs.Common.{refl, inl}
use Rattle.tdl_expr.specs.Tree.{Pure}
use Rattle.tdl_compile.proofs.Growing.{none_below}
use Rattle.tdl_compile.proofs.sizes.RowBounds.of_leaf.Goals as goal

pub returns : goal.returns
returns c = λ leaf.
    c.with_own.ensures (Pure leaf) (record { count = inl refl; load = refl; wide = inl refl; hang = inl refl; grid = inl refl })
    (none_below c.none.result _ _ (λ m. refl) (λ q. refl) c.none.ensures.further)
