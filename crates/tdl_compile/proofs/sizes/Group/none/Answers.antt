use Rattle.std.proofs.Common.{refl, inl}
use Rattle.tdl_compile.proofs.Growing.{none_below}
use Rattle.tdl_compile.proofs.sizes.Group.none.Goals as goal

pub returns : goal.returns
returns c = record {
  trees = record {
    counts = inl refl;
    most = inl refl;
    wide = inl refl;
    loads = refl;
    hangs = inl refl;
    grids = inl refl;
    grows = none_below c.none.result _ _ (λ m. refl) (λ q. refl) c.none.ensures.further;
  };
  steps = record {
    counts = inl refl;
    most = inl refl;
    wide = inl refl;
    loads = refl;
    hangs = inl refl;
    grids = inl refl;
    grows = none_below c.none.result _ _ (λ m. refl) (λ q. refl) c.none.ensures.further;
  };
}
