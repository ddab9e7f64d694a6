use Rattle.std.proofs.Common.{◌≡◌, ap, ap₂, ◌∙◌}
use lib.Signed.{le_z}
use Rattle.tdl_fraction.proofs.Words128.{near_is}
use Rattle.tdl_meaning.specs.Onsets.{has_onset}
use Rattle.tdl_grid.specs.Item.{Item, event_of}
use Rattle.tdl_grid.proofs.Begun.{onset_counts}
use Rattle.tdl_grid.proofs.Sums.{read}
use Rattle.tdl_grid.proofs.items.Item.has_onset.Goals as goal

pub returns : goal.returns
returns c =
    let i = c.self.inside in
    let part : read c.start.result ≡ i.part.start = ap read c.start.ensures.value ∙ near_is i.part.start c.start.ensures.span.start_small in
    let whole : read c.start-2.result ≡ i.whole.start = ap read c.start-2.ensures.value ∙ near_is i.whole.start c.start-2.ensures.span.start_small in
    λ u h. ap₂ le_z part whole ∙ onset_counts i.part i.whole u h c.self.invariant ∙ ap (λ (x : Item). has_onset (event_of u x)) c.self.view_is
