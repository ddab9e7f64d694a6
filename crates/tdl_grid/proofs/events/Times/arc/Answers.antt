use Rattle.std.proofs.Common.{◌≡◌, ap, ap₂, sym, ◌∙◌, subst₂}
use Rattle.tdl_fraction.specs.Rational.{frac, ◌<ℚ◌}
use Rattle.tdl_fraction.proofs.Order.{frac-lt}
use Rattle.tdl_fraction.proofs.Words128.{near_is}
use Rattle.tdl_grid.proofs.Sums.{read}
use Rattle.tdl_grid.proofs.events.Times.arc.Goals as goal

pub unwrap-requires : goal.unwrap-requires
unwrap-requires c =
    let s = c.args.span in
    let u = c.args.self.now in
    let span = c.start.ensures.span in
    let start : c.at-start.result ≡ frac s.start u =
    c.at-start.ensures.value ∙ ap (λ n. frac n u) (ap read c.start.ensures.value ∙ near_is s.start span.start_small) in
    let stop : c.at-stop.result ≡ frac s.stop u =
    c.at-stop.ensures.value ∙ ap₂ frac (ap read c.stop.ensures.value ∙ near_is s.stop span.stop_small) c.at-start.ensures.unit in
    c.of.ensures.found.1 (subst₂ ◌<ℚ◌ (sym start) (sym stop) ((frac-lt s.start s.stop u c.at-start.ensures.positive).0 span.ordered))

pub returns-clause-value : goal.returns-clause-value
returns-clause-value c =
    let s = c.args.span in
    let u = c.args.self.now in
    let span = c.start.ensures.span in
    let start : c.at-start.result ≡ frac s.start u =
    c.at-start.ensures.value ∙ ap (λ n. frac n u) (ap read c.start.ensures.value ∙ near_is s.start span.start_small) in
    let stop : c.at-stop.result ≡ frac s.stop u =
    c.at-stop.ensures.value ∙ ap₂ frac (ap read c.stop.ensures.value ∙ near_is s.stop span.stop_small) c.at-start.ensures.unit in
    let ends = rw c.unwrap.ensures at c.of.ensures.ends in
    ap₂ (λ a b. record { start = a; stop = b }) (ends.0 ∙ start) (ends.1 ∙ stop)
