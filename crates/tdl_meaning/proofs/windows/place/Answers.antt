use Rattle.std.proofs.Common.{rules, ◌≡◌}
use Rattle.tdl_fraction.specs.Rational.{whole, floor}
use Rattle.tdl_meaning.proofs.kinds.Gate.{place_fits}
use Rattle.tdl_meaning.proofs.windows.place.Goals as goal

pub sub-requires : goal.sub-requires
sub-requires c =
    let start : c.whole.result ≡ whole (floor c.start-start.result) = search rules in
    rw start (place_fits c.start-start.result c.start-start.ensures.in_range)
