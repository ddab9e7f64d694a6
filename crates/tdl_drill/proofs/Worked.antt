-- Drills whose lines are written out.
use Rattle.std.proofs.Common.{◌≡◌, refl, [], ◌∷◌, codes}
use Rattle.std.specs.Fmt.{digits}
use Rattle.tdl_fraction.specs.Divisor.{gcd}
use Rattle.tdl_fraction.specs.Rational.{frac}
use Rattle.tdl_drill.specs.Drill.{drill_lines, lines_from}

four_lines : drill_lines 1 4 ≡ codes "p3 unsolo 1" ∷ codes "p3 unsolo 1" ∷ codes "p3 solo 1" ∷ codes "tick 73/960" ∷ codes "finish" ∷ []
unfolding lines_from frac gcd digits
four_lines = refl

six_lines : drill_lines 1 6 ≡ codes "p3 unsolo 1" ∷ codes "p3 unsolo 1" ∷ codes "p3 solo 1" ∷ codes "tick 73/960"
    ∷ codes "p1 d1 $ s \"bd*3 sn\"" ∷ codes "p2 jumpMod 2 6 $ note \"0 9\" # s \"midi\"" ∷ codes "finish" ∷ []
unfolding lines_from frac gcd digits
six_lines = refl
