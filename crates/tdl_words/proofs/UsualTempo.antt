-- The tempo where the words do not say otherwise.
use Rattle.std.proofs.Common.{List, ℕ, Option, Some, None, pos, arith, lit≤, subst, sym}
use Rattle.tdl_fraction.specs.Divisor.{gcd}
use Rattle.tdl_fraction.specs.Rational.{Rational, frac, whole, lt_ℚ, lt_ℚ_yes}
use Rattle.tdl_fraction.specs.Range.{InRange}
use Rattle.tdl_fraction.proofs.Ranges.{InRange-frac}
use Rattle.tdl_tempo.specs.Tempo.{IsCps}
use Rattle.tdl_words.specs.Words.{IsGivenAs}
use Rattle.tdl_words.specs.Modes.{IsCpsText, usual_pace}
use Rattle.tdl_words.specs.inside.Tells.{only}

pub usual_cps_in_range : InRange (frac (pos 9) 16)
usual_cps_in_range = InRange-frac (pos 9) 16 (omega arith) (omega arith) (omega arith)

pub IsCps-usual : IsCps (frac (pos 9) 16)
unfolding frac whole lt_ℚ gcd
IsCps-usual = record { positive = lt_ℚ_yes tt; above_line = lit≤ tt; below_line = lit≤ tt }

-- what the option says is allowed
pub says_allowed : (text : Option (List ℕ)) (cps : Rational) → IsGivenAs IsCpsText usual_pace.cps (only text) cps → IsCps cps
says_allowed None cps h = subst IsCps (sym h) IsCps-usual
says_allowed (Some text) cps h = h.allowed
