use Rattle.tdl_fraction.proofs.Twos.{odd_part-odd, odd_part-times}
use Rattle.tdl_fraction.proofs.divisor.odd_part.Goals as goal

pub returns-clause-odd : goal.returns-clause-odd
returns-clause-odd c = odd_part-odd c.args.number c.requires c.ranges.number.fits

pub returns-clause-value : goal.returns-clause-value
returns-clause-value c = odd_part-times c.args.number c.requires c.ranges.number.fits
