use Rattle.tdl_line_changes.proofs.SwapTexts.{one_swap, swap_range}
use Rattle.tdl_line_changes.proofs.SwapFacts.{swap_orbit, swap_limits}
use Rattle.tdl_line_changes.proofs.ValidPatterns.{swap_valid}
use Rattle.tdl_line_changes.proofs.laws.texts_read_as_one_swap.Goals as goal

pub returns-clause-one : goal.returns-clause-one
returns-clause-one c = one_swap c.lines_are_read_in_one_way.ensures.one_tree

pub returns-clause-every : goal.returns-clause-every
returns-clause-every c = λ text n d h. swap_range c.jumps_are_in_range.ensures text n h.line h.made h.read h.asks

pub returns-clause-orbit : goal.returns-clause-orbit
returns-clause-orbit c = swap_orbit

pub returns-clause-limits : goal.returns-clause-limits
returns-clause-limits c = swap_limits

pub returns-clause-valid : goal.returns-clause-valid
returns-clause-valid c = swap_valid

pub returns-clause-no_feed : goal.returns-clause-no_feed
returns-clause-no_feed c = λ text n d h. c.lines_have_no_line_feed.ensures text h.line h.read
