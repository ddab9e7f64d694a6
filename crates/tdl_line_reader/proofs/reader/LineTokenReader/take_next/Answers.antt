use Rattle.tdl_line_reader.proofs.reader.LineTokenReader.take_next.Goals as goal

pub returns-in-Beginning : goal.returns-in-Beginning
returns-in-Beginning g c = rw c.in-Beginning.is c.take_beginning.ensures

pub returns-in-Flagging : goal.returns-in-Flagging
returns-in-Flagging g c = rw c.in-Flagging.is c.take_flagged.ensures

pub returns-in-Addressed : goal.returns-in-Addressed
returns-in-Addressed g c = rw c.in-Addressed.is c.take_addressed.ensures

pub returns-in-Jumping : goal.returns-in-Jumping
returns-in-Jumping g c = rw c.in-Jumping.is c.take_jumping.ensures

pub returns-in-JumpingAt : goal.returns-in-JumpingAt
returns-in-JumpingAt g c = rw c.in-JumpingAt.is c.take_every.ensures

pub returns-in-Jumped : goal.returns-in-Jumped
returns-in-Jumped g c = rw c.in-Jumped.is c.take_jumped.ensures

pub returns-in-Done : goal.returns-in-Done
returns-in-Done g c = rw c.in-Done.is c.take_done.ensures

pub returns-in-Wanting : goal.returns-in-Wanting
returns-in-Wanting g c = rw c.in-Wanting.is c.take_wanted.ensures

pub returns-in-Opening : goal.returns-in-Opening
returns-in-Opening g c = rw c.in-Opening.is c.take_opening.ensures

pub returns-in-Opened : goal.returns-in-Opened
returns-in-Opened g c = rw c.in-Opened.is c.take_opened.ensures

pub returns-in-Measured : goal.returns-in-Measured
returns-in-Measured g c = rw c.in-Measured.is c.take_measured.ensures

pub returns-in-Shifted : goal.returns-in-Shifted
returns-in-Shifted g c = rw c.in-Shifted.is c.take_shifted.ensures

pub returns-in-Expressed : goal.returns-in-Expressed
returns-in-Expressed g c = rw c.in-Expressed.is c.take_expressed.ensures

pub returns-in-Named : goal.returns-in-Named
returns-in-Named g c = rw c.in-Named.is c.take_named.ensures

pub returns-in-Chained : goal.returns-in-Chained
returns-in-Chained g c = rw c.in-Chained.is c.take_chained.ensures

pub returns-in-Keyed : goal.returns-in-Keyed
returns-in-Keyed g c = rw c.in-Keyed.is c.take_keyed.ensures

pub returns-in-Setting : goal.returns-in-Setting
returns-in-Setting g c = rw c.in-Setting.is c.take_setting.ensures

pub returns-in-Negating : goal.returns-in-Negating
returns-in-Negating g c = rw c.in-Negating.is c.take_negating.ensures

pub returns-in-Negated : goal.returns-in-Negated
returns-in-Negated g c = rw c.in-Negated.is c.take_negated.ensures

pub returns-in-Listing : goal.returns-in-Listing
returns-in-Listing g c = rw c.in-Listing.is c.take_listing.ensures

pub returns-in-ListOpen : goal.returns-in-ListOpen
returns-in-ListOpen g c = rw c.in-ListOpen.is c.take_list_open.ensures

pub returns-in-Timing : goal.returns-in-Timing
returns-in-Timing g c = rw c.in-Timing.is c.take_timing.ensures

pub returns-in-PartsOpen : goal.returns-in-PartsOpen
returns-in-PartsOpen g c = rw c.in-PartsOpen.is c.take_parts_open.ensures

pub returns-in-PartWanted : goal.returns-in-PartWanted
returns-in-PartWanted g c = rw c.in-PartWanted.is c.take_part.ensures

pub returns-in-PartRead : goal.returns-in-PartRead
returns-in-PartRead g c = rw c.in-PartRead.is c.take_part_read.ensures

pub returns-in-Weighing : goal.returns-in-Weighing
returns-in-Weighing g c = rw c.in-Weighing.is c.take_weighing.ensures

pub returns-in-Weighed : goal.returns-in-Weighed
returns-in-Weighed g c = rw c.in-Weighed.is c.take_weighed.ensures

pub returns-in-Asking : goal.returns-in-Asking
returns-in-Asking g c = rw c.in-Asking.is c.take_asked.ensures

pub returns : goal.returns
returns g c = rw c.in-Number.is c.take_number.ensures
