use Rattle.tdl_core.proofs.Sayings.{says_reading}
use Rattle.tdl_core.proofs.lines.LinesReader.reading_law.Goals as goal

pub returns : goal.returns
returns c =
    let texts = c.texts_read_as_one_swap.ensures in
    says_reading texts.one texts.every texts.orbit texts.limits texts.valid texts.no_feed
