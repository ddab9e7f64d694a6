use Rattle.tdl_perform.proofs.FullHistories.{full_entries}
use Rattle.tdl_perform.proofs.OwnEntries.{as_many, own_entries}
use Rattle.tdl_perform.proofs.laws.served_lines_have_their_entries.Goals as goal

pub returns-clause-replies : goal.returns-clause-replies
returns-clause-replies c = as_many

pub returns-clause-entries : goal.returns-clause-entries
returns-clause-entries c = own_entries

pub returns-clause-full : goal.returns-clause-full
returns-clause-full c = full_entries
