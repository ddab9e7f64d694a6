use Rattle.tdl_notes.proofs.AllTones.{sent_is, same_sent}
use Rattle.tdl_notes.proofs.laws.cuts_do_not_matter_to_notes.Goals as goal

pub returns-clause-all : goal.returns-clause-all
returns-clause-all c = sent_is

pub returns-clause-cuts : goal.returns-clause-cuts
returns-clause-cuts c = same_sent
