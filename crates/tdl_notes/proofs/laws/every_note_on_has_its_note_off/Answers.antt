use Rattle.tdl_notes.proofs.Balance.{ends_as_begins, no_more_ends}
use Rattle.tdl_notes.proofs.laws.every_note_on_has_its_note_off.Goals as goal

pub returns-clause-all : goal.returns-clause-all
returns-clause-all c = λ frontier score begun channels channel key low. ends_as_begins channel key frontier score begun channels low

pub returns-clause-fronts : goal.returns-clause-fronts
returns-clause-fronts c = λ frontier score begun channel key low sent later e. no_more_ends channel key frontier score begun low sent later e
