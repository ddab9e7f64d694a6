use Rattle.tdl_meaning.proofs.HeardLaws.{heard_laws}
use Rattle.tdl_meaning.proofs.what_is_heard.Goals as goal

pub returns : goal.returns
returns c = heard_laws
