use Rattle.std.proofs.Common.{refl}
use Rattle.tdl_lines.proofs.PromptLemmas.{goes_none, goes_to}
use Rattle.tdl_perform.proofs.ServedPorts.{port_unread}
use Rattle.tdl_perform.proofs.performing.perform.Goals as goal

pub returns-in_default-clause-port : goal.returns-in_default-clause-port
returns-in_default-clause-port g c = port_unread _ _ _ _ _ _ _ c.requires.new

pub returns-in_default-clause-prompt : goal.returns-in_default-clause-prompt
returns-in_default-clause-prompt g c = goes_to goes_none refl
