use Rattle.std.specs.Prelude.{option_map}
use Rattle.tdl_words.proofs.FaultLemmas.{not_none}
use Rattle.tdl_words.proofs.UsualTempo.{says_allowed}
use Rattle.tdl_words.proofs.modes.tempo_of.Goals as goal

pub returns-clause-none : goal.returns-clause-none
returns-clause-none c =
    not_none _ c.of.result (c.of.ensures.found.1 (says_allowed (option_map (λ t. t.now) c.args.texts.cps) c.in_ok-cps.cps c.in_ok-cps.ensures.value))
