use Rattle.std.proofs.Common.{ap, ◌∙◌}
use Rattle.clap.specs.Words.{app_of, is_simple_and_free}
use Rattle.tdl_words.proofs.FaultLemmas.{memory_only, same_fault}
use Rattle.tdl_words.proofs.Found.{drill_bad, drill_tells}
use Rattle.tdl_words.proofs.Tables.{drill_is_simple}
use Rattle.tdl_words.proofs.modes.drill_texts.Goals as goal

pub found-requires : goal.found-requires
found-requires c = ap is_simple_and_free c.in_ok-command.ensures ∙ drill_is_simple

pub returns-in_err-command-clause-bad : goal.returns-in_err-command-clause-bad
returns-in_err-command-clause-bad c = memory_only _ c.from_residual.result c.from_residual.ensures.1

pub returns-in_err-matches-clause-bad : goal.returns-in_err-matches-clause-bad
returns-in_err-matches-clause-bad c =
    same_fault c.from_residual-in_err-matches.result c.in_err-matches.field-0.0 c.from_residual-in_err-matches.ensures.1
    (λ bad. drill_bad c.args.words.now (app_of c.in_ok-command.command) c.in_ok-command.ensures (c.in_err-matches.ensures.bad bad))

pub returns-clause-tells : goal.returns-clause-tells
returns-clause-tells c =
    drill_tells c.args.words.now (app_of c.in_ok-command.command) c.in_ok-matches.matches _ _ c.in_ok-command.ensures c.in_ok-matches.ensures.taken
    c.in_ok-matches.ensures.rows c.get_str.ensures c.get_str-2.ensures
