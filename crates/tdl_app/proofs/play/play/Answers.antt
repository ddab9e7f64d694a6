use Rattle.std.proofs.Common.{refl, ap, ◌∙◌}
use Rattle.tdl_lines.proofs.PromptLemmas.{goes_none, goes_to}
use Rattle.tdl_core.specs.Replies.{CoreState}
use Rattle.tdl_app.proofs.ScriptEnds.{performed_by, performed_unplayed}
use Rattle.tdl_app.proofs.play.play.Goals as goal

pub returns-in_default-clause-played : goal.returns-in_default-clause-played
returns-in_default-clause-played g c =
    performed_unplayed _ _ _ _ _ _ _ _ _ _ _ _ c.unplayed.ensures.result c.unplayed.ensures.port (c.unplayed.ensures.history ∙ c.new.ensures)

pub returns-in_default-new-clause-played : goal.returns-in_default-new-clause-played
returns-in_default-new-clause-played g c =
    performed_unplayed _ _ _ _ _ _ _ _ _ _ _ _ c.unplayed-in_default-new.ensures.result c.unplayed-in_default-new.ensures.port
    (c.unplayed-in_default-new.ensures.history ∙ c.into_history.ensures.value ∙ ap (λ (core : CoreState). core.history) c.in-Ok.ensures)

pub returns-clause-played : goal.returns-clause-played
returns-clause-played g c =
    performed_by (ap (λ (core : CoreState). core.tempo) c.in-Ok.ensures) c.into_history-2.ensures.value c.into_history-2.ensures.legal
    c.play_script-result.ensures.ends

pub returns-in_default-clause-prompt : goal.returns-in_default-clause-prompt
returns-in_default-clause-prompt g c = goes_to goes_none refl

pub returns-in_default-new-clause-prompt : goal.returns-in_default-new-clause-prompt
returns-in_default-new-clause-prompt g c = goes_to goes_none refl
