use Rattle.std.proofs.Common.{refl, map, string_bytes}
use Rattle.tdl_lines.proofs.PromptLemmas.{goes_none, goes_to}
use Rattle.tdl_words.specs.Modes.{AskServe}
use Rattle.tdl_app.proofs.ByWords.{not_a_script, not_serve}
use Rattle.tdl_app.proofs.top_call.run.Goals as goal

pub returns-in-Ok-Serve-clause-prompt : goal.returns-in-Ok-Serve-clause-prompt
returns-in-Ok-Serve-clause-prompt g c =
    not_a_script (map string_bytes c.args.words.now) (AskServe c.in-Ok-Serve.words.tempo c.in-Ok-Serve.words.performers c.in-Ok-Serve.words.cycles)
    (rw c.in-Ok-Serve.field-0-is at c.in-Ok-Serve.ensures.asks) c.words_ask_for_one_thing.ensures (not_serve _ _ _)

pub returns-in-Err-NoMemory-clause-prompt : goal.returns-in-Err-NoMemory-clause-prompt
returns-in-Err-NoMemory-clause-prompt g c = λ pace asks. goes_to goes_none refl
