use Rattle.std.proofs.Common.{refl, map, string_bytes}
use Rattle.tdl_words.specs.View.{query_of}
use Rattle.tdl_lines.proofs.PromptLemmas.{goes_none, goes_to}
use Rattle.tdl_words.specs.Modes.{AskDrill, AskPlay, AskQuery}
use Rattle.tdl_app.proofs.ByWords.{not_a_script, not_drill, not_query}
use Rattle.tdl_app.proofs.ByWords.{ran_drill, ran_play, ran_query, ran_refused, ran_without_memory}
use Rattle.tdl_app.proofs.top_call.run_alone.Goals as goal

pub returns-in-Ok-Play-clause-ran : goal.returns-in-Ok-Play-clause-ran
returns-in-Ok-Play-clause-ran g c =
    ran_play _ _ _ _ _ _ (rw c.in-Ok-Play.field-0-is at c.in-Ok-Play.ensures.asks) c.words_ask_for_one_thing.ensures c.play_logged.ensures.played
    c.play_logged.ensures.unused

pub returns-in-Ok-Query-clause-ran : goal.returns-in-Ok-Query-clause-ran
returns-in-Ok-Query-clause-ran g c =
    let made = c.without_history.ensures in
    ran_query _ _ _ _ _ (query_of c.in-Ok-Query.words) c.query.result (rw c.in-Ok-Query.field-0-is at c.in-Ok-Query.ensures.asks)
    c.words_ask_for_one_thing.ensures c.query.ensures (made.status, made.history, made.ends)
    (record { input = refl; log = refl; osc = refl; midi = refl; unused = record { clock = refl; ports = refl } })

pub returns-in-Err-BadWords-clause-ran : goal.returns-in-Err-BadWords-clause-ran
returns-in-Err-BadWords-clause-ran g c =
    let made = c.without_history-in-Err-BadWords.ensures in
    ran_refused _ _ _ _ _ c.put_text.result (c.in-Err-BadWords.ensures.bad c.in-Err-BadWords.field-0-is) c.put_text.ensures
    (made.status, made.history, made.ends) (record { input = refl; log = refl; osc = refl; midi = refl; unused = record { clock = refl; ports = refl } })

pub returns-in-Err-NoMemory-clause-ran : goal.returns-in-Err-NoMemory-clause-ran
returns-in-Err-NoMemory-clause-ran g c =
    let made = c.without_history-in-Err-NoMemory.ensures in
    ran_without_memory _ _ _ _ (made.status, made.history, made.ends)

pub drill_logged-requires : goal.drill_logged-requires
drill_logged-requires g c =
    let bounds =
    c.drill_words_are_in_bounds.ensures _ c.in-Ok-Drill.words.start c.in-Ok-Drill.words.lines
    (rw c.in-Ok-Drill.field-0-is at c.in-Ok-Drill.ensures.asks) in
    record { small = bounds.0; few = bounds.2 }

pub returns-in-Ok-Drill-clause-ran : goal.returns-in-Ok-Drill-clause-ran
returns-in-Ok-Drill-clause-ran g c =
    ran_drill _ _ _ _ _ _ _ (rw c.in-Ok-Drill.field-0-is at c.in-Ok-Drill.ensures.asks) c.words_ask_for_one_thing.ensures c.drill_logged.ensures.drilled
    c.drill_logged.ensures.input c.drill_logged.ensures.unused

pub returns-in-Ok-Play-clause-prompt : goal.returns-in-Ok-Play-clause-prompt
returns-in-Ok-Play-clause-prompt g c = λ pace asks. c.play_logged.ensures.prompt

pub returns-in-Ok-Query-clause-prompt : goal.returns-in-Ok-Query-clause-prompt
returns-in-Ok-Query-clause-prompt g c =
    not_a_script (map string_bytes c.args.words.now) (AskQuery (query_of c.in-Ok-Query.words)) (rw c.in-Ok-Query.field-0-is at c.in-Ok-Query.ensures.asks)
    c.words_ask_for_one_thing.ensures (not_query _)

pub returns-in-Err-BadWords-clause-prompt : goal.returns-in-Err-BadWords-clause-prompt
returns-in-Err-BadWords-clause-prompt g c =
    λ pace asks. absurd (c.in-Err-BadWords.ensures.bad c.in-Err-BadWords.field-0-is (AskPlay pace) asks)

pub returns-in-Err-NoMemory-clause-prompt : goal.returns-in-Err-NoMemory-clause-prompt
returns-in-Err-NoMemory-clause-prompt g c = λ pace asks. goes_to goes_none refl

pub returns-in-Ok-Drill-clause-prompt : goal.returns-in-Ok-Drill-clause-prompt
returns-in-Ok-Drill-clause-prompt g c =
    not_a_script (map string_bytes c.args.words.now) (AskDrill c.in-Ok-Drill.words.start c.in-Ok-Drill.words.lines) (rw c.in-Ok-Drill.field-0-is at c.in-Ok-Drill.ensures.asks)
    c.words_ask_for_one_thing.ensures (not_drill _ _)
