use Rattle.std.proofs.Common.{codes}
use Rattle.tdl_words.specs.View.{query_of}
use Rattle.tdl_words.proofs.FirstWord.{asks_drill, asks_play, asks_query, asks_serve, is_at, no_drill, no_play, no_query, no_serve}
use Rattle.tdl_words.proofs.modes.mode_words.Goals as goal

pub returns-in-Ok-clause-asks : goal.returns-in-Ok-clause-asks
returns-in-Ok-clause-asks c =
    let words = c.args.words.now in
    let first =
    is_at words c.mode-item.result c.as_str.result.now (codes "query") c.in-len1-up.len_at_least c.mode-item.is c.as_str.ensures.value c.if-eq.ensures in
    asks_query words (query_of c.in-Ok.words) first c.in-Ok.ensures.asks

pub returns-in-Err-clause-bad : goal.returns-in-Err-clause-bad
returns-in-Err-clause-bad c = λ bad.
    let words = c.args.words.now in
    let first =
    is_at words c.mode-item.result c.as_str.result.now (codes "query") c.in-len1-up.len_at_least c.mode-item.is c.as_str.ensures.value c.if-eq.ensures in
    no_query words first (c.in-Err.ensures.bad bad)

pub returns-in-Ok-play_words-clause-asks : goal.returns-in-Ok-play_words-clause-asks
returns-in-Ok-play_words-clause-asks c =
    let words = c.args.words.now in
    let first =
    is_at words c.mode-item-2.result c.as_str-2.result.now
    (codes "play") c.in-len1-up.len_at_least c.mode-item-2.is c.as_str-2.ensures.value c.if-eq-2.ensures in
    asks_play words c.in-Ok-play_words.words.tempo first c.in-Ok-play_words.ensures.asks

pub returns-in-Err-play_words-clause-bad : goal.returns-in-Err-play_words-clause-bad
returns-in-Err-play_words-clause-bad c = λ bad.
    let words = c.args.words.now in
    let first =
    is_at words c.mode-item-2.result c.as_str-2.result.now
    (codes "play") c.in-len1-up.len_at_least c.mode-item-2.is c.as_str-2.ensures.value c.if-eq-2.ensures in
    no_play words first (c.in-Err-play_words.ensures.bad bad)

pub returns-in-Ok-serve_words-clause-asks : goal.returns-in-Ok-serve_words-clause-asks
returns-in-Ok-serve_words-clause-asks c =
    let words = c.args.words.now in
    let serve = c.in-Ok-serve_words.words in
    let first =
    is_at words c.mode-item-3.result c.as_str-3.result.now
    (codes "serve") c.in-len1-up.len_at_least c.mode-item-3.is c.as_str-3.ensures.value c.if-eq-3.ensures in
    asks_serve words serve.tempo serve.performers serve.cycles first c.in-Ok-serve_words.ensures.asks

pub returns-in-Err-serve_words-clause-bad : goal.returns-in-Err-serve_words-clause-bad
returns-in-Err-serve_words-clause-bad c = λ bad.
    let words = c.args.words.now in
    let first =
    is_at words c.mode-item-3.result c.as_str-3.result.now
    (codes "serve") c.in-len1-up.len_at_least c.mode-item-3.is c.as_str-3.ensures.value c.if-eq-3.ensures in
    no_serve words first (c.in-Err-serve_words.ensures.bad bad)

pub returns-in-Ok-drill_words-clause-asks : goal.returns-in-Ok-drill_words-clause-asks
returns-in-Ok-drill_words-clause-asks c =
    let words = c.args.words.now in
    let drill = c.in-Ok-drill_words.words in
    let first =
    is_at words c.mode-item-4.result c.as_str-4.result.now
    (codes "drill") c.in-len1-up.len_at_least c.mode-item-4.is c.as_str-4.ensures.value c.if-eq-4.ensures in
    asks_drill words drill.start drill.lines first c.in-Ok-drill_words.ensures.asks

pub returns-in-Err-drill_words-clause-bad : goal.returns-in-Err-drill_words-clause-bad
returns-in-Err-drill_words-clause-bad c = λ bad.
    let words = c.args.words.now in
    let first =
    is_at words c.mode-item-4.result c.as_str-4.result.now
    (codes "drill") c.in-len1-up.len_at_least c.mode-item-4.is c.as_str-4.ensures.value c.if-eq-4.ensures in
    no_drill words first (c.in-Err-drill_words.ensures.bad bad)
