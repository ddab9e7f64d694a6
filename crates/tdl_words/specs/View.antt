-- What the answer of `mode_words` asks for.
use Rattle.tdl_words.specs.Modes.{Asked, AskDrill, AskPlay, AskQuery, AskServe, Query}
use Rattle.tdl_words.specs.declared.modes.ModeWords.{ModeWords}
use Rattle.tdl_words.specs.declared.modes.ModeWords.TheVariants as mode
use Rattle.tdl_words.specs.declared.modes.QueryWords.{QueryWords}

abbrev pub query_of : QueryWords → Query
query_of words = record { pattern = words.pattern.now; from = words.from.now; to = words.to.now }

abbrev pub asked_of : ModeWords → Asked
asked_of (mode.Query words) = AskQuery (query_of words)
asked_of (mode.Play words) = AskPlay words.tempo
asked_of (mode.Serve words) = AskServe words.tempo words.performers words.cycles
asked_of (mode.Drill words) = AskDrill words.start words.lines
