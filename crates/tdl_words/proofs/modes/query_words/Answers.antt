use Rattle.tdl_words.proofs.modes.query_words.Goals as goal

pub returns-in-None-clause-bad : goal.returns-in-None-clause-bad
returns-in-None-clause-bad c = λ bad query asks. c.in-None.ensures.none query ((c.in-Ok.ensures.tells query).0 asks)
