use Rattle.tdl_words.proofs.modes.play_words.Goals as goal

pub returns-in-None-clause-bad : goal.returns-in-None-clause-bad
returns-in-None-clause-bad c = λ bad pace asks. c.in-None.ensures.none pace ((c.in-Ok.ensures.tells pace).0 asks)
