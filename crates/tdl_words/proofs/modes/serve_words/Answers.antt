use Rattle.tdl_words.proofs.modes.serve_words.Goals as goal

pub returns-in-None-clause-bad : goal.returns-in-None-clause-bad
returns-in-None-clause-bad c = λ bad pace k n asks. c.in-None.ensures.none pace k n ((c.in-Ok.ensures.tells pace k n).0 asks)
