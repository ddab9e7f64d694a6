use Rattle.tdl_words.proofs.modes.drill_words.Goals as goal

pub returns-in-None-clause-bad : goal.returns-in-None-clause-bad
returns-in-None-clause-bad c = λ bad k n asks. c.in-None.ensures.none k n ((c.in-Ok.ensures.tells k n).0 asks)
