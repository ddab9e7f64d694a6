use Rattle.tdl_words.proofs.modes.served.Goals as goal

pub returns-in_err-performers-clause-none : goal.returns-in_err-performers-clause-none
returns-in_err-performers-clause-none c = rw c.from_residual.ensures
    (λ pace performers cycles names. c.in_err-performers.ensures.none performers names.performers_are)

pub returns-in_err-cycles-clause-none : goal.returns-in_err-cycles-clause-none
returns-in_err-cycles-clause-none c = rw c.from_residual-in_err-cycles.ensures
    (λ pace performers cycles names. c.in_err-cycles.ensures.none cycles names.cycles_are)
