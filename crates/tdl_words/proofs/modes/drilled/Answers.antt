use Rattle.tdl_words.proofs.modes.drilled.Goals as goal

pub returns-in_err-start-clause-none : goal.returns-in_err-start-clause-none
returns-in_err-start-clause-none c = rw c.from_residual.ensures
    (λ start lines names. c.in_err-start.ensures.none start names.start_is)

pub returns-in_err-lines-clause-none : goal.returns-in_err-lines-clause-none
returns-in_err-lines-clause-none c = rw c.from_residual-in_err-lines.ensures
    (λ start lines names. c.in_err-lines.ensures.none lines names.lines_are)
