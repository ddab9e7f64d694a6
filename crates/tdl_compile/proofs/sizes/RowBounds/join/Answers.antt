use Rattle.tdl_compile.proofs.sizes.RowBounds.join.Goals as goal

pub returns-in-Left : goal.returns-in-Left
returns-in-Left c = λ op d e. rw c.in-Left.is (c.join_wholes.ensures.left op d e)

pub returns-in-Right : goal.returns-in-Right
returns-in-Right c = λ op d e. rw c.in-Right.is (λ valid s t. c.join_wholes-in-Right.ensures.right op e d valid t s)

pub returns-in-Both : goal.returns-in-Both
returns-in-Both c = λ op d e. rw c.in-Both.is (c.join_both.ensures op d e)
