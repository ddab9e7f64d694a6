use Rattle.tdl_line_changes.proofs.PreparedTexts.{prepared_swap, prepared_look}
use Rattle.tdl_line_changes.proofs.laws.prepared_lines_are_read.Goals as goal

pub returns-clause-swaps : goal.returns-clause-swaps
returns-clause-swaps c = λ text kept l trimmed read t every d h.
    prepared_swap kept l (c.outer_blanks_say_nothing.ensures text kept l trimmed read) t every d h

pub returns-clause-looks : goal.returns-clause-looks
returns-clause-looks c = λ text kept l trimmed read h. prepared_look kept l (c.outer_blanks_say_nothing.ensures text kept l trimmed read) h
