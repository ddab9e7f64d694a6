use Rattle.tdl_answer.proofs.OneAsk.{looks_not_declined, swaps_no_looks, swaps_not_declined}
use Rattle.tdl_answer.proofs.laws.texts_ask_for_one_thing.Goals as goal

pub returns-clause-swaps : goal.returns-clause-swaps
returns-clause-swaps c = swaps_not_declined c.lines_are_read_in_one_way.ensures.one_tree c.lines_are_read_in_one_way.ensures.not_both

pub returns-clause-looks : goal.returns-clause-looks
returns-clause-looks c = looks_not_declined c.lines_are_read_in_one_way.ensures.one_tree c.lines_are_read_in_one_way.ensures.not_both

pub returns-clause-apart : goal.returns-clause-apart
returns-clause-apart c = swaps_no_looks c.lines_are_read_in_one_way.ensures.one_tree c.lines_are_read_in_one_way.ensures.not_both
