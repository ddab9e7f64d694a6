use Rattle.tdl_app.proofs.SpokenTexts.{same_texts}
use Rattle.tdl_app.proofs.laws.scripts_may_cut_time_otherwise.Goals as goal

pub returns : goal.returns
returns c tempo one other same h k first second dated together wire p q sent_first sent_second =
    c.cuts_do_not_matter.ensures.texts wire h k
    (same_texts c.texts_ask_for_one_thing.ensures.swaps c.texts_ask_for_one_thing.ensures.looks c.texts_ask_for_one_thing.ensures.apart
    c.lines_are_read_in_one_way.ensures.one_text (λ entries e. (c.histories_grow.ensures.adds entries e).performed) tempo one other same h k first second dated)
    together p q sent_first sent_second
