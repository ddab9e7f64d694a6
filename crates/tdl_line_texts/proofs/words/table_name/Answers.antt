use Rattle.std.proofs.Common.{List, ap, ◌∙◌}
use Rattle.tdl_line_texts.specs.Names.{Meaning, named_among}
use Rattle.tdl_line_texts.proofs.NamesUnder.{found_under}
use Rattle.tdl_line_texts.proofs.words.table_name.Goals as goal

pub returns-in-len1-up : goal.returns-in-len1-up
returns-in-len1-up c =
    c.named_among.ensures
    ∙ (ap (λ (es : List Meaning). named_among es c.args.bytes.now) c.entries_under.ensures ∙ found_under c.args.bytes.now c.in-len1-up.len_at_least)
