use Rattle.std.proofs.Common.{◌≡◌, true, sym, ◌∙◌}
use Rattle.std.specs.Char.{is_ascii_lowercase}
use Rattle.tdl_line_texts.proofs.NamesUnder.{under_letter, none_under}
use Rattle.tdl_line_texts.proofs.words.entries_under.Goals as goal

pub returns-then-is_ascii_lowercase : goal.returns-then-is_ascii_lowercase
returns-then-is_ascii_lowercase c =
    let letter : is_ascii_lowercase c.args.first ≡ true = sym c.is_ascii_lowercase.ensures.value ∙ c.if-is_ascii_lowercase.true in
    search under_letter

pub returns-else-is_ascii_lowercase : goal.returns-else-is_ascii_lowercase
returns-else-is_ascii_lowercase c = none_under c.args.first (sym c.is_ascii_lowercase.ensures.value ∙ c.if-is_ascii_lowercase.false)
