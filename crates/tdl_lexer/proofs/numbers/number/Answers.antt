use Rattle.std.proofs.Common.{◌∙◌, ◌-◌, ap, take, drop, length}
use Rattle.std.specs.List.{list_all}
use Rattle.std.specs.Char.{is_ascii_digit}
use Rattle.tdl_lexer.proofs.NumberLemmas.{tail_digits}
use Rattle.tdl_lexer.proofs.numbers.number.Goals as goal

pub tail_fits-requires : goal.tail_fits-requires
tail_fits-requires c =
    let text = c.args.text.now in
    let n = length c.args.whole.now in
    ap (λ tail. list_all is_ascii_digit (drop 1 tail)) c.tail_of-tail.ensures ∙ tail_digits (take (length text - n) (drop n text))
