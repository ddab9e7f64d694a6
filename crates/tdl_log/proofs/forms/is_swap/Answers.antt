use Rattle.std.proofs.Common.{◌∙◌, ap}
use Rattle.std.specs.Prelude.{codes}
use Rattle.std.specs.Str.{bytes_eq}
use Rattle.tdl_log.specs.LineKinds.{is_numbered, is_word}
use Rattle.tdl_log.proofs.LineForms.{split_else}
use Rattle.tdl_log.proofs.forms.is_swap.Goals as goal

pub returns-else-eq : goal.returns-else-eq
returns-else-eq c =
    split_else (is_word (codes "swap")) is_numbered c.args.text.now c.in-Some.word.now c.in-Some.said.now c.eq.result c.in-Some.ensures.some c.if-eq.false
    (c.eq.ensures ∙ ap (bytes_eq c.in-Some.word.now) c.as_slice.ensures)
