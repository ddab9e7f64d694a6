use Rattle.std.proofs.Common.{length, map, ap, sym, ◌∙◌, arith, List}
use Rattle.tdl_agenda.specs.Agenda.{numbered}
use Rattle.tdl_agenda.specs.declared.items.Item.{Item}
use Rattle.tdl_notes.specs.Waiting.{end_mark}
use Rattle.tdl_notes.proofs.Renumbering.{below-numbered, length-remarked, marks-numbered}
use Rattle.tdl_notes.proofs.ends.first_number.Goals as goal

pub returns-clause-numbers : goal.returns-clause-numbers
returns-clause-numbers c =
    let items = c.args.agenda.now.items in
    let kept = ap (λ (l : List Item). length l) c.renumber.ensures.items in
    let same = length-remarked items (numbered 0 items) (marks-numbered 0 items) in
    let count = c.len.ensures in
    let fits = c.requires.fits in
    omega (arith, kept, same, count, fits)

pub returns-clause-below : goal.returns-clause-below
returns-clause-below c = below-numbered c.len.result c.args.agenda.now.items c.renumber.new.self.items c.renumber.ensures.items (sym c.len.ensures)

pub returns-clause-marks : goal.returns-clause-marks
returns-clause-marks c = ap (λ (l : List Item). map end_mark l) c.renumber.ensures.items ∙ marks-numbered 0 c.args.agenda.now.items
