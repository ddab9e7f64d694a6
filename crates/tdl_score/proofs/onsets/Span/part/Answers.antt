use Rattle.std.proofs.Common.{rules, ◌≡◌, sym, subst}
use Rattle.tdl_fraction.specs.Units.{IsQueryArc}
use Rattle.tdl_score.specs.inside.Parts.{part_arc}
use Rattle.tdl_score.proofs.Clipped.{part_is_arc, part_is_asked}
use Rattle.tdl_score.proofs.onsets.Span.part.Goals as goal

pub unwrap-requires : goal.unwrap-requires
unwrap-requires c =
    c.of.ensures.found.1
    (rw (c.time_of.ensures, c.time_of-2.ensures, c.max-start.ensures, c.min-stop.ensures, c.from.ensures, c.from-2.ensures)
    (part_is_arc c.args.self.from c.args.self.to c.args.cycle c.args.self.forward c.requires.begun c.requires.not_over))

pub returns-clause-on_grid : goal.returns-clause-on_grid
returns-clause-on_grid c =
    let value : c.unwrap.result ≡ part_arc c.args.self.from c.args.self.to c.args.cycle = search rules in
    subst IsQueryArc (sym value)
    (part_is_asked c.args.self.from c.args.self.to c.args.cycle c.args.self.forward c.requires.begun c.requires.not_over c.args.self.to_last)
