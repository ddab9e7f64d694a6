use Rattle.std.proofs.Common.{true, sym, ap, ◌∙◌}
use Rattle.tdl_line_machine.specs.Machine as machine
use Rattle.tdl_line_machine.specs.Machine.Open.{opened_to}
use Rattle.tdl_line_machine.specs.Machine.States.{round}
use Rattle.tdl_line_machine.specs.declared.marks.Mark.TheVariants.{OpenRound}
use Rattle.tdl_line_reader.specs.ReaderView.{core_of, spot_of}
use Rattle.tdl_line_reader.proofs.Answering.{answers_by}
use Rattle.tdl_line_reader.proofs.WantedTokens.{marked_wanted}
use Rattle.tdl_line_reader.proofs.reader.LineTokenReader.take_wanted.Goals as goal

pub returns-in-Name : goal.returns-in-Name
returns-in-Name g c = λ readings are. rw c.in-Name.is (c.take_name.ensures _)

pub returns-in-Mark-OpenRound : goal.returns-in-Mark-OpenRound
returns-in-Mark-OpenRound g c = λ readings are. answers_by _ _ _ _ _ (c.open.ensures _)
    (marked_wanted (core_of c.args.self.now) (spot_of c.args.spot) readings c.args.tok.now _ OpenRound c.in-Mark-OpenRound.is
    (rw c.in-Mark-OpenRound.is at c.in-Mark-OpenRound.field-0-is)
    ∙ ap (λ (r : machine.Bracketed). opened_to true (core_of c.args.self.now) (round r) machine.opening) (sym c.round_at-round.ensures))
