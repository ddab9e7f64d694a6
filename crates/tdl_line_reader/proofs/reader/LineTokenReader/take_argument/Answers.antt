use Rattle.std.proofs.Common.{refl}
use Rattle.tdl_line_reader.proofs.Answering.{answers_by}
use Rattle.tdl_line_machine.specs.Tokens as token
use Rattle.tdl_line_machine.specs.declared.names.Name.TheVariants.{Bare}
use Rattle.tdl_line_reader.proofs.reader.LineTokenReader.take_argument.Goals as goal

pub returns-in_ok-whole-in-Name-Bare : goal.returns-in_ok-whole-in-Name-Bare
returns-in_ok-whole-in-Name-Bare g c = λ readings are. rw c.in-Name-Bare.is (rw (rw c.in-Name-Bare.is at c.in-Name-Bare.field-0-is) (rw
    c.in_ok-whole-in-Name-Bare.ensures at (c.made.ensures (token.name (Bare c.in-Name-Bare.fun)))))

pub returns-in-Mark-OpenRound : goal.returns-in-Mark-OpenRound
returns-in-Mark-OpenRound g c = λ readings are. answers_by _ _ _ _ _ (c.open.ensures _) (rw c.in-Mark-OpenRound.is (rw (rw c.in-Mark-OpenRound.is at
    c.in-Mark-OpenRound.field-0-is) refl))
