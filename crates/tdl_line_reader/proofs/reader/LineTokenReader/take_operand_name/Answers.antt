use Rattle.std.proofs.Common.{◌≡◌, true, refl, sym, ◌∙◌}
use Rattle.tdl_command.specs.Tree.{silence}
use Rattle.tdl_line_machine.specs.declared.names.Name.{Name}
use Rattle.tdl_line_machine.specs.declared.names.Name.TheVariants.{Silence}
use Rattle.tdl_line_machine.specs.Tokens.{Tok}
use Rattle.tdl_line_machine.specs.Machine.Expressions.{may_begin_operand, operand, taken_name}
use Rattle.tdl_line_machine.specs.Machine.States.{Core, Spot}
use Rattle.tdl_line_reader.specs.ReaderView.{core_of, spot_of}
use Rattle.tdl_line_reader.proofs.Answering.{answers_by, refuses}
use Rattle.tdl_line_reader.proofs.ExpressionTokens.{operand_refused}
use Rattle.tdl_line_reader.proofs.reader.LineTokenReader.take_operand_name.Goals as goal

silence_taken : (c : Core) (t : Tok) (s : Spot) (n : Name) → n ≡ Silence → may_begin_operand c s ≡ true → taken_name c t s n ≡ operand c silence
silence_taken c t s n e may = rw (e, may) refl

pub returns-then-not-may_begin_operand : goal.returns-then-not-may_begin_operand
returns-then-not-may_begin_operand c = λ t. refuses _ t _
    (operand_refused (core_of c.args.self.now) t (spot_of c.args.spot) c.args.name c.requires
    (sym c.may_begin_operand.ensures ∙ c.if-not-may_begin_operand.true))

pub returns-in-Silence : goal.returns-in-Silence
returns-in-Silence c = λ t. answers_by _ _ _ _ _ (c.operand.ensures t)
    (silence_taken (core_of c.args.self.now) t (spot_of c.args.spot) c.args.name c.in-Silence.is
    (sym c.may_begin_operand.ensures ∙ c.if-not-may_begin_operand.false))
