use Rattle.std.proofs.Common.{rules, sym, ◌∙◌}
use Rattle.tdl_command.specs.View.{fun_of}
use Rattle.tdl_line_reader.specs.declared.stages.Pending.TheVariants.{Called}
use Rattle.tdl_line_reader.specs.ReaderView.{core_of, tok_value}
use Rattle.tdl_line_reader.proofs.Answering.{answers_by}
use Rattle.tdl_line_reader.proofs.FunTokens.{named_as_fun, named_marked_other, named_unmarked}
use Rattle.tdl_line_reader.proofs.Pendings.{operand_taken}
use Rattle.tdl_line_reader.proofs.reader.LineTokenReader.take_named.Goals.{in_default-via-in-Mark+in_default, in_default-via-in_default}
use Rattle.tdl_line_reader.proofs.reader.LineTokenReader.take_named.Goals as goal

pub returns-in-Mark-Dot : goal.returns-in-Mark-Dot
returns-in-Mark-Dot g c = λ readings are. answers_by _ _ _ _ _ (c.take_chained.ensures readings are)
    (named_as_fun (core_of c.args.self.now) (fun_of c.args.fun.value) readings c.args.tok.now c.in-Mark-Dot.field-0 c.in-Mark-Dot.is (search rules)
    (search rules) (search rules) (search rules) (search rules) (search rules) (search rules) (search rules))

pub returns-in_ok-push-in_default : goal.returns-in_ok-push-in_default
returns-in_ok-push-in_default g c = λ readings are.
    let r = c.args.self.now in
    let f = fun_of c.args.fun.value in
    let taken = operand_taken r c.push.new.self.items (Called c.args.fun) (tok_value readings c.args.tok.now) c.in_ok-push-in_default.ensures.items
    (sym c.has_exprs.ensures ∙ c.if-has_exprs.true) in
    elim c.in_default.branch [
      | in_default-via-in-Mark+in_default w ↦ answers_by _ _ _ _ _ (c.take_wanted.ensures readings are)
          (named_marked_other (core_of r) f readings c.args.tok.now w.in_default.field-0 w.in_default.is (search rules) (search rules) (search rules) ∙ taken)
      | in_default-via-in_default w ↦ answers_by _ _ _ _ _ (c.take_wanted.ensures readings are)
          (named_unmarked (core_of r) f readings c.args.tok.now (search rules) ∙ taken)
    ]
