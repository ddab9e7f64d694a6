use Rattle.std.proofs.Common.{List, true, sym, ap, ◌∙◌}
use Rattle.tdl_command.specs.declared.tree.Expr.{Expr}
use Rattle.tdl_command.specs.View.{exprs_of}
use Rattle.tdl_command.specs.Tree.{no_expr}
use Rattle.tdl_line_machine.specs.Machine.Lines.{square_mark}
use Rattle.tdl_line_machine.specs.Machine.Open.{opened_to}
use Rattle.tdl_line_machine.specs.Machine.States.{list, list_open}
use Rattle.tdl_line_machine.specs.declared.marks.Mark.TheVariants.{OpenSquare}
use Rattle.tdl_line_reader.specs.ReaderView.{core_of, tok_value}
use Rattle.tdl_line_reader.proofs.Answering.{answers_by}
use Rattle.tdl_line_reader.proofs.OtherTokens.{marked}
use Rattle.tdl_line_reader.proofs.reader.LineTokenReader.take_listing.Goals as goal

pub returns-in-Mark-OpenSquare : goal.returns-in-Mark-OpenSquare
returns-in-Mark-OpenSquare g c = λ readings are. answers_by _ _ _ _ _ (c.open.ensures _)
    ((marked (core_of c.args.self.now) (square_mark true (core_of c.args.self.now) (tok_value readings c.args.tok.now)
    (list c.args.shape no_expr) list_open) readings c.args.tok.now _ OpenSquare c.in-Mark-OpenSquare.is
    (rw c.in-Mark-OpenSquare.is at c.in-Mark-OpenSquare.field-0-is)) ∙ ap (λ (xs : List Expr). opened_to true (core_of c.args.self.now)
    (list c.args.shape (exprs_of xs)) list_open) (sym c.new-exprs.ensures.items))
