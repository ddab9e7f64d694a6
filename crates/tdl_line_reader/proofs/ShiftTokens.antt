-- Tokens after a shift, where what is shifted is pending.
--     shift_closes    a `)`, which closes a bracket round the shift alone
--     shift_taken     the operand begins
--     may_not_close   a `)` does not close the bracket; other_mark, other_token: it is another mark, or none
use Rattle.std.proofs.Common.{◌≡◌, Bool, true, false, List, [], ◌∷◌, ◌++◌, refl, sym, ◌∙◌}
use Rattle.tdl_mini_tree.specs.declared.leaves.Kind.{Kind}
use Rattle.tdl_command.specs.declared.marks.Way.{Way}
use Rattle.tdl_command.specs.declared.tree.Ratio.{Ratio as RatioValue}
use Rattle.tdl_command.specs.Tree.{Ratio, shift}
use Rattle.tdl_mini_tree.specs.Reading.{Reading}
use Rattle.tdl_command.specs.View.{ratio_of}
use Rattle.tdl_line_machine.specs.declared.marks.Mark.{Mark}
use Rattle.tdl_line_machine.specs.declared.marks.Mark.TheVariants.{CloseRound}
use Rattle.tdl_line_reader.specs.declared.reader.LineTokenReader.{LineTokenReader}
use Rattle.tdl_line_reader.specs.declared.stages.Pending.{Pending}
use Rattle.tdl_line_reader.specs.declared.stages.Pending.TheVariants.{Shifted}
use Rattle.tdl_line_reader.specs.declared.tokens.Tok.{Tok}
use Rattle.tdl_line_reader.specs.declared.tokens.Tok.TheVariants as tok
use Rattle.tdl_line_machine.specs.Machine.Functions.{after_shift}
use Rattle.tdl_line_machine.specs.Machine.Expressions.{wanted}
use Rattle.tdl_line_machine.specs.Machine.Calls.{in_hole, may_close_fun}
use Rattle.tdl_line_machine.specs.Machine.Open.{closed, has_exprs}
use Rattle.tdl_line_machine.specs.Machine.States.{Core, at_operand}
use Rattle.tdl_line_reader.specs.ReaderView.{core_of, frames_of, front_of, level_of, tok_value}
use Rattle.tdl_line_reader.proofs.ExpressionTokens.{pending_after}
use Rattle.tdl_line_reader.proofs.Pendings.{operand_taken}

pub shift_closes : {Q : Type 0} (c : Core) (r : Ratio) (way : Way) (readings : Kind → Reading) (t : Tok Q) (m : Mark) → t ≡ tok.Mark m → m ≡ CloseRound
    → may_close_fun c ≡ true
    → after_shift true c (tok_value readings t) r way ≡ closed c.frames c (tok_value readings t) (in_hole (tok_value readings t) (shift r way))
shift_closes c r way readings t m e same may = rw (e, same, may) refl

pub may_not_close : {Q : Type 0} (c : Core) (t : Tok Q) (may : Bool) → may ≡ may_close_fun c → may ≡ false → t ≡ tok.Mark CloseRound → may_close_fun c ≡ false
may_not_close c t may is not_so e = sym is ∙ not_so

same_mark : {Q : Type 0} (a b : Mark) → ◌≡◌ {A = Tok Q} (tok.Mark a) (tok.Mark b) → a ≡ b
same_mark a b same = cc

pub other_mark : {Q : Type 0} (c : Core) (t : Tok Q) (m : Mark) → t ≡ tok.Mark m → (m ≡ CloseRound → ⊥) → t ≡ tok.Mark CloseRound → may_close_fun c ≡ false
other_mark c t m is never e = absurd (never (same_mark m CloseRound (sym is ∙ e)))

pub other_token : {Q : Type 0} (c : Core) (t : Tok Q) → ((m : Mark) → t ≡ tok.Mark m → ⊥) → t ≡ tok.Mark CloseRound → may_close_fun c ≡ false
other_token c t never e = absurd (never CloseRound e)

pub shift_taken : {Q : Type 0} (r : LineTokenReader) (level : List Pending) (by : RatioValue) (way : Way) (readings : Kind → Reading) (t : Tok Q)
    → level ≡ r.level.items ++ Shifted by way ∷ [] → has_exprs (frames_of r.frames.items) ≡ true
    → (t ≡ tok.Mark CloseRound → may_close_fun (core_of r) ≡ false)
    → after_shift true (core_of r) (tok_value readings t) (ratio_of by) way
    ≡ wanted true (record { frames = frames_of r.frames.items; level = level_of level; depth = r.depth; front = front_of r.front; read = r.read })
    (tok_value readings t) at_operand
shift_taken r level by way readings t e may stays =
    pending_after (core_of r) (ratio_of by) way readings t stays ∙ operand_taken r level (Shifted by way) (tok_value readings t) e may
