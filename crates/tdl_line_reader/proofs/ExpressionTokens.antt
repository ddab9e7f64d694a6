-- Tokens of expressions that go on, or do not, by what is open and by the spot.
--     marked_list, marked_opening, marked_expr    at a mark
--     opening_mark_other                directly after a `(`, as where an expression begins
--     minus_refused, operator_refused   likewise at a `-` or an operator, where no number or no function may stand alone
--     number_opened                     after a number there
--     pending_after                     after a shift
--     operand_refused                   no operand may begin
use Rattle.std.specs.List.{fold}
use Rattle.std.proofs.Common.{◌≡◌, ℕ, Bool, true, false, ◌==◌, List, [], ◌∷◌, length, refl, sym, ◌∙◌}
use Rattle.std.proofs.lemmas.Bool.{false≢true}
use Rattle.tdl_mini_tree.specs.declared.leaves.Kind.{Kind}
use Rattle.tdl_mini_tree.specs.declared.leaves.Number.{Number}
use Rattle.tdl_command.specs.declared.marks.Operator.{Operator}
use Rattle.tdl_command.specs.declared.marks.Way.{Way}
use Rattle.tdl_command.specs.Tree.{Ratio, Expr}
use Rattle.tdl_mini_tree.specs.Reading.{Reading}
use Rattle.tdl_line_machine.specs.declared.marks.Mark.{Mark}
use Rattle.tdl_line_machine.specs.declared.marks.Mark.TheVariants as mark
use Rattle.tdl_line_machine.specs.declared.names.Name.{Name}
use Rattle.tdl_line_machine.specs.declared.names.Name.TheVariants as name
use Rattle.tdl_line_reader.specs.declared.stages.Frame.{Frame as FrameValue}
use Rattle.tdl_line_reader.specs.declared.tokens.Tok.{Tok}
use Rattle.tdl_line_reader.specs.declared.tokens.Tok.TheVariants as tok
use Rattle.tdl_line_machine.specs.Tokens as token
use Rattle.tdl_line_machine.specs.Machine.Expressions.{may_begin_operand}
use Rattle.tdl_line_machine.specs.Machine.Calls.{may_close_fun}
use Rattle.tdl_line_machine.specs.Machine.Open.{has_funs, has_numbers}
use Rattle.tdl_line_machine.specs.Machine.States.{Core, Frame, Spot, first}
use Rattle.tdl_line_machine.specs.Machine.Functions.{pending_before}
use Rattle.tdl_line_machine.specs.Machine.Expressions.{wanted}
use Rattle.tdl_line_machine.specs.Machine.States.{refused, shifts}
use Rattle.tdl_line_machine.specs.Machine.Lists.{at_list, list_mark}
use Rattle.tdl_line_machine.specs.Machine.Arguments.{opened_mark}
use Rattle.tdl_line_machine.specs.Machine.Functions.{after_shift}
use Rattle.tdl_line_machine.specs.Machine.Expressions.{at_opening, opening_mark, after_expr, expressed_mark, at_end}
use Rattle.tdl_line_machine.specs.Machine.Arguments.{above_mark}
use Rattle.tdl_line_machine.specs.Machine.Expressions.{applied, taken_name}
use Rattle.tdl_line_machine.specs.Machine.Expressions.{section_hole}
use Rattle.tdl_line_machine.specs.Machine.Open.{closed}
use Rattle.tdl_line_reader.specs.ReaderView.{frame_of, frames_of, tok_value}
use Rattle.tdl_line_reader.specs.inside.TakesView.{begins_operand}

-- ---- marks
pub marked_list : {Q : Type 0} (c : Core) (readings : Kind → Reading) (t : Tok Q) (m k : Mark) → t ≡ tok.Mark m → m ≡ k
    → at_list true c (tok_value readings t) ≡ list_mark true c (tok_value readings t) k
marked_list c readings t m k e f = rw (e, f) refl

pub marked_opening : {Q : Type 0} (c : Core) (readings : Kind → Reading) (t : Tok Q) (m k : Mark) → t ≡ tok.Mark m → m ≡ k
    → at_opening true c (tok_value readings t) ≡ opening_mark true c (tok_value readings t) k
marked_opening c readings t m k e f = rw (e, f) refl

pub marked_expr : {Q : Type 0} (c : Core) (x : Expr) (readings : Kind → Reading) (t : Tok Q) (m k : Mark) → t ≡ tok.Mark m → m ≡ k
    → after_expr c (tok_value readings t) x ≡ expressed_mark c (tok_value readings t) x k
marked_expr c x readings t m k e f = rw (e, f) refl

pub ended_expr : {Q : Type 0} (c : Core) (x : Expr) (readings : Kind → Reading) (t : Tok Q) → t ≡ tok.End
    → after_expr c (tok_value readings t) x ≡ at_end c (tok_value readings t) c.frames (applied c.level x)
ended_expr c x readings t e = rw e refl

pub opening_mark_other : (c : Core) (m : Mark) → (m ≡ mark.Minus → has_numbers c.frames ≡ false)
    → ((o : Operator) → m ≡ mark.Operator o → has_funs c.frames ≡ false)
    → opening_mark true c (token.mark m) m ≡ wanted true c (token.mark m) first
opening_mark_other c mark.Minus a b = rw (a refl) refl
opening_mark_other c (mark.Operator o) a b = rw (b o refl) refl
opening_mark_other c m a b = refl

pub section_opening : (c : Core) (t : token.Tok) (o : Operator) → has_funs c.frames ≡ true
    → opening_mark true c t (mark.Operator o) ≡ closed c.frames c t (section_hole t c.depth o)
section_opening c t o e = rw e refl

pub opening_other : {Q : Type 0} (c : Core) (readings : Kind → Reading) (t : Tok Q) → ((m : Mark) → t ≡ tok.Mark m → ⊥) → ((n : Number) → t ≡ tok.Number n → ⊥)
    → at_opening true c (tok_value readings t) ≡ wanted true c (tok_value readings t) first
opening_other c readings (tok.Mark m) a b = absurd (a m refl)
opening_other c readings (tok.Number n) a b = absurd (b n refl)
opening_other c readings t a b = refl

pub opening_marked : {Q : Type 0} (c : Core) (readings : Kind → Reading) (t : Tok Q) (m : Mark) → t ≡ tok.Mark m
    → (m ≡ mark.Minus → has_numbers c.frames ≡ false)
    → ((o : Operator) → m ≡ mark.Operator o → has_funs c.frames ≡ false) → at_opening true c (tok_value readings t) ≡ wanted true c
    (tok_value readings t) first
opening_marked c readings t m e a b = rw e (opening_mark_other c m a b)

pub minus_refused : {Q : Type 0} (c : Core) (readings : Kind → Reading) (t : Tok Q) (m : Mark) → t ≡ tok.Mark m → m ≡ mark.Minus → has_numbers c.frames ≡ false
    → at_opening true c (tok_value readings t) ≡ wanted true c (tok_value readings t) first
minus_refused c readings t m e same none = rw (e, same, none) refl

pub operator_refused : {Q : Type 0} (c : Core) (readings : Kind → Reading) (t : Tok Q) (m : Mark) (o : Operator) → t ≡ tok.Mark m → m ≡ mark.Operator o
    → has_funs c.frames ≡ false → at_opening true c (tok_value readings t) ≡ wanted true c (tok_value readings t) first
operator_refused c readings t m o e same none = rw (e, same, none) refl

pub number_opened : (c : Core) (t : token.Tok) (n : Number) (at : ℕ) (m : Mark) → has_numbers c.frames ≡ true → ((way : Way) → m ≡ mark.Shift way → ⊥)
    → opened_mark true c t n at m ≡ above_mark true c t false n at m
number_opened c t n at (mark.Shift way) e a = absurd (a way refl)
number_opened c t n at m e a = rw e refl

-- ---- after a shift
pub pending_after : {Q : Type 0} (c : Core) (r : Ratio) (way : Way) (readings : Kind → Reading) (t : Tok Q)
    → (t ≡ tok.Mark mark.CloseRound → may_close_fun c ≡ false)
    → after_shift true c (tok_value readings t) r way ≡ pending_before true c (tok_value readings t) (shifts r way)
pending_after c r way readings (tok.Mark mark.CloseRound) a = rw (a refl) refl
pending_after c r way readings (tok.Mark m) a = refl
pending_after c r way readings t a = refl

-- ---- the names of operands
pub operand_refused : (c : Core) (t : token.Tok) (s : Spot) (n : Name) → begins_operand n ≡ true → may_begin_operand c s ≡ false
    → taken_name c t s n ≡ refused c t
operand_refused c t s name.Silence b e = rw e refl
operand_refused c t s (name.Key key) b e = rw e refl
operand_refused c t s (name.List shape) b e = rw e refl
operand_refused c t s name.Timecat b e = rw e refl
operand_refused c t s n b e = cc

-- ---- the end
open_round : (c : Core) (t : token.Tok) (x : Expr) (f : Frame) (outer : List Frame) (frames : List FrameValue)
    → at_end c t (fold (λ before g. frame_of g ∷ before) (f ∷ outer) frames) x ≡ refused c t
open_round c t x f outer [] = refl
open_round c t x f outer (g ∷ frames) = open_round c t x (frame_of g) (f ∷ outer) frames

pub ends_open : (c : Core) (t : token.Tok) (x : Expr) (frames : List FrameValue) (n : ℕ) (none : Bool) → n ≡ length frames → none ≡ (n == 0) → none ≡ false
    → at_end c t (frames_of frames) x ≡ refused c t
ends_open c t x [] n none long is e = absurd (false≢true (sym e ∙ (rw long at is)))
ends_open c t x (f ∷ frames) n none long is e = open_round c t x (frame_of f) [] frames
