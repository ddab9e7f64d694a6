-- Tokens with which a step of the machine does not go on, or goes on as another does.
use Rattle.std.proofs.Common.{◌≡◌, true, refl}
use Rattle.tdl_mini_tree.specs.declared.leaves.Kind.{Kind}
use Rattle.tdl_line_machine.specs.declared.marks.Mark.{Mark}
use Rattle.tdl_line_machine.specs.declared.marks.Mark.TheVariants as mark
use Rattle.tdl_line_reader.specs.declared.tokens.Tok.{Tok}
use Rattle.tdl_line_reader.specs.declared.tokens.Tok.TheVariants as tok
use Rattle.tdl_line_machine.specs.Tokens as token
use Rattle.tdl_command.specs.Tree.{Fun}
use Rattle.tdl_mini_tree.specs.Reading.{Reading}
use Rattle.tdl_line_machine.specs.Machine.Expressions.{wanted}
use Rattle.tdl_line_machine.specs.Machine.States.{Core, Step, first, calls, refused}
use Rattle.tdl_line_machine.specs.Machine.Functions.{pending_before}
use Rattle.tdl_line_machine.specs.Machine.Lists.{part_mark}
use Rattle.tdl_line_machine.specs.Machine.Lists.{list_mark, parts_mark}
use Rattle.tdl_line_machine.specs.Machine.Functions.{named_mark}
use Rattle.tdl_line_machine.specs.Machine.Lines.{at_mark}
use Rattle.tdl_line_machine.specs.Machine.Lists.{at_list}
use Rattle.tdl_line_reader.specs.ReaderView.{tok_value}

-- ---- marks
pub list_mark_other : (c : Core) (t : token.Tok) (m : Mark) → (m ≡ mark.CloseSquare → ⊥) → list_mark true c t m ≡ wanted true c t first
list_mark_other c t mark.CloseSquare a = absurd (a refl)
list_mark_other c t m a = refl

pub parts_mark_other : (c : Core) (t : token.Tok) (m : Mark) → (m ≡ mark.CloseSquare → ⊥) → parts_mark true c t m ≡ part_mark true c t m
parts_mark_other c t mark.CloseSquare a = absurd (a refl)
parts_mark_other c t m a = refl

pub named_mark_other : (c : Core) (t : token.Tok) (f : Fun) (m : Mark) → (m ≡ mark.Dot → ⊥) → (m ≡ mark.Dollar → ⊥) → (m ≡ mark.CloseRound → ⊥)
    → named_mark true c t f m ≡ pending_before true c t (calls f)
named_mark_other c t f mark.Dot a b d = absurd (a refl)
named_mark_other c t f mark.Dollar a b d = absurd (b refl)
named_mark_other c t f mark.CloseRound a b d = absurd (d refl)
named_mark_other c t f m a b d = refl

-- ---- tokens
pub marked : {Q : Type 0} (c : Core) (next : Mark → Step) (readings : Kind → Reading) (t : Tok Q) (m k : Mark) → t ≡ tok.Mark m → m ≡ k
    → at_mark c (tok_value readings t) next ≡ next k
marked c next readings t m k e f = rw (e, f) refl

pub at_mark_other : {Q : Type 0} (c : Core) (next : Mark → Step) (readings : Kind → Reading) (t : Tok Q) → ((m : Mark) → t ≡ tok.Mark m → ⊥)
    → at_mark c (tok_value readings t) next ≡ refused c (tok_value readings t)
at_mark_other c next readings (tok.Mark m) a = absurd (a m refl)
at_mark_other c next readings t a = refl

pub at_list_other : {Q : Type 0} (c : Core) (readings : Kind → Reading) (t : Tok Q) → ((m : Mark) → t ≡ tok.Mark m → ⊥)
    → at_list true c (tok_value readings t) ≡ wanted true c (tok_value readings t) first
at_list_other c readings (tok.Mark m) a = absurd (a m refl)
at_list_other c readings t a = refl
