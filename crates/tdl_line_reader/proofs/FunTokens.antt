-- Tokens after a function.
--     marked_fun                            at a mark
--     named_as_fun                          after a named function as after any other: at `.`, `$` and `)`
--     named_marked_other, named_unmarked    any other token after a named function
--     fun_closes                            `)`, where a bracket can be closed
use Rattle.std.proofs.Common.{◌≡◌, true, refl}
use Rattle.tdl_mini_tree.specs.declared.leaves.Kind.{Kind}
use Rattle.tdl_command.specs.declared.marks.Operator.{Operator}
use Rattle.tdl_command.specs.declared.marks.Way.{Way}
use Rattle.tdl_line_machine.specs.declared.marks.Mark.{Mark}
use Rattle.tdl_line_machine.specs.declared.marks.Mark.TheVariants as mark
use Rattle.tdl_line_reader.specs.declared.tokens.Tok.{Tok}
use Rattle.tdl_line_reader.specs.declared.tokens.Tok.TheVariants as tok
use Rattle.tdl_line_machine.specs.Tokens as token
use Rattle.tdl_command.specs.Tree.{Fun, paren}
use Rattle.tdl_mini_tree.specs.Reading.{Reading}
use Rattle.tdl_line_machine.specs.Machine.Functions.{after_fun, after_named, chained_mark}
use Rattle.tdl_line_machine.specs.Machine.Calls.{in_hole, may_close_fun}
use Rattle.tdl_line_machine.specs.Machine.Open.{closed}
use Rattle.tdl_line_machine.specs.Machine.States.{Core, calls}
use Rattle.tdl_line_machine.specs.Machine.Functions.{named_mark, pending_before}
use Rattle.tdl_line_reader.specs.ReaderView.{tok_value}
use Rattle.tdl_line_reader.proofs.OtherTokens.{named_mark_other}

pub marked_fun : {Q : Type 0} (c : Core) (f : Fun) (readings : Kind → Reading) (t : Tok Q) (m k : Mark) → t ≡ tok.Mark m → m ≡ k
    → after_fun c (tok_value readings t) f ≡ chained_mark c (tok_value readings t) f k
marked_fun c f readings t m k e same = rw (e, same) refl

-- ---- a named function
as_fun : (c : Core) (t : token.Tok) (f : Fun) (m : Mark) → (m ≡ mark.OpenRound → ⊥) → (m ≡ mark.OpenSquare → ⊥) → (m ≡ mark.CloseSquare → ⊥)
    → (m ≡ mark.Comma → ⊥) → (m ≡ mark.Slash → ⊥) → (m ≡ mark.Minus → ⊥) → ((way : Way) → m ≡ mark.Shift way → ⊥)
    → ((o : Operator) → m ≡ mark.Operator o → ⊥) → named_mark true c t f m ≡ chained_mark c t f m
as_fun c t f mark.OpenRound a b d e g h i j = absurd (a refl)
as_fun c t f mark.OpenSquare a b d e g h i j = absurd (b refl)
as_fun c t f mark.CloseSquare a b d e g h i j = absurd (d refl)
as_fun c t f mark.Comma a b d e g h i j = absurd (e refl)
as_fun c t f mark.Slash a b d e g h i j = absurd (g refl)
as_fun c t f mark.Minus a b d e g h i j = absurd (h refl)
as_fun c t f (mark.Shift way) a b d e g h i j = absurd (i way refl)
as_fun c t f (mark.Operator o) a b d e g h i j = absurd (j o refl)
as_fun c t f m a b d e g h i j = refl

pub named_as_fun : {Q : Type 0} (c : Core) (f : Fun) (readings : Kind → Reading) (t : Tok Q) (m : Mark) → t ≡ tok.Mark m → (m ≡ mark.OpenRound → ⊥)
    → (m ≡ mark.OpenSquare → ⊥) → (m ≡ mark.CloseSquare → ⊥) → (m ≡ mark.Comma → ⊥) → (m ≡ mark.Slash → ⊥) → (m ≡ mark.Minus → ⊥)
    → ((way : Way) → m ≡ mark.Shift way → ⊥) → ((o : Operator) → m ≡ mark.Operator o → ⊥)
    → after_named true c (tok_value readings t) f ≡ after_fun c (tok_value readings t) f
named_as_fun c f readings t m same a b d e g h i j = rw same (as_fun c (token.mark m) f m a b d e g h i j)

pub named_marked_other : {Q : Type 0} (c : Core) (f : Fun) (readings : Kind → Reading) (t : Tok Q) (m : Mark) → t ≡ tok.Mark m → (m ≡ mark.Dot → ⊥)
    → (m ≡ mark.Dollar → ⊥)
    → (m ≡ mark.CloseRound → ⊥) → after_named true c (tok_value readings t) f ≡ pending_before true c (tok_value readings t) (calls f)
named_marked_other c f readings t m e a b d = rw e (named_mark_other c (token.mark m) f m a b d)

pub named_unmarked : {Q : Type 0} (c : Core) (f : Fun) (readings : Kind → Reading) (t : Tok Q) → ((m : Mark) → t ≡ tok.Mark m → ⊥)
    → after_named true c (tok_value readings t) f ≡ pending_before true c (tok_value readings t) (calls f)
named_unmarked c f readings (tok.Mark m) a = absurd (a m refl)
named_unmarked c f readings t a = refl

-- ---- `)`
pub fun_closes : (c : Core) (f : Fun) (t : token.Tok) → may_close_fun c ≡ true → chained_mark c t f mark.CloseRound ≡ closed c.frames c t (in_hole t (paren f))
fun_closes c f t may = rw may refl
