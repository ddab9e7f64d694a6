-- What is pending, and what is taken after it.
--     none_pending        nothing is pending
--     may_close_is        a bracket can be closed after a function alone
--     operand_taken       an operand may begin after something that is pending
use Rattle.std.specs.List.{fold}
use Rattle.std.proofs.Common.{◌≡◌, ℕ, ◌==◌, Bool, true, false, ◌&&◌, List, [], ◌∷◌, ◌++◌, length, refl, ap, sym, ◌∙◌}
use Rattle.std.proofs.Math.Dec.{eqb-suc-zero}
use Rattle.tdl_line_reader.specs.declared.reader.LineTokenReader.{LineTokenReader}
use Rattle.tdl_line_reader.specs.declared.stages.Pending.{Pending}
use Rattle.tdl_line_machine.specs.Tokens.{Tok}
use Rattle.tdl_line_machine.specs.Machine as machine
use Rattle.tdl_line_machine.specs.Machine.Functions.{pending_before}
use Rattle.tdl_line_machine.specs.Machine.Expressions.{wanted}
use Rattle.tdl_line_machine.specs.Machine.Calls.{is_nil, may_close_fun}
use Rattle.tdl_line_machine.specs.Machine.Open.{has_exprs, has_funs}
use Rattle.tdl_line_machine.specs.Machine.States.{at_operand, with_level}
use Rattle.tdl_line_reader.specs.ReaderView.{core_of, frames_of, front_of, level_of, pending_of}
use Rattle.tdl_line_reader.proofs.ReaderFacts.{level_more}

some_pending : (level : List Pending) (p : machine.Pending) (before : List machine.Pending)
    → is_nil (fold (λ b x. pending_of x ∷ b) (p ∷ before) level) ≡ false
some_pending [] p before = refl
some_pending (x ∷ level) p before = some_pending level (pending_of x) (p ∷ before)

pub none_pending : (level : List Pending) (n : ℕ) → n ≡ length level → (n == 0) ≡ is_nil (level_of level)
none_pending [] n e = rw e refl
none_pending (x ∷ level) n e = rw e (eqb-suc-zero (length level) ∙ sym (some_pending level (pending_of x) []))

pub may_close_is : (r : LineTokenReader) (n : ℕ) (funs none : Bool) → n ≡ length r.level.items → none ≡ (n == 0) → funs ≡ has_funs (frames_of r.frames.items)
    → funs ≡ true → none ≡ may_close_fun (core_of r)
may_close_is r n funs none long is has may =
    is ∙ none_pending r.level.items n long ∙ ap (λ (b : Bool). b && is_nil (level_of r.level.items)) (sym may ∙ has)

pub operand_taken : (r : LineTokenReader) (level : List Pending) (p : Pending) (t : Tok) → level ≡ r.level.items ++ p ∷ []
    → has_exprs (frames_of r.frames.items) ≡ true → pending_before true (core_of r) t (pending_of p)
    ≡ wanted true (record { frames = frames_of r.frames.items; level = level_of level; depth = r.depth; front = front_of r.front; read = r.read }) t at_operand
operand_taken r level p t e may =
    rw may (ap (λ (l : List machine.Pending). wanted true (with_level (core_of r) l) t at_operand) (sym (ap level_of e ∙ level_more r.level.items p)))
