-- What a call answers once the bracket round a whole expression is closed.
--     ends_alone      the expression stands alone in it; round_ends: so it may
--     ends_section    it is the operand of a section
--     ends_part       it is a part of `timecat`
--     ends_nothing    no expression ends in what was open; expr_refused: so it is
use Rattle.std.proofs.Common.{◌≡◌, Box, Global, Option, Some, None, Ok, Result, refl, sym, ap, ◌∙◌}
use Rattle.tdl_mini_tree.specs.declared.leaves.Number.{Number}
use Rattle.tdl_command.specs.declared.marks.Operator.{Operator}
use Rattle.tdl_command.specs.declared.tree.Expr.{Expr as ExprValue}
use Rattle.tdl_command.specs.declared.tree.Fun.{Fun as FunValue}
use Rattle.tdl_command.specs.Tree as tree
use Rattle.tdl_command.specs.View.{expr_of}
use Rattle.tdl_line_reader.specs.declared.faults.Fault.{Fault}
use Rattle.tdl_line_reader.specs.declared.reader.LineTokenReader.{LineTokenReader}
use Rattle.tdl_line_reader.specs.declared.stages.Hole.{Hole}
use Rattle.tdl_line_reader.specs.declared.stages.Hole.TheVariants as hole
use Rattle.tdl_line_reader.specs.declared.stages.Bracketed.{Bracketed}
use Rattle.tdl_line_reader.specs.declared.stages.Bracketed.TheVariants as round
use Rattle.tdl_line_reader.specs.declared.stages.Spot.{Spot}
use Rattle.tdl_line_reader.specs.declared.stages.FunCall.{FunCall}
use Rattle.tdl_line_reader.specs.declared.stages.Stage.{Stage}
use Rattle.tdl_line_machine.specs.Tokens.{Tok}
use Rattle.tdl_line_machine.specs.Machine as machine
use Rattle.tdl_line_machine.specs.Machine.Expressions.{applied, expr_hole, operand, part_hole}
use Rattle.tdl_line_machine.specs.Machine.Open.{closed}
use Rattle.tdl_line_machine.specs.Machine.States.{Core, Step, refused}
use Rattle.tdl_line_reader.specs.ReaderView.{Agrees, Closes, KeepsOpen, closed_on, core_of, hole_of, level_of, round_of}
use Rattle.tdl_line_reader.proofs.ClosedHoles.{after_applied, closed_by, closed_refused}

-- by what was open
ends_in : (old kept mid : LineTokenReader) (t : Tok) (o : Option Hole) (k : Hole) (x e : ExprValue) (step : Step) (new : LineTokenReader) (result : Result
    (Option Stage) Fault)
    → KeepsOpen old kept → applied (level_of old.level.items) (expr_of x) ≡ expr_of e → Closes kept mid o → o ≡ Some k
    → expr_hole t (expr_of e) (core_of mid) (hole_of k) ≡ step → Agrees step t new result
    → Agrees (closed (core_of old).frames (core_of old) t (expr_hole t (applied (core_of old).level (expr_of x)))) t new result
ends_in old kept mid t o k x e step new result keeps same is was to a =
    after_applied old kept t _ new result keeps (closed_by kept mid o k t _ step new result is was
    (ap (λ (y : tree.Expr). expr_hole t y (core_of mid) (hole_of k)) same ∙ to) a)

pub round_ends : (t : Tok) (e : tree.Expr) (c : Core) (r : Bracketed) → (r ≡ round.FunOrNumber → ⊥) → ((f : Box FunValue Global) → r ≡ round.FunAfter f → ⊥)
    → ((s : Spot) (call : FunCall) → r ≡ round.Argument s call → ⊥) → expr_hole t e c (hole_of (hole.Bracketed r)) ≡ operand c (tree.inside e)
round_ends t e c round.Anything no_fun no_chain no_argument = refl
round_ends t e c round.ExprOrNumber no_fun no_chain no_argument = refl
round_ends t e c round.FunOrNumber no_fun no_chain no_argument = absurd (no_fun refl)
round_ends t e c (round.FunAfter f) no_fun no_chain no_argument = absurd (no_chain f refl)
round_ends t e c (round.Argument s call) no_fun no_chain no_argument = absurd (no_argument s call refl)

pub ends_alone : (old kept mid : LineTokenReader) (t : Tok) (o : Option Hole) (r : Bracketed) (x e : ExprValue) (whole : tree.Expr) (new : LineTokenReader)
    (result : Result (Option Stage) Fault) → KeepsOpen old kept → applied (level_of old.level.items) (expr_of x) ≡ expr_of e → Closes kept mid o
    → o ≡ Some (hole.Bracketed r) → expr_hole t (expr_of e) (core_of mid) (hole_of (hole.Bracketed r)) ≡ operand (core_of mid) (tree.inside (expr_of e))
    → whole ≡ tree.inside (expr_of e) → Agrees (operand (core_of mid) whole) t new result
    → Agrees (closed (core_of old).frames (core_of old) t (expr_hole t (applied (core_of old).level (expr_of x)))) t new result
ends_alone old kept mid t o r x e whole new result keeps same is was to stands a =
    ends_in old kept mid t o (hole.Bracketed r) x e _ new result keeps same is was (to ∙ ap (operand (core_of mid)) (sym stands)) a

pub ends_section : (old kept mid : LineTokenReader) (t : Tok) (o : Option Hole) (r : Bracketed) (operator : Operator) (x e : ExprValue) (f : tree.Fun)
    (new : LineTokenReader) (result : Result (Option Stage) Fault) → KeepsOpen old kept → applied (level_of old.level.items) (expr_of x) ≡ expr_of e
    → Closes kept mid o → o ≡ Some (hole.Section r operator) → f ≡ tree.section operator (expr_of e)
    → Agrees (machine.in_round (core_of mid) t (round_of r) f) t new result
    → Agrees (closed (core_of old).frames (core_of old) t (expr_hole t (applied (core_of old).level (expr_of x)))) t new result
ends_section old kept mid t o r operator x e f new result keeps same is was whole a =
    ends_in old kept mid t o (hole.Section r operator) x e _ new result keeps same is was
    (ap (machine.in_round (core_of mid) t (round_of r)) (sym whole)) a

pub ends_part : (old kept mid : LineTokenReader) (t : Tok) (o : Option Hole) (n : Number) (x e : ExprValue) (new : LineTokenReader)
    (result : Result (Option Stage) Fault) → KeepsOpen old kept → applied (level_of old.level.items) (expr_of x) ≡ expr_of e → Closes kept mid o
    → o ≡ Some (hole.Weighed n)
    → Agrees (closed (core_of mid).frames (core_of mid) t (part_hole t (core_of mid).depth n (expr_of e))) t new result
    → Agrees (closed (core_of old).frames (core_of old) t (expr_hole t (applied (core_of old).level (expr_of x)))) t new result
ends_part old kept mid t o n x e new result keeps same is was a =
    ends_in old kept mid t o (hole.Weighed n) x e _ new result keeps same is was refl a

-- no expression ends in what was open
pub ends_nothing : (old kept mid : LineTokenReader) (t : Tok) (o : Option Hole) (x e : ExprValue) → KeepsOpen old kept
    → applied (level_of old.level.items) (expr_of x) ≡ expr_of e → Closes kept mid o
    → closed_on (core_of mid) t (expr_hole t (expr_of e)) o ≡ refused (core_of mid) t
    → Agrees (closed (core_of old).frames (core_of old) t (expr_hole t (applied (core_of old).level (expr_of x)))) t mid (Ok None)
ends_nothing old kept mid t o x e keeps same is other = after_applied old kept t _ mid (Ok None) keeps
    (closed_refused kept mid o t _ is (ap (λ (y : tree.Expr). closed_on (core_of mid) t (expr_hole t y) o) same ∙ other))

pub expr_refused : (t : Tok) (e : tree.Expr) (c : Core) (o : Option Hole) → (o ≡ Some (hole.Bracketed round.Anything) → ⊥)
    → (o ≡ Some (hole.Bracketed round.ExprOrNumber) → ⊥) → ((r : Bracketed) (operator : Operator) → o ≡ Some (hole.Section r operator) → ⊥)
    → ((n : Number) → o ≡ Some (hole.Weighed n) → ⊥) → closed_on c t (expr_hole t e) o ≡ refused c t
expr_refused t e c None any expr section part = refl
expr_refused t e c (Some (hole.Bracketed round.Anything)) any expr section part = absurd (any refl)
expr_refused t e c (Some (hole.Bracketed round.ExprOrNumber)) any expr section part = absurd (expr refl)
expr_refused t e c (Some (hole.Section r operator)) any expr section part = absurd (section r operator refl)
expr_refused t e c (Some (hole.Weighed n)) any expr section part = absurd (part n refl)
expr_refused t e c (Some h) any expr section part = refl
