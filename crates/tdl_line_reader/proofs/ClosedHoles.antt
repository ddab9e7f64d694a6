-- What a call answers once what is open is closed.
--     closed_by, closed_refused     by what was open
--     setting_refused               no key was to be set
--     after_applied                 likewise after an expression that is whole
--     list_goes_on, list_ends       a list, after an expression; list_refused, next_refused: it is no list
--     part_ends                     a part of `timecat`
use Rattle.std.proofs.Common.{◌≡◌, ℕ, Option, Some, None, Ok, [], ◌∷◌, ◌++◌, Vec, Global, Result, refl, sym, ap, ap₂, ◌∙◌}
use Rattle.tdl_control.specs.declared.keys.Key.{Key}
use Rattle.tdl_mini_tree.specs.declared.leaves.Number.{Number}
use Rattle.tdl_command.specs.declared.names.Shape.{Shape}
use Rattle.tdl_command.specs.declared.tree.Expr.{Expr as ExprValue}
use Rattle.tdl_command.specs.declared.tree.Expr as variant
use Rattle.tdl_command.specs.declared.tree.Part.{Part}
use Rattle.tdl_command.specs.Tree.{Exprs, Parts, further}
use Rattle.tdl_command.specs.Tree as tree
use Rattle.tdl_command.specs.View.{expr_of, exprs_of, parts_of}
use Rattle.tdl_line_reader.specs.declared.faults.Fault.{Fault}
use Rattle.tdl_line_reader.specs.declared.reader.LineTokenReader.{LineTokenReader}
use Rattle.tdl_line_reader.specs.declared.stages.Hole.{Hole}
use Rattle.tdl_line_reader.specs.declared.stages.Hole.TheVariants as hole
use Rattle.tdl_line_reader.specs.declared.stages.Stage.{Stage}
use Rattle.tdl_line_machine.specs.Tokens.{Tok}
use Rattle.tdl_line_machine.specs.Machine as machine
use Rattle.tdl_line_machine.specs.Machine.Expressions.{operand, applied, next_hole, list_hole, part_hole}
use Rattle.tdl_line_machine.specs.Machine.Settings.{setting_hole}
use Rattle.tdl_line_machine.specs.Machine.Open.{closed, reopened}
use Rattle.tdl_line_machine.specs.Machine.States.{Core, Step, refused, list, timecat}
use Rattle.tdl_line_machine.specs.Machine.States.{wanting, first, part_read}
use Rattle.tdl_line_reader.specs.ReaderView.{Agrees, Closes, KeepsOpen, closed_on, core_of, hole_of, level_of}
use Rattle.tdl_line_reader.proofs.Answering.{answers_by}
use Rattle.tdl_line_reader.proofs.KeptOpen.{kept_open}
use Rattle.tdl_line_reader.proofs.ListViews.{list_is, one_more, one_part_more}

pub closed_by : (old mid : LineTokenReader) (o : Option Hole) (k : Hole) (t : Tok) (next : Core → machine.Hole → Step) (step : Step) (new : LineTokenReader)
    (result : Result (Option Stage) Fault) → Closes old mid o → o ≡ Some k → next (core_of mid) (hole_of k) ≡ step → Agrees step t new result
    → Agrees (closed (core_of old).frames (core_of old) t next) t new result
closed_by old mid o k t next step new result is same e a = answers_by _ step t new result a
    (is t next ∙ ap (closed_on (core_of mid) t next) same ∙ e)

pub closed_refused : (old mid : LineTokenReader) (o : Option Hole) (t : Tok) (next : Core → machine.Hole → Step) → Closes old mid o
    → closed_on (core_of mid) t next o ≡ refused (core_of mid) t → Agrees (closed (core_of old).frames (core_of old) t next) t mid (Ok None)
closed_refused old mid o t next is e = record { ok = is t next ∙ e; err = tt }

-- ---- a key that is set to a negative number
pub setting_refused : (t : Tok) (n : Number) (c : Core) (o : Option Hole) → ((key : Key) → o ≡ Some (hole.Setting key) → ⊥)
    → closed_on c t (setting_hole t n) o ≡ refused c t
setting_refused t n c None never = refl
setting_refused t n c (Some (hole.Setting key)) never = absurd (never key refl)
setting_refused t n c (Some h) never = refl

-- ---- after an expression that is whole
pub after_applied : (old kept : LineTokenReader) (t : Tok) (next : Core → machine.Hole → Step) (new : LineTokenReader) (result : Result (Option Stage) Fault)
    → KeepsOpen old kept → Agrees (closed (core_of kept).frames (core_of kept) t next) t new result
    → Agrees (closed (core_of old).frames (core_of old) t next) t new result
after_applied old kept t next new result k a = answers_by _ _ t new result a (kept_open old kept t next k)

-- ---- lists
pub list_refused : (t : Tok) (e : tree.Expr) (c : Core) (o : Option Hole)
    → ((shape : Shape) (exprs : Vec ExprValue Global) → o ≡ Some (hole.List shape exprs) → ⊥) → closed_on c t (list_hole t e) o ≡ refused c t
list_refused t e c None never = refl
list_refused t e c (Some (hole.List shape exprs)) never = absurd (never shape exprs refl)
list_refused t e c (Some h) never = refl

pub next_refused : (t : Tok) (depth : ℕ) (e : tree.Expr) (c : Core) (o : Option Hole)
    → ((shape : Shape) (exprs : Vec ExprValue Global) → o ≡ Some (hole.List shape exprs) → ⊥) → closed_on c t (next_hole t depth e) o ≡ refused c t
next_refused t depth e c None never = refl
next_refused t depth e c (Some (hole.List shape exprs)) never = absurd (never shape exprs refl)
next_refused t depth e c (Some h) never = refl

more_in : (exprs more : Vec ExprValue Global) (x : tree.Expr) (e : ExprValue) → x ≡ expr_of e → more.items ≡ exprs.items ++ e ∷ []
    → further (exprs_of exprs.items) x ≡ exprs_of more.items
more_in exprs more x e same items = ap (further (exprs_of exprs.items)) same ∙ sym (ap exprs_of items ∙ one_more exprs.items e)

pub list_goes_on : (old kept mid : LineTokenReader) (t : Tok) (o : Option Hole) (shape : Shape) (exprs more : Vec ExprValue Global) (x e : ExprValue)
    (new : LineTokenReader) (result : Result (Option Stage) Fault) → KeepsOpen old kept → applied (level_of old.level.items) (expr_of x) ≡ expr_of e
    → Closes kept mid o → o ≡ Some (hole.List shape exprs) → more.items ≡ exprs.items ++ e ∷ []
    → Agrees (reopened kept.depth (core_of mid) (hole_of (hole.List shape more)) (wanting first)) t new result
    → Agrees (closed (core_of old).frames (core_of old) t (next_hole t (core_of old).depth (applied (core_of old).level (expr_of x)))) t new result
list_goes_on old kept mid t o shape exprs more x e new result k same is was items a =
    after_applied old kept t _ new result k (closed_by kept mid o (hole.List shape exprs) t _ _ new result is was
    (ap₂ (λ (d : ℕ) (es : Exprs). reopened d (core_of mid) (list shape es) (wanting first)) (sym k.depth) (more_in exprs more _ e same items)) a)

pub list_ends : (old kept mid : LineTokenReader) (t : Tok) (o : Option Hole) (shape : Shape) (exprs more : Vec ExprValue Global) (x e : ExprValue)
    (new : LineTokenReader) (result : Result (Option Stage) Fault) → KeepsOpen old kept → applied (level_of old.level.items) (expr_of x) ≡ expr_of e
    → Closes kept mid o → o ≡ Some (hole.List shape exprs) → more.items ≡ exprs.items ++ e ∷ []
    → Agrees (operand (core_of mid) (expr_of (variant.List shape more))) t new result
    → Agrees (closed (core_of old).frames (core_of old) t (list_hole t (applied (core_of old).level (expr_of x)))) t new result
list_ends old kept mid t o shape exprs more x e new result k same is was items a =
    after_applied old kept t _ new result k (closed_by kept mid o (hole.List shape exprs) t _ _ new result is was
    (ap (operand (core_of mid)) (ap (tree.list shape) (more_in exprs more _ e same items) ∙ sym (list_is shape more))) a)

-- ---- parts
pub part_ends : (old mid : LineTokenReader) (t : Tok) (o : Option Hole) (parts more : Vec Part Global) (n : Number) (e : ExprValue) (new : LineTokenReader)
    (result : Result (Option Stage) Fault) → Closes old mid o → o ≡ Some (hole.Timecat parts)
    → more.items ≡ parts.items ++ record { weight = n; expr = e } ∷ []
    → Agrees (reopened old.depth (core_of mid) (hole_of (hole.Timecat more)) part_read) t new result
    → Agrees (closed (core_of old).frames (core_of old) t (part_hole t (core_of old).depth n (expr_of e))) t new result
part_ends old mid t o parts more n e new result is was items a =
    closed_by old mid o (hole.Timecat parts) t _ _ new result is was
    (ap (λ (ps : Parts). reopened old.depth (core_of mid) (timecat ps) part_read) (sym (ap parts_of items ∙ one_part_more parts.items _))) a
