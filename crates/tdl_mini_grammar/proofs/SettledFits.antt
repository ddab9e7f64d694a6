-- Settling changes the tree, and not what is spelled.
--     Settles          a state between elements that spells what another does, in the same brackets
--     settled_fits     a settled state is one
use Rattle.std.proofs.Common.{◌≡◌, ℕ, true, false, Some, None, List, ◌++◌, length, refl, ◌∙◌, append_assoc, append-nil}
use Rattle.tdl_mini_tree.specs.declared.leaves.Bracket.{Bracket}
use Rattle.tdl_mini_tree.specs.declared.leaves.Bracket.TheVariants.{Brace}
use Rattle.tdl_mini_tree.specs.declared.leaves.Kind.{Kind}
use Rattle.tdl_mini_machine.specs.Tokens.{Tok}
use Rattle.tdl_mini_grammar.proofs.Terminals.{spell_element, spell_step, spell_operand}
use Rattle.tdl_mini_grammar.specs.Grammar.{FormedElement, FormedStep, FormedOperand, MayFollow, IsBracketed}
use Rattle.tdl_mini_tree.specs.Tree as tree
use Rattle.tdl_mini_machine.specs.Machine.States.{Role, term, faster, slower, Stage, ready, voiced, sampling, numbered, ranging, braced, wanting, stepping}
use Rattle.tdl_mini_machine.specs.Machine.States.{weighing, weighted, repeating, ended, Level, Frame, State, step_by_role, at_place}
use Rattle.tdl_mini_machine.specs.Machine.Settling.{settled, grown}
use Rattle.tdl_mini_machine.proofs.Keeping.{state, Keeps}
use Rattle.tdl_mini_grammar.proofs.Spelled.{spell_role, role_kind, spelled, FitRole, Fit, IsUncounted}

pub record Settles (outer : Kind) (s f : State) : Type 0 where
  pub same : spelled f ≡ spelled s
  pub between : f.stage ≡ ready
  pub fit : Fit outer f

-- ---- operands
pub spell-step_by_role : (kind : Kind) (role : Role) (o : tree.Operand)
    → spell_step kind (step_by_role role o) ≡ spell_role kind role ++ spell_operand (role_kind kind role) o
spell-step_by_role kind term o = refl
spell-step_by_role kind (faster s) o = simp append_assoc
spell-step_by_role kind (slower s) o = simp append_assoc

abbrev pub IsTaken : Role → tree.Operand → Type 0
IsTaken term o = IsBracketed o
IsTaken (faster s) o = Unit {0}
IsTaken (slower s) o = Unit {0}

pub step_by_role_formed : (kind : Kind) (depth : ℕ) (role : Role) (o : tree.Operand) → FitRole kind depth role → IsTaken role o
    → FormedOperand (role_kind kind role) depth o → FormedStep kind depth (step_by_role role o)
step_by_role_formed kind depth term o h taken formed = (taken, formed)
step_by_role_formed kind depth (faster s) o h taken formed = (h, formed)
step_by_role_formed kind depth (slower s) o h taken formed = (h, formed)

pub nested_taken : (role : Role) (bs : tree.Braces) (b : Bracket) (ls : tree.Layers) → IsTaken role (tree.nested bs b ls)
nested_taken term bs b ls = tt
nested_taken (faster s) bs b ls = tt
nested_taken (slower s) bs b ls = tt

-- ---- growth
grown_spells : (s : State) (e : tree.Element) → spelled (grown s e) ≡ spelled (at_place s ready) ++ spell_element s.level.kind s.level.groups s.level.group e
grown_spells s e = simp append_assoc

grown_fits : (outer : Kind) (s : State) (e : tree.Element) → Fit outer s → MayFollow s.level.group e → FormedElement s.level.kind (length s.frames) e
    → Fit outer (grown s e)
grown_fits outer s e h may formed = record { frames = h.frames; level = (h.level.0, h.level.1, (h.level.2, may, formed)); stage = tt }

grown_settles : (outer : Kind) (s : State) (e : tree.Element) → Fit outer s
    → spelled (at_place s ready) ++ spell_element s.level.kind s.level.groups s.level.group e ≡ spelled s
    → MayFollow s.level.group e → FormedElement s.level.kind (length s.frames) e → Settles outer s (grown s e)
grown_settles outer s e h same may formed = record { same = grown_spells s e ∙ same; between = refl; fit = grown_fits outer s e h may formed }

uncounted_follows : (g : tree.Group) → IsUncounted g → MayFollow g tree.repeat
uncounted_follows (tree.element g e) h = tt
uncounted_follows tree.no_element h = h

pub settled_in : (outer : Kind) (frames : List Frame) (l : Level) (n : ℕ) (t : Tok) (p : Stage) → Fit outer (state frames l p n)
    → Keeps (Settles outer (state frames l p n)) (settled false (state frames l p n) t)
settled_in outer frames l n t ready h = record { same = refl; between = refl; fit = h }
settled_in outer frames l n t (voiced text) h = grown_settles outer (state frames l (voiced text) n)
    (tree.played (tree.begins (tree.value (tree.sound text None))) None None) h (simp append_assoc) tt tt
settled_in outer frames l n t (sampling text) h = tt
settled_in outer frames l n t (numbered x) h = grown_settles outer (state frames l (numbered x) n)
    (tree.played (tree.begins (tree.value (tree.number x))) None None) h (simp append_assoc) tt tt
settled_in outer frames l n t (ranging a) h = tt
settled_in outer frames l n t (braced role bs ls) h =
    grown_settles outer (state frames l (braced role bs ls) n) (tree.played (step_by_role role (tree.nested bs Brace ls)) None None) h
    (simp (append_assoc, append-nil, spell-step_by_role))
    tt
    (step_by_role_formed l.kind (length frames) role (tree.nested bs Brace ls) h.stage.0 (nested_taken role bs Brace ls)
    (h.stage.1, h.stage.2, h.stage.3, h.stage.4))
settled_in outer frames l n t (wanting role bs) h = tt
settled_in outer frames l n t (stepping s) h = grown_settles outer (state frames l (stepping s) n) (tree.played s None None) h
    (simp (append_assoc, append-nil)) tt h.stage
settled_in outer frames l n t (weighing s) h = tt
settled_in outer frames l n t (weighted s x) h = grown_settles outer (state frames l (weighted s x) n) (tree.played s (Some x) None) h
    (simp (append_assoc, append-nil)) tt h.stage
settled_in outer frames l n t (repeating true) h = grown_settles outer (state frames l (repeating true) n) tree.repeat h (simp append_assoc)
    (uncounted_follows l.group h.stage) tt
settled_in outer frames l n t (repeating false) h = grown_settles outer (state frames l (repeating false) n) tree.repeat h (simp append_assoc) h.stage tt
settled_in outer frames l n t ended h = tt

pub settled_fits : (outer : Kind) (s : State) (t : Tok) → Fit outer s → Keeps (Settles outer s) (settled false s t)
settled_fits outer s t h = settled_in outer s.frames s.level s.read t s.stage h
