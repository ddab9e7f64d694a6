-- What is refused of a pattern.
--     pattern_refused     an expression; sounds_refused: a text of sounds
--     pattern_alone       a pattern is refused by out of memory alone
--     has_quote           a search for a `"` finds whether there is one
use Rattle.std.proofs.Common.{◌≡◌, ℕ, ◌≤◌, inl, inr, Bool, List, length, refl, arith, eqb, Decides}
use Rattle.std.specs.Prelude.{Contains}
use Rattle.std.specs.List.{IsAnyAnswer}
use Rattle.std.proofs.lemmas.Bool.Decides.{Decides-eqb}
use Rattle.std.proofs.lemmas.List.Elements.{contains_decides, Decides-contains}
use Rattle.tdl_control.specs.declared.faults.Faulted.{Faulted}
use Rattle.tdl_control.specs.declared.faults.Faulted.TheVariants.{NoMemory, At}
use Rattle.tdl_mini_tree.specs.declared.faults.MiniKind.{MiniKind}
use Rattle.tdl_mini_tree.specs.declared.leaves.Kind.TheVariants.{Sound}
use Rattle.tdl_mini_grammar.specs.Texts.{Refuses}
use Rattle.tdl_mini_tree.specs.Tree.{Layers}
use Rattle.tdl_mini_grammar.proofs.TextsRead.{IsMini-no_fault}
use Rattle.tdl_line_machine.specs.declared.faults.LineKind.{LineKind}
use Rattle.tdl_line_machine.specs.declared.faults.LineKind.TheVariants.{Mini}
use Rattle.tdl_line_machine.specs.declared.goals.Goal.TheVariants.{Pattern as a_pattern}
use Rattle.tdl_line_texts.specs.Limits.{max_line}
use Rattle.tdl_line_texts.specs.Texts.{IsPattern, RefusesPattern, RefusesSounds, RefusesWhole}
use Rattle.tdl_command.specs.Tree.{PatternTree, sounds, expression}
use Rattle.tdl_command.specs.Tree.{pattern}
use Rattle.tdl_line_texts.proofs.LinesRead.{IsWhole-no_fault}

pub pattern_refused : (text : List ℕ) (f : Faulted LineKind) → Contains text 34 → RefusesWhole a_pattern text f → RefusesPattern text f
pattern_refused text NoMemory quoted h = tt
pattern_refused text (At kind at) quoted (inl long) = inl long
pattern_refused text (At kind at) quoted (inr h) = inr (inr (quoted, h.0, h.1))

pub sounds_refused : (text : List ℕ) (k : MiniKind) (at : ℕ) → length text ≤ max_line → (Contains text 34 → ⊥) → Refuses Sound text (At k at)
    → RefusesPattern text (At (Mini k) at)
sounds_refused text k at short none h = inr (inl (short, none, h))

-- a text of sounds has no `"`, and no fault if it is read
plain_sounds : (text : List ℕ) (kind : LineKind) (at : ℕ) → RefusesSounds text kind at → Contains text 34 → ⊥
plain_sounds text (Mini k) at h quoted = h.1 quoted
plain_sounds text _ at h quoted = h

read_sounds : (text : List ℕ) (ls : Layers) (kind : LineKind) (at : ℕ) → IsPattern text (sounds ls) → RefusesSounds text kind at → ⊥
read_sounds text ls (Mini k) at is h = IsMini-no_fault Sound text ls k at is.2 h.2
read_sounds text ls _ at is h = h

never_refused : (text : List ℕ) (p : PatternTree) (kind : LineKind) (at : ℕ) → IsPattern text p → RefusesPattern text (At kind at) → ⊥
never_refused text (sounds ls) kind at is (inl long) = omega (arith, is.0, long.0)
never_refused text (sounds ls) kind at is (inr (inl h)) = read_sounds text ls kind at is h
never_refused text (sounds ls) kind at is (inr (inr h)) = is.1 h.0
never_refused text (expression e) kind at is (inl long) = omega (arith, is.1.short, long.0)
never_refused text (expression e) kind at is (inr (inl h)) = plain_sounds text kind at h is.0
never_refused text (expression e) kind at is (inr (inr h)) = IsWhole-no_fault a_pattern text (pattern e) kind at is.1 (inr (h.1, h.2))

pub pattern_alone : (text : List ℕ) (f : Faulted LineKind) → RefusesPattern text f → (p : PatternTree) → IsPattern text p → f ≡ NoMemory
pattern_alone text NoMemory h p is = refl
pattern_alone text (At kind at) h p is = absurd (never_refused text p kind at is h)

pub has_quote : (text : List ℕ) (r : Bool) → IsAnyAnswer (λ (byte : ℕ) (t : Bool). eqb byte 34 ≡ t) text r → Decides r (Contains text 34)
has_quote text r h = Decides-contains text 34 r (contains_decides eqb Decides-eqb text 34 r h)
