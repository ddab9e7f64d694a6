-- Lines, and patterns alone, are read in one way, and each text has a tree or is refused.
--     IsWhole-unique, IsWhole-no_fault, RefusesWhole-unique      a text is read in one way
--     each_whole       each text is read
--     whole_alone      a text with a tree is refused by out of memory alone
--     too_long         a text of too many bytes is refused
use Rattle.std.proofs.Common.{◌≡◌, ℕ, ◌<◌, ◌≤◌, inl, inr, ⊎_elim, List, length, refl, sym, ◌∙◌, subst, arith}
use Rattle.std.proofs.lemmas.Bool.{cases_lt}
use Rattle.tdl_control.specs.declared.faults.Faulted.{Faulted}
use Rattle.tdl_control.specs.declared.faults.Faulted.TheVariants.{NoMemory, At}
use Rattle.tdl_texts.proofs.OneReading.{one_tree, not_both, one_fault}
use Rattle.tdl_texts.proofs.EachText.{decided}
use Rattle.tdl_command.specs.Tree.{Whole}
use Rattle.tdl_line_machine.specs.declared.faults.LineKind.{LineKind}
use Rattle.tdl_line_machine.specs.declared.faults.LineKind.TheVariants.{LineTooLong}
use Rattle.tdl_line_machine.specs.declared.goals.Goal.{Goal}
use Rattle.tdl_line_grammar.proofs.LineMachine.{line_machine, is_exact}
use Rattle.tdl_line_texts.specs.Limits.{max_line}
use Rattle.tdl_line_texts.specs.Texts.{line_texts, IsWhole, RefusesWhole, IsDecided}
use Rattle.tdl_line_texts.proofs.LineTokens.{fits}

never_long : (text : List ℕ) → length text ≤ max_line → max_line < length text → ⊥
never_long text a b = omega arith

pub IsWhole-unique : (goal : Goal) (text : List ℕ) (a b : Whole) → IsWhole goal text a → IsWhole goal text b → a ≡ b
IsWhole-unique goal text a b h k = one_tree (line_texts goal) (line_machine goal) (is_exact goal) (fits goal) text a b h.written k.written

pub IsWhole-no_fault : (goal : Goal) (text : List ℕ) (w : Whole) (kind : LineKind) (at : ℕ) → IsWhole goal text w → RefusesWhole goal text (At kind at) → ⊥
IsWhole-no_fault goal text w kind at h (inl k) = never_long text h.short k.0
IsWhole-no_fault goal text w kind at h (inr k) = not_both (line_texts goal) (line_machine goal) (is_exact goal) (fits goal) text w kind at h.written k.1

pub RefusesWhole-unique : (goal : Goal) (text : List ℕ) (k l : LineKind) (m n : ℕ) → RefusesWhole goal text (At k m) → RefusesWhole goal text (At l n)
    → (k ≡ l) × (m ≡ n)
RefusesWhole-unique goal text k l m n (inl h) (inl j) = (h.1 ∙ sym j.1, h.2 ∙ sym j.2)
RefusesWhole-unique goal text k l m n (inl h) (inr j) = absurd (never_long text j.0 h.0)
RefusesWhole-unique goal text k l m n (inr h) (inl j) = absurd (never_long text h.0 j.0)
RefusesWhole-unique goal text k l m n (inr h) (inr j) = one_fault (line_texts goal) (line_machine goal) (is_exact goal) (fits goal) text k l m n h.1 j.1

-- ---- each text
short_decided : (goal : Goal) (text : List ℕ) → length text ≤ max_line → IsDecided goal text
short_decided goal text short =
    ⊎_elim
    (λ read. inl (read.0, record { short = short; written = read.1 }))
    (λ fault. inr (fault.0, fault.1, inr (short, fault.2)))
    (decided (line_texts goal) (line_machine goal) (is_exact goal) (fits goal) text)

pub each_whole : (goal : Goal) (text : List ℕ) → IsDecided goal text
each_whole goal text = ⊎_elim (λ long. inr (LineTooLong, max_line, inl (long, refl, refl))) (short_decided goal text) (cases_lt max_line (length text))

-- ---- what a reader may answer
pub whole_alone : (goal : Goal) (text : List ℕ) (w : Whole) (f : Faulted LineKind) → IsWhole goal text w → RefusesWhole goal text f → f ≡ NoMemory
whole_alone goal text w NoMemory h refused = refl
whole_alone goal text w (At kind at) h refused = absurd (IsWhole-no_fault goal text w kind at h refused)

pub too_long : (goal : Goal) (text : List ℕ) (f : Faulted LineKind) → (max_line < length text) × (f ≡ At LineTooLong max_line) → RefusesWhole goal text f
too_long goal text f h = subst (RefusesWhole goal text) (sym h.1) (inl (h.0, refl, refl))
