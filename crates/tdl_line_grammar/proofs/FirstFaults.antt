-- What the machine finds of tokens.
--     fault_found             where it stops is their first fault; text_found: where it ends they are a text
--     one_first_fault, text_without_fault, one_reading      they have one tree at most, or one first fault
use Rattle.std.proofs.Common.{◌≡◌, true, Ok, Err, List, [], ◌∷◌, ◌++◌}
use Rattle.tdl_grammar.specs.Faults.{IsText, IsFault}
use Rattle.tdl_grammar.specs.Machine.{Stop, stop_kind, stop_at, run}
use Rattle.tdl_grammar.proofs.FirstFault as first
use Rattle.tdl_grammar.proofs.OneFault as one
use Rattle.tdl_command.specs.Tree.{Whole}
use Rattle.tdl_line_machine.specs.declared.faults.LineKind.{LineKind}
use Rattle.tdl_line_machine.specs.Tokens.{Tok, end}
use Rattle.tdl_line_machine.specs.declared.goals.Goal.{Goal}
use Rattle.tdl_line_grammar.specs.Grammar.{Reads}
use Rattle.tdl_line_machine.specs.Pieces.{Place}
use Rattle.tdl_line_grammar.specs.Faults.{lines}
use Rattle.tdl_line_machine.specs.Machine.{taken}
use Rattle.tdl_line_machine.specs.Machine.States.{State, first_state}
use Rattle.tdl_line_grammar.specs.inside.Laws.{tree_of, IsEnded}
use Rattle.tdl_line_grammar.proofs.LineMachine.{line_machine, is_exact}

pub fault_found : (goal : Goal) (front : List Tok) (next : Tok) (others : List Tok) (s : State) (stop : Stop LineKind Place)
    → run (taken true) (first_state goal) front ≡ Ok s → taken true s next ≡ Err stop → (others ≡ [] → next ≡ end)
    → IsFault (lines goal) (front ++ next ∷ others) (stop_kind stop) (stop_at stop)
fault_found goal = first.fault_found (lines goal) (line_machine goal) (is_exact goal)

pub text_found : (goal : Goal) (tokens : List Tok) (s : State) → run (taken true) (first_state goal) tokens ≡ Ok s → IsEnded s
    → IsText (lines goal) tokens (tree_of s)
text_found goal = first.text_found (lines goal) (line_machine goal) (is_exact goal)

pub one_first_fault : (goal : Goal) (tokens : List Tok) (k l : LineKind) (a b : Place) → IsFault (lines goal) tokens k a → IsFault (lines goal) tokens l b
    → (k ≡ l) × (a ≡ b)
one_first_fault goal = one.IsFault-unique (lines goal) (line_machine goal) (is_exact goal)

pub text_without_fault : (goal : Goal) (tokens : List Tok) (w : Whole) (kind : LineKind) (at : Place) → IsText (lines goal) tokens w
    → IsFault (lines goal) tokens kind at → ⊥
text_without_fault goal = one.IsText-no_fault (lines goal) (line_machine goal) (is_exact goal)

pub one_reading : (goal : Goal) (tokens : List Tok) (a b : Whole) → Reads goal tokens a → Reads goal tokens b → a ≡ b
one_reading goal = one.Reads-unique (lines goal) (line_machine goal) (is_exact goal)
