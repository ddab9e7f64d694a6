-- What the machine finds of tokens.
--     fault_found             where it stops is their first fault; text_found: where it ends they are a text
--     one_first_fault, text_without_fault, one_reading      they have one tree at most, or one first fault
use Rattle.std.proofs.Common.{◌≡◌, ℕ, true, Ok, Err, List, [], ◌∷◌, ◌++◌}
use Rattle.tdl_grammar.proofs.FirstFault as first
use Rattle.tdl_grammar.proofs.OneFault as one
use Rattle.tdl_mini_tree.specs.declared.faults.MiniKind.{MiniKind}
use Rattle.tdl_mini_tree.specs.declared.leaves.Kind.{Kind}
use Rattle.tdl_mini_tree.specs.Tree.{Layers}
use Rattle.tdl_mini_machine.specs.Tokens.{Tok, end}
use Rattle.tdl_mini_grammar.specs.Grammar.{Reads}
use Rattle.tdl_mini_grammar.specs.Faults.{mini, IsText, IsFault}
use Rattle.tdl_mini_machine.specs.Machine.States.{State, Fault, ended, first_state, fault_kind, fault_at}
use Rattle.tdl_mini_machine.specs.Machine.Running.{taken, run}
use Rattle.tdl_mini_grammar.proofs.MiniMachine.{mini_machine, is_exact}

pub fault_found : (kind : Kind) (front : List Tok) (next : Tok) (others : List Tok) (s : State) (fault : Fault) → run true (first_state kind) front ≡ Ok s
    → taken true s next ≡ Err fault → (others ≡ [] → next ≡ end) → IsFault kind (front ++ next ∷ others) (fault_kind fault) (fault_at fault)
fault_found kind = first.fault_found (mini kind) (mini_machine kind) (is_exact kind)

pub text_found : (kind : Kind) (tokens : List Tok) (s : State) → run true (first_state kind) tokens ≡ Ok s → s.stage ≡ ended → IsText kind tokens s.level.layers
text_found kind = first.text_found (mini kind) (mini_machine kind) (is_exact kind)

pub one_first_fault : (kind : Kind) (tokens : List Tok) (k l : MiniKind) (m n : ℕ) → IsFault kind tokens k m → IsFault kind tokens l n → (k ≡ l) × (m ≡ n)
one_first_fault kind = one.IsFault-unique (mini kind) (mini_machine kind) (is_exact kind)

pub text_without_fault : (kind : Kind) (tokens : List Tok) (ls : Layers) (fault : MiniKind) (at : ℕ) → IsText kind tokens ls → IsFault kind tokens fault at → ⊥
text_without_fault kind = one.IsText-no_fault (mini kind) (mini_machine kind) (is_exact kind)

pub one_reading : (kind : Kind) (tokens : List Tok) (a b : Layers) → Reads kind tokens a → Reads kind tokens b → a ≡ b
one_reading kind = one.Reads-unique (mini kind) (mini_machine kind) (is_exact kind)
