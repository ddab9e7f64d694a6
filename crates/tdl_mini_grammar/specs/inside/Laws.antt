-- What the laws of the machine say.
--     IsRunAs          the tokens are read, test by test, up to the first that does not hold
--     IsWrongHere      a token is refused as one with which no text goes on
--     FailsHere        a test fails at a token: of what ends before it, or with it
--     CanClose         a text goes on to its end; CanCloseAt, and a test that fails at its end now fails there
--     Reaches          the machine comes to a state; StopsAt, and answers a fault at the next token
--     IsFaultAfter     a fault at the token after a front is the first of each text that begins so
use Rattle.std.specs.Prelude.{◌≡◌, ℕ, suc, ◌⊎◌, Bool, true, false, List, [], ◌∷◌, ◌++◌, length, Ok, Err}
use Rattle.tdl_mini_tree.specs.declared.faults.MiniKind.{MiniKind}
use Rattle.tdl_mini_tree.specs.declared.leaves.Kind.{Kind}
use Rattle.tdl_mini_machine.specs.Rules.{Test}
use Rattle.tdl_mini_tree.specs.Tree.{Layers}
use Rattle.tdl_mini_machine.specs.Tokens.{Tok, end}
use Rattle.tdl_mini_grammar.specs.Tests.{tests}
use Rattle.tdl_mini_grammar.specs.Faults.{IsFault}
use Rattle.tdl_mini_machine.specs.WrongTokens.{wrong_token}
use Rattle.tdl_mini_machine.specs.Machine.States.{Fault, State, all_checked, ended, failed, fault_at, fault_kind, final_state, first_state, wrong}
use Rattle.tdl_mini_machine.specs.Machine.Running.{run, taken}
use Rattle.tdl_mini_machine.specs.Machine.Settling.{settled}

abbrev pub IsRunAs : Bool → Kind → List Tok → Layers → Type 0
IsRunAs tested kind tokens ls = run tested (first_state kind) tokens ≡ all_checked tested (tests kind ls) (Ok (final_state kind ls (length tokens)))

abbrev pub IsWrongHere : State → Tok → MiniKind → ℕ → Type 0
IsWrongHere s t kind at = (kind ≡ wrong_token (length s.frames) t) × (at ≡ s.read) × (taken false s t ≡ Err (wrong kind at))

abbrev pub FailsAtEnd : State → Test → Type 0
FailsAtEnd s test = settled true s end ≡ Err (failed test)

abbrev pub FailsHere : State → Tok → Test → Type 0
FailsHere s t test =
    (test.holds ≡ false)
    × (((test.ends ≡ s.read) × FailsAtEnd s test) ⊎ ((test.ends ≡ suc s.read) × (f : State) × (taken false s t ≡ Ok f)))

abbrev pub CanClose : State → Type 0
CanClose s = (more : List Tok) × (f : State) × (run false s more ≡ Ok f) × (f.stage ≡ ended)

abbrev pub CanCloseAt : State → Test → Type 0
CanCloseAt s test = (more : List Tok) × (f : State) × (run false s more ≡ Ok f) × (f.stage ≡ ended) × (run true s more ≡ Err (failed test))

abbrev pub Reaches : Bool → Kind → List Tok → State → Type 0
Reaches tested kind tokens s = run tested (first_state kind) tokens ≡ Ok s

abbrev pub StopsAt : Kind → List Tok → Tok → Fault → Type 0
StopsAt kind front next fault = (s : State) × Reaches true kind front s × (taken true s next ≡ Err fault)

abbrev pub IsFaultAfter : Kind → List Tok → Tok → Fault → Type 0
IsFaultAfter kind front next fault =
    (others : List Tok) → (others ≡ [] → next ≡ end) → IsFault kind (front ++ next ∷ others) (fault_kind fault) (fault_at fault)
