-- What holds of the state that a step goes on with, if it goes on.
--     Keeps            a property of that state
--     keeps_if         of a step by cases
--     untested         of a step after tests that are not made
use Rattle.std.specs.Prelude.{if◌then◌else◌}
use Rattle.std.proofs.Common.{◌≡◌, Bool, true, false, Ok, Err, List, [], ◌∷◌, refl, subst}
use Rattle.tdl_grammar.specs.Grammar.{Test}
use Rattle.tdl_grammar.specs.Machine.{and_then, all_checked}
use Rattle.tdl_line_machine.specs.declared.faults.LineKind.{LineKind}
use Rattle.tdl_line_machine.specs.Pieces.{Place}
use Rattle.tdl_line_machine.specs.Machine.States.{State, Step}

abbrev pub Keeps : (State → Type 0) → Step → Type 0
Keeps P (Ok s) = P s
Keeps P (Err stop) = Unit {0}

pub keeps_then : (P Q : State → Type 0) (r : Step) (next : State → Step) → Keeps P r → ((s : State) → P s → Keeps Q (next s)) → Keeps Q (and_then r next)
keeps_then P Q (Ok s) next h more = more s h
keeps_then P Q (Err stop) next h more = tt

pub keeps_if : (P : State → Type 0) (b : Bool) (x y : Step) → (b ≡ true → Keeps P x) → (b ≡ false → Keeps P y) → Keeps P (if b then x else y)
keeps_if P true x y h k = h refl
keeps_if P false x y h k = k refl

pub kept : (P : State → Type 0) (r : Step) (s : State) → r ≡ Ok s → Keeps P r → P s
kept P r s e h = subst (Keeps P) e h

pub untested : (P : State → Type 0) (tests : List (Test LineKind Place)) (next : Step) → Keeps P next → Keeps P (all_checked false tests next)
untested P [] next h = h
untested P (test ∷ tests) next h = untested P tests next h
