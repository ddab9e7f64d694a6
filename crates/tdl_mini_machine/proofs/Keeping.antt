-- What holds of the state that a step of the machine ends in, if it ends in one.
--     state            a state by its parts
--     Keeps            a property of that state
--     keeps_then       of one step after another
--     keeps_if         of a step by cases
use Rattle.std.proofs.Common.{◌≡◌, ℕ, Bool, true, false, if◌then◌else◌, Ok, Err, List, refl, subst}
use Rattle.tdl_mini_machine.specs.Machine.States.{Stage, Level, Frame, State, Taken, and_then}

abbrev pub state : List Frame → Level → Stage → ℕ → State
state frames l p n = record { frames = frames; level = l; stage = p; read = n }

abbrev pub Keeps : (State → Type 0) → Taken → Type 0
Keeps P (Ok s) = P s
Keeps P (Err fault) = Unit {0}

pub keeps_then : (P Q : State → Type 0) (r : Taken) (next : State → Taken) → Keeps P r → ((s : State) → P s → Keeps Q (next s)) → Keeps Q (and_then r next)
keeps_then P Q (Ok s) next h more = more s h
keeps_then P Q (Err fault) next h more = tt

pub keeps_if : (P : State → Type 0) (b : Bool) (x y : Taken) → (b ≡ true → Keeps P x) → (b ≡ false → Keeps P y) → Keeps P (if b then x else y)
keeps_if P true x y h k = h refl
keeps_if P false x y h k = k refl

pub kept : (P : State → Type 0) (r : Taken) (s : State) → r ≡ Ok s → Keeps P r → P s
kept P r s e h = subst (Keeps P) e h
