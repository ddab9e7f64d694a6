-- What stands past faults: nothing where there is one.
use Rattle.std.proofs.Common.{◌≡◌, refl, [], ◌∷◌, Option, Some, None}
use Rattle.std.specs.Option.{option_and_then}
use Rattle.clap.specs.Kinds.{Kinds, or_else}

abbrev pub past : {X : Type 0} → Kinds → Option X → Option X
past [] o = o
past (k ∷ ks) o = None

pub past-or : {X : Type 0} (a b : Kinds) (o : Option X) → past (or_else a b) o ≡ past a (past b o)
past-or [] b o = refl
past-or (k ∷ ks) b o = refl

pub past-then : {X Y : Type 0} (f : X → Option Y) (a : Kinds) (o : Option X) → option_and_then f (past a o) ≡ past a (option_and_then f o)
past-then f [] o = refl
past-then f (k ∷ ks) o = refl

pub then-none : {X Y : Type 0} (o : Option X) → option_and_then {T = X} {U = Y} (λ x. None) o ≡ None
then-none None = refl
then-none (Some x) = refl

pub then-some : {X : Type 0} (o : Option X) → option_and_then (λ x. Some x) o ≡ o
then-some None = refl
then-some (Some x) = refl

-- the first of two steps, and then the others
pub past-step : {X : Type 0} (a b c : Kinds) (o : Option X) → past (or_else (or_else a b) c) o ≡ past a (past (or_else b c) o)
past-step [] b c o = refl
past-step (k ∷ ks) b c o = refl

pub then-same : {X Y : Type 0} (f g : X → Option Y) (o : Option X) → ((x : X) → f x ≡ g x) → option_and_then f o ≡ option_and_then g o
then-same f g None same = refl
then-same f g (Some x) same = same x
