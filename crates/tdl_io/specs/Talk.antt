-- A source and a sink in one, and its calls, one after another.
--     TalkLaws       calls of the source keep what the sink tells, and calls of the sink what the source tells
--     Call, Called   a call that did what was asked for, and what it made of the device
--     Calls          such calls, one after another
use Rattle.std.specs.Prelude.{◌≡◌, ℕ, List, [], ◌∷◌, Option}

-- what of the other side stays
pub record Keeps {D : Type 0} (told : D → Option (List ℕ)) (faults : D → ℕ) (old new : D) : Type 0 where
  pub told_is : told new ≡ told old
  pub faults_are : faults new ≡ faults old

pub record TalkLaws {D : Type 0} (gave : D → List ℕ → D → Type 0) (lost : D → D → Type 0) (left : D → Option (List ℕ)) (pull_faults : D → ℕ)
    (took broke : D → List ℕ → D → Type 0) (held : D → Option (List ℕ)) (put_faults : D → ℕ) : Type 0 where
  pub gave_keeps : (old : D) (bytes : List ℕ) (new : D) → gave old bytes new → Keeps held put_faults old new
  pub lost_keeps : (old new : D) → lost old new → Keeps held put_faults old new
  pub took_keeps : (old : D) (piece : List ℕ) (new : D) → took old piece new → Keeps left pull_faults old new
  pub broke_keeps : (old : D) (piece : List ℕ) (new : D) → broke old piece new → Keeps left pull_faults old new

pub data Call : Type 0 where
  Gave : List ℕ → Call
  Put : List ℕ → Call

abbrev pub Called : {D : Type 0} → (D → List ℕ → D → Type 0) → (D → List ℕ → D → Type 0) → Call → D → D → Type 0
Called gave took (Gave bytes) old new = gave old bytes new
Called gave took (Put piece) old new = took old piece new

abbrev pub Calls : {D : Type 0} → (D → List ℕ → D → Type 0) → (D → List ℕ → D → Type 0) → List Call → D → D → Type 0
Calls gave took [] old new = new ≡ old
Calls {D} gave took (call ∷ calls) old new = (between : D) × Called gave took call old between × Calls gave took calls between new
