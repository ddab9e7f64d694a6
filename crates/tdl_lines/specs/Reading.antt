-- A reader of lines between two calls, what a call asks of the source, and what it answers.
use Rattle.std.specs.Prelude.{◌≡◌, ℕ, ◌+◌, ◌≤◌, ◌⊎◌, Bool, true, false, IsTrue, List, [], ◌∷◌, ◌++◌, take, length, Option, IfSome, Result, Ok, Err}
use Rattle.tdl_io.specs.Told.{GaveExactly, AsBeforeOrUntold}
use Rattle.tdl_lines.specs.declared.reader.Next.{Next}
use Rattle.tdl_lines.specs.declared.reader.Next.TheVariants.{Line, Ended, Spent}
use Rattle.tdl_lines.specs.declared.faults.ReadFault.{ReadFault}
use Rattle.tdl_lines.specs.declared.faults.ReadFault.TheVariants.{NoMemory, Failed}
use Rattle.tdl_lines.specs.Lines.{rest_from, lines_in, lines_of, max_input}

-- a reader of lines, as contracts see it
pub record Reading : Type 0 where
  -- bytes that were taken and belong to no line that was given
  pub pending : List ℕ
  -- how many more bytes may be taken
  pub left : ℕ
  -- the source was seen to have ended
  pub ended : Bool
  -- the line that the last call gave, where it gave one
  pub line : List ℕ

-- before the first call
abbrev pub fresh : Reading
fresh = record { pending = []; left = max_input + 1; ended = false; line = [] }

-- the reader stands so after these bytes were taken and these lines given
pub record HasRead (reading : Reading) (taken : List ℕ) (given : List (List ℕ)) : Type 0 where
  -- the bytes that count are those of the lines that were given, and then those that are pending
  pub before : List ℕ
  pub parts : take max_input taken ≡ before ++ reading.pending
  pub lines : given ≡ lines_in reading.ended before
  -- a line that was given had its line feed, unless the source ended with it
  pub whole : (rest_from [] before ≡ []) ⊎ (IsTrue reading.ended × (reading.pending ≡ []))
  pub counted : length taken + reading.left ≡ max_input + 1
  pub fits : IsTrue reading.ended → length taken ≤ max_input

-- the same, and these are all lines of what was taken, where the source has ended or not
pub record HasGivenAll (ended : Bool) (reading : Reading) (taken : List ℕ) (given : List (List ℕ)) : Type 0 where
  pub read : HasRead reading taken given
  pub ended_is : reading.ended ≡ ended
  pub lines : lines_of ended taken ≡ given

-- these are the first lines of what was taken, and there may be others
pub record HasGivenSome (ended : Bool) (taken : List ℕ) (given : List (List ℕ)) : Type 0 where
  pub others : List (List ℕ)
  pub lines : lines_of ended taken ≡ given ++ others
  pub fits : length taken ≤ max_input + 1

-- what an answer says of the reader after it, of all that was taken, and of the lines that were given before
abbrev pub AnswerTells : Result Next ReadFault → Reading → List ℕ → List (List ℕ) → Type 0
AnswerTells (Ok Line) reading taken given = HasRead reading taken (given ++ reading.line ∷ [])
AnswerTells (Ok Ended) reading taken given = HasGivenAll true reading taken given
AnswerTells (Ok Spent) reading taken given = HasGivenAll false reading taken given × (length taken ≡ max_input + 1)
AnswerTells (Err Failed) reading taken given = HasGivenAll false reading taken given × (length taken ≤ max_input)
AnswerTells (Err NoMemory) reading taken given = (reading.ended ≡ false) × HasGivenSome false taken given

-- a source gave these bytes, and then failed
pub record GaveThenFailed (told_before told_after : Option (List ℕ)) (bytes : List ℕ) : Type 0 where
  pub between : Option (List ℕ)
  pub gave : GaveExactly told_before between bytes
  pub failed : AsBeforeOrUntold between told_after

-- what the source gave, by the answer
abbrev pub Gave : Result Next ReadFault → Option (List ℕ) → Option (List ℕ) → List ℕ → Type 0
Gave (Ok next) told_before told_after bytes = GaveExactly told_before told_after bytes
Gave (Err NoMemory) told_before told_after bytes = GaveExactly told_before told_after bytes
Gave (Err Failed) told_before told_after bytes = GaveThenFailed told_before told_after bytes

-- a call took some more bytes, of which this is known, and its answer is right, where these bytes were taken and these lines given before
pub record ReadsOn (Known : List ℕ → Type 0) (answer : Result Next ReadFault) (old new : Reading) (told_before told_after : Option (List ℕ)) (taken : List ℕ)
    (given : List (List ℕ)) : Type 0 where
  pub more : List ℕ
  pub gave : Gave answer told_before told_after more
  pub known : Known more
  pub none_left : IsTrue new.ended → IsTrue old.ended ⊎ IfSome told_after (λ left. left ≡ [])
  pub says : AnswerTells answer new (taken ++ more) given

-- the same, whatever was taken and given before
abbrev pub ReadsNext : (List ℕ → Type 0) → Result Next ReadFault → Reading → Reading → Option (List ℕ) → Option (List ℕ) → Type 0
ReadsNext Known answer old new told_before told_after =
    (taken : List ℕ) (given : List (List ℕ)) → HasRead old taken given → ReadsOn Known answer old new told_before told_after taken given
