-- What a reader of lines took from an input, call after call.
--     Calls, calls_of          a call of the reader
--     TookMore                 it took more bytes of the input
--     ReadsLine, reads_line    it gave a line
--     took_none, took_line     what was taken at the start, and with one line more
--     taken_on                 what was taken, up to a later call of the reader
use Rattle.std.proofs.Common.{◌≡◌, ℕ, ◌≤◌, ◌⊎◌, inl, inr, IsTrue, List, [], ◌∷◌, ◌++◌, Option, IfSome, Result, Ok, refl, ap, sym, subst, ◌∙◌, arith}
use Rattle.std.proofs.lemmas.Bool.{false≢true}
use Rattle.tdl_io.specs.Told.{GaveExactly}
use Rattle.tdl_io.proofs.Told.{gave_nothing}
use Rattle.tdl_lines.specs.Reading.{Reading, HasRead, HasGivenSome, ReadsOn, ReadsNext, fresh}
use Rattle.tdl_lines.specs.declared.reader.Next.{Next}
use Rattle.tdl_lines.specs.declared.reader.Next.TheVariants.{Line}
use Rattle.tdl_lines.specs.declared.faults.ReadFault.{ReadFault}
use Rattle.tdl_answer.specs.Account.{Account, account}
use Rattle.tdl_answer.specs.Taken.{Taken}
use Rattle.tdl_answer.specs.inside.Taking.{HasTaken}
use Rattle.tdl_answer.proofs.DeviceCalls.{Meets, over, still, gave_on}

-- once the reader had ended it asked no more
pub record TookMore (old new : Reading) (input : Account ℕ) (more : List ℕ) : Type 0 where
  pub gave : GaveExactly input.told_before input.told_after more
  pub none_left : IsTrue new.ended → IsTrue old.ended ⊎ IfSome input.told_after (λ left. left ≡ [])
  pub same : IsTrue old.ended → input.told_after ≡ input.told_before
  pub kept : input.faults_before ≤ input.faults_after

pub none_left_on : {old new : Reading} {input input' : Account ℕ} {more : List ℕ} → Meets input input'
    → (IsTrue old.ended → IfSome input.told_after (λ left. left ≡ [])) → TookMore old new input' more → IsTrue new.ended
    → IfSome input'.told_after (λ left. left ≡ [])
none_left_on {old} {new} {input} {input'} meets before took ended = elim (took.none_left ended) [
  | inl already ↦ subst (λ (told : Option (List ℕ)). IfSome told (λ left. left ≡ [])) (sym (took.same already ∙ meets.told)) (before already)
  | inr now ↦ now
]

-- ---- what a reader gives
-- what else is known of the bytes that a call took is left out
abbrev pub Anything : List ℕ → Type 0
Anything bytes = Unit {0}

reads_same : {Known : List ℕ → Type 0} {answer : Result Next ReadFault} {old new : Reading} {told told' : Option (List ℕ)}
    → ReadsNext Known answer old new told told' → ReadsNext Anything answer old new told told'
reads_same reads = λ taken given read.
    let on = reads taken given read in record { more = on.more; gave = on.gave; known = tt; none_left = on.none_left; says = on.says }

-- a call of the reader on an input
pub record Calls (answer : Result Next ReadFault) (old new : Reading) (input : Account ℕ) : Type 0 where
  pub reads : ReadsNext Anything answer old new input.told_before input.told_after
  pub same : IsTrue old.ended → input.told_after ≡ input.told_before
  pub kept : input.faults_before ≤ input.faults_after

-- by what the reader's contract says of it
pub calls_of : {S : Type 0} {Known : List ℕ → Type 0} (left : S → Option (List ℕ)) (faults : S → ℕ) (answer : Result Next ReadFault)
    (old new : Reading) (before after : S)
    → ReadsNext Known answer old new (left before) (left after) → (IsTrue old.ended → after ≡ before) → faults before ≤ faults after
    → Calls answer old new (account left faults before after)
calls_of left faults answer old new before after reads unasked counts =
    record { reads = reads_same reads; same = λ e. ap left (unasked e); kept = counts }

abbrev pub FirstLines : Type 0
FirstLines = (reading : Reading) (taken : List ℕ) (given : List (List ℕ)) → HasRead reading taken given → HasGivenSome reading.ended taken given

-- it gave a line, for which it took more bytes
pub record ReadsLine (old new : Reading) (taken : List ℕ) (given : List (List ℕ)) (input : Account ℕ) (line : List ℕ) : Type 0 where
  pub more : List ℕ
  pub took : TookMore old new input more
  pub read : HasRead new (taken ++ more) (given ++ line ∷ [])
  pub some : HasGivenSome new.ended (taken ++ more) (given ++ line ∷ [])

pub reads_line : {old new : Reading} {input : Account ℕ} (answer : Next) (line taken : List ℕ) (given : List (List ℕ)) → answer ≡ Line
    → Calls (Ok answer) old new input → line ≡ new.line → FirstLines → HasRead old taken given → ReadsLine old new taken given input line
reads_line {old} {new} {input} answer line taken given is calls shown first read =
    let on : ReadsOn Anything (Ok Line) old new input.told_before input.told_after taken given =
    subst (λ (n : Next). ReadsOn Anything (Ok n) old new input.told_before input.told_after taken given) is (calls.reads taken given read) in
    let now : HasRead new (taken ++ on.more) (given ++ line ∷ []) = subst (λ (l : List ℕ). HasRead new (taken ++ on.more) (given ++ l ∷ []))
    (sym shown) on.says in record {
      more = on.more;
      took = record { gave = on.gave; none_left = on.none_left; same = calls.same; kept = calls.kept };
      read = now;
      some = first new (taken ++ on.more) (given ++ line ∷ []) now;
    }

-- ---- what was taken
-- abbreviated, for the lines that were given stand in what is known of them
abbrev pub took_none : (reading : Reading) (left : Option (List ℕ)) (faults : ℕ) → reading ≡ fresh → HasRead reading [] []
    → HasTaken reading (still left faults)
took_none reading left faults new read = record {
  taken = [];
  given = [];
  read = read;
  gave = gave_nothing left;
  none_left = λ e. absurd (false≢true (sym (ap (λ (r : Reading). r.ended) new) ∙ e));
  kept = omega arith;
}

abbrev pub took_line : {old reading : Reading} {input input' : Account ℕ} {line : List ℕ} → Meets input input' → (before : HasTaken old input)
    → ReadsLine old reading before.taken before.given input' line → HasTaken reading (over input input')
took_line {old} {reading} {input} {input'} {line} inputs before reads = record {
  taken = before.taken ++ reads.more;
  given = before.given ++ line ∷ [];
  read = reads.read;
  gave = gave_on inputs before.gave reads.took.gave;
  none_left = none_left_on inputs before.none_left reads.took;
  kept = omega (arith, inputs.faults, before.kept, reads.took.kept);
}

abbrev pub taken_on : {old reading : Reading} {input input' : Account ℕ} {more : List ℕ} {given : List (List ℕ)}
    → Meets input input' → (before : HasTaken old input) → TookMore old reading input' more
    → HasRead reading (before.taken ++ more) given → HasGivenSome reading.ended (before.taken ++ more) given → Taken (over input input')
taken_on {old} {reading} {input} {input'} {more} {given} inputs before took read some = record {
  bytes = before.taken ++ more;
  ended = reading.ended;
  left = input'.told_after;
  gave = gave_on inputs before.gave took.gave;
  tells = inl refl;
  limit = some.fits;
  at_end = λ e. record { counted = read.fits e; none_left = none_left_on inputs before.none_left took e };
}
