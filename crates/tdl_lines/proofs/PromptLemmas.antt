-- Calls of a source and a sink in one, while lines are read from it and replies put into it.
--     Talking                       the lines that a reader gave are answered
--     talking_none                  nothing was called yet
--     Asked, asks                   the reader gave a line more, which is not answered yet
--     answers                       its reply was put
--     goes_none, goes_put           no call, and a put more
--     goes_to, goes_broke           how the calls end: with no fault, or with a put that failed
--     talking_goes, asked_goes      what was called until then
--     talked, talked_fault          the reader gave no line
--     pulls_keep, reads_keep        pulls keep what the sink tells, and so does a call of the reader
--     talks_keep, talks_mapped      what each call keeps, all of them keep; and what each call tells of a part, all tell of it
use Rattle.std.proofs.Common.{◌≡◌, ℕ, ◌+◌, ◌-◌, inl, inr, IsTrue, true, false, Bool, List, [], ◌∷◌, ◌++◌, length, take, Option, Result, Ok, Err, refl, sym, ap}
use Rattle.std.proofs.Common.{subst, ◌∙◌, arith, append-nil, append_assoc, length-append}
use Rattle.std.specs.List.{concat}
use Rattle.std.proofs.Math.Seq.{take-append-add}
use Rattle.std.proofs.lemmas.List.{length-map}
use Rattle.std.proofs.lemmas.List.Elements.{All-take}
use Rattle.std.specs.Prelude.{◌≢◌}
use Rattle.tdl_io.specs.Talk.{Call, Gave, Put, Called, Calls, Keeps, TalkLaws}
use Rattle.tdl_lines.specs.declared.faults.ReadFault.{ReadFault}
use Rattle.tdl_lines.specs.declared.faults.ReadFault.TheVariants.{NoMemory, Failed}
use Rattle.tdl_lines.specs.declared.reader.Next.{Next}
use Rattle.tdl_lines.specs.declared.reader.Next.TheVariants.{Line}
use Rattle.tdl_lines.specs.Lines.{HasNoFeed, rest_from, trimmed, line_feed, max_input}
use Rattle.tdl_lines.specs.Prompt.{ended_lines, given_in, puts_in, IsPrompt, LastCall, GoesPromptly, TalksPromptly}
use Rattle.tdl_lines.specs.Pulls.{Pulls, Pulled, PulledAs}
use Rattle.tdl_lines.specs.Reading.{Reading, HasRead, ReadsNext, ReadsOn, fresh}
use Rattle.tdl_lines.proofs.LineLemmas.{cut, cut_whole, cut_plain, lines_whole}
use Rattle.tdl_lines.proofs.ReadingLemmas.{take_more, zero_or_more}

-- ---- what has ended
plain_front : (pending more : List ℕ) (n : ℕ) → HasNoFeed (pending ++ more) → HasNoFeed (pending ++ take n more)
plain_front pending more n plain =
    subst HasNoFeed (take-append-add pending more n) (All-take (λ byte. byte ≢ line_feed) (length pending + n) (pending ++ more) plain)

cut_before : (before bytes : List ℕ) → rest_from [] before ≡ [] → HasNoFeed bytes → cut (before ++ bytes) ≡ cut before
cut_before before bytes whole plain =
    cut_whole before bytes whole ∙ ap (λ (ls : List (List ℕ)). cut before ++ ls) (cut_plain bytes plain) ∙ append-nil (cut before)

-- bytes that end no line leave as many lines as were given
none_ended : (reading : Reading) (taken more : List ℕ) (given : List (List ℕ)) → HasRead reading taken given → (IsTrue reading.ended → ⊥)
    → HasNoFeed (reading.pending ++ more) → length (ended_lines (taken ++ more)) ≡ length given
none_ended reading taken more given read goes plain =
    let whole : rest_from [] read.before ≡ [] = elim read.whole [ inl w ↦ w | inr last ↦ absurd (goes last.0) ] in
    let counts : List ℕ = take (reading.left - 1) more in
    let parts : take max_input (taken ++ more) ≡ read.before ++ (reading.pending ++ counts) =
    take_more max_input reading.left taken more read.counted (zero_or_more reading.left) ∙ ap (λ (xs : List ℕ). xs ++ counts) read.parts
    ∙ append_assoc read.before reading.pending counts in
    let same : cut (take max_input (taken ++ more)) ≡ given =
    ap cut parts ∙ cut_before read.before (reading.pending ++ counts) whole (plain_front reading.pending more (reading.left - 1) plain)
    ∙ sym (read.lines ∙ lines_whole reading.ended read.before whole) in
    sym (length-map (ended_lines (taken ++ more)) trimmed) ∙ ap length same

-- ---- one call more
module _ {T : Type 0} (gave took : T → List ℕ → T → Type 0) where
  calls_on : (calls : List Call) (call : Call) (a b c : T) → Calls gave took calls a b → Called gave took call b c
      → Calls gave took (calls ++ call ∷ []) a c
  calls_on [] call a b c same called = (c, subst (λ (s : T). Called gave took call s c) same called, refl)
  calls_on (first ∷ calls) call a b c made called = (made.0, made.1, calls_on calls call made.0 b c made.2 called)

given_gave : (calls : List Call) (bytes : List ℕ) → given_in (calls ++ Gave bytes ∷ []) ≡ given_in calls ++ bytes
given_gave [] bytes = append-nil bytes
given_gave (Gave first ∷ calls) bytes = ap (λ (xs : List ℕ). first ++ xs) (given_gave calls bytes) ∙ sym (append_assoc first (given_in calls) bytes)
given_gave (Put first ∷ calls) bytes = given_gave calls bytes

given_put : (calls : List Call) (piece : List ℕ) → given_in (calls ++ Put piece ∷ []) ≡ given_in calls
given_put [] piece = refl
given_put (Gave first ∷ calls) piece = ap (λ (xs : List ℕ). first ++ xs) (given_put calls piece)
given_put (Put first ∷ calls) piece = given_put calls piece

puts_gave : (calls : List Call) (bytes : List ℕ) → puts_in (calls ++ Gave bytes ∷ []) ≡ puts_in calls
puts_gave [] bytes = refl
puts_gave (Gave first ∷ calls) bytes = puts_gave calls bytes
puts_gave (Put first ∷ calls) bytes = ap (λ (n : ℕ). n + 1) (puts_gave calls bytes)

puts_put : (calls : List Call) (piece : List ℕ) → puts_in (calls ++ Put piece ∷ []) ≡ puts_in calls + 1
puts_put [] piece = refl
puts_put (Gave first ∷ calls) piece = puts_put calls piece
puts_put (Put first ∷ calls) piece = ap (λ (n : ℕ). n + 1) (puts_put calls piece)

prompt_gave : (given : List ℕ) (puts : ℕ) (calls : List Call) (bytes all : List ℕ) → IsPrompt given puts calls → given ++ given_in calls ≡ all
    → length (ended_lines all) ≡ puts + puts_in calls → IsPrompt given puts (calls ++ Gave bytes ∷ [])
prompt_gave given puts [] bytes all prompt is ended =
    let none : puts + 0 ≡ puts = omega arith in
    (subst (λ (xs : List ℕ). length (ended_lines xs) ≡ puts) (sym is ∙ append-nil given) (ended ∙ none), tt)
prompt_gave given puts (Gave first ∷ calls) bytes all prompt is ended =
    (prompt.0, prompt_gave (given ++ first) puts calls bytes all prompt.1 (append_assoc given first (given_in calls) ∙ is) ended)
prompt_gave given puts (Put first ∷ calls) bytes all prompt is ended =
    prompt_gave given (puts + 1) calls bytes all prompt is (omega (arith, ended))

prompt_put : (given : List ℕ) (puts : ℕ) (calls : List Call) (piece : List ℕ) → IsPrompt given puts calls → IsPrompt given puts (calls ++ Put piece ∷ [])
prompt_put given puts [] piece prompt = tt
prompt_put given puts (Gave first ∷ calls) piece prompt = (prompt.0, prompt_put (given ++ first) puts calls piece prompt.1)
prompt_put given puts (Put first ∷ calls) piece prompt = prompt_put given (puts + 1) calls piece prompt

-- ---- while lines are read
-- these calls were made, in which these bytes were given and so many replies put
pub record Called_so_far {T : Type 0} (gave took : T → List ℕ → T → Type 0) (old new : T) (given : List ℕ) (puts : ℕ) : Type 0 where
  pub calls : List Call
  pub made : Calls gave took calls old new
  pub prompt : IsPrompt [] 0 calls
  pub given_is : given_in calls ≡ given
  pub puts_are : puts_in calls ≡ puts

module _ {T : Type 0} (gave took : T → List ℕ → T → Type 0) (old : T) where
  one_gave : (a b : T) (given bytes : List ℕ) (puts : ℕ) → Called_so_far gave took old a given puts → length (ended_lines given) ≡ puts → gave a bytes b
      → Called_so_far gave took old b (given ++ bytes) puts
  one_gave a b given bytes puts so_far ended called = record {
    calls = so_far.calls ++ Gave bytes ∷ [];
    made = calls_on gave took so_far.calls (Gave bytes) old a b so_far.made called;
    prompt = prompt_gave [] 0 so_far.calls bytes given so_far.prompt so_far.given_is (omega (arith, ended, so_far.puts_are));
    given_is = given_gave so_far.calls bytes ∙ ap (λ (xs : List ℕ). xs ++ bytes) so_far.given_is;
    puts_are = puts_gave so_far.calls bytes ∙ so_far.puts_are;
  }

  one_put : (a b : T) (given piece : List ℕ) (puts : ℕ) → Called_so_far gave took old a given puts → took a piece b
      → Called_so_far gave took old b given (puts + 1)
  one_put a b given piece puts so_far called = record {
    calls = so_far.calls ++ Put piece ∷ [];
    made = calls_on gave took so_far.calls (Put piece) old a b so_far.made called;
    prompt = prompt_put [] 0 so_far.calls piece so_far.prompt;
    given_is = given_put so_far.calls piece ∙ so_far.given_is;
    puts_are = puts_put so_far.calls piece ∙ ap (λ (n : ℕ). n + 1) so_far.puts_are;
  }

  -- pulls from this reader's state on, of which the first ones gave these bytes
  some_pulls : (reading : Reading) (taken : List ℕ) (lines : List (List ℕ)) → HasRead reading taken lines → (IsTrue reading.ended → ⊥)
      → (pieces : List (List ℕ)) (more : List ℕ) (a b : T) → Called_so_far gave took old a (taken ++ more) (length lines)
      → Pulls gave (reading.pending ++ more) pieces a b → Called_so_far gave took old b (taken ++ (more ++ concat pieces)) (length lines)
  some_pulls reading taken lines read goes [] more a b so_far same =
      subst (λ (xs : List ℕ). Called_so_far gave took old b (taken ++ xs) (length lines)) (sym (append-nil more))
      (subst (λ (s : T). Called_so_far gave took old s (taken ++ more) (length lines)) (sym same) so_far)
  some_pulls reading taken lines read goes (piece ∷ pieces) more a b so_far made =
      let next = made.1 in
      let one = one_gave a next.0 (taken ++ more) piece (length lines) so_far (none_ended reading taken more lines read goes made.0) next.1 in
      subst (λ (xs : List ℕ). Called_so_far gave took old b (taken ++ xs) (length lines)) (append_assoc more piece (concat pieces))
      (some_pulls reading taken lines read goes pieces (more ++ piece) next.0 b
      (subst (λ (xs : List ℕ). Called_so_far gave took old next.0 xs (length lines)) (append_assoc taken more piece) one)
      (subst (λ (xs : List ℕ). Pulls gave xs pieces next.0 b) (append_assoc reading.pending more piece) next.2))

  -- what a call of the reader asks
  all_pulls : (reading : Reading) (taken : List ℕ) (lines : List (List ℕ)) → HasRead reading taken lines → (a b : T)
      → Called_so_far gave took old a taken (length lines) → (bytes : List ℕ) → Pulled gave reading a b bytes
      → Called_so_far gave took old b (taken ++ bytes) (length lines)
  all_pulls reading taken lines read a b so_far bytes pulled =
      subst (λ (xs : List ℕ). Called_so_far gave took old b (taken ++ xs) (length lines)) (sym pulled.joined)
      (by_end reading.ended refl pulled.pieces pulled.made pulled.unasked)
    where
      nothing_more : Called_so_far gave took old a (taken ++ []) (length lines)
      nothing_more = subst (λ (xs : List ℕ). Called_so_far gave took old a xs (length lines)) (sym (append-nil taken)) so_far

      none : (pieces : List (List ℕ)) → pieces ≡ [] → Pulls gave reading.pending pieces a b
          → Called_so_far gave took old b (taken ++ concat pieces) (length lines)
      none [] empty same = subst (λ (s : T). Called_so_far gave took old s (taken ++ []) (length lines)) (sym same) nothing_more
      none (piece ∷ pieces) empty made = absurd (cc)

      by_end : (ended : Bool) → reading.ended ≡ ended → (pieces : List (List ℕ)) → Pulls gave reading.pending pieces a b
          → (IsTrue reading.ended → pieces ≡ []) → Called_so_far gave took old b (taken ++ concat pieces) (length lines)
      by_end true is pieces made unasked = none pieces (unasked is) made
      by_end false is pieces made unasked =
          some_pulls reading taken lines read (λ ended. absurd (cc)) pieces [] a b nothing_more
          (subst (λ (xs : List ℕ). Pulls gave xs pieces a b) (sym (append-nil reading.pending)) made)

-- every line that the reader gave has its reply
pub record Talking {T : Type 0} (gave took : T → List ℕ → T → Type 0) (reading : Reading) (old new : T) : Type 0 where
  pub given : List ℕ
  pub lines : List (List ℕ)
  pub read : HasRead reading given lines
  pub so_far : Called_so_far gave took old new given (length lines)

-- and one line more was given
pub record Asked {T : Type 0} (gave took : T → List ℕ → T → Type 0) (reading : Reading) (old new : T) : Type 0 where
  pub given : List ℕ
  pub lines : List (List ℕ)
  pub line : List ℕ
  pub read : HasRead reading given (lines ++ line ∷ [])
  pub so_far : Called_so_far gave took old new given (length lines)

pub talking_none : {T : Type 0} {gave took : T → List ℕ → T → Type 0} {reading : Reading} {old : T} → reading ≡ fresh → HasRead reading [] []
    → Talking gave took reading old old
talking_none is read = record {
  given = [];
  lines = [];
  read = read;
  so_far = record { calls = []; made = refl; prompt = tt; given_is = refl; puts_are = refl };
}

pub asks : {T : Type 0} {gave : T → List ℕ → T → Type 0} (lost : T → T → Type 0) {took : T → List ℕ → T → Type 0} {reading reading' : Reading} {old a b : T}
    {told told' : Option (List ℕ)} (answer : Next) → answer ≡ Line → Talking gave took reading old a
    → ReadsNext (PulledAs gave lost (Ok answer) reading a b) (Ok answer) reading reading' told told' → Asked gave took reading' old b
asks {T} {gave} lost {took} {reading} {reading'} {old} {a} {b} {told} {told'} answer is talking reads =
    let on : ReadsOn (Pulled gave reading a b) (Ok Line) reading reading' told told' talking.given talking.lines =
    subst (λ (n : Next). ReadsOn (Pulled gave reading a b) (Ok n) reading reading' told told' talking.given talking.lines) is
    (reads talking.given talking.lines talking.read) in record {
      given = talking.given ++ on.more;
      lines = talking.lines;
      line = reading'.line;
      read = on.says;
      so_far = all_pulls gave took old reading talking.given talking.lines talking.read a b talking.so_far on.more on.known;
    }

pub answers : {T : Type 0} {gave took : T → List ℕ → T → Type 0} {reading : Reading} {old a b : T} (piece : List ℕ) → Asked gave took reading old a
    → took a piece b → Talking gave took reading old b
answers {T} {gave} {took} {reading} {old} {a} {b} piece asked called =
    let one : length (asked.lines ++ asked.line ∷ []) ≡ length asked.lines + 1 = length-append asked.lines (asked.line ∷ []) in record {
      given = asked.given;
      lines = asked.lines ++ asked.line ∷ [];
      read = asked.read;
      so_far = subst (λ (n : ℕ). Called_so_far gave took old b asked.given n) (sym one)
          (one_put gave took old a b asked.given piece (length asked.lines) asked.so_far called);
    }

-- ---- ends
abbrev goes : {T : Type 0} {gave took : T → List ℕ → T → Type 0} {old a : T} {given : List ℕ} {puts : ℕ} → Called_so_far gave took old a given puts
    → GoesPromptly gave took old a
goes so_far = record { calls = so_far.calls; made = so_far.made; prompt = so_far.prompt }

-- every line was answered
pub talking_goes : {T : Type 0} {gave took : T → List ℕ → T → Type 0} {reading : Reading} {old a : T} → Talking gave took reading old a
    → GoesPromptly gave took old a
talking_goes talking = goes talking.so_far

pub goes_none : {T : Type 0} {gave took : T → List ℕ → T → Type 0} {old : T} → GoesPromptly gave took old old
goes_none = record { calls = []; made = refl; prompt = tt }

-- a text more was put
pub goes_put : {T : Type 0} {gave took : T → List ℕ → T → Type 0} {old a b : T} (piece : List ℕ) → GoesPromptly gave took old a → took a piece b
    → GoesPromptly gave took old b
goes_put {T} {gave} {took} {old} {a} {b} piece so_far called = record {
  calls = so_far.calls ++ Put piece ∷ [];
  made = calls_on gave took so_far.calls (Put piece) old a b so_far.made called;
  prompt = prompt_put [] 0 so_far.calls piece so_far.prompt;
}

-- with no fault
pub goes_to : {T : Type 0} {gave : T → List ℕ → T → Type 0} {lost : T → T → Type 0} {took broke : T → List ℕ → T → Type 0} {old a b : T}
    → GoesPromptly gave took old a → b ≡ a → TalksPromptly gave lost took broke old b
goes_to {T} {gave} {lost} {took} {broke} {old} {a} so_far same = record { between = a; so_far = so_far; last = LastCall.none same }

-- a text was not put whole
pub goes_broke : {T : Type 0} {gave : T → List ℕ → T → Type 0} {lost : T → T → Type 0} {took broke : T → List ℕ → T → Type 0} {old a b : T}
    (piece : List ℕ) → GoesPromptly gave took old a → broke a piece b → TalksPromptly gave lost took broke old b
goes_broke {T} {gave} {lost} {took} {broke} {old} {a} piece so_far broken =
    record { between = a; so_far = so_far; last = LastCall.put piece broken }

pub asked_goes : {T : Type 0} {gave took : T → List ℕ → T → Type 0} {reading : Reading} {old a : T} → Asked gave took reading old a
    → GoesPromptly gave took old a
asked_goes asked = goes asked.so_far

-- the reader gave no line
on_end : {T : Type 0} {gave took : T → List ℕ → T → Type 0} {reading reading' : Reading} {old a b : T} {told told' : Option (List ℕ)}
    (answer : Result Next ReadFault) → Talking gave took reading old a → ReadsNext (Pulled gave reading a b) answer reading reading' told told'
    → GoesPromptly gave took old b
on_end {T} {gave} {took} {reading} {reading'} {old} {a} {b} answer talking reads =
    let on = reads talking.given talking.lines talking.read in
    goes (all_pulls gave took old reading talking.given talking.lines talking.read a b talking.so_far on.more on.known)

pub talked : {T : Type 0} {gave : T → List ℕ → T → Type 0} (lost : T → T → Type 0) {took : T → List ℕ → T → Type 0} {reading reading' : Reading}
    {old a b : T} {told told' : Option (List ℕ)} (answer : Next) → Talking gave took reading old a
    → ReadsNext (PulledAs gave lost (Ok answer) reading a b) (Ok answer) reading reading' told told' → GoesPromptly gave took old b
talked lost answer talking reads = on_end (Ok answer) talking reads

-- there was no memory for a line, or the source failed
pub talked_fault : {T : Type 0} {gave : T → List ℕ → T → Type 0} {lost : T → T → Type 0} {took broke : T → List ℕ → T → Type 0}
    {reading reading' : Reading} {old a b : T} {told told' : Option (List ℕ)} (fault : ReadFault) → Talking gave took reading old a
    → ReadsNext (PulledAs gave lost (Err fault) reading a b) (Err fault) reading reading' told told' → TalksPromptly gave lost took broke old b
talked_fault NoMemory talking reads = goes_to (on_end (Err NoMemory) talking reads) refl
talked_fault {T} {gave} {lost} {took} {broke} {reading} {reading'} {old} {a} {b} {told} {told'} Failed talking reads =
    let on = reads talking.given talking.lines talking.read in
    let known = on.known in
    let so_far = all_pulls gave took old reading talking.given talking.lines talking.read a known.between talking.so_far on.more known.pulled in
    let ended = none_ended reading talking.given on.more talking.lines talking.read known.goes known.none_waits in record {
      between = known.between;
      so_far = goes so_far;
      last = LastCall.pull (ap (λ (xs : List ℕ). length (ended_lines xs)) so_far.given_is ∙ ended ∙ sym so_far.puts_are) known.lost;
    }

-- ---- what pulls keep
module _ {T : Type 0} {gave : T → List ℕ → T → Type 0} {told : T → Option (List ℕ)} {faults : T → ℕ}
    (keeps : (a : T) (bytes : List ℕ) (b : T) → gave a bytes b → Keeps told faults a b) where
  pub pulls_keep : (pending : List ℕ) (pieces : List (List ℕ)) (a b : T) → Pulls gave pending pieces a b → Keeps told faults a b
  pulls_keep pending [] a b same = record { told_is = ap told same; faults_are = ap faults same }
  pulls_keep pending (piece ∷ pieces) a b made =
      let next = made.1 in
      let first = keeps a piece next.0 next.1 in
      let rest = pulls_keep (pending ++ piece) pieces next.0 b next.2 in
      record { told_is = rest.told_is ∙ first.told_is; faults_are = rest.faults_are ∙ first.faults_are }

-- a call of the reader keeps what the sink tells
module _ {T : Type 0} {gave : T → List ℕ → T → Type 0} {lost : T → T → Type 0} {left : T → Option (List ℕ)} {pull_faults : T → ℕ}
    {took broke : T → List ℕ → T → Type 0} {held : T → Option (List ℕ)} {put_faults : T → ℕ}
    (laws : TalkLaws gave lost left pull_faults took broke held put_faults) where
  known_keeps : (answer : Result Next ReadFault) (reading : Reading) (a b : T) (bytes : List ℕ) → PulledAs gave lost answer reading a b bytes
      → Keeps held put_faults a b
  known_keeps (Ok next) reading a b bytes pulled = pulls_keep laws.gave_keeps reading.pending pulled.pieces a b pulled.made
  known_keeps (Err NoMemory) reading a b bytes pulled = pulls_keep laws.gave_keeps reading.pending pulled.pieces a b pulled.made
  known_keeps (Err Failed) reading a b bytes known =
      let first = pulls_keep laws.gave_keeps reading.pending known.pulled.pieces a known.between known.pulled.made in
      let last = laws.lost_keeps known.between b known.lost in
      record { told_is = last.told_is ∙ first.told_is; faults_are = last.faults_are ∙ first.faults_are }

  pub reads_keep : {told told' : Option (List ℕ)} (answer : Result Next ReadFault) (reading reading' : Reading) (a b : T) (taken : List ℕ)
      (given : List (List ℕ)) → HasRead reading taken given → ReadsNext (PulledAs gave lost answer reading a b) answer reading reading' told told'
      → Keeps held put_faults a b
  reads_keep answer reading reading' a b taken given read reads =
      let on = reads taken given read in known_keeps answer reading a b on.more on.known

-- ---- all calls
module _ {T X : Type 0} (name : T → X) {gave : T → List ℕ → T → Type 0} {lost : T → T → Type 0} {took broke : T → List ℕ → T → Type 0}
    (gave_keeps : (a : T) (bytes : List ℕ) (b : T) → gave a bytes b → name b ≡ name a) (lost_keeps : (a b : T) → lost a b → name b ≡ name a)
    (took_keeps : (a : T) (piece : List ℕ) (b : T) → took a piece b → name b ≡ name a)
    (broke_keeps : (a : T) (piece : List ℕ) (b : T) → broke a piece b → name b ≡ name a) where
  called_keeps : (call : Call) (a b : T) → Called gave took call a b → name b ≡ name a
  called_keeps (Gave bytes) a b called = gave_keeps a bytes b called
  called_keeps (Put piece) a b called = took_keeps a piece b called

  calls_keep : (calls : List Call) (a b : T) → Calls gave took calls a b → name b ≡ name a
  calls_keep [] a b same = ap name same
  calls_keep (call ∷ calls) a b made = calls_keep calls made.0 b made.2 ∙ called_keeps call a made.0 made.1

  last_keeps : {calls : List Call} {a b : T} → LastCall lost broke calls a b → name b ≡ name a
  last_keeps {calls} {a} {b} (LastCall.none same) = ap name same
  last_keeps {calls} {a} {b} (LastCall.pull ended failed) = lost_keeps a b failed
  last_keeps {calls} {a} {b} (LastCall.put piece failed) = broke_keeps a piece b failed

  pub talks_keep : {old new : T} → TalksPromptly gave lost took broke old new → name new ≡ name old
  talks_keep {old} talks = last_keeps talks.last ∙ calls_keep talks.so_far.calls old talks.between talks.so_far.made

module _ {T U : Type 0} (part : T → U) {gave : T → List ℕ → T → Type 0} {lost : T → T → Type 0} {took broke : T → List ℕ → T → Type 0}
    (gave' : U → List ℕ → U → Type 0) (lost' : U → U → Type 0) (took' broke' : U → List ℕ → U → Type 0)
    (gave_tells : (a : T) (bytes : List ℕ) (b : T) → gave a bytes b → gave' (part a) bytes (part b))
    (lost_tells : (a b : T) → lost a b → lost' (part a) (part b))
    (took_tells : (a : T) (piece : List ℕ) (b : T) → took a piece b → took' (part a) piece (part b))
    (broke_tells : (a : T) (piece : List ℕ) (b : T) → broke a piece b → broke' (part a) piece (part b)) where
  called_mapped : (call : Call) (a b : T) → Called gave took call a b → Called gave' took' call (part a) (part b)
  called_mapped (Gave bytes) a b called = gave_tells a bytes b called
  called_mapped (Put piece) a b called = took_tells a piece b called

  calls_mapped : (calls : List Call) (a b : T) → Calls gave took calls a b → Calls gave' took' calls (part a) (part b)
  calls_mapped [] a b same = ap part same
  calls_mapped (call ∷ calls) a b made = (part made.0, called_mapped call a made.0 made.1, calls_mapped calls made.0 b made.2)

  last_mapped : (calls : List Call) (a b : T) → LastCall lost broke calls a b → LastCall lost' broke' calls (part a) (part b)
  last_mapped calls a b (LastCall.none same) = LastCall.none (ap part same)
  last_mapped calls a b (LastCall.pull ended failed) = LastCall.pull ended (lost_tells a b failed)
  last_mapped calls a b (LastCall.put piece failed) = LastCall.put piece (broke_tells a piece b failed)

  pub talks_mapped : {old new : T} → TalksPromptly gave lost took broke old new → TalksPromptly gave' lost' took' broke' (part old) (part new)
  talks_mapped {old} {new} talks = record {
    between = part talks.between;
    so_far = record {
      calls = talks.so_far.calls;
      made = calls_mapped talks.so_far.calls old talks.between talks.so_far.made;
      prompt = talks.so_far.prompt;
    };
    last = last_mapped talks.so_far.calls talks.between new talks.last;
  }
