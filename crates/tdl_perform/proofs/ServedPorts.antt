-- How ports end.
--     serving_none                 nothing was read yet
--     serving_line                 one line more was answered
--     port_ended, port_spent       the reader gave all lines
--     port_lost, port_full         the source failed, or there was no memory for a line
--     port_begun                   the reply of a line was not put whole
--     port_unread                  there was no memory to begin with
--     port_on                      what holds of what a pass has seen holds of a history that goes on without its number
use Rattle.std.proofs.Common.{◌≡◌, ℕ, ◌+◌, ◌≤◌, inl, inr, Bool, false, List, [], ◌∷◌, ◌++◌, length, Option, Some, None, Ok, Err}
use Rattle.std.proofs.Common.{refl, sym, subst, ◌∙◌, append_assoc, append-nil, arith}
use Rattle.std.proofs.lemmas.Bool.{false≢true}
use Rattle.tdl_io.specs.Told.{GainedExactly}
use Rattle.tdl_io.specs.Faults.{CountRose}
use Rattle.tdl_io.proofs.Told.{gained_nothing, gave_nothing}
use Rattle.tdl_lines.specs.Lines.{lines_of, max_input}
use Rattle.tdl_lines.specs.Reading.{Reading, HasGivenAll, HasGivenSome, HasRead, ReadsOn, fresh}
use Rattle.tdl_lines.specs.declared.reader.Next.{Next}
use Rattle.tdl_lines.specs.declared.reader.Next.TheVariants.{Ended, Spent}
use Rattle.tdl_lines.specs.declared.faults.ReadFault.{ReadFault}
use Rattle.tdl_lines.specs.declared.faults.ReadFault.TheVariants.{NoMemory, Failed}
use Rattle.tdl_tempo.specs.Tempo.{Pace}
use Rattle.tdl_turn.specs.Numbers.{Among, Reads}
use Rattle.tdl_score.specs.declared.histories.Entry.{Entry}
use Rattle.tdl_score.specs.History.{entries_of}
use Rattle.tdl_log.specs.declared.ends.PortEnd.{PortEnd}
use Rattle.tdl_log.specs.declared.ends.PortEnd.TheVariants as port
use Rattle.tdl_answer.specs.Account.{Account}
use Rattle.tdl_answer.specs.EndLine.{one_after_another}
use Rattle.tdl_answer.specs.Taken.{Begun, Taken}
use Rattle.tdl_answer.proofs.DeviceCalls.{Meets, over, still, gained_on, gave_on, gave_to, rose_on}
use Rattle.tdl_answer.proofs.GoneLines.{joined_more}
use Rattle.tdl_answer.proofs.TakenLines.{Anything, Calls, ReadsLine, TookMore, taken_on, took_line, took_none}
use Rattle.tdl_perform.specs.declared.lines.Halt.{Halt}
use Rattle.tdl_perform.specs.declared.lines.Halt.TheVariants.{Memory, Put}
use Rattle.tdl_perform.specs.Port.{AnswersPort, PortEndsAs, ServesPort}
use Rattle.tdl_perform.specs.Serves.{Serves}
use Rattle.tdl_perform.specs.inside.OneLine.{HasSinkCause, LineBegun, LineServed}
use Rattle.tdl_perform.specs.inside.Serving.{Serving, port_of_halt}
use Rattle.tdl_perform.proofs.ServedLines.{serves_line, serves_none, serves_on}

-- ---- from the start on
pub serving_none : (tempo : Pace) (who : ℕ) (seen : List Entry) (reading : Reading) (left : Option (List ℕ)) (source_faults : ℕ) (held : Option (List ℕ))
    (faults : ℕ) → entries_of who seen ≡ [] → reading ≡ fresh → HasRead reading [] []
    → Serving tempo who reading seen (still left source_faults) (still held faults)
serving_none tempo who seen reading left source_faults held faults none new read = record {
  took = took_none reading left source_faults new read;
  replies = [];
  serves = serves_none tempo who seen none;
  put = gained_nothing held;
  kept = omega arith;
}

pub serving_line : {tempo : Pace} {who number : ℕ} {old_reading reading : Reading} {old new : List Entry} {source source' sink sink' : Account ℕ}
    (line : List ℕ) → Meets source source' → Meets sink sink' → (serving : Serving tempo who old_reading old source sink)
    → ReadsLine old_reading reading serving.took.taken serving.took.given source' line → number ≡ who → LineServed tempo number old line new sink'
    → sink'.faults_before ≤ sink'.faults_after → Serving tempo who reading new (over source source') (over sink sink')
serving_line {tempo} {who} {number} {old_reading} {reading} {old} {new} {source} {source'} {sink} {sink'} line sources sinks serving reads is served kept =
    let mine : LineServed tempo who old line new sink' = subst (λ (n : ℕ). LineServed tempo n old line new sink') is served in record {
      took = took_line sources serving.took reads;
      replies = serving.replies ++ mine.reply ∷ [];
      serves = serves_line tempo who serving.took.given serving.replies line mine.reply old new serving.serves mine.serves;
      put = rw (joined_more serving.replies mine.reply) (gained_on sinks serving.put mine.put);
      kept = omega (arith, sinks.faults, serving.kept, kept);
    }

-- ---- lines that were answered, and others that were not looked at
abbrev pub answers_some : {tempo : Pace} {who : ℕ} {lines replies : List (List ℕ)} {seen : List Entry} (all others : List (List ℕ))
    → Serves tempo who lines replies seen → all ≡ lines ++ others → AnswersPort tempo who all seen
answers_some {tempo} {who} {lines} {replies} {seen} all others serves parts = record {
  performed = lines;
  begun = None;
  others = others;
  parts = parts;
  replies = replies;
  serves = subst (λ (ls : List (List ℕ)). Serves tempo who ls (replies ++ []) seen) (sym (append-nil lines))
      (subst (λ (rs : List (List ℕ)). Serves tempo who lines rs seen) (sym (append-nil replies)) serves);
}

-- the replies were put, and nothing else
alone : {told told' : Option (List ℕ)} (replies : List (List ℕ)) → GainedExactly told told' (one_after_another replies)
    → GainedExactly told told' (one_after_another replies ++ [])
alone {told} {told'} replies put = subst (λ (bytes : List ℕ). GainedExactly told told' bytes) (sym (append-nil (one_after_another replies))) put

-- ---- a reader that gives no line
abbrev given_all : {ended : Bool} {reading : Reading} {taken : List ℕ} {given : List (List ℕ)} → length taken ≤ max_input + 1
    → HasGivenAll ended reading taken given → HasGivenSome reading.ended taken given
given_all {ended} {reading} {taken} {given} fits all = record {
  others = [];
  lines = subst (λ (e : Bool). lines_of e taken ≡ given ++ []) (sym all.ended_is) (all.lines ∙ sym (append-nil given));
  fits = fits;
}

-- it asked for more bytes, and gave all lines of them
port_read : {tempo : Pace} {who : ℕ} {old_reading reading : Reading} {seen : List Entry} {source source' sink : Account ℕ} {more : List ℕ} (end : PortEnd)
    → (sources : Meets source source') → (serving : Serving tempo who old_reading seen source sink) → (took : TookMore old_reading reading source' more)
    → (read : HasRead reading (serving.took.taken ++ more) serving.took.given)
    → (some : HasGivenSome reading.ended (serving.took.taken ++ more) serving.took.given)
    → PortEndsAs (taken_on sources serving.took took read some) None some.others sink end
    → ServesPort tempo who seen (over source source') sink end
port_read {tempo} {who} {old_reading} {reading} {seen} {source} {source'} {sink} {more} end sources serving took read some ended = record {
  script = taken_on sources serving.took took read some;
  answers = answers_some (lines_of reading.ended (serving.took.taken ++ more)) some.others serving.serves some.lines;
  front = [];
  fits = refl;
  gained = alone serving.replies serving.put;
  ended = ended;
  source_count = omega (arith, sources.faults, serving.took.kept, took.kept);
  sink_count = serving.kept;
}

pub port_ended : {tempo : Pace} {who : ℕ} {old_reading reading : Reading} {seen : List Entry} {source source' sink : Account ℕ} (answer : Next)
    → answer ≡ Ended → Meets source source' → Serving tempo who old_reading seen source sink → Calls (Ok answer) old_reading reading source'
    → ServesPort tempo who seen (over source source') sink port.Eof
port_ended {tempo} {who} {old_reading} {reading} {seen} {source} {source'} {sink} answer is sources serving calls =
    let on : ReadsOn Anything (Ok Ended) old_reading reading source'.told_before source'.told_after serving.took.taken serving.took.given =
    subst (λ (n : Next). ReadsOn Anything (Ok n) old_reading reading source'.told_before source'.told_after serving.took.taken serving.took.given) is
    (calls.reads serving.took.taken serving.took.given serving.took.read) in
    let took : TookMore old_reading reading source' on.more = record { gave = on.gave; none_left = on.none_left; same = calls.same; kept = calls.kept } in
    let counted = on.says.read.fits on.says.ended_is in
    port_read port.Eof sources serving took on.says.read (given_all (omega (arith, counted)) on.says)
    (PortEndsAs.eof refl on.says.ended_is (refl, refl))

pub port_spent : {tempo : Pace} {who : ℕ} {old_reading reading : Reading} {seen : List Entry} {source source' sink : Account ℕ} (answer : Next)
    → answer ≡ Spent → Meets source source' → Serving tempo who old_reading seen source sink → Calls (Ok answer) old_reading reading source'
    → ServesPort tempo who seen (over source source') sink port.Spent
port_spent {tempo} {who} {old_reading} {reading} {seen} {source} {source'} {sink} answer is sources serving calls =
    let on : ReadsOn Anything (Ok Spent) old_reading reading source'.told_before source'.told_after serving.took.taken serving.took.given =
    subst (λ (n : Next). ReadsOn Anything (Ok n) old_reading reading source'.told_before source'.told_after serving.took.taken serving.took.given) is
    (calls.reads serving.took.taken serving.took.given serving.took.read) in
    let took : TookMore old_reading reading source' on.more = record { gave = on.gave; none_left = on.none_left; same = calls.same; kept = calls.kept } in
    port_read port.Spent sources serving took on.says.0.read (given_all (omega (arith, on.says.1)) on.says.0)
    (PortEndsAs.spent refl on.says.1 (refl, refl))

-- the source failed; it may tell nothing afterwards
pub port_lost : {tempo : Pace} {who : ℕ} {old_reading reading : Reading} {seen : List Entry} {source source' sink : Account ℕ} (fault : ReadFault)
    → fault ≡ Failed → Meets source source' → Serving tempo who old_reading seen source sink → Calls (Err fault) old_reading reading source'
    → CountRose source'.faults_before source'.faults_after → ServesPort tempo who seen (over source source') sink port.Fault
port_lost {tempo} {who} {old_reading} {reading} {seen} {source} {source'} {sink} fault is sources serving calls rose =
    let on : ReadsOn Anything (Err Failed) old_reading reading source'.told_before source'.told_after serving.took.taken serving.took.given =
    subst (λ (f : ReadFault). ReadsOn Anything (Err f) old_reading reading source'.told_before source'.told_after serving.took.taken serving.took.given) is
    (calls.reads serving.took.taken serving.took.given serving.took.read) in
    let all = on.says.0 in let fits = on.says.1 in
    let bytes : List ℕ = serving.took.taken ++ on.more in
    let later = rose_on sources serving.took.kept rose in record {
      script = record {
        bytes = bytes;
        ended = false;
        left = on.gave.between;
        gave = gave_to sources serving.took.gave on.gave.gave;
        tells = elim on.gave.failed.either [ inl same ↦ inl same | inr none ↦ inr (none, later) ];
        limit = omega (arith, fits);
        at_end = λ e. absurd (false≢true e);
      };
      answers = answers_some (lines_of false bytes) [] serving.serves (all.lines ∙ sym (append-nil serving.took.given));
      front = [];
      fits = refl;
      gained = alone serving.replies serving.put;
      ended = PortEndsAs.lost refl later fits refl (refl, refl);
      source_count = later.kept;
      sink_count = serving.kept;
    }

-- there was no memory for the next line, and the end of the source was not seen
pub port_full : {tempo : Pace} {who : ℕ} {old_reading reading : Reading} {seen : List Entry} {source source' sink : Account ℕ} (fault : ReadFault)
    → fault ≡ NoMemory → Meets source source' → Serving tempo who old_reading seen source sink → Calls (Err fault) old_reading reading source'
    → ServesPort tempo who seen (over source source') sink port.Memory
port_full {tempo} {who} {old_reading} {reading} {seen} {source} {source'} {sink} fault is sources serving calls =
    let on : ReadsOn Anything (Err NoMemory) old_reading reading source'.told_before source'.told_after serving.took.taken serving.took.given =
    subst (λ (f : ReadFault). ReadsOn Anything (Err f) old_reading reading source'.told_before source'.told_after serving.took.taken serving.took.given) is
    (calls.reads serving.took.taken serving.took.given serving.took.read) in
    let some = on.says.1 in
    let bytes : List ℕ = serving.took.taken ++ on.more in record {
      script = record {
        bytes = bytes;
        ended = false;
        left = source'.told_after;
        gave = gave_on sources serving.took.gave on.gave;
        tells = inl refl;
        limit = some.fits;
        at_end = λ e. absurd (false≢true e);
      };
      answers = answers_some (lines_of false bytes) some.others serving.serves some.lines;
      front = [];
      fits = refl;
      gained = alone serving.replies serving.put;
      ended = PortEndsAs.memory refl (λ e all. false≢true e);
      source_count = omega (arith, sources.faults, serving.took.kept, calls.kept);
      sink_count = serving.kept;
    }

-- ---- a line that was begun
begun_is_some : (begun : Begun) → Some begun ≡ None → ⊥
begun_is_some begun e = cc

halted : {source : Account ℕ} {script : Taken source} {sink sink' : Account ℕ} (halt : Halt) (begun : Begun) (others : List (List ℕ)) → Meets sink sink'
    → sink.faults_before ≤ sink.faults_after → HasSinkCause halt sink' → PortEndsAs script (Some begun) others (over sink sink') (port_of_halt halt)
halted Memory begun others sinks kept cause = PortEndsAs.memory refl (λ e all. begun_is_some begun all.0)
halted Put begun others sinks kept cause = PortEndsAs.broken refl (rose_on sinks kept cause) (begun_is_some begun)

pub port_begun : {tempo : Pace} {who number : ℕ} {old_reading reading : Reading} {old new : List Entry} {source source' sink sink' : Account ℕ} (halt : Halt)
    (line : List ℕ) → Meets source source' → Meets sink sink' → (serving : Serving tempo who old_reading old source sink)
    → ReadsLine old_reading reading serving.took.taken serving.took.given source' line → number ≡ who → LineBegun tempo number old line new halt sink'
    → sink'.faults_before ≤ sink'.faults_after → ServesPort tempo who new (over source source') (over sink sink') (port_of_halt halt)
port_begun {tempo} {who} {number} {old_reading} {reading} {old} {new} {source} {source'} {sink} {sink'} halt line sources sinks serving reads is begun kept =
    let given : List (List ℕ) = serving.took.given in
    let mine : LineBegun tempo who old line new halt sink' = subst (λ (n : ℕ). LineBegun tempo n old line new halt sink') is begun in
    let one : Begun = record { line = line; reply = mine.reply } in record {
      script = taken_on sources serving.took reads.took reads.read reads.some;
      answers = record {
        performed = given;
        begun = Some one;
        others = reads.some.others;
        parts = reads.some.lines ∙ append_assoc given (line ∷ []) reads.some.others;
        replies = serving.replies;
        serves = serves_line tempo who given serving.replies line mine.reply old new serving.serves mine.serves;
      };
      front = mine.front;
      fits = (mine.missing, mine.parts);
      gained = gained_on sinks serving.put mine.put;
      ended = halted halt one reads.some.others sinks serving.kept mine.cause;
      source_count = omega (arith, sources.faults, serving.took.kept, reads.took.kept);
      sink_count = omega (arith, sinks.faults, serving.kept, kept);
    }

-- ---- without a reader
pub port_unread : (tempo : Pace) (who : ℕ) (seen : List Entry) (left : Option (List ℕ)) (source_faults : ℕ) (held : Option (List ℕ)) (faults : ℕ)
    → entries_of who seen ≡ [] → ServesPort tempo who seen (still left source_faults) (still held faults) port.Memory
port_unread tempo who seen left source_faults held faults none = record {
  script = record {
    bytes = [];
    ended = false;
    left = left;
    gave = gave_nothing left;
    tells = inl refl;
    limit = omega arith;
    at_end = λ e. absurd (false≢true e);
  };
  answers = answers_some (lines_of false []) [] (serves_none tempo who seen none) refl;
  front = [];
  fits = refl;
  gained = gained_nothing held;
  ended = PortEndsAs.memory refl (λ e all. false≢true e);
  source_count = omega arith;
  sink_count = omega arith;
}

-- ---- along a history
pub port_on : (tempo : Pace) (number : ℕ) (numbers : List ℕ) (history seen : List Entry) (source sink : Account ℕ) (end : PortEnd) → Among number numbers
    → Reads (λ (e : Entry). e.who) history seen numbers → ServesPort tempo number seen source sink end → ServesPort tempo number history source sink end
port_on tempo number numbers history seen source sink end own reads serves =
    let answers = serves.answers in record {
      script = serves.script;
      answers = record {
        performed = answers.performed;
        begun = answers.begun;
        others = answers.others;
        parts = answers.parts;
        replies = answers.replies;
        serves = serves_on tempo number numbers history seen _ _ own reads answers.serves;
      };
      front = serves.front;
      fits = serves.fits;
      gained = serves.gained;
      ended = serves.ended;
      source_count = serves.source_count;
      sink_count = serves.sink_count;
    }
