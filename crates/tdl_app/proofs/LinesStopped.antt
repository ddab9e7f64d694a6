-- Runs that stop before their script is answered to its end.
--     ends_fault     memory ran out in the reader, or the input failed
--     ends_line      a line was read, and not answered: nothing was done, or it was begun
-- The parts of what such a run did, which runs to the end of a script have too: answers_some, prints_replies.
use Rattle.std.proofs.Common.{
  ◌≡◌,
  ℕ,
  ◌≤◌,
  ◌⊎◌,
  inl,
  inr,
  true,
  false,
  IsTrue,
  List,
  [],
  ◌∷◌,
  ◌++◌,
  length,
  Some,
  None,
  Err,
  refl,
  ap,
  sym,
  subst,
  ◌∙◌,
  append_assoc,
  append-nil,
  arith,
}
use Rattle.std.proofs.lemmas.Bool.{false≢true}
use Rattle.tdl_io.specs.Told.{GainedExactly, GaveExactly}
use Rattle.tdl_io.specs.Faults.{CountRose}
use Rattle.tdl_lines.specs.Lines.{lines_of, max_input}
use Rattle.tdl_lines.specs.Reading.{Reading, HasGivenAll, HasGivenSome, GaveThenFailed}
use Rattle.tdl_lines.specs.declared.faults.ReadFault.{ReadFault}
use Rattle.tdl_lines.specs.declared.faults.ReadFault.TheVariants.{NoMemory, Failed}
use Rattle.tdl_tempo.specs.Tempo.{Pace}
use Rattle.tdl_score.specs.declared.histories.Entry.{Entry}
use Rattle.tdl_score.specs.History.{before_last_play, is_finished, plays}
use Rattle.tdl_core.specs.Replies.{CoreState}
use Rattle.tdl_log.specs.declared.ends.PortEnd.TheVariants as port
use Rattle.tdl_app.specs.declared.stops.Stop.{Stop}
use Rattle.tdl_app.specs.declared.stops.Stop.TheVariants.{Memory, Fault, Input}
use Rattle.tdl_answer.specs.Account.{Account, KeepsWires, WireAccounts}
use Rattle.tdl_app.specs.Played.{KeepsCounts}
use Rattle.tdl_app.specs.Causes.{EndsAs, HasPlayingStatus}
use Rattle.tdl_answer.specs.Ends.{AnyHasFailed}
use Rattle.tdl_app.specs.Printed.{Prints, PrintsNext}
use Rattle.tdl_app.specs.Answered.{AnsweredLines}
use Rattle.tdl_answer.specs.Taken.{Begun}
use Rattle.tdl_app.specs.Printed.{is_fault}
use Rattle.tdl_answer.specs.EndLine.{one_after_another}
use Rattle.tdl_answer.specs.Sent.{SendsBoth, SendsBothFrom}
use Rattle.tdl_answer.specs.Taken.{Taken}
use Rattle.tdl_app.specs.inside.OneLine.{AnswersAs, Begins, Broke, StopHasCause, Idle, Keeps, SentFront}
use Rattle.tdl_app.specs.inside.Progress.{Ends, Performs, Progress}
use Rattle.tdl_app.specs.inside.Stops.{port_of_stop, status_of_stop, stop_of_fault}
use Rattle.tdl_answer.proofs.DeviceCalls.{MeetBoth, Meets, over, over_both, gained_on, gave_on, gave_to, rose_on}
use Rattle.tdl_answer.proofs.WireSends.{sends_front, sends_still}
use Rattle.tdl_answer.proofs.TakenLines.{Calls, ReadsLine, taken_on}
use Rattle.tdl_app.proofs.LinesPerformed.{answer_at, goes_osc, keeps_on, sends_on}

-- a history that goes on has no finish
is_going : (entries : List Entry) → is_finished entries ≡ false → is_finished entries ≡ true → ⊥
is_going entries going finished = false≢true (sym going ∙ finished)

-- ---- parts of what a run did
-- lines were performed, and others not looked at
abbrev pub answers_some : {tempo : Pace} {lines : List (List ℕ)} {core : CoreState} {out : Account ℕ} {wires : WireAccounts} (all others : List (List ℕ))
    → Performs tempo lines core out wires → all ≡ lines ++ others → AnsweredLines tempo all core.history
answers_some {tempo} {lines} {core} {out} {wires} all others performs parts = record {
  performed = lines;
  begun = None;
  others = others;
  parts = parts;
  replies = performs.replies;
  reached = core.history;
  plays = performs.plays;
  next = refl;
}

keeps_counts : {input input' out : Account ℕ} {wires : WireAccounts} → Meets input input' → input.faults_before ≤ input.faults_after
    → input'.faults_before ≤ input'.faults_after → Keeps out wires → KeepsCounts (over input input') out wires
keeps_counts inputs before after counts = record {
  input_count = omega (arith, inputs.faults, before, after);
  out_count = counts.out_count;
  osc_count = counts.osc_count;
  midi_count = counts.midi_count;
}

-- the replies alone were put
abbrev pub prints_replies : {input : Account ℕ} {tempo : Pace} {lines : List (List ℕ)} {core : CoreState} {out : Account ℕ} {wires : WireAccounts} (status : ℕ)
    (script : Taken input) (all others : List (List ℕ)) (performs : Performs tempo lines core out wires) (parts : all ≡ lines ++ others)
    → (status ≡ 3) ⊎ (status ≡ 5) → Prints status script (answers_some all others performs parts) out wires
prints_replies {input} {tempo} {lines} {core} {out} {wires} status script all others performs parts why = record {
  text = [];
  next = PrintsNext.nothing why refl performs.sends refl;
  gained = subst (λ (xs : List ℕ). GainedExactly out.told_before out.told_after xs) (sym (append-nil (one_after_another performs.replies))) performs.put;
}

-- ---- stops while lines are read
-- memory ran out before the next line, and before the end of the input was seen
ends_no_memory : {tempo : Pace} {old_reading : Reading} {core : CoreState} {input input' out : Account ℕ} {wires : WireAccounts} (more : List ℕ)
    → Meets input input' → (progress : Progress tempo old_reading core input out wires) → GaveExactly input'.told_before input'.told_after more
    → input'.faults_before ≤ input'.faults_after
    → HasGivenSome false (progress.took.taken ++ more) progress.took.given → Ends tempo 3 port.Stopped core (over input input') out wires
ends_no_memory {tempo} {old_reading} {core} {input} {input'} {out} {wires} more inputs progress gave kept some = λ legal.
    let script : Taken (over input input') = record {
      bytes = progress.took.taken ++ more;
      ended = false;
      left = input'.told_after;
      gave = gave_on inputs progress.took.gave gave;
      tells = inl refl;
      limit = some.fits;
      at_end = λ e. absurd (false≢true e);
    } in record {
      script = script;
      legal = legal;
      answers = answers_some (lines_of false (progress.took.taken ++ more)) some.others progress.performs some.lines;
      packets = inl progress.performs.sends;
      printed = prints_replies 3 script (lines_of false (progress.took.taken ++ more)) some.others progress.performs some.lines (inl refl);
      cause = HasPlayingStatus.memory refl;
      ended = (refl, EndsAs.stopped refl refl (λ e all. false≢true e) (λ all. is_going core.history progress.going all.finished), tt);
      counts = keeps_counts inputs progress.took.kept kept progress.performs.counts;
    }

-- the input failed; it may tell nothing afterwards
ends_lost : {tempo : Pace} {old_reading reading : Reading} {core : CoreState} {input input' out : Account ℕ} {wires : WireAccounts} (more : List ℕ)
    → Meets input input' → (progress : Progress tempo old_reading core input out wires) → GaveThenFailed input'.told_before input'.told_after more
    → CountRose input'.faults_before input'.faults_after
    → HasGivenAll false reading (progress.took.taken ++ more) progress.took.given → length (progress.took.taken ++ more) ≤ max_input
    → Ends tempo 5 port.Fault core (over input input') out wires
ends_lost {tempo} {old_reading} {reading} {core} {input} {input'} {out} {wires} more inputs progress gave rose all fits = λ legal.
    let later = rose_on inputs progress.took.kept rose in
    let script : Taken (over input input') = record {
      bytes = progress.took.taken ++ more;
      ended = false;
      left = gave.between;
      gave = gave_to inputs progress.took.gave gave.gave;
      tells = elim gave.failed.either [ inl same ↦ inl same | inr none ↦ inr (none, later) ];
      limit = omega (arith, fits);
      at_end = λ e. absurd (false≢true e);
    } in
    let parts : lines_of false (progress.took.taken ++ more) ≡ progress.took.given ++ [] = all.lines ∙ sym (append-nil progress.took.given) in record {
      script = script;
      legal = legal;
      answers = answers_some (lines_of false (progress.took.taken ++ more)) [] progress.performs parts;
      packets = inl progress.performs.sends;
      printed = prints_replies 5 script (lines_of false (progress.took.taken ++ more)) [] progress.performs parts (inr refl);
      cause = HasPlayingStatus.lost refl later refl fits (record { none_begun = refl; none_left = refl; going = progress.going });
      ended = (refl, EndsAs.fault refl refl, tt);
      counts = keeps_counts inputs progress.took.kept rose.kept progress.performs.counts;
    }

pub ends_fault : {tempo : Pace} {old_reading reading : Reading} {core : CoreState} {input input' out : Account ℕ} {wires : WireAccounts} (fault : ReadFault)
    → Meets input input'
    → Progress tempo old_reading core input out wires → Calls (Err fault) old_reading reading input'
    → (fault ≡ Failed → CountRose input'.faults_before input'.faults_after)
    → Ends tempo (status_of_stop (stop_of_fault fault)) (port_of_stop (stop_of_fault fault)) core (over input input') out wires
ends_fault {tempo} {old_reading} {reading} {core} {input} {input'} {out} {wires} NoMemory inputs progress calls rose =
    let on = calls.reads progress.took.taken progress.took.given progress.took.read in
    ends_no_memory on.more inputs progress on.gave calls.kept on.says.1
ends_fault {tempo} {old_reading} {reading} {core} {input} {input'} {out} {wires} Failed inputs progress calls rose =
    let on = calls.reads progress.took.taken progress.took.given progress.took.read in
    ends_lost on.more inputs progress on.gave (rose refl) on.says.0 on.says.1

-- ---- a line that was begun
is_fault_of : (stop : Stop) (out : Account ℕ) (wires : WireAccounts) → StopHasCause stop out wires → IsTrue (is_fault (status_of_stop stop))
is_fault_of Memory out wires cause = refl
is_fault_of Fault out wires cause = refl
is_fault_of Input out wires cause = absurd cause

is_stopped_by : (stop : Stop) (out : Account ℕ) (wires : WireAccounts) → StopHasCause stop out wires → port_of_stop stop ≡ port.Stopped
is_stopped_by Memory out wires cause = refl
is_stopped_by Fault out wires cause = refl
is_stopped_by Input out wires cause = absurd cause

is_memory : (stop : Stop) → status_of_stop stop ≡ 3 → stop ≡ Memory
is_memory Memory e = refl
is_memory Fault e = absurd (omega (arith, e))
is_memory Input e = absurd (omega (arith, e))

-- one is not none
begun_is_some : (begun : Begun) → Some begun ≡ None → ⊥
begun_is_some begun e = cc

others_are_some : (line : List ℕ) (others : List (List ℕ)) → line ∷ others ≡ [] → ⊥
others_are_some line others e = cc

failed_on : {out out' : Account ℕ} {wires wires' : WireAccounts} → Meets out out' → MeetBoth wires wires' → Keeps out wires → AnyHasFailed out' wires'
    → AnyHasFailed (over out out') (over_both wires wires')
failed_on outs both counts failed = elim failed [
  | inl rose ↦ inl (rose_on outs counts.out_count rose)
  | inr (inl rose) ↦ inr (inl (rose_on both.osc counts.osc_count rose))
  | inr (inr rose) ↦ inr (inr (rose_on both.midi counts.midi_count rose))
]

has_status : {input : Account ℕ} {tempo : Pace} {lines : List (List ℕ)} {history : List Entry} {out out' : Account ℕ} {wires wires' : WireAccounts}
    (stop : Stop) (script : Taken input) (answers : AnsweredLines tempo lines history)
    → Meets out out' → MeetBoth wires wires' → Keeps out wires → StopHasCause stop out' wires'
    → HasPlayingStatus (status_of_stop stop) script answers (over out out') (over_both wires wires')
has_status Memory script answers outs both counts cause = HasPlayingStatus.memory refl
has_status Fault script answers outs both counts cause =
    HasPlayingStatus.fault refl (failed_on outs both counts cause)
has_status Input script answers outs both counts cause = absurd cause

sends_fronts : {tempo : Pace} {old new : CoreState} {wires wires' : WireAccounts} → old.tempo ≡ tempo → SendsBoth tempo old.history wires → KeepsWires wires
    → MeetBoth wires wires' → SentFront old new wires' → SendsBothFrom tempo old.history new.history (over_both wires wires')
sends_fronts at sends counts both front = record {
  packets = sends_front both.osc (goes_osc at front.grows) sends.packets counts.osc_count front.some_packets;
  messages = sends_front both.midi front.grows.midi sends.messages counts.midi_count front.some_messages;
}

-- the history without its last entry that plays
abbrev pub Cuts : Type 0
Cuts = (entries : List Entry) (e : Entry) → plays e.deed ≡ true → before_last_play (entries ++ e ∷ []) ≡ entries

pub sends_before_play : {tempo : Pace} {old new : CoreState} {wires wires' : WireAccounts} → Cuts → old.tempo ≡ tempo
    → SendsBoth tempo old.history wires → KeepsWires wires → MeetBoth wires wires' → SentFront old new wires'
    → SendsBothFrom tempo (before_last_play new.history) new.history (over_both wires wires')
sends_before_play {tempo} {old} {new} {wires} {wires'} cuts at sends counts both front =
    let earlier : before_last_play new.history ≡ old.history = ap before_last_play front.last ∙ cuts old.history front.entry front.played in
    subst (λ (entries : List Entry). SendsBothFrom tempo entries new.history (over_both wires wires')) (sym earlier)
    (sends_fronts at sends counts both front)

ends_begun : {tempo : Pace} {old_reading reading : Reading} {old new : CoreState} {input input' out out' : Account ℕ} {wires wires' : WireAccounts}
    (stop : Stop) (line : List ℕ) → Meets input input' → Meets out out' → MeetBoth wires wires'
    → (progress : Progress tempo old_reading old input out wires) → ReadsLine old_reading reading progress.took.taken progress.took.given input' line
    → Cuts → StopHasCause stop out' wires' → Keeps out' wires' → Begins (AnswersAs old line) old new stop out' wires'
    → Ends tempo (status_of_stop stop) (port_of_stop stop) new (over input input') (over out out') (over_both wires wires')
ends_begun {tempo} {old_reading} {reading} {old} {new} {input} {input'} {out} {out'} {wires}
    {wires'} stop line inputs outs both progress reads cuts cause counts begins = λ legal.
    let script = taken_on inputs progress.took reads.took reads.read reads.some in
    let performs = progress.performs in
    let wire_counts : KeepsWires wires = record { osc_count = performs.counts.osc_count; midi_count = performs.counts.midi_count } in
    let answers : AnsweredLines tempo (lines_of reading.ended (progress.took.taken ++ reads.more)) new.history = record {
      performed = progress.took.given;
      begun = Some (record { line = line; reply = begins.reply });
      others = reads.some.others;
      parts = reads.some.lines ∙ append_assoc progress.took.given (line ∷ []) reads.some.others;
      replies = performs.replies;
      reached = old.history;
      plays = performs.plays;
      next = (progress.going, answer_at tempo old line new.history begins.reply performs.at_tempo begins.answer);
    } in
    let fault = is_fault_of stop out' wires' cause in record {
      script = script;
      legal = legal;
      answers = answers;
      packets = elim begins.sent [
        | inl all ↦ inl (sends_on both performs.at_tempo performs.sends all)
        | inr part ↦ inr (fault, sends_before_play cuts performs.at_tempo performs.sends wire_counts both part.1)
      ];
      printed = record {
        text = begins.put.front;
        next = PrintsNext.part_of_reply fault (record {
          line = line;
          missing = begins.put.missing;
          is = ap (λ (reply : List ℕ). Some (begun_with line reply)) begins.put.parts;
          ordered = elim begins.sent [
            | inl all ↦ inl (sends_on both performs.at_tempo performs.sends all)
            | inr part ↦ inr (part.0, sends_fronts performs.at_tempo performs.sends wire_counts both part.1)
          ];
          memory = λ e. begins.put.memory (is_memory stop e);
        });
        gained = gained_on outs performs.put begins.put.gained;
      };
      cause = has_status stop script answers outs both performs.counts cause;
      ended = (
        refl,
        EndsAs.stopped (is_stopped_by stop out' wires' cause) fault (λ e all. begun_is_some (begun_with line begins.reply) all.none_begun)
            (λ all. begun_is_some (begun_with line begins.reply) all.none_begun),
        tt,
      );
      counts = keeps_counts inputs progress.took.kept reads.took.kept (keeps_on outs both performs.counts counts);
    }
  where
    begun_with : List ℕ → List ℕ → Begun
    begun_with line reply = record { line = line; reply = reply }

-- ---- a line that was read
performs_still : {tempo : Pace} {lines : List (List ℕ)} {core next : CoreState} {stop : Stop} {out out' : Account ℕ} {wires wires' : WireAccounts}
    → Meets out out'
    → MeetBoth wires wires' → Idle core next stop out' wires' → Keeps out' wires'
    → Performs tempo lines core out wires → Performs tempo lines core (over out out') (over_both wires wires')
performs_still {tempo} {lines} {core} {next} {stop} {out} {out'} {wires} {wires'} outs both idle counts performs = record {
  at_tempo = performs.at_tempo;
  replies = performs.replies;
  plays = performs.plays;
  put = subst (λ (xs : List ℕ). GainedExactly out.told_before out'.told_after xs) (append-nil (one_after_another performs.replies))
      (gained_on outs performs.put idle.put);
  sends = record {
    packets = sends_still both.osc performs.sends.packets idle.packets;
    messages = sends_still both.midi performs.sends.messages idle.messages;
  };
  counts = keeps_on outs both performs.counts counts;
}

ends_idle : {tempo : Pace} {old_reading reading : Reading} {core next : CoreState} {stop : Stop} {input input' out out' : Account ℕ}
    {wires wires' : WireAccounts}
    (line : List ℕ) → Meets input input' → Meets out out' → MeetBoth wires wires'
    → (progress : Progress tempo old_reading core input out wires) → ReadsLine old_reading reading progress.took.taken progress.took.given input' line
    → Idle core next stop out' wires' → Keeps out' wires'
    → Ends tempo 3 port.Stopped core (over input input') (over out out') (over_both wires wires')
ends_idle {tempo} {old_reading} {reading} {core} {next} {stop} {input} {input'} {out} {out'} {wires} {wires'}
    line inputs outs both progress reads idle counts = λ legal.
    let script = taken_on inputs progress.took reads.took reads.read reads.some in
    let performs = performs_still outs both idle counts progress.performs in
    let parts : lines_of reading.ended (progress.took.taken ++ reads.more) ≡ progress.took.given ++ (line ∷ [] ++ reads.some.others) = reads.some.lines
    ∙ append_assoc progress.took.given (line ∷ []) reads.some.others in record {
      script = script;
      legal = legal;
      answers = answers_some (lines_of reading.ended (progress.took.taken ++ reads.more)) (line ∷ [] ++ reads.some.others) performs parts;
      packets = inl performs.sends;
      printed = prints_replies 3 script (lines_of reading.ended (progress.took.taken ++ reads.more)) (line ∷ [] ++ reads.some.others) performs parts (inl refl);
      cause = HasPlayingStatus.memory refl;
      ended = (
        refl,
        EndsAs.stopped refl refl (λ e all. others_are_some line reads.some.others all.none_left)
            (λ all. is_going core.history progress.going all.finished),
        tt,
      );
      counts = keeps_counts inputs progress.took.kept reads.took.kept performs.counts;
    }

pub ends_line : {tempo : Pace} {old_reading reading : Reading} {old new : CoreState} {input input' out out' : Account ℕ} {wires wires' : WireAccounts}
    (stop : Stop) (line : List ℕ) → Meets input input' → Meets out out' → MeetBoth wires wires'
    → (progress : Progress tempo old_reading old input out wires) → ReadsLine old_reading reading progress.took.taken progress.took.given input' line → Cuts
    → Broke (AnswersAs old line) old new stop out' wires'
    → Ends tempo (status_of_stop stop) (port_of_stop stop) new (over input input') (over out out') (over_both wires wires')
ends_line {tempo} {old_reading} {reading} {old} {new} {input} {input'} {out} {out'} {wires} {wires'} stop line inputs outs both progress reads cuts broke =
    elim broke.how [
      | inl idle ↦
          subst (λ (core : CoreState). Ends tempo (status_of_stop stop) (port_of_stop stop) core (over input input') (over out out') (over_both wires wires'))
          (sym idle.same)
          (subst (λ (s : Stop). Ends tempo (status_of_stop s) (port_of_stop s) old (over input input') (over out out') (over_both wires wires'))
          (sym idle.memory)
          (ends_idle line inputs outs both progress reads idle broke.counts))
      | inr begins ↦ ends_begun stop line inputs outs both progress reads cuts broke.cause broke.counts begins
    ]
