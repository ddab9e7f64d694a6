-- Runs that answer their script to its end, and runs that never begin it.
--     finishes_played                    the finish was performed
--     finishes_ended, finishes_spent     the reader gave all lines
--     put_whole, put_part, put_none      of each end line what holds of the text that is put, since there is one
--     ends_put                           the end line was put, or not
--     performed_unplayed                 there was no memory to begin with
--     accepted_by, performed_by          a script was performed by a core of this tempo
use Rattle.std.proofs.Common.{◌≡◌, ℕ, ◌≤◌, ◌⊎◌, inl, inr, true, false, IsTrue, List, [], ◌∷◌, ◌++◌, length, Option, Result}
use Rattle.std.proofs.Common.{Ok, Err, IfErr, OnOk, refl, ap, sym, subst, ◌∙◌, append-nil, length-append, arith}
use Rattle.std.specs.Prelude.{IfOk}
use Rattle.std.proofs.lemmas.Bool.{false≢true}
use Rattle.tdl_io.specs.Told.{GainedExactly}
use Rattle.tdl_io.proofs.Told.{gained_nothing, gave_nothing}
use Rattle.tdl_lines.specs.Lines.{lines_of}
use Rattle.tdl_lines.specs.Reading.{Reading, ReadsOn}
use Rattle.tdl_lines.specs.declared.reader.Next.{Next}
use Rattle.tdl_lines.specs.declared.reader.Next.TheVariants.{Ended, Spent}
use Rattle.tdl_tempo.specs.Tempo.{Pace}
use Rattle.tdl_score.specs.declared.histories.Entry.{Entry}
use Rattle.tdl_score.specs.History.{is_finished}
use Rattle.tdl_core.specs.Replies.{CoreState, core_of}
use Rattle.tdl_core.specs.Said.{IsLegal}
use Rattle.tdl_log.specs.declared.ends.Ending.{Ending}
use Rattle.tdl_log.specs.declared.ends.PortEnd.{PortEnd}
use Rattle.tdl_log.specs.declared.ends.PortEnd.TheVariants as port
use Rattle.tdl_app.specs.declared.play.End.{End}
use Rattle.tdl_app.specs.declared.play.End.TheVariants as end
use Rattle.tdl_app.specs.declared.stops.Stop.{Stop}
use Rattle.tdl_app.specs.declared.stops.Stop.TheVariants.{Memory, Fault, Input}
use Rattle.tdl_answer.specs.Account.{Account, WireAccounts}
use Rattle.tdl_app.specs.Played.{KeepsCounts}
use Rattle.tdl_app.specs.Causes.{EndsAs, HasPlayingStatus}
use Rattle.tdl_app.specs.Answered.{AllPerformed, AnsweredLines, HasFinished, IsOver}
use Rattle.tdl_answer.specs.EndLine.{IsEndLine}
use Rattle.tdl_app.specs.Played.{Performed}
use Rattle.tdl_app.specs.Printed.{PrintsNext}
use Rattle.tdl_answer.specs.EndLine.{one_after_another}
use Rattle.tdl_answer.specs.Taken.{Taken}
use Rattle.tdl_app.specs.inside.OneLine.{Answered, AnswersAs, BrokeText, Keeps}
use Rattle.tdl_app.specs.inside.Progress.{Ends, Finishes, Performs, Progress}
use Rattle.tdl_app.specs.inside.Stops.{port_of_end, status_of, status_of_end, status_of_stop}
use Rattle.tdl_answer.proofs.DeviceCalls.{MeetBoth, Meets, over, over_both, still, still_both, gained_on, gave_on, rose_on}
use Rattle.tdl_answer.proofs.TakenLines.{Anything, Calls, ReadsLine, TookMore, none_left_on, taken_on}
use Rattle.tdl_app.proofs.EndLines.{is_end_line, line_of}
use Rattle.tdl_app.proofs.LinesPerformed.{performs_more, performs_none}
use Rattle.tdl_app.proofs.LinesStopped.{answers_some, prints_replies}

-- ---- the finish
pub finishes_played : {tempo : Pace} {old_reading reading : Reading} {old new : CoreState} {input input' out out' : Account ℕ} {wires wires' : WireAccounts}
    (line : List ℕ) → Meets input input' → Meets out out' → MeetBoth wires wires'
    → (progress : Progress tempo old_reading old input out wires) → ReadsLine old_reading reading progress.took.taken progress.took.given input' line
    → Answered (AnswersAs old line) old new out' wires' → is_finished new.history ≡ true
    → Finishes tempo end.Finish new (over input input') (over out out') (over_both wires wires')
finishes_played {tempo} {old_reading} {reading} {old} {new} {input} {input'} {out} {out'} {wires}
    {wires'} line inputs outs both progress reads answered finished = record {
      script = taken_on inputs progress.took reads.took reads.read reads.some;
      given = progress.took.given ++ line ∷ [];
      others = reads.some.others;
      lines = reads.some.lines;
      over = finished;
      kept = omega (arith, inputs.faults, progress.took.kept, reads.took.kept);
      performs = performs_more tempo progress.took.given line old new out out' wires wires' outs both progress.performs progress.going answered;
    }

-- ---- a reader that gives no line
pub finishes_ended : {tempo : Pace} {old_reading reading : Reading} {core : CoreState} {input input' out : Account ℕ} {wires : WireAccounts} (answer : Next)
    → answer ≡ Ended → Meets input input'
    → Progress tempo old_reading core input out wires → Calls (Ok answer) old_reading reading input'
    → Finishes tempo end.Input core (over input input') out wires
finishes_ended {tempo} {old_reading} {reading} {core} {input} {input'} {out} {wires} answer is inputs progress calls =
    let on : ReadsOn Anything (Ok Ended) old_reading reading input'.told_before input'.told_after progress.took.taken progress.took.given =
    subst (λ (n : Next). ReadsOn Anything (Ok n) old_reading reading input'.told_before input'.told_after progress.took.taken progress.took.given) is
    (calls.reads progress.took.taken progress.took.given progress.took.read) in
    let took : TookMore old_reading reading input' on.more = record { gave = on.gave; none_left = on.none_left; same = calls.same; kept = calls.kept } in
    let ended : IsTrue reading.ended = on.says.ended_is in
    let counted = on.says.read.fits ended in record {
      script = record {
        bytes = progress.took.taken ++ on.more;
        ended = true;
        left = input'.told_after;
        gave = gave_on inputs progress.took.gave on.gave;
        tells = inl refl;
        limit = omega (arith, counted);
        at_end = λ e. record { counted = counted; none_left = none_left_on inputs progress.took.none_left took ended };
      };
      given = progress.took.given;
      others = [];
      lines = on.says.lines ∙ sym (append-nil progress.took.given);
      over = (refl, refl, progress.going);
      kept = omega (arith, inputs.faults, progress.took.kept, calls.kept);
      performs = progress.performs;
    }

pub finishes_spent : {tempo : Pace} {old_reading reading : Reading} {core : CoreState} {input input' out : Account ℕ} {wires : WireAccounts} (answer : Next)
    → answer ≡ Spent → Meets input input'
    → Progress tempo old_reading core input out wires → Calls (Ok answer) old_reading reading input'
    → Finishes tempo end.Spent core (over input input') out wires
finishes_spent {tempo} {old_reading} {reading} {core} {input} {input'} {out} {wires} answer is inputs progress calls =
    let on : ReadsOn Anything (Ok Spent) old_reading reading input'.told_before input'.told_after progress.took.taken progress.took.given =
    subst (λ (n : Next). ReadsOn Anything (Ok n) old_reading reading input'.told_before input'.told_after progress.took.taken progress.took.given) is
    (calls.reads progress.took.taken progress.took.given progress.took.read) in record {
      script = record {
        bytes = progress.took.taken ++ on.more;
        ended = false;
        left = input'.told_after;
        gave = gave_on inputs progress.took.gave on.gave;
        tells = inl refl;
        limit = omega (arith, on.says.1);
        at_end = λ e. absurd (false≢true e);
      };
      given = progress.took.given;
      others = [];
      lines = on.says.0.lines ∙ sym (append-nil progress.took.given);
      over = (on.says.1, refl, progress.going);
      kept = omega (arith, inputs.faults, progress.took.kept, calls.kept);
      performs = progress.performs;
    }

-- ---- the end of a script
abbrev all_answers : {tempo : Pace} {core : CoreState} {input out : Account ℕ} {wires : WireAccounts} {end : End}
    → (finishes : Finishes tempo end core input out wires) → AnsweredLines tempo (lines_of finishes.script.ended finishes.script.bytes) core.history
all_answers finishes = answers_some (lines_of finishes.script.ended finishes.script.bytes) finishes.others finishes.performs finishes.lines

all_performed : {tempo : Pace} {core : CoreState} {input out : Account ℕ} {wires : WireAccounts} {end : End}
    (finishes : Finishes tempo end core input out wires) → finishes.others ≡ [] → is_finished core.history ≡ false → AllPerformed (all_answers finishes)
all_performed finishes none going = record { none_begun = refl; none_left = none; going = going }

has_finished : {tempo : Pace} {core : CoreState} {input out : Account ℕ} {wires : WireAccounts} (finishes : Finishes tempo end.Finish core input out wires)
    → HasFinished (all_answers finishes)
has_finished finishes = record { none_begun = refl; finished = finishes.over }

status_at_end : {tempo : Pace} {core : CoreState} {input out : Account ℕ} {wires : WireAccounts} (end : End)
    (finishes : Finishes tempo end core input out wires) (out' : Account ℕ)
    → HasPlayingStatus (status_of_end end) finishes.script (all_answers finishes) out' wires
status_at_end end.Finish finishes out' = HasPlayingStatus.finished refl (has_finished finishes)
status_at_end end.Input finishes out' = HasPlayingStatus.done refl finishes.over.0 (all_performed finishes finishes.over.1 finishes.over.2)
status_at_end end.Spent finishes out' = HasPlayingStatus.spent refl finishes.over.0 (all_performed finishes finishes.over.1 finishes.over.2)

-- the port ended so, whatever the status
port_at_end : {tempo : Pace} {core : CoreState} {input out : Account ℕ} {wires : WireAccounts} (status : ℕ) (end : End)
    (finishes : Finishes tempo end core input out wires)
    → EndsAs status finishes.script (all_answers finishes) (port_of_end end)
port_at_end status end.Finish finishes = EndsAs.finish refl (has_finished finishes)
port_at_end status end.Input finishes = EndsAs.eof refl finishes.over.0 (all_performed finishes finishes.over.1 finishes.over.2)
port_at_end status end.Spent finishes = EndsAs.spent refl finishes.over.0 (all_performed finishes finishes.over.1 finishes.over.2)

whole_status : (end : End) → (status_of_end end ≡ 0) ⊎ (status_of_end end ≡ 6)
whole_status end.Finish = inl refl
whole_status end.Input = inl refl
whole_status end.Spent = inr refl

is_over : {tempo : Pace} {core : CoreState} {input out : Account ℕ} {wires : WireAccounts} (end : End) (finishes : Finishes tempo end core input out wires)
    → IsOver finishes.script (all_answers finishes)
is_over end.Finish finishes = inl (has_finished finishes)
is_over end.Input finishes = inr (all_performed finishes finishes.over.1 finishes.over.2, inl finishes.over.0)
is_over end.Spent finishes = inr (all_performed finishes finishes.over.1 finishes.over.2, inr finishes.over.0)

counts_on : {input out out' : Account ℕ} {wires : WireAccounts} → input.faults_before ≤ input.faults_after → Meets out out' → Keeps out wires
    → out'.faults_before ≤ out'.faults_after → KeepsCounts input (over out out') wires
counts_on kept outs counts later = record {
  input_count = kept;
  out_count = omega (arith, outs.faults, counts.out_count, later);
  osc_count = counts.osc_count;
  midi_count = counts.midi_count;
}

-- the end line was put
ends_whole : {tempo : Pace} {core : CoreState} {input out out' : Account ℕ} {wires : WireAccounts} (end : End) (line : List ℕ) → Meets out out'
    → Finishes tempo end core input out wires → IsEndLine tempo core.history line
    → GainedExactly out'.told_before out'.told_after line → out'.faults_before ≤ out'.faults_after
    → Ends tempo (status_of_end end) (port_of_end end) core input (over out out') wires
ends_whole {tempo} {core} {input} {out} {out'} {wires} end line outs finishes is put kept = λ legal. record {
  script = finishes.script;
  legal = legal;
  answers = all_answers finishes;
  packets = inl finishes.performs.sends;
  printed = record {
    text = line;
    next = PrintsNext.whole (whole_status end) is;
    gained = gained_on outs finishes.performs.put put;
  };
  cause = status_at_end end finishes (over out out');
  ended = (refl, port_at_end (status_of_end end) end finishes, tt);
  counts = counts_on finishes.kept outs finishes.performs.counts kept;
}

-- memory ran out before the end line
ends_without : {tempo : Pace} {core : CoreState} {input out : Account ℕ} {wires : WireAccounts} (end : End) → Finishes tempo end core input out wires
    → Ends tempo 3 (port_of_end end) core input out wires
ends_without {tempo} {core} {input} {out} {wires} end finishes = λ legal. record {
  script = finishes.script;
  legal = legal;
  answers = all_answers finishes;
  packets = inl finishes.performs.sends;
  printed =
      prints_replies 3 finishes.script (lines_of finishes.script.ended finishes.script.bytes) finishes.others finishes.performs finishes.lines (inl refl);
  cause = HasPlayingStatus.memory refl;
  ended = (refl, port_at_end 3 end finishes, tt);
  counts = record {
    input_count = finishes.kept;
    out_count = finishes.performs.counts.out_count;
    osc_count = finishes.performs.counts.osc_count;
    midi_count = finishes.performs.counts.midi_count;
  };
}

-- the put of the end line failed
ends_in_part : {tempo : Pace} {core : CoreState} {input out out' : Account ℕ} {wires : WireAccounts} (end : End) (line : List ℕ) → Meets out out'
    → Finishes tempo end core input out wires → IsEndLine tempo core.history line
    → BrokeText line Fault out' → out'.faults_before ≤ out'.faults_after → Ends tempo 4 (port_of_end end) core input (over out out') wires
ends_in_part {tempo} {core} {input} {out} {out'} {wires} end line outs finishes is broke kept = λ legal. record {
  script = finishes.script;
  legal = legal;
  answers = all_answers finishes;
  packets = inl finishes.performs.sends;
  printed = record {
    text = broke.put.front;
    next = PrintsNext.part_of_end refl (is_over end finishes) finishes.performs.sends
        (broke.put.missing, subst (λ (text : List ℕ). IsEndLine tempo core.history text) broke.put.parts is);
    gained = gained_on outs finishes.performs.put broke.put.gained;
  };
  cause = HasPlayingStatus.fault refl (inl (rose_on outs finishes.performs.counts.out_count broke.cause));
  ended = (refl, port_at_end 4 end finishes, tt);
  counts = counts_on finishes.kept outs finishes.performs.counts kept;
}

nothing_put : {tempo : Pace} {core : CoreState} {input out out' : Account ℕ} {wires : WireAccounts} (end : End) → Meets out out'
    → Finishes tempo end core input out wires
    → GainedExactly out'.told_before out'.told_after [] → out'.faults_before ≤ out'.faults_after → Finishes tempo end core input (over out out') wires
nothing_put {tempo} {core} {input} {out} {out'} {wires} end outs finishes none kept = record {
  script = finishes.script;
  given = finishes.given;
  others = finishes.others;
  lines = finishes.lines;
  over = finishes.over;
  kept = finishes.kept;
  performs = record {
    at_tempo = finishes.performs.at_tempo;
    replies = finishes.performs.replies;
    plays = finishes.performs.plays;
    put = subst (λ (xs : List ℕ). GainedExactly out.told_before out'.told_after xs) (append-nil (one_after_another finishes.performs.replies))
        (gained_on outs finishes.performs.put none);
    sends = finishes.performs.sends;
    counts = record {
      out_count = omega (arith, outs.faults, finishes.performs.counts.out_count, kept);
      osc_count = finishes.performs.counts.osc_count;
      midi_count = finishes.performs.counts.midi_count;
    };
  };
}

ends_in_end : {tempo : Pace} {core : CoreState} {input out out' : Account ℕ} {wires : WireAccounts} (stop : Stop) (end : End) (line : List ℕ)
    → Meets out out' → Finishes tempo end core input out wires → IsEndLine tempo core.history line
    → BrokeText line stop out' → out'.faults_before ≤ out'.faults_after
    → Ends tempo (status_of_stop stop) (port_of_end end) core input (over out out') wires
ends_in_end {tempo} {core} {input} {out} {out'} {wires} Memory end line outs finishes is broke kept =
    let none = subst (λ (front : List ℕ). GainedExactly out'.told_before out'.told_after front) (broke.put.memory refl) broke.put.gained in
    ends_without end (nothing_put end outs finishes none kept)
ends_in_end {tempo} {core} {input} {out} {out'} {wires} Fault end line outs finishes is broke kept = ends_in_part end line outs finishes is broke kept
ends_in_end {tempo} {core} {input} {out} {out'} {wires} Input end line outs finishes is broke kept = absurd broke.cause

-- ---- the one end line of a core
is_end_line_at : {tempo : Pace} {lines : List (List ℕ)} {core : CoreState} {out : Account ℕ} {wires : WireAccounts}
    (performs : Performs tempo lines core out wires)
    → IsEndLine core.tempo core.history (line_of performs.sends)
is_end_line_at {tempo} {lines} {core} performs =
    subst (λ (t : Pace). IsEndLine t core.history (line_of performs.sends)) (sym performs.at_tempo) (is_end_line performs.sends)

pub ends_put : {tempo : Pace} {core : CoreState} {input out out' : Account ℕ} {wires : WireAccounts} (end : End) (result : Result End Stop) → Meets out out'
    → Finishes tempo end core input out wires
    → ((line : List ℕ) → IsEndLine core.tempo core.history line → OnOk result (GainedExactly out'.told_before out'.told_after line))
    → IfOk result (λ e. e ≡ end)
    → ((line : List ℕ) → IsEndLine core.tempo core.history line → IfErr result (λ stop. BrokeText line stop out'))
    → out'.faults_before ≤ out'.faults_after → Ends tempo (status_of result) (port_of_end end) core input (over out out') wires
ends_put {tempo} {core} {input} {out} {out'} {wires} end (Ok other) outs finishes put same broke kept =
    let line = line_of finishes.performs.sends in
    subst (λ (e : End). Ends tempo (status_of_end e) (port_of_end end) core input (over out out') wires) (sym same)
    (ends_whole end line outs finishes (is_end_line finishes.performs.sends) (put line (is_end_line_at finishes.performs)) kept)
ends_put {tempo} {core} {input} {out} {out'} {wires} end (Err stop) outs finishes put same broke kept =
    let line = line_of finishes.performs.sends in
    ends_in_end stop end line outs finishes (is_end_line finishes.performs.sends) (broke line (is_end_line_at finishes.performs)) kept

-- ---- a text that every end line is
pub put_whole : {tempo : Pace} {history : List Entry} {before after : Option (List ℕ)} (text : List ℕ)
    → ((line : List ℕ) → IsEndLine tempo history line → text ≡ line) → GainedExactly before after text
    → (line : List ℕ) → IsEndLine tempo history line → GainedExactly before after line
put_whole {tempo} {history} {before} {after} text one put line is = subst (λ (t : List ℕ). GainedExactly before after t) (one line is) put

pub put_part : {tempo : Pace} {history : List Entry} {out : Account ℕ} (text : List ℕ) (stop : Stop)
    → ((line : List ℕ) → IsEndLine tempo history line → text ≡ line) → BrokeText text stop out
    → (line : List ℕ) → IsEndLine tempo history line → BrokeText line stop out
put_part {tempo} {history} {out} text stop one broke line is = subst (λ (t : List ℕ). BrokeText t stop out) (one line is) broke

-- memory ran out before it was there
pub put_none : (line : List ℕ) (told : Option (List ℕ)) (faults : ℕ) → BrokeText line Memory (still told faults)
put_none line told faults = record {
  put = record { front = []; missing = line; parts = refl; gained = gained_nothing told; memory = λ e. refl };
  cause = tt;
}

-- ---- a run without a core or a reader
pub legal_none : IsLegal []
legal_none = record { each = λ before e after same. absurd (omega (arith, ap length same, length-append before (e ∷ after))) }

performed_none : (tempo : Pace) (left : Option (List ℕ)) (source_faults : ℕ) (held : Option (List ℕ)) (faults : ℕ)
    (to_osc : Option (List (List ℕ))) (osc_faults : ℕ) (to_midi : Option (List (List ℕ))) (midi_faults : ℕ)
    → Performed tempo 3 [] (record { port = 0; end = port.Stopped } ∷ []) (still left source_faults) (still held faults)
    (still_both to_osc osc_faults to_midi midi_faults)
performed_none tempo left source_faults held faults to_osc osc_faults to_midi midi_faults =
    let performs = performs_none tempo (core_of tempo []) held faults to_osc osc_faults to_midi midi_faults refl in
    let script : Taken (still left source_faults) = record {
      bytes = [];
      ended = false;
      left = left;
      gave = gave_nothing left;
      tells = inl refl;
      limit = omega arith;
      at_end = λ e. absurd (false≢true e);
    } in record {
      script = script;
      legal = legal_none;
      answers = answers_some (lines_of false []) [] performs refl;
      packets = inl performs.sends;
      printed = prints_replies 3 script (lines_of false []) [] performs refl (inl refl);
      cause = HasPlayingStatus.memory refl;
      ended = (refl, EndsAs.stopped refl refl (λ e all. false≢true e) (λ all. false≢true all.finished), tt);
      counts = record { input_count = omega arith; out_count = omega arith; osc_count = omega arith; midi_count = omega arith };
    }

pub performed_unplayed : (tempo : Pace) (result : Result End Stop) (end : PortEnd) (history : List Entry) (left : Option (List ℕ)) (source_faults : ℕ)
    (held : Option (List ℕ)) (faults : ℕ) (to_osc : Option (List (List ℕ))) (osc_faults : ℕ) (to_midi : Option (List (List ℕ))) (midi_faults : ℕ)
    → result ≡ Err Memory → end ≡ port.Stopped → history ≡ []
    → Performed tempo (status_of result) history (record { port = 0; end = end } ∷ []) (still left source_faults) (still held faults)
    (still_both to_osc osc_faults to_midi midi_faults)
performed_unplayed tempo result end history left source_faults held faults to_osc osc_faults to_midi midi_faults memory stopped none =
    let P : Result End Stop → PortEnd → List Entry → Type 0 = λ r e h.
    Performed tempo (status_of r) h (record { port = 0; end = e } ∷ []) (still left source_faults) (still held faults)
    (still_both to_osc osc_faults to_midi midi_faults) in
    subst (λ (r : Result End Stop). P r end history) (sym memory)
    (subst (λ (e : PortEnd). P (Err Memory) e history) (sym stopped)
    (subst (λ (h : List Entry). P (Err Memory) port.Stopped h) (sym none)
    (performed_none tempo left source_faults held faults to_osc osc_faults to_midi midi_faults)))

-- ---- what was accepted
-- what holds of a legal history at a tempo holds of what a core of this tempo gave up
pub accepted_by : (P : Pace → List Entry → Type 0) {old tempo : Pace} {kept history : List Entry} → old ≡ tempo → history ≡ kept → IsLegal history
    → (IsLegal kept → P old kept) → P tempo history
accepted_by P {old} {tempo} {kept} {history} at gives legal holds =
    subst (λ (t : Pace). P t history) at
    (subst (λ (h : List Entry). P old h) (sym gives) (holds (subst (λ (h : List Entry). IsLegal h) gives legal)))

-- the history that a core gave up is legal
pub performed_by : {old tempo : Pace} {status : ℕ} {kept history : List Entry} {ends : List Ending} {input out : Account ℕ} {wires : WireAccounts}
    → old ≡ tempo → history ≡ kept → IsLegal history → (IsLegal kept → Performed old status kept ends input out wires)
    → Performed tempo status history ends input out wires
performed_by {old} {tempo} {status} {kept} {history} {ends} {input} {out} {wires} at gives legal performed =
    accepted_by (λ t h. Performed t status h ends input out wires) at gives legal performed
