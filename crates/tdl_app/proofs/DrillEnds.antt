-- How scripts that are played without replies end.
--     drill_put         each line was played, and the end line was put, or not
--     drill_stopped     a line was not played, or not all that goes with it was sent
--     drill_unplayed    there was no memory to begin with
use Rattle.std.proofs.Common.{◌≡◌, ℕ, ◌≤◌, inl, Bool, true, List, [], ◌∷◌, Option, Result, Ok, Err, IfErr, OnOk, refl, sym, subst, append-nil, arith}
use Rattle.std.specs.Prelude.{IfOk}
use Rattle.tdl_io.specs.Told.{GainedExactly}
use Rattle.tdl_io.proofs.Told.{gained_nothing}
use Rattle.tdl_tempo.specs.Tempo.{Pace}
use Rattle.tdl_score.specs.declared.histories.Entry.{Entry}
use Rattle.tdl_core.specs.Replies.{CoreState}
use Rattle.tdl_log.specs.declared.ends.PortEnd.{PortEnd}
use Rattle.tdl_log.specs.declared.ends.PortEnd.TheVariants as port
use Rattle.tdl_app.specs.declared.play.End.{End}
use Rattle.tdl_app.specs.declared.play.End.TheVariants as end
use Rattle.tdl_app.specs.declared.stops.Stop.{Stop}
use Rattle.tdl_app.specs.declared.stops.Stop.TheVariants.{Memory, Fault, Input}
use Rattle.tdl_answer.specs.Account.{Account, WireAccounts}
use Rattle.tdl_answer.specs.EndLine.{IsEndLine}
use Rattle.tdl_answer.specs.Sent.{Sends}
use Rattle.tdl_app.specs.Drilled.{EndsDrill, PlayedThrough}
use Rattle.tdl_app.specs.Printed.{is_fault}
use Rattle.tdl_app.specs.inside.Drilling.{PlaysOn, ScriptEnds, StopsAt}
use Rattle.tdl_app.specs.inside.OneLine.{BrokeText}
use Rattle.tdl_app.specs.inside.Stops.{status_of, status_of_stop}
use Rattle.tdl_answer.proofs.DeviceCalls.{still, still_both}
use Rattle.tdl_answer.proofs.WireSends.{sends_none}
use Rattle.tdl_app.proofs.EndLines.{is_end_line, line_of}
use Rattle.tdl_app.proofs.ScriptEnds.{legal_none}

-- each line was played
played_all : {tempo : Pace} {script : List (List ℕ)} {core : CoreState} {out : Account ℕ} {wires : WireAccounts} (status : ℕ)
    (plays : PlaysOn tempo script core wires) → out.faults_before ≤ out.faults_after → EndsDrill tempo status core.history [] port.Finish out wires
    → ScriptEnds tempo script status port.Finish core out wires
played_all {tempo} {script} {core} {out} {wires} status plays kept ended = λ legal. record {
  legal = legal;
  lines = script;
  rest = [];
  parts = sym (append-nil script);
  answers = plays.answers;
  packets = inl plays.sends;
  end = port.Finish;
  ended = ended;
  one_port = refl;
  out_count = kept;
  wire_counts = plays.counts;
}

broke_end : {tempo : Pace} {script : List (List ℕ)} {core : CoreState} {out : Account ℕ} {wires : WireAccounts} (stop : Stop) (line : List ℕ)
    → PlaysOn tempo script core wires → IsEndLine tempo core.history line → BrokeText line stop out → out.faults_before ≤ out.faults_after
    → ScriptEnds tempo script (status_of_stop stop) port.Finish core out wires
broke_end {tempo} {script} {core} {out} {wires} Memory line plays is broke kept =
    let none = subst (λ (front : List ℕ). GainedExactly out.told_before out.told_after front) (broke.put.memory refl) broke.put.gained in
    played_all 3 plays kept (EndsDrill.no_line refl refl refl plays.sends none)
broke_end {tempo} {script} {core} {out} {wires} Fault line plays is broke kept =
    played_all 4 plays kept (EndsDrill.out_failed refl refl refl plays.sends broke.cause broke.put.front
    (broke.put.missing, subst (λ (text : List ℕ). IsEndLine tempo core.history text) broke.put.parts is) broke.put.gained)
broke_end Input line plays is broke kept = absurd broke.cause

pub drill_put : {tempo : Pace} {script : List (List ℕ)} {core : CoreState} {out : Account ℕ} {wires : WireAccounts} (result : Result End Stop)
    → PlaysOn tempo script core wires
    → ((line : List ℕ) → IsEndLine core.tempo core.history line → OnOk result (GainedExactly out.told_before out.told_after line))
    → IfOk result (λ e. e ≡ end.Finish)
    → ((line : List ℕ) → IsEndLine core.tempo core.history line → IfErr result (λ stop. BrokeText line stop out))
    → out.faults_before ≤ out.faults_after → ScriptEnds tempo script (status_of result) port.Finish core out wires
drill_put {tempo} {script} {core} {out} {wires} (Ok other) plays put same broke kept =
    let line = line_of plays.sends in
    let is = is_end_line plays.sends in
    subst (λ (e : End). ScriptEnds tempo script (status_of (Ok e)) port.Finish core out wires) (sym same)
    (played_all 0 plays kept
    (EndsDrill.done refl refl refl line is (put line (subst (λ (t : Pace). IsEndLine t core.history line) (sym plays.at_tempo) is))))
drill_put {tempo} {script} {core} {out} {wires} (Err stop) plays put same broke kept =
    let line = line_of plays.sends in
    let is = is_end_line plays.sends in
    broke_end stop line plays is (broke line (subst (λ (t : Pace). IsEndLine t core.history line) (sym plays.at_tempo) is)) kept

-- the run stopped before its end
stopped_so : {tempo : Pace} {script : List (List ℕ)} {stop : Stop} {core : CoreState} {wires : WireAccounts} (status : ℕ) (held : Option (List ℕ)) (faults : ℕ)
    (stops : StopsAt tempo script stop core wires) → is_fault status ≡ true
    → EndsDrill tempo status core.history stops.rest port.Stopped (still held faults) wires
    → ScriptEnds tempo script status port.Stopped core (still held faults) wires
stopped_so {tempo} {script} {stop} {core} {wires} status held faults stops fault ended = λ legal. record {
  legal = legal;
  lines = stops.lines;
  rest = stops.rest;
  parts = stops.parts;
  answers = stops.answers;
  packets = subst (λ (broke : Bool). Sends broke tempo core.history wires) (sym fault) stops.packets;
  end = port.Stopped;
  ended = ended;
  one_port = refl;
  out_count = omega arith;
  wire_counts = stops.counts;
}

pub drill_stopped : {tempo : Pace} {script : List (List ℕ)} {core : CoreState} {wires : WireAccounts} (stop : Stop) (held : Option (List ℕ)) (faults : ℕ)
    → StopsAt tempo script stop core wires → ScriptEnds tempo script (status_of_stop stop) port.Stopped core (still held faults) wires
drill_stopped Memory held faults stops = stopped_so 3 held faults stops refl (EndsDrill.no_memory refl refl (gained_nothing held))
drill_stopped Fault held faults stops = stopped_so 4 held faults stops refl (EndsDrill.wire_failed refl refl stops.cause (gained_nothing held))
drill_stopped Input held faults stops = absurd stops.cause

-- nothing was played
played_none : (tempo : Pace) (script : List (List ℕ)) (held : Option (List ℕ)) (faults : ℕ) (to_osc : Option (List (List ℕ))) (osc_faults : ℕ)
    (to_midi : Option (List (List ℕ))) (midi_faults : ℕ)
    → PlayedThrough tempo script 3 [] (record { port = 0; end = port.Stopped } ∷ []) (still held faults) (still_both to_osc osc_faults to_midi midi_faults)
played_none tempo script held faults to_osc osc_faults to_midi midi_faults = record {
  legal = legal_none;
  lines = [];
  rest = script;
  parts = refl;
  answers = record { replies = []; plays = refl; memory = tt };
  packets = inl (sends_none tempo to_osc osc_faults to_midi midi_faults);
  end = port.Stopped;
  ended = EndsDrill.no_memory refl refl (gained_nothing held);
  one_port = refl;
  out_count = omega arith;
  wire_counts = record { osc_count = omega arith; midi_count = omega arith };
}

pub drill_unplayed : (tempo : Pace) (script : List (List ℕ)) (result : Result End Stop) (end : PortEnd) (history : List Entry) (held : Option (List ℕ))
    (faults : ℕ) (to_osc : Option (List (List ℕ))) (osc_faults : ℕ) (to_midi : Option (List (List ℕ))) (midi_faults : ℕ)
    → result ≡ Err Memory → end ≡ port.Stopped → history ≡ []
    → PlayedThrough tempo script (status_of result) history (record { port = 0; end = end } ∷ []) (still held faults)
    (still_both to_osc osc_faults to_midi midi_faults)
drill_unplayed tempo script result end history held faults to_osc osc_faults to_midi midi_faults memory stopped none =
    let P : Result End Stop → PortEnd → List Entry → Type 0 = λ r e h.
    PlayedThrough tempo script (status_of r) h (record { port = 0; end = e } ∷ []) (still held faults)
    (still_both to_osc osc_faults to_midi midi_faults) in
    subst (λ (r : Result End Stop). P r end history) (sym memory)
    (subst (λ (e : PortEnd). P (Err Memory) e history) (sym stopped)
    (subst (λ (h : List Entry). P (Err Memory) port.Stopped h) (sym none)
    (played_none tempo script held faults to_osc osc_faults to_midi midi_faults)))
