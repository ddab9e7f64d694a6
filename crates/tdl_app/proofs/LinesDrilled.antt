-- Lines that are played one after another without replies, from the start of a run on.
--     plays_none, plays_more    no line was played, and one more
--     goes_on                   a line that is not the finish does not finish
--     line_plays, line_stops    what the outcome of an answer tells of the line
--     line_lacks                a line for which there was no memory is left out
--     stops_at_line             the lines played before one at which the run stops
use Rattle.std.proofs.Common.{◌≡◌, ◌≢◌, ℕ, ◌+◌, ◌⊎◌, inl, inr, Bool, true, false, List, [], ◌∷◌, ◌++◌, length, length-append, get_or, Option, Some, None}
use Rattle.std.proofs.Common.{Result, Ok, Err, refl, ap, sym, subst, ◌∙◌, append_assoc, append-nil, arith}
use Rattle.std.specs.Prelude.{◌↔◌, if◌then◌else◌}
use Rattle.std.specs.List.{AllByRecursion}
use Rattle.std.specs.Str.{bytes_eq}
use Rattle.std.proofs.lemmas.Bool.{false≢true, true≢false}
use Rattle.std.proofs.lemmas.List.Folds.{list_any-append}
use Rattle.std.proofs.lemmas.Slice.Eq.{bytes_eq-Decides}
use Rattle.tdl_tempo.specs.Tempo.{Pace}
use Rattle.tdl_desk.specs.declared.changes.Dated.{Dated}
use Rattle.tdl_expr.specs.Tree.{Tree}
use Rattle.tdl_score.specs.declared.histories.Entry.{Entry}
use Rattle.tdl_score.specs.History.{frontier, is_finish_deed, is_finished}
use Rattle.tdl_core.specs.declared.calls.Call.{Call}
use Rattle.tdl_core.specs.declared.calls.Call.TheVariants as call
use Rattle.tdl_core.specs.declared.replies.Reply.{Reply}
use Rattle.tdl_core.specs.Replies.{CoreState, IsReply, deed_of, entry_of, core_of}
use Rattle.tdl_core.specs.ReplyLines.{reply_line}
use Rattle.tdl_core.specs.Said.{HasChanges}
use Rattle.tdl_drill.specs.Drill.{finish_line}
use Rattle.tdl_answer.specs.Account.{KeepsWires, WireAccounts}
use Rattle.tdl_answer.specs.Answers.{AnswersCall, AnswersText, no_memory_reply}
use Rattle.tdl_answer.specs.Texts.{AsksFor}
use Rattle.tdl_answer.proofs.DeviceCalls.{MeetBoth, over_both, still_both, rose_on}
use Rattle.tdl_answer.proofs.GoneLines.{goes_more}
use Rattle.tdl_answer.proofs.WireSends.{sends_none}
use Rattle.tdl_app.specs.declared.stops.Stop.{Stop}
use Rattle.tdl_app.specs.declared.stops.Stop.TheVariants.{Memory, Fault, Input}
use Rattle.tdl_app.specs.Cuts.{IsPlayed}
use Rattle.tdl_app.specs.Plays.{AnswersClass, AnswersTick, PlaysLine}
use Rattle.tdl_app.specs.Script.{LineClass, Said, class_from, class_of, finish, other, performers, tick, too_long}
use Rattle.tdl_app.specs.inside.Drilling.{LinePlays, LineStops, PlaysOn, PlaysSoFar, StopsAt}
use Rattle.tdl_app.specs.inside.OneLine.{AnswersAs, GoesOnBy, HasWireCause, Lacks, Replied, RepliedSoFar, Rests, SentAll, SentFront, Unreplied}
use Rattle.tdl_app.proofs.LineAnswers.{MakesChanges}
use Rattle.tdl_app.proofs.LinesPerformed.{answer_at, sends_on}
use Rattle.tdl_app.proofs.LinesStopped.{Cuts, sends_before_play}

-- ---- from the start on
pub plays_none : (tempo : Pace) (core : CoreState) (to_osc : Option (List (List ℕ))) (osc_faults : ℕ) (to_midi : Option (List (List ℕ))) (midi_faults : ℕ)
    → core ≡ core_of tempo [] → PlaysOn tempo [] core (still_both to_osc osc_faults to_midi midi_faults)
plays_none tempo core to_osc osc_faults to_midi midi_faults start =
    let P : CoreState → Type 0 = λ c. PlaysOn tempo [] c (still_both to_osc osc_faults to_midi midi_faults) in
    subst P (sym start) (record {
      at_tempo = refl;
      answers = record { replies = []; plays = refl; memory = tt };
      sends = sends_none tempo to_osc osc_faults to_midi midi_faults;
      counts = record { osc_count = omega arith; midi_count = omega arith };
    })

-- ---- one line more
all_more : {X : Type 0} (P : X → Type 0) (xs : List X) (x : X) → AllByRecursion P xs → P x → AllByRecursion P (xs ++ x ∷ [])
all_more P [] x all one = (one, tt)
all_more P (y ∷ ys) x all one = (all.0, all_more P ys x all.1 one)

answered_more : (tempo : Pace) (lines : List (List ℕ)) (line reply : List ℕ) (old : CoreState) (history : List Entry) → old.tempo ≡ tempo
    → is_finished old.history ≡ false → IsPlayed tempo lines old.history → AnswersAs old line history reply → reply ≢ no_memory_reply
    → IsPlayed tempo (lines ++ line ∷ []) history
answered_more tempo lines line reply old history at going before answer memory = record {
  replies = before.replies ++ reply ∷ [];
  plays = goes_more (PlaysLine tempo) [] old.history history lines before.replies line reply before.plays
      (going, answer_at tempo old line history reply at answer);
  memory = all_more (λ r. r ≢ no_memory_reply) before.replies reply before.memory memory;
}

keeps_wires : {wires wires' : WireAccounts} → MeetBoth wires wires' → KeepsWires wires → KeepsWires wires' → KeepsWires (over_both wires wires')
keeps_wires both first second = record {
  osc_count = omega (arith, both.osc.faults, first.osc_count, second.osc_count);
  midi_count = omega (arith, both.midi.faults, first.midi_count, second.midi_count);
}

pub plays_more : {tempo : Pace} {lines : List (List ℕ)} {old new : CoreState} {wires wires' : WireAccounts} (line : List ℕ) → MeetBoth wires wires'
    → PlaysOn tempo lines old wires → is_finished old.history ≡ false → LinePlays line old new wires'
    → PlaysOn tempo (lines ++ line ∷ []) new (over_both wires wires')
plays_more {tempo} {lines} {old} {new} line both before going one = record {
  at_tempo = one.replied.tempo ∙ before.at_tempo;
  answers = answered_more tempo lines line one.reply old new.history before.at_tempo going before.answers one.replied.answer one.memory;
  sends = sends_on both before.at_tempo before.sends one.replied.sent;
  counts = keeps_wires both before.counts one.replied.counts;
}

-- ---- a line that is not the finish does not finish
still_going : (entries : List Entry) (e : Entry) → is_finished entries ≡ false → is_finish_deed e.deed ≡ false → is_finished (entries ++ e ∷ []) ≡ false
still_going entries e going deed =
    list_any-append (λ (x : Entry). is_finish_deed x.deed) entries (e ∷ []) ∙ rw (going, deed) refl

call_goes_on : (tempo : Pace) (old : List Entry) (who : ℕ) (asked : Call) (new : List Entry) (reply : List ℕ) → is_finished old ≡ false
    → is_finish_deed (deed_of old asked) ≡ false → AnswersCall tempo old who asked new reply → is_finished new ≡ false
call_goes_on tempo old who asked new reply going deed (AnswersCall.refused refusal why same is) = ap is_finished same ∙ going
call_goes_on tempo old who asked new reply going deed (AnswersCall.accepted answer accepts is) =
    ap is_finished accepts.gained ∙ still_going old (entry_of old who asked) going deed

asked_goes_on : (tempo : Pace) (old : List Entry) (who : ℕ) (text : List ℕ) (asked : Call) (new : List Entry) (reply : List ℕ) → is_finished old ≡ false
    → AsksFor text asked → AnswersCall tempo old who asked new reply → is_finished new ≡ false
asked_goes_on tempo old who text (call.Swap kept every change) new reply going makes answers =
    call_goes_on tempo old who (call.Swap kept every change) new reply going refl answers
asked_goes_on tempo old who text call.Look new reply going makes answers = call_goes_on tempo old who call.Look new reply going refl answers
asked_goes_on tempo old who text (call.Tick to) new reply going makes answers = absurd makes
asked_goes_on tempo old who text call.Finish new reply going makes answers = absurd makes

class_goes_on : (tempo : Pace) (old : List Entry) (class : LineClass) (new : List Entry) (reply : List ℕ) → is_finished old ≡ false
    → (class ≡ finish → ⊥) → AnswersClass tempo old class new reply → is_finished new ≡ false
class_goes_on tempo old (performers who text) new reply going not_finish (AnswersText.unread declined same) = ap is_finished same ∙ going
class_goes_on tempo old (performers who text) new reply going not_finish (AnswersText.called asked makes answers) =
    asked_goes_on tempo old who text asked new reply going makes answers
class_goes_on tempo old (performers who text) new reply going not_finish (AnswersText.no_memory same lacks) = ap is_finished same ∙ going
class_goes_on tempo old (tick text) new reply going not_finish (AnswersTick.unread declined same) = ap is_finished same ∙ going
class_goes_on tempo old (tick text) new reply going not_finish (AnswersTick.called to reads answers) =
    call_goes_on tempo old 0 (call.Tick to) new reply going refl answers
class_goes_on tempo old finish new reply going not_finish answers = absurd (not_finish refl)
class_goes_on tempo old other new reply going not_finish answers = ap is_finished answers.0 ∙ going
class_goes_on tempo old too_long new reply going not_finish answers = ap is_finished answers.0 ∙ going

abbrev is_finish_class : LineClass → Bool
is_finish_class (performers who text) = false
is_finish_class (tick text) = false
is_finish_class finish = true
is_finish_class other = false
is_finish_class too_long = false

finish_alone : (long : Bool) (said : Option Said) (ticked : Option (List ℕ)) (line : List ℕ)
    → (if long then too_long else class_from said ticked line) ≡ finish → line ≡ finish_line
finish_alone true said ticked line is = absurd (false≢true (ap is_finish_class is))
finish_alone false (Some said) ticked line is = absurd (false≢true (ap is_finish_class is))
finish_alone false None (Some text) line is = absurd (false≢true (ap is_finish_class is))
finish_alone false None None line is = by (bytes_eq line finish_line) refl
  where
    by : (same : Bool) → bytes_eq line finish_line ≡ same → line ≡ finish_line
    by true e = (bytes_eq-Decides line finish_line).0 e
    by false e = absurd (false≢true (ap is_finish_class (rw e at is)))

class_finish : (line : List ℕ) → class_of line ≡ finish → line ≡ finish_line
class_finish line is = finish_alone _ _ _ line is

pub goes_on : {old new : CoreState} {wires : WireAccounts} (line : List ℕ) → is_finished old.history ≡ false → (line ≡ finish_line → ⊥)
    → LinePlays line old new wires → is_finished new.history ≡ false
goes_on {old} {new} line going not_finish one =
    class_goes_on old.tempo old.history (class_of line) new.history one.reply going (λ is. not_finish (class_finish line is)) one.replied.answer

-- ---- a line for which there is no memory
-- replies of accepted calls begin with `a`, `d`, `t` and `f`, and the other with `n`
reply_lacks_not : (entries : List Entry) (changes : List (Dated Tree)) (asked : Call) (reply : Reply) (place : ℕ)
    → IsReply entries changes asked reply → reply_line place reply ≡ no_memory_reply → ⊥
reply_lacks_not entries changes (call.Swap text every change) reply place is lacks =
    let first : 97 ≡ 110 = ap (λ (l : List ℕ). get_or l 0 0) (subst (λ (r : Reply). reply_line place r ≡ no_memory_reply) is lacks) in
    omega (arith, first)
reply_lacks_not entries changes call.Look reply place is lacks =
    let first : 100 ≡ 110 = ap (λ (l : List ℕ). get_or l 0 0) (subst (λ (r : Reply). reply_line place r ≡ no_memory_reply) is lacks) in
    omega (arith, first)
reply_lacks_not entries changes (call.Tick to) reply place is lacks =
    let first : 116 ≡ 110 = ap (λ (l : List ℕ). get_or l 0 0) (subst (λ (r : Reply). reply_line place r ≡ no_memory_reply) is.2 lacks) in
    omega (arith, first)
reply_lacks_not entries changes call.Finish reply place is lacks =
    let first : 102 ≡ 110 = ap (λ (l : List ℕ). get_or l 0 0) (subst (λ (r : Reply). reply_line place r ≡ no_memory_reply) is.1 lacks) in
    omega (arith, first)

call_lacks : (tempo : Pace) (old : List Entry) (changes : List (Dated Tree)) → HasChanges old changes → (who : ℕ) (asked : Call) (new : List Entry)
    (reply : List ℕ) → reply ≡ no_memory_reply → AnswersCall tempo old who asked new reply → new ≡ old
call_lacks tempo old changes has who asked new reply lacks (AnswersCall.refused refusal why same is) = same
call_lacks tempo old changes has who asked new reply lacks (AnswersCall.accepted answer accepts is) =
    absurd (reply_lacks_not old changes asked answer (frontier new) (accepts.answer changes has) (sym is ∙ lacks))

class_lacks : (tempo : Pace) (old : List Entry) (changes : List (Dated Tree)) → HasChanges old changes → (class : LineClass) (new : List Entry)
    (reply : List ℕ) → reply ≡ no_memory_reply → AnswersClass tempo old class new reply → new ≡ old
class_lacks tempo old changes has (performers who text) new reply lacks (AnswersText.unread declined same) = same
class_lacks tempo old changes has (performers who text) new reply lacks (AnswersText.called asked makes answers) =
    call_lacks tempo old changes has who asked new reply lacks answers
class_lacks tempo old changes has (performers who text) new reply lacks (AnswersText.no_memory same is) = same
class_lacks tempo old changes has (tick text) new reply lacks (AnswersTick.unread declined same) = same
class_lacks tempo old changes has (tick text) new reply lacks (AnswersTick.called to reads answers) =
    call_lacks tempo old changes has 0 (call.Tick to) new reply lacks answers
class_lacks tempo old changes has finish new reply lacks answers = call_lacks tempo old changes has 0 call.Finish new reply lacks answers
class_lacks tempo old changes has other new reply lacks answers = answers.0
class_lacks tempo old changes has too_long new reply lacks answers = answers.0

-- ---- what an outcome tells of a line
pub line_plays : (line : List ℕ) (old new : CoreState) (reply : List ℕ) (wires : WireAccounts) → Replied (AnswersAs old line) old new reply wires
    → (reply ≡ no_memory_reply → ⊥) → LinePlays line old new wires
line_plays line old new reply wires replied memory = record { reply = reply; replied = replied; memory = memory }

pub line_lacks : (line : List ℕ) (old new : CoreState) (reply : List ℕ) (wires : WireAccounts) → MakesChanges old
    → Replied (AnswersAs old line) old new reply wires → reply ≡ no_memory_reply → LineStops line old new Memory wires
line_lacks line old new reply wires makes replied lacks =
    LineStops.left_out (class_lacks old.tempo old.history makes.0 makes.1 (class_of line) new.history reply lacks replied.answer) replied.sent tt

nothing_sent : {old new : CoreState} {stop : Stop} {wires : WireAccounts} → Rests old new stop wires → SentAll old new wires
nothing_sent {old} {new} {stop} {wires} rests =
    let P : CoreState → Type 0 = λ core. GoesOnBy old core [] [] in
    let still : GoesOnBy old old [] [] = record {
      osc = λ all has. rw (append-nil all) has;
      midi = λ all has. rw (append-nil all) has;
    } in record {
      packets = [];
      messages = [];
      grows = subst P (sym rests.same) still;
      gained_packets = rests.packets;
      gained_messages = rests.messages;
    }

-- a front that was sent goes with one entry more
front_adds : {old new : CoreState} {wires : WireAccounts} → SentFront old new wires → new.history ≡ old.history → ⊥
front_adds {old} {new} front same =
    let longer : length new.history ≡ length old.history + 1 = ap length front.last ∙ length-append old.history (front.entry ∷ []) in
    let as_long : length new.history ≡ length old.history = ap length same in
    omega (arith, longer, as_long)

lacks_stops : (line : List ℕ) (old new : CoreState) (stop : Stop) (wires : WireAccounts) → MakesChanges old → (lacks : Lacks (AnswersAs old line) old new wires)
    → HasWireCause stop wires → LineStops line old new stop wires
lacks_stops line old new stop wires makes lacks cause = by (bytes_eq lacks.reply no_memory_reply) refl
  where
    by : (same : Bool) → bytes_eq lacks.reply no_memory_reply ≡ same → LineStops line old new stop wires
    by true e =
        let is : lacks.reply ≡ no_memory_reply = (bytes_eq-Decides lacks.reply no_memory_reply).0 e in
        let same : new.history ≡ old.history =
        class_lacks old.tempo old.history makes.0 makes.1 (class_of line) new.history lacks.reply is lacks.answer in
        elim lacks.sent [ inl all ↦ LineStops.left_out same all cause | inr front ↦ absurd (front_adds front same) ]
    by false e = LineStops.begun lacks (λ is. true≢false (sym ((bytes_eq-Decides lacks.reply no_memory_reply).1 is) ∙ e)) cause

pub line_stops : (line : List ℕ) (old new : CoreState) (stop : Stop) (wires : WireAccounts) → MakesChanges old
    → Unreplied (AnswersAs old line) old new stop wires → LineStops line old new stop wires
line_stops line old new stop wires makes unreplied = elim unreplied.how [
  | inl rests ↦ LineStops.left_out (ap (λ (core : CoreState). core.history) rests.same) (nothing_sent rests) unreplied.cause
  | inr lacks ↦ lacks_stops line old new stop wires makes lacks unreplied.cause
]

pub counts_so_far : (line : List ℕ) (old new : CoreState) (result : Result (List ℕ) Stop) (wires : WireAccounts)
    → RepliedSoFar (AnswersAs old line) old new result wires → KeepsWires wires
counts_so_far line old new (Ok reply) wires replied = replied.counts
counts_so_far line old new (Err stop) wires unreplied = unreplied.counts

-- ---- a line at which a run stops
wire_cause_on : {wires wires' : WireAccounts} (stop : Stop) → MeetBoth wires wires' → KeepsWires wires → HasWireCause stop wires'
    → HasWireCause stop (over_both wires wires')
wire_cause_on Memory both counts cause = tt
wire_cause_on Fault both counts cause = elim cause [
  | inl rose ↦ inl (rose_on both.osc counts.osc_count rose)
  | inr rose ↦ inr (rose_on both.midi counts.midi_count rose)
]
wire_cause_on Input both counts cause = absurd cause

pub stops_at_line : {tempo : Pace} {script lines : List (List ℕ)} {old new : CoreState} {wires wires' : WireAccounts} (stop : Stop) (line : List ℕ)
    (left : List (List ℕ)) → Cuts → MeetBoth wires wires' → script ≡ lines ++ line ∷ left → PlaysOn tempo lines old wires → is_finished old.history ≡ false
    → KeepsWires wires' → LineStops line old new stop wires' → StopsAt tempo script stop new (over_both wires wires')
stops_at_line {tempo} {script} {lines} {old} {new} {wires} {wires'} stop line left cuts both parts before going counts (LineStops.left_out same sent cause) =
    record {
      lines = lines;
      rest = line ∷ left;
      parts = parts;
      answers = subst (λ (h : List Entry). IsPlayed tempo lines h) (sym same) before.answers;
      packets = inl (sends_on both before.at_tempo before.sends sent);
      cause = wire_cause_on stop both before.counts cause;
      counts = keeps_wires both before.counts counts;
    }
stops_at_line {tempo} {script} {lines} {old} {new} {wires} {wires'} stop line left cuts both parts before going counts (LineStops.begun lacks memory cause) =
    record {
      lines = lines ++ line ∷ [];
      rest = left;
      parts = parts ∙ sym (append_assoc lines (line ∷ []) left);
      answers = answered_more tempo lines line lacks.reply old new.history before.at_tempo going before.answers lacks.answer memory;
      packets = elim lacks.sent [
        | inl all ↦ inl (sends_on both before.at_tempo before.sends all)
        | inr front ↦ inr (refl, sends_before_play cuts before.at_tempo before.sends before.counts both front)
      ];
      cause = wire_cause_on stop both before.counts cause;
      counts = keeps_wires both before.counts counts;
    }

-- ---- the lines that are left of a script whose last line alone is the finish
abbrev pub FinishesLast : List (List ℕ) → Type 0
FinishesLast script = (before rest : List (List ℕ)) (line : List ℕ) → script ≡ before ++ line ∷ rest → (line ≡ finish_line) ↔ (rest ≡ [])

some_are_left : (line : List ℕ) (rest : List (List ℕ)) → line ∷ rest ≡ [] → ⊥
some_are_left line rest none = cc

pub going_on : {tempo : Pace} {script left : List (List ℕ)} {core : CoreState} {wires : WireAccounts} (line : List ℕ) (rest : List (List ℕ))
    → PlaysSoFar tempo script left core wires → left ≡ line ∷ rest → is_finished core.history ≡ false
going_on line rest before next = elim before.going [ inl going ↦ going | inr none ↦ absurd (some_are_left line rest (sym next ∙ none)) ]

parts_at : {tempo : Pace} {script left : List (List ℕ)} {core : CoreState} {wires : WireAccounts} (line : List ℕ) (rest : List (List ℕ))
    → (before : PlaysSoFar tempo script left core wires) → left ≡ line ∷ rest → script ≡ before.lines ++ line ∷ rest
parts_at line rest before next = before.parts ∙ ap (λ (left : List (List ℕ)). before.lines ++ left) next

pub so_far_none : (tempo : Pace) (script : List (List ℕ)) (core : CoreState) (to_osc : Option (List (List ℕ))) (osc_faults : ℕ)
    (to_midi : Option (List (List ℕ))) (midi_faults : ℕ) → core ≡ core_of tempo []
    → PlaysSoFar tempo script script core (still_both to_osc osc_faults to_midi midi_faults)
so_far_none tempo script core to_osc osc_faults to_midi midi_faults start = record {
  lines = [];
  parts = refl;
  plays = plays_none tempo core to_osc osc_faults to_midi midi_faults start;
  going = inl (ap (λ (c : CoreState). is_finished c.history) start);
}

pub so_far_more : {tempo : Pace} {script left : List (List ℕ)} {old new : CoreState} {wires wires' : WireAccounts} (line said : List ℕ)
    (rest : List (List ℕ)) → FinishesLast script → MeetBoth wires wires' → (before : PlaysSoFar tempo script left old wires) → left ≡ line ∷ rest
    → said ≡ line → LinePlays said old new wires' → PlaysSoFar tempo script rest new (over_both wires wires')
so_far_more {tempo} {script} {left} {old} {new} {wires} {wires'} line said rest last both before next same one =
    let plays : LinePlays line old new wires' = subst (λ (l : List ℕ). LinePlays l old new wires') same one in
    let parts = parts_at line rest before next in
    let going = going_on line rest before next in
    record {
      lines = before.lines ++ line ∷ [];
      parts = parts ∙ sym (append_assoc before.lines (line ∷ []) rest);
      plays = plays_more line both before.plays going plays;
      going = by plays (bytes_eq line finish_line) refl;
    }
  where
    by : LinePlays line old new wires' → (finishes : Bool) → bytes_eq line finish_line ≡ finishes → (is_finished new.history ≡ false) ⊎ (rest ≡ [])
    by plays true e = inr ((last before.lines rest line (parts_at line rest before next)).0 ((bytes_eq-Decides line finish_line).0 e))
    by plays false e =
        inl (goes_on line (going_on line rest before next) (λ is. true≢false (sym ((bytes_eq-Decides line finish_line).1 is) ∙ e)) plays)

pub so_far_stops : {tempo : Pace} {script left : List (List ℕ)} {old new : CoreState} {wires wires' : WireAccounts} (stop : Stop) (line said : List ℕ)
    (rest : List (List ℕ)) → Cuts → MeetBoth wires wires' → (before : PlaysSoFar tempo script left old wires) → left ≡ line ∷ rest → said ≡ line
    → KeepsWires wires' → LineStops said old new stop wires' → StopsAt tempo script stop new (over_both wires wires')
so_far_stops {tempo} {script} {left} {old} {new} {wires} {wires'} stop line said rest cuts both before next same counts stops =
    stops_at_line stop line rest cuts both (parts_at line rest before next) before.plays (going_on line rest before next) counts
    (subst (λ (l : List ℕ). LineStops l old new stop wires') same stops)
