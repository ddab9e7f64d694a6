-- The definitions at worked rows, each closed term by computing alone.
use Rattle.std.proofs.Common.{◌≡◌, ℕ, List, [], ◌∷◌, ◌++◌, codes, false, pos, negsuc, replicate, inl, inr, ap, subst, refl, ◌∙◌, append-nil, lit≤}
use Rattle.std.specs.Fmt.{digits}
use Rattle.std.proofs.lemmas.Bool.{false≢true}
use Rattle.tdl_fraction.specs.Divisor.{gcd}
use Rattle.tdl_fraction.specs.Rational.{Rational, frac, whole, le_ℚ, ◌≤ℚ◌, le_ℚ_yes, yes_le_ℚ}
use Rattle.tdl_fraction.specs.Range.{InRange}
use Rattle.tdl_fraction.specs.Reading.{Reads as ReadsNumber}
use Rattle.tdl_fraction.specs.Units.{tick_units, time_of}
use Rattle.tdl_fraction.proofs.Printed.{Reads-print_of, only_printed}
use Rattle.tdl_fraction.proofs.UnitTimes.{units_in_range}
use Rattle.tdl_fraction.proofs.UnitCounts.{multiple_test}
use Rattle.tdl_desk.specs.declared.changes.Dated.{Dated}
use Rattle.tdl_expr.specs.Tree.{Tree}
use Rattle.tdl_notes.specs.Notes.{marks, midi as midi_before}
use Rattle.tdl_score.specs.declared.histories.Entry.{Entry}
use Rattle.tdl_score.specs.declared.histories.Deed.TheVariants.{Swap, Tick, Finish}
use Rattle.tdl_score.specs.Score.{rows, score}
use Rattle.tdl_score.specs.Wires.{osc, midi, sent_of}
use Rattle.tdl_core.specs.declared.replies.Reply.TheVariants.{Finished, Ticked}
use Rattle.tdl_core.specs.declared.replies.Refusal.TheVariants.{Backward}
use Rattle.tdl_core.specs.ReplyLines.{reply_line}
use Rattle.tdl_core.specs.Said.{HasMidi, HasOsc}
use Rattle.tdl_log.specs.declared.ends.PortEnd.TheVariants as port
use Rattle.tdl_log.specs.LogText.{log_text}
use Rattle.tdl_line_machine.specs.declared.faults.LineKind.TheVariants.{LineTooLong}
use Rattle.tdl_words.specs.Modes.{usual_pace}
use Rattle.tdl_answer.specs.declared.refusals.Refusal.TheVariants.{Unread}
use Rattle.tdl_answer.specs.Refusals.{refusal_line}
use Rattle.tdl_app.specs.Script.{performers, tick, finish, other, too_long, class_of, ReadsTime}
use Rattle.tdl_answer.specs.Goes.{Goes}
use Rattle.tdl_answer.specs.Answers.{refused, accepted}
use Rattle.tdl_app.specs.Plays.{AnswersClass, AnswersLine, AnswersTick, PlaysLine}
use Rattle.tdl_answer.specs.EndLine.{IsEndLine, end_line}

-- the line of a pattern that is too long
long_pattern_refused : refusal_line (Unread LineTooLong 2048) ≡ codes "refused LineTooLong 2048\n"
unfolding digits
long_pattern_refused = refl

-- the class of a line, by its front
first_performers : class_of (codes "p1 x") ≡ performers 1 (codes "x")
first_performers = refl

last_performers : class_of (codes "p8 ") ≡ performers 8 []
last_performers = refl

past_the_last_performer : class_of (codes "p9 x") ≡ other
past_the_last_performer = refl

before_the_first_performer : class_of (codes "p0 x") ≡ other
before_the_first_performer = refl

performer_alone : class_of (codes "p1") ≡ other
performer_alone = refl

two_digits : class_of (codes "p12 x") ≡ other
two_digits = refl

a_tick : class_of (codes "tick 1") ≡ tick (codes "1")
a_tick = refl

tick_alone : class_of (codes "tick") ≡ other
tick_alone = refl

tick_of_nothing : class_of (codes "tick ") ≡ tick []
tick_of_nothing = refl

the_finish : class_of (codes "finish") ≡ finish
the_finish = refl

finish_and_a_blank : class_of (codes "finish ") ≡ other
finish_and_a_blank = refl

no_byte : class_of [] ≡ other
no_byte = refl

-- of 2048 bytes, and of one more
longest_line : class_of (replicate 2048 120) ≡ other
longest_line = refl

line_too_long : class_of (replicate 2049 120) ≡ too_long
line_too_long = refl

-- the replies to lines that make no call
long_line_refused : AnswersClass usual_pace [] too_long [] (codes "refused LineTooLong 2048\n")
unfolding digits
long_line_refused = (refl, refl)

other_refused : AnswersLine usual_pace [] (codes "p9 x") [] (codes "refused Unexpected 0\n")
other_refused = (refl, refl)

-- 1/7 is off the grid of tick units, and -1 is before 0
abbrev a_seventh : Rational
a_seventh = frac (pos 1) 7

seventh_in_range : InRange a_seventh
unfolding frac gcd
seventh_in_range = record { fine = lit≤ tt; near = lit≤ tt }

seventh_refused : AnswersLine usual_pace [] (codes "tick 1/7") [] (codes "refused OffGrid 5\n")
unfolding frac whole le_ℚ gcd digits
seventh_refused =
    AnswersTick.unread (inr (
      record {
        time = a_seventh;
        reads = record { reads = Reads-print_of a_seventh seventh_in_range; in_range = seventh_in_range; from_zero = le_ℚ_yes tt };
        off_grid = λ multiple. false≢true ((multiple_test tick_units 7 a_seventh refl).1 multiple);
      },
      refl,
    )) refl

abbrev minus_one : Rational
minus_one = whole (negsuc 0)

minus_one_in_range : InRange minus_one
unfolding frac gcd whole
minus_one_in_range = record { fine = lit≤ tt; near = lit≤ tt }

minus_one_below : whole (pos 0) ≤ℚ minus_one → ⊥
unfolding frac gcd whole le_ℚ
minus_one_below order = yes_le_ℚ order

minus_one_refused : AnswersLine usual_pace [] (codes "tick -1") [] (codes "refused BadFraction 5\n")
unfolding frac whole le_ℚ gcd digits
minus_one_refused =
    let same : (time : Rational) → ReadsNumber (codes "-1") time → time ≡ minus_one = only_printed (codes "-1") minus_one refl minus_one_in_range in
    AnswersTick.unread (inl (λ time reads. minus_one_below (subst (λ (t : Rational). whole (pos 0) ≤ℚ t) (same time reads.reads) reads.from_zero), refl)) refl

-- the last line, after two entries, two packets and four messages, and of a run that accepted nothing
end_of_two : end_line 46080 2 2 4 ≡ codes "end 1 entries 2 osc 2 midi 4\n"
unfolding frac gcd digits
end_of_two = refl

end_of_nothing : IsEndLine usual_pace [] (codes "end 0 entries 0 osc 0 midi 0\n")
unfolding frac gcd digits score marks midi_before
end_of_nothing = record {
  packets = [];
  sends = record { changes = []; has = refl; sent = refl };
  messages = [];
  notes = record { changes = []; has = refl; sent = refl };
  is = refl;
}

-- a cycle is played in which nothing was set, and then there is one tick too many
abbrev a_cycle : List Entry
a_cycle = record { who = 0; frontier = 0; deed = Tick 46080 } ∷ []

no_packets : (packets : List (List ℕ)) → HasOsc usual_pace [] packets → HasOsc usual_pace a_cycle (packets ++ [])
unfolding rows score
no_packets packets has =
    let nothing : packets ≡ [] = has.sent ∙ ap (λ (changes : List (Dated Tree)). sent_of (osc usual_pace) false 0 (score changes 0)) has.has in
    record { changes = []; has = ([], [], refl, refl, refl); sent = append-nil packets ∙ nothing }

no_messages : (messages : List (List ℕ)) → HasMidi [] messages → HasMidi a_cycle (messages ++ [])
unfolding rows score marks midi_before
no_messages messages has =
    let nothing : messages ≡ [] = has.sent ∙ ap (λ (changes : List (Dated Tree)). sent_of midi false 0 (score changes 0)) has.has in
    record { changes = []; has = ([], [], refl, refl, refl); sent = append-nil messages ∙ nothing }

one_cycle_read : ReadsTime (codes "1") (time_of 46080)
unfolding frac whole le_ℚ gcd digits
one_cycle_read =
    let in_range = units_in_range 46080 (lit≤ tt) in
    record { reads = Reads-print_of (time_of 46080) in_range; in_range = in_range; from_zero = le_ℚ_yes tt }

played : Goes (PlaysLine usual_pace) [] (codes "tick 1" ∷ codes "tick 1" ∷ []) a_cycle (codes "tick 1 osc 0 midi 0\n" ∷ codes "refused Backward 1\n" ∷ [])
unfolding frac gcd digits
played = (
  a_cycle,
  (
    refl,
    AnswersTick.called 46080 one_cycle_read
        (accepted (Ticked 0 [] []) (record {
          allowed = refl;
          gained = refl;
          answer = λ changes has. ([], [], refl);
          packets = no_packets;
          messages = no_messages;
          tempo = refl;
        }) refl),
  ),
  (a_cycle, (refl, AnswersTick.called 46080 one_cycle_read (refused (Backward 46080) refl refl refl)), refl),
)

-- the line of the finish makes its call
finished : reply_line 46080 (Finished 3 ((0x80 ∷ 0x3e ∷ 64 ∷ []) ∷ [])) ≡ codes "finish 1 midi 1\n"
unfolding frac gcd digits
finished = refl

-- the log of a pattern, a cycle and the finish
abbrev pattern_and_cycle : List Entry
pattern_and_cycle =
    record { who = 1; frontier = 0; deed = Swap 0 (codes "d1 $ s \"bd sn\"") } ∷ record { who = 0; frontier = 0; deed = Tick 46080 }
    ∷ record { who = 0; frontier = 46080; deed = Finish } ∷ []

logged :
    log_text (record { tempo = usual_pace; history = pattern_and_cycle; ends = record { port = 0; end = port.Finish } ∷ [] })
    ≡ codes "tidal-log 1\ncps 9/16\norigin 2208988800\n0 1 0 swap 0 d1 $ s \"bd sn\"\n1 0 0 tick 1\n2 0 1 finish\nport 0 finish\nend 3\n"
unfolding log_text frac gcd digits
logged = refl
