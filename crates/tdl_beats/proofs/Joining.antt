-- Calls one after another.
--     played_none      none
--     played_both      some, and then more
--     broke_after      some, and then those that broke
use Rattle.std.proofs.Common.{◌≡◌, ℕ, inl, inr, List, [], ◌++◌, Option, sym, ap, ◌∙◌, append_assoc, append-nil, arith}
use Rattle.tdl_tempo.specs.Tempo.{Pace}
use Rattle.tdl_score.specs.declared.histories.Entry.{Entry}
use Rattle.tdl_score.specs.declared.histories.Deed.{Deed}
use Rattle.tdl_answer.specs.Account.{KeepsWires, WireAccounts}
use Rattle.tdl_answer.proofs.DeviceCalls.{MeetBoth, over_both, still_both, rose_on}
use Rattle.tdl_beats.specs.declared.calls.Stop.{Stop}
use Rattle.tdl_beats.specs.declared.calls.Stop.TheVariants.{Fault, Memory}
use Rattle.tdl_beats.specs.Beaten.{deeds_of}
use Rattle.tdl_beats.specs.inside.Playing.{Broke, BrokeBy, Played, SendsBothOn, SendsBothOnFrom}
use Rattle.tdl_beats.proofs.Fronts.{front_all, front_both}
use Rattle.tdl_beats.proofs.Sending.{sends_both, sends_quietly, sends_then_from}

pub played_none : (tempo : Pace) (entries : List Entry) (told_osc : Option (List (List ℕ))) (osc_faults : ℕ) (told_midi : Option (List (List ℕ)))
    (midi_faults : ℕ) → Played tempo entries entries [] (still_both told_osc osc_faults told_midi midi_faults)
played_none tempo entries told_osc osc_faults told_midi midi_faults = record {
  own = sym (append-nil (deeds_of 0 entries));
  grows = front_all entries;
  sends = record {
    packets = sends_quietly told_osc osc_faults (λ all sent. sent);
    messages = sends_quietly told_midi midi_faults (λ all sent. sent);
  };
  counts = record { osc_count = omega arith; midi_count = omega arith };
}

counts_on : {wires wires' : WireAccounts} → MeetBoth wires wires' → KeepsWires wires → KeepsWires wires' → KeepsWires (over_both wires wires')
counts_on both first second = record {
  osc_count = omega (arith, both.osc.faults, first.osc_count, second.osc_count);
  midi_count = omega (arith, both.midi.faults, first.midi_count, second.midi_count);
}

own_on : (old mid new : List Entry) (first second : List Deed) → deeds_of 0 mid ≡ deeds_of 0 old ++ first → deeds_of 0 new ≡ deeds_of 0 mid ++ second
    → deeds_of 0 new ≡ deeds_of 0 old ++ (first ++ second)
own_on old mid new first second one other =
    other ∙ ap (λ (deeds : List Deed). deeds ++ second) one ∙ append_assoc (deeds_of 0 old) first second

sends_on : {tempo : Pace} {old mid new : List Entry} {wires wires' : WireAccounts} → MeetBoth wires wires' → SendsBothOn tempo old mid wires
    → SendsBothOn tempo mid new wires' → SendsBothOn tempo old new (over_both wires wires')
sends_on both first second = record {
  packets = sends_both both.osc first.packets second.packets;
  messages = sends_both both.midi first.messages second.messages;
}

pub played_both : {tempo : Pace} {old mid new : List Entry} {first second : List Deed} {wires wires' : WireAccounts} → MeetBoth wires wires'
    → Played tempo old mid first wires → Played tempo mid new second wires' → Played tempo old new (first ++ second) (over_both wires wires')
played_both {tempo} {old} {mid} {new} {first} {second} both before after = record {
  own = own_on old mid new first second before.own after.own;
  grows = front_both before.grows after.grows;
  sends = sends_on both before.sends after.sends;
  counts = counts_on both before.counts after.counts;
}

fails_on : {tempo : Pace} {old mid new : List Entry} {wires wires' : WireAccounts} → MeetBoth wires wires' → KeepsWires wires
    → SendsBothOn tempo old mid wires → SendsBothOnFrom tempo mid new wires' → SendsBothOnFrom tempo old new (over_both wires wires')
fails_on both kept before after = record {
  packets = sends_then_from both.osc kept.osc_count before.packets after.packets;
  messages = sends_then_from both.midi kept.midi_count before.messages after.messages;
  cause = elim after.cause [ inl rose ↦ inl (rose_on both.osc kept.osc_count rose) | inr rose ↦ inr (rose_on both.midi kept.midi_count rose) ];
}

how_on : {tempo : Pace} {wires wires' : WireAccounts} (stop : Stop) (old mid new : List Entry) → MeetBoth wires wires' → KeepsWires wires
    → SendsBothOn tempo old mid wires → BrokeBy stop tempo mid new wires' → BrokeBy stop tempo old new (over_both wires wires')
how_on Fault old mid new both kept before after = fails_on both kept before after
how_on Memory old mid new both kept before after = sends_on both before after

pub broke_after : {tempo : Pace} {old mid new : List Entry} {made : List Deed} {stop : Stop} {wires wires' : WireAccounts}
    (First Whole : List Deed → Type 0) → MeetBoth wires wires' → Played tempo old mid made wires
    → ((done : List Deed) → First done → Whole (made ++ done)) → Broke First tempo mid new stop wires'
    → Broke Whole tempo old new stop (over_both wires wires')
broke_after {tempo} {old} {mid} {new} {made} {stop} First Whole both before whole broke = record {
  done = made ++ broke.done;
  fact = whole broke.done broke.fact;
  own = own_on old mid new made broke.done before.own broke.own;
  grows = front_both before.grows broke.grows;
  legal = broke.legal;
  how = how_on stop old mid new both before.counts before.sends broke.how;
  counts = counts_on both before.counts broke.counts;
}
