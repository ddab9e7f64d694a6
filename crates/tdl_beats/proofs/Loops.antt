-- The two loops of a run beside a clock, turn by turn.
--     stepping_on_none, stepping_on_more, stepping_on_broke    up to a target
--     beating_on_none, beating_on_due, due_broke, beating_on_over    from beat to beat
--     ended_played, ended_broke        after the last beat of the clock
--     finish_played, finish_broke      and the finish
use Rattle.std.proofs.Common.{◌≡◌, ◌⊎◌, ℕ, ◌+◌, ◌*◌, ◌<◌, ◌≤◌, List, [], ◌∷◌, ◌++◌, map, sym, subst}
use Rattle.std.specs.Prelude.{min, Option, IfSome, Result, Ok, Err, IfErr, OnOk}
use Rattle.std.proofs.lemmas.List.{map-append}
use Rattle.tdl_fraction.specs.Units.{tick_units}
use Rattle.tdl_io.specs.Told.{GaveExactly}
use Rattle.tdl_tempo.specs.Tempo.{Pace}
use Rattle.tdl_score.specs.declared.histories.Entry.{Entry}
use Rattle.tdl_score.specs.declared.histories.Deed.{Deed}
use Rattle.tdl_score.specs.declared.histories.Deed.TheVariants.{Tick, Finish}
use Rattle.tdl_core.specs.Said.{IsLegal}
use Rattle.tdl_answer.specs.Account.{WireAccounts}
use Rattle.tdl_answer.proofs.DeviceCalls.{MeetBoth, over_both, still_both}
use Rattle.tdl_beats.specs.declared.calls.Stop.{Stop}
use Rattle.tdl_beats.specs.Beaten.{deeds}
use Rattle.tdl_beats.specs.Beats.{least_step, steps_to, ticks}
use Rattle.tdl_beats.specs.Fronts.{IsFront}
use Rattle.tdl_beats.specs.inside.Playing.{BeatDone, BeatingOn, BeatsPlayed, Broke, Played, SteppingOn}
use Rattle.tdl_beats.proofs.Beating.{beating_due, beating_ended, beating_front, beating_none, beating_over, told_weaker}
use Rattle.tdl_beats.proofs.Fronts.{front_after, front_all, front_both, front_longer, front_map}
use Rattle.tdl_beats.proofs.Joining.{broke_after, played_both, played_none}
use Rattle.tdl_beats.proofs.Stepping.{stepping_front, stepping_more, stepping_none}

-- ---- up to a target
pub stepping_on_none : (tempo : Pace) (from target : ℕ) (entries : List Entry) (told_osc : Option (List (List ℕ))) (osc_faults : ℕ)
    (told_midi : Option (List (List ℕ))) (midi_faults : ℕ)
    → SteppingOn tempo from from target entries entries (still_both told_osc osc_faults told_midi midi_faults)
stepping_on_none tempo from target entries told_osc osc_faults told_midi midi_faults = record {
  made = [];
  stepping = stepping_none from target;
  on = played_none tempo entries told_osc osc_faults told_midi midi_faults;
}

ticks_more : {tempo : Pace} {old mid new : List Entry} {wires wires' : WireAccounts} (made more : List ℕ) → MeetBoth wires wires'
    → Played tempo old mid (map Tick made) wires → Played tempo mid new (map Tick more) wires'
    → Played tempo old new (map Tick (made ++ more)) (over_both wires wires')
ticks_more {tempo} {old} {mid} {new} {wires} {wires'} made more both before after =
    subst (λ (done : List Deed). Played tempo old new done (over_both wires wires')) (sym (map-append Tick made more)) (played_both both before after)

pub stepping_on_more : {tempo : Pace} {from place target : ℕ} {old mid new : List Entry} {wires wires' : WireAccounts} (next : ℕ) → MeetBoth wires wires'
    → SteppingOn tempo from place target old mid wires → place < target → next ≡ min target (place + tick_units)
    → Played tempo mid new (Tick next ∷ []) wires' → SteppingOn tempo from next target old new (over_both wires wires')
stepping_on_more {tempo} {from} {place} {target} {old} {mid} {new} {wires} {wires'} next both so_far above is played = record {
  made = so_far.made ++ next ∷ [];
  stepping = stepping_more place next so_far.stepping above is;
  on = ticks_more so_far.made (next ∷ []) both so_far.on played;
}

pub stepping_on_broke : {tempo : Pace} {from place target : ℕ} {old mid new : List Entry} {stop : Stop} {wires wires' : WireAccounts} (next : ℕ)
    → MeetBoth wires wires' → SteppingOn tempo from place target old mid wires → place < target → next ≡ min target (place + tick_units)
    → Broke (λ (done : List Deed). IsFront done (Tick next ∷ [])) tempo mid new stop wires'
    → Broke (λ (done : List Deed). IsFront done (map Tick (steps_to from target))) tempo old new stop (over_both wires wires')
stepping_on_broke {tempo} {from} {place} {target} next both so_far above is broke =
    let all : List Deed = map Tick (steps_to from target) in
    let made : List Deed = map Tick so_far.made in
    let front : IsFront (made ++ Tick next ∷ []) all =
    subst (λ (deeds : List Deed). IsFront deeds all) (map-append Tick so_far.made (next ∷ []))
    (front_map Tick (stepping_front (stepping_more place next so_far.stepping above is))) in
    broke_after (λ (done : List Deed). IsFront done (Tick next ∷ [])) (λ (done : List Deed). IsFront done all) both so_far.on
    (λ done begins. front_both (front_after made begins) front) broke

-- ---- from beat to beat
pub beating_on_none : (tempo : Pace) (goal cycles given : ℕ) (beats : Option (List ℕ)) (entries : List Entry) (told_osc : Option (List (List ℕ)))
    (osc_faults : ℕ) (told_midi : Option (List (List ℕ))) (midi_faults : ℕ) → goal ≡ tick_units * cycles
    → BeatingOn tempo goal cycles beats beats 0 0 given entries entries (still_both told_osc osc_faults told_midi midi_faults)
beating_on_none tempo goal cycles given beats entries told_osc osc_faults told_midi midi_faults is = record {
  made = [];
  beating = beating_none goal cycles given beats is;
  on = played_none tempo entries told_osc osc_faults told_midi midi_faults;
}

-- where a play up to a target breaks on the way, what was done is the first of all deeds
front_of_all : (made steps all : List ℕ) → IsFront (made ++ steps) all → (done : List Deed) → IsFront done (map Tick steps)
    → IsFront (map Tick made ++ done) (map Tick all ++ Finish ∷ [])
front_of_all made steps all whole done begins =
    front_longer (Finish ∷ [])
    (front_both (subst (λ (deeds : List Deed). IsFront (map Tick made ++ done) deeds) (sym (map-append Tick made steps))
    (front_after (map Tick made) begins)) (front_map Tick whole))

-- a play up to a target, and the front of all deeds
module _ {tempo : Pace} {goal cycles place last given : ℕ} {beats left : Option (List ℕ)} {old mid : List Entry} {wires : WireAccounts}
    (new : List Entry) (wires' : WireAccounts) (target : ℕ) (both : MeetBoth wires wires')
    (so_far : BeatingOn tempo goal cycles beats left place last given old mid wires) where
  broke_on : {stop : Stop} → IfSome beats (λ told. IsFront (so_far.made ++ steps_to place target) (ticks told cycles))
      → Broke (λ (done : List Deed). IsFront done (map Tick (steps_to place target))) tempo mid new stop wires'
      → Broke (λ (done : List Deed). IfSome beats (λ told. IsFront done (deeds told cycles))) tempo old new stop (over_both wires wires')
  broke_on whole broke =
      broke_after (λ (done : List Deed). IsFront done (map Tick (steps_to place target)))
      (λ (done : List Deed). IfSome beats (λ told. IsFront done (deeds told cycles))) both so_far.on
      (λ done begins. told_weaker beats (λ told. IsFront (so_far.made ++ steps_to place target) (ticks told cycles))
      (λ told. IsFront (map Tick so_far.made ++ done) (deeds told cycles))
      (λ told front. front_of_all so_far.made (steps_to place target) (ticks told cycles) front done begins) whole) broke

  -- the clock has ended
  module _ (none : IfSome left (λ more. more ≡ [])) (is : target ≡ min goal last) where
    all_made : IfSome beats (λ told. IsFront (so_far.made ++ steps_to place target) (ticks told cycles))
    all_made =
        told_weaker beats (λ told. so_far.made ++ steps_to place target ≡ ticks told cycles)
        (λ told. IsFront (so_far.made ++ steps_to place target) (ticks told cycles))
        (λ told all. subst (λ (places : List ℕ). IsFront (so_far.made ++ steps_to place target) places) all (front_all (so_far.made ++ steps_to place target)))
        (beating_ended place target so_far.beating none is)

    pub ended_played : {T : Type 0} (result : Result T Stop) → OnOk result (Played tempo mid new (map Tick (steps_to place target)) wires')
        → OnOk result (BeatsPlayed tempo cycles old new beats (over_both wires wires'))
    ended_played (Ok value) played = record {
      made = so_far.made ++ steps_to place target;
      all = beating_ended place target so_far.beating none is;
      on = ticks_more so_far.made (steps_to place target) both so_far.on played;
    }
    ended_played (Err stop) played = tt

    pub ended_broke : {T : Type 0} (result : Result T Stop)
        → IfErr result (λ stop. Broke (λ (done : List Deed). IsFront done (map Tick (steps_to place target))) tempo mid new stop wires')
        → IfErr result (λ stop. Broke (λ (done : List Deed). IfSome beats (λ told. IsFront done (deeds told cycles))) tempo old new stop
        (over_both wires wires'))
    ended_broke (Ok value) broke = tt
    ended_broke (Err stop) broke = broke_on all_made broke

  -- a beat that is due
  module _ (rest : Option (List ℕ)) (beat now : ℕ) (below : place < goal) (gave : GaveExactly left rest (beat ∷ [])) (now_is : now ≡ beat)
      (is : target ≡ min goal beat) (due : (target ≡ goal) ⊎ (place + least_step ≤ target)) where
    pub beating_on_due : Played tempo mid new (map Tick (steps_to place target)) wires'
        → BeatingOn tempo goal cycles beats rest target beat now old new (over_both wires wires')
    beating_on_due played = record {
      made = so_far.made ++ steps_to place target;
      beating = beating_due rest place target beat now so_far.beating below gave now_is is due;
      on = ticks_more so_far.made (steps_to place target) both so_far.on played;
    }

    pub due_broke : {stop : Stop} → Broke (λ (done : List Deed). IsFront done (map Tick (steps_to place target))) tempo mid new stop wires'
        → Broke (λ (done : List Deed). IfSome beats (λ told. IsFront done (deeds told cycles))) tempo old new stop (over_both wires wires')
    due_broke broke = broke_on (beating_front (beating_due rest place target beat now so_far.beating below gave now_is is due)) broke

module _ {tempo : Pace} {goal cycles place last given : ℕ} {beats left : Option (List ℕ)} {old new : List Entry} {wires : WireAccounts}
    (so_far : BeatingOn tempo goal cycles beats left place last given old new wires) where
  -- at the goal
  pub beating_on_over : goal ≤ place → BeatsPlayed tempo cycles old new beats wires
  beating_on_over over = record { made = so_far.made; all = beating_over place so_far.beating over; on = so_far.on }

-- ---- and then the finish
module _ {tempo : Pace} {cycles : ℕ} {beats : Option (List ℕ)} {old mid : List Entry} {wires : WireAccounts} (new : List Entry) (wires' : WireAccounts)
    (both : MeetBoth wires wires') (played : BeatsPlayed tempo cycles old mid beats wires) where
  pub finish_played : {T : Type 0} (result : Result T Stop) → IsLegal new → OnOk result (Played tempo mid new (Finish ∷ []) wires')
      → OnOk result (BeatDone tempo cycles old new beats (over_both wires wires'))
  finish_played (Ok value) legal last = record { made = played.made; all = played.all; on = played_both both played.on last; legal = legal }
  finish_played (Err stop) legal last = tt

  pub finish_broke : {T : Type 0} (result : Result T Stop)
      → IfErr result (λ stop. Broke (λ (done : List Deed). IsFront done (Finish ∷ [])) tempo mid new stop wires')
      → IfErr result (λ stop. Broke (λ (done : List Deed). IfSome beats (λ told. IsFront done (deeds told cycles))) tempo old new stop
      (over_both wires wires'))
  finish_broke (Ok value) broke = tt
  finish_broke (Err stop) broke =
      broke_after (λ (done : List Deed). IsFront done (Finish ∷ [])) (λ (done : List Deed). IfSome beats (λ told. IsFront done (deeds told cycles))) both
      played.on
      (λ done begins. told_weaker beats (λ told. played.made ≡ ticks told cycles) (λ told. IsFront (map Tick played.made ++ done) (deeds told cycles))
      (λ told is. subst (λ (places : List ℕ). IsFront (map Tick played.made ++ done) (map Tick places ++ Finish ∷ [])) is
      (front_after (map Tick played.made) begins)) played.all) broke
