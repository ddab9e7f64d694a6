-- Calls that nothing refuses.
--     accepted_answers        an accepted call is answered so
--     tick_bounds             what a tick keeps to that nothing refuses
--     has_room                and a performer's call
use Rattle.std.proofs.Common.{◌≡◌, ℕ, ◌+◌, ◌<◌, ◌≤◌, Option, None, Some, IfSome, Ok, Err, Bool, true, false, refl, sym, subst, nat_lt, nat_le}
use Rattle.std.specs.Prelude.{if◌then◌else◌}
use Rattle.std.proofs.lemmas.Bool.{ltb-false, leb-false}
use Rattle.tdl_fraction.specs.Units.{tick_units, last_units}
use Rattle.tdl_score.specs.History.{max_performed, max_ticks}
use Rattle.tdl_core.specs.declared.calls.Call.{Call}
use Rattle.tdl_core.specs.declared.replies.Refusal.{Refusal}
use Rattle.tdl_core.specs.declared.replies.Refusal.TheVariants.{Full, Backward, TooLong, PastLast}
use Rattle.tdl_core.specs.declared.replies.Reply.{Reply}
use Rattle.tdl_core.specs.Replies.{CoreState, performer_refusal, tick_refusal, Accepts, Answers}

-- an accepted call is answered so
pub accepted_answers : (old new : CoreState) (who : ℕ) (call : Call) (reply : Reply) → Accepts old new who call reply → Answers old new who call (Ok reply)
accepted_answers old new who call reply accepts =
    let P : Option Refusal → Type 0 = λ refusal. IfSome refusal (λ r. Ok reply ≡ Err r) in
    record { ok = accepts; refused = subst P (sym accepts.allowed) tt; only = tt; frontier = tt; err = tt; finish = λ e. refl }

-- no test of a tick holds where nothing refuses it
none_holds : {X : Type 0} (a b c d : Bool) (w x y z : X) → None ≡
    (if a then Some w else (if b then Some x else (if c then Some y else (if d then Some z else None)))) → (a ≡ false) × (b ≡ false) × (c ≡ false)
    × (d ≡ false)
none_holds true b c d w x y z e = cc
none_holds false true c d w x y z e = cc
none_holds false false true d w x y z e = cc
none_holds false false false true w x y z e = cc
none_holds false false false false w x y z e = (refl, refl, refl, refl)

one_holds : {X : Type 0} (a : Bool) (x : X) → None ≡ (if a then Some x else None) → a ≡ false
one_holds true x e = cc
one_holds false x e = refl

pub has_room : (performed : ℕ) → None ≡ performer_refusal performed → performed < max_performed
has_room performed e = leb-false max_performed performed (one_holds (nat_le max_performed performed) (Full max_performed) e)

pub tick_bounds : (units ticks to : ℕ) → None ≡ tick_refusal units ticks to
    → (units < to) × (to ≤ units + tick_units) × (to ≤ last_units) × (ticks < max_ticks)
tick_bounds units ticks to e =
    let none = none_holds (nat_lt last_units to) (nat_le to units) (nat_lt (units + tick_units) to) (nat_le max_ticks ticks) (PastLast units) (Backward units)
    (TooLong units) (Full max_ticks) e in
    (leb-false to units none.1, ltb-false (units + tick_units) to none.2, ltb-false last_units to none.0, leb-false max_ticks ticks none.3)
