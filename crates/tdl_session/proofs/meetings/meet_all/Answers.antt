use Rattle.std.proofs.Common.{◌≡◌, ◌+◌, ◌++◌, ◌∷◌, [], List, length, option_to_list, refl, sym, ap, ◌∙◌, subst, arith, length-append, append_assoc, append-nil}
use Rattle.std.specs.Vec.Iter.{into_iter_items}
use Rattle.std.proofs.IntoIterSteps.{All-taken}
use Rattle.tdl_session.specs.Passes.{IsPassOf}
use Rattle.tdl_session.specs.inside.Spots.{SpotView, IsSingle, AreSingle, HaveMet, ends_of}
use Rattle.tdl_session.proofs.MeetingPasses.{taken_next, single_at, ends_append, meeting_none, meeting_more}
use Rattle.tdl_session.proofs.meetings.meet_all.Goals as goal

pub loop-spot-init : goal.loop-spot-init
loop-spot-init g c = record {
  met = meeting_none g.M.Chronicle.by c.args.pass.now;
  room = omega arith;
  capacity = refl;
  ends = sym (append-nil c.args.ends.now.items);
}

pub meet-requires-clause-other : goal.meet-requires-clause-other
meet-requires-clause-other g c = let shared = c.args.shared.now in let spot = c.in-Some.spot in let it = c.into_iter-spot-iterator in
    let parts : c.args.spots.items ≡ c.loop-spot.yielded ++ spot ∷ into_iter_items c.next.new.self =
    taken_next c.args.spots.items c.loop-spot.yielded spot it.result c.loop-spot.spot-iterator c.next.new.self it.ensures.into_iter_gives.0
    c.loop-spot.yielded_by c.in-Some.ensures.steps.0 in
    let single : IsSingle shared spot.pass = single_at shared c.loop-spot.yielded (into_iter_items c.next.new.self) spot
    (subst (AreSingle shared) parts c.requires.spots) in
    subst (IsPassOf shared) (sym c.into_parts-other.ensures.pass) single.0

pub loop-spot-preserved : goal.loop-spot-preserved
loop-spot-preserved g c = let shared = c.args.shared.now in let spot = c.in-Some.spot in let it = c.into_iter-spot-iterator in
    let so-far = c.loop-spot.invariant in let yielded = c.loop-spot.yielded in let put = c.put_end.ensures in
    let parts : c.args.spots.items ≡ yielded ++ spot ∷ into_iter_items c.next.new.self =
    taken_next c.args.spots.items yielded spot it.result c.loop-spot.spot-iterator c.next.new.self it.ensures.into_iter_gives.0
    c.loop-spot.yielded_by c.in-Some.ensures.steps.0 in
    let single : IsSingle shared spot.pass = single_at shared yielded (into_iter_items c.next.new.self) spot
    (subst (AreSingle shared) parts c.requires.spots) in
    let more : length (yielded ++ spot ∷ []) ≡ length yielded + 1 = length-append yielded (spot ∷ []) in record {
      met = meeting_more g.M.Chronicle.by shared c.args.pass.now c.loop-spot.pass c.meet.new.pass yielded spot c.into_parts-other.result.0 so-far.met single
          c.into_parts-other.ensures.pass c.meet.ensures.pass c.meet.ensures.numbers c.meet.ensures.this c.meet.ensures.that;
      room = omega (arith, put.len, so-far.room, more);
      capacity = put.capacity ∙ so-far.capacity;
      ends = put.items ∙ (ap (λ e. c.loop-spot.ends.items ++ option_to_list e) c.into_parts-other.ensures.end
          ∙ (ap (λ l. l ++ option_to_list spot.end) so-far.ends ∙ (append_assoc c.args.ends.now.items (ends_of yielded) (option_to_list spot.end)
          ∙ ap (λ l. c.args.ends.now.items ++ l) (sym (ends_append yielded spot)))));
    }

pub put_end-requires : goal.put_end-requires
put_end-requires g c = let S : Type 0 = SpotView g.row.M-Entry.Denot g.row.M-Fixed.Denot g.row.T.Denot in
    let spot = c.in-Some.spot in let it = c.into_iter-spot-iterator in let so-far = c.loop-spot.invariant in let yielded = c.loop-spot.yielded in
    let parts : c.args.spots.items ≡ yielded ++ spot ∷ into_iter_items c.next.new.self =
    taken_next c.args.spots.items yielded spot it.result c.loop-spot.spot-iterator c.next.new.self it.ensures.into_iter_gives.0
    c.loop-spot.yielded_by c.in-Some.ensures.steps.0 in
    let long : length c.args.spots.items ≡ length yielded + length (spot ∷ into_iter_items c.next.new.self) =
    ap (λ (l : List S). length l) parts ∙ length-append yielded (spot ∷ into_iter_items c.next.new.self) in
    omega (arith, so-far.room, so-far.capacity, long, c.requires.room)

pub returns-clause-made : goal.returns-clause-made
returns-clause-made g c = let S : Type 0 = SpotView g.row.M-Entry.Denot g.row.M-Fixed.Denot g.row.T.Denot in
    let it = c.into_iter-spot-iterator in let loop = c.loop-spot in
    let all : loop.yielded ≡ c.args.spots.items =
    All-taken it.result loop.yielded (c.next.new.self, (loop.spot-iterator, loop.yielded_by, c.in-None.ensures.steps)) ∙ it.ensures.into_iter_gives.0 in
    subst (λ (l : List S). length loop.pass.made ≡ length c.args.pass.now.made + length l) all loop.invariant.met.made

pub returns-clause-met : goal.returns-clause-met
returns-clause-met g c = let it = c.into_iter-spot-iterator in let loop = c.loop-spot in
    let all : loop.yielded ≡ c.args.spots.items =
    All-taken it.result loop.yielded (c.next.new.self, (loop.spot-iterator, loop.yielded_by, c.in-None.ensures.steps)) ∙ it.ensures.into_iter_gives.0 in
    subst (HaveMet g.M.Chronicle.by loop.pass.seen loop.pass.made) all loop.invariant.met.met

pub returns-clause-ends : goal.returns-clause-ends
returns-clause-ends g c = let S : Type 0 = SpotView g.row.M-Entry.Denot g.row.M-Fixed.Denot g.row.T.Denot in
    let it = c.into_iter-spot-iterator in let loop = c.loop-spot in
    let all : loop.yielded ≡ c.args.spots.items =
    All-taken it.result loop.yielded (c.next.new.self, (loop.spot-iterator, loop.yielded_by, c.in-None.ensures.steps)) ∙ it.ensures.into_iter_gives.0 in
    subst (λ (l : List S). loop.ends.items ≡ c.args.ends.now.items ++ ends_of l) all loop.invariant.ends
