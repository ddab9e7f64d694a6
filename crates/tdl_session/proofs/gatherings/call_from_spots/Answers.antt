use Rattle.std.proofs.Common.{◌≡◌, ℕ, [], List, length, sym, ap, ◌∙◌, subst, arith}
use Rattle.tdl_session.specs.Gatherings.{SitsAt, StaysDone, EachEnded}
use Rattle.tdl_session.specs.inside.Beside.{AllMay}
use Rattle.tdl_session.specs.inside.Spots.{SpotView, AreNew, AreSingle, HaveMet, ends_of}
use Rattle.tdl_session.proofs.MeetingPasses.{written_back, new_sit, single_after, count_after, each_ended}
use Rattle.tdl_session.proofs.gatherings.call_from_spots.Goals as goal

pub lead_beside-requires-clause-may : goal.lead_beside-requires-clause-may
lead_beside-requires-clause-may g c κs within = let S : Type 0 = SpotView g.row.M-Entry.Denot g.row.M-Fixed.Denot g.row.D-End.Denot in
    let shared = c.args.hall.now.shared in let spots = c.args.spots.now.items in
    subst (AllMay (λ (caller : g.row.D.Denot) (spot : S). SitsAt shared spot.pass) c.args.callers.now) (sym c.as_mut_slice.ensures.value)
    (new_sit shared 1 c.args.callers.now spots (sym c.requires.same) (omega arith) (omega (arith, c.requires.same, c.requires.few)) c.requires.new)

pub returns-clause-single : goal.returns-clause-single
returns-clause-single g c = let S : Type 0 = SpotView g.row.M-Entry.Denot g.row.M-Fixed.Denot g.row.D-End.Denot in
    let shared = c.args.hall.now.shared in let lent = c.as_mut_slice.ensures in let spots = c.args.spots.now in let beside = c.lead_beside in
    let new : AreNew shared 1 [] c.as_mut_slice.result.now = subst (AreNew shared 1 []) (sym lent.value) c.requires.new in
    let count : length beside.new.seconds ≡ length spots.items =
    count_after shared g.D.Caller.did shared.1 c.args.callers.now beside.new.firsts c.as_mut_slice.result.now beside.new.seconds beside.ensures.did
    ∙ ap (λ (l : List S). length l) lent.value in
    let len : spots.len ≡ length spots.items = sym lent.len ∙ ap (λ (l : List S). length l) lent.value in
    subst (AreSingle shared) (sym (written_back spots.len beside.new.seconds spots.items count len))
    (single_after shared g.D.Caller.did shared.1 1 [] c.args.callers.now beside.new.firsts c.as_mut_slice.result.now beside.new.seconds new beside.ensures.did)

pub returns-clause-did : goal.returns-clause-did
returns-clause-did g c = let S : Type 0 = SpotView g.row.M-Entry.Denot g.row.M-Fixed.Denot g.row.D-End.Denot in
    let shared = c.args.hall.now.shared in let lent = c.as_mut_slice.ensures in let spots = c.args.spots.now in let beside = c.lead_beside in
    let new : AreNew shared 1 [] c.as_mut_slice.result.now = subst (AreNew shared 1 []) (sym lent.value) c.requires.new in
    let count : length beside.new.seconds ≡ length spots.items =
    count_after shared g.D.Caller.did shared.1 c.args.callers.now beside.new.firsts c.as_mut_slice.result.now beside.new.seconds beside.ensures.did
    ∙ ap (λ (l : List S). length l) lent.value in
    let len : spots.len ≡ length spots.items = sym lent.len ∙ ap (λ (l : List S). length l) lent.value in
    subst (λ (l : List S). (history : List g.row.M-Entry.Denot) → (made : List ℕ) → StaysDone g.M.Chronicle.by g.D.Caller.did
    → HaveMet g.M.Chronicle.by history made l
    → EachEnded g.D.Caller.did shared.1 1 history c.args.callers.now beside.new.firsts (ends_of l))
    (sym (written_back spots.len beside.new.seconds spots.items count len))
    (λ history made stays met. each_ended shared g.D.Caller.did shared.1 g.M.Chronicle.by stays 1 [] history made
    c.args.callers.now beside.new.firsts c.as_mut_slice.result.now beside.new.seconds new beside.ensures.did met)
