use Rattle.std.proofs.Common.{rules, ◌≡◌, ◌<◌, ℕ, ◌+◌, ◌-◌, Some, option_map, refl, sym, ap, ◌∙◌, subst, arith}
use Rattle.std.specs.List.{flat_map, range_with_len}
use Rattle.std.proofs.lemmas.Option.{none-some}
use Rattle.std.proofs.lemmas.Result.{on_ok_weaker}
use Rattle.tdl_fraction.specs.Arc.{meet}
use Rattle.tdl_meaning.specs.Kinds.{piece, fragment, fragments}
use Rattle.tdl_grid.specs.Span.{met, arc_of}
use Rattle.tdl_grid.specs.Item.{Item, event_of, HasWholePieces, AddsInEach}
use Rattle.tdl_grid.specs.Values.{leaf_of}
use Rattle.tdl_grid.proofs.SpanArcs.{met_part}
use Rattle.tdl_grid.proofs.Gained.{adds_none, adds_as, adds_number, adds_fragment, adds_no_fragment}
use Rattle.tdl_grid.proofs.plies.add_fragments.Goals.{in-Some+in_ok-copy+in_ok-push, in_default}
use Rattle.tdl_grid.proofs.plies.add_fragments.Goals as goal

pub width_of_piece-width-requires-clause-exact : goal.width_of_piece-width-requires-clause-exact
width_of_piece-width-requires-clause-exact c = subst (HasWholePieces c.args.times) (sym c.item.view_is) c.requires.exact

pub invariant_of-push : goal.invariant_of-push
invariant_of-push c =
    let part : met c.piece-next.result c.item.inside.part ≡ Some c.in-Some.cut = search rules in
    (met_part c.piece-next.result c.item.inside.part c.in-Some.cut part).0

pub invariant_of-push-in-Some-meet : goal.invariant_of-push-in-Some-meet
invariant_of-push-in-Some-meet c =
    let part : met c.piece-next-2.result c.item.inside.part ≡ Some c.in-Some-meet.cut = search rules in
    (met_part c.piece-next-2.result c.item.inside.part c.in-Some-meet.cut part).0

pub loop-j-init : goal.loop-j-init
loop-j-init c = record { out = λ u h. adds_none u c.args.out.now _ refl; value = ap (λ (x : Item). x.value) c.item.view_is }

pub loop-j-preserved : goal.loop-j-preserved
loop-j-preserved c =
    let i = c.args.item in
    let n = c.args.times in
    let j = c.loop-j.j in
    let next = c.piece-next.result in
    let whole = λ (u : ℕ) (h : 0 < u). c.piece-next.ensures.arcs u h ∙ ap (λ (x : Item). piece n (arc_of u x.whole) j) c.item.view_is in
    let met = λ (u : ℕ) (h : 0 < u). c.meet.ensures.arcs u h ∙ ap (λ (x : Item). meet (arc_of u next) (arc_of u x.part)) c.item.view_is in
    record {
      out = elim c.match-meet.branch [
        | in-Some+in_ok-copy+in_ok-push w ↦
            let value : leaf_of w.in_ok-copy.field-0 ≡ i.value = w.in_ok-copy.ensures ∙ c.loop-j.invariant.value in
            λ u h.
            adds_number u (λ k. fragment (piece n (arc_of u i.whole) k) (event_of u i)) j _ _ _ (c.loop-j.invariant.out u h)
            (adds_fragment u h n j i next (whole u h) w.in-Some.cut (leaf_of w.in_ok-copy.field-0) _ _
            (ap (option_map (arc_of u)) (sym w.in-Some.is) ∙ met u h) value
            (search rules))
        | in_default w ↦
            λ u h.
            adds_number u (λ k. fragment (piece n (arc_of u i.whole) k) (event_of u i)) j _ _ _ (c.loop-j.invariant.out u h)
            (adds_no_fragment u h n j i next (whole u h) c.meet.result _ _ (met u h) w.in_default.not-Some (search rules))
      ];
      value = c.loop-j.invariant.value;
    }

pub returns-in-Some-meet : goal.returns-in-Some-meet
returns-in-Some-meet c =
    let i = c.args.item in
    let n = c.args.times in
    let j = c.loop-j.j in
    let w' = c.piece-next-2.result in
    let here : n - 1 ≡ j = omega arith in
    let end : j + 1 ≡ n = omega (arith, c.requires.some) in
    let piece_at = λ (u k : ℕ). fragment (piece n (arc_of u i.whole) k) (event_of u i) in
    on_ok_weaker {Q = AddsInEach c.args.out.now c.push-in-Some-meet.new.self (λ u. fragments n (event_of u i))} _
    (λ pushed u h.
    let whole = c.piece-next-2.ensures.arcs u h ∙ ap (λ (x : Item). piece n (arc_of u x.whole) (n - 1)) c.item.view_is ∙ ap (piece n (arc_of u i.whole)) here in
    let met = c.meet-2.ensures.arcs u h ∙ ap (λ (x : Item). meet (arc_of u w') (arc_of u x.part)) c.item.view_is in
    let last = adds_fragment u h n j i w' whole c.in-Some-meet.cut _ _ _ (ap (option_map (arc_of u)) (sym c.in-Some-meet.is) ∙ met)
    c.loop-j.invariant.value pushed in
    adds_as u _ _ _ _ (ap (λ k. flat_map (piece_at u) (range_with_len 0 k)) end)
    (adds_number u (piece_at u) j _ _ _ (c.loop-j.invariant.out u h) last))
    c.push-in-Some-meet.ensures.ok

pub returns-in-None : goal.returns-in-None
returns-in-None c =
    let i = c.args.item in
    let n = c.args.times in
    let j = c.loop-j.j in
    let w' = c.piece-next-2.result in
    let here : n - 1 ≡ j = omega arith in
    let end : j + 1 ≡ n = omega (arith, c.requires.some) in
    let piece_at = λ (u k : ℕ). fragment (piece n (arc_of u i.whole) k) (event_of u i) in
    λ u h.
    let whole = c.piece-next-2.ensures.arcs u h ∙ ap (λ (x : Item). piece n (arc_of u x.whole) (n - 1)) c.item.view_is ∙ ap (piece n (arc_of u i.whole)) here in
    let met = c.meet-2.ensures.arcs u h ∙ ap (λ (x : Item). meet (arc_of u w') (arc_of u x.part)) c.item.view_is in
    let last = adds_no_fragment u h n j i w' whole c.meet-2.result _ _ met (λ cut is. none-some cut (sym c.in-None.is ∙ is)) refl in
    adds_as u _ _ _ _ (ap (λ k. flat_map (piece_at u) (range_with_len 0 k)) end)
    (adds_number u (piece_at u) j _ _ _ (c.loop-j.invariant.out u h) last)
