use Rattle.std.proofs.Common.{rules, ◌≡◌, ℕ, ◌+◌, ◌-◌, List, Some, ◌++◌, sym, ap, ◌∙◌, arith, refl}
use Rattle.std.specs.List.{flat_map, range_with_len}
use Rattle.std.proofs.lemmas.Option.{none-some}
use Rattle.std.proofs.lemmas.Result.{IfOk-equal}
use Rattle.tdl_fraction.specs.Arc.{meet}
use Rattle.tdl_fraction.proofs.Arcs.{meet_inside_left}
use Rattle.tdl_event.specs.Event.{Event}
use Rattle.tdl_meaning.specs.Kinds.{piece, fragment}
use Rattle.tdl_meaning.proofs.PlainLemmas.{fragment_made, fragment_missed}
use Rattle.tdl_meaning.proofs.Added.{next_in_range, same_in_range}
use Rattle.tdl_meaning.proofs.plies.add_fragments.Goals.{in-Some+in_ok-copy+in_ok-push, in_default}
use Rattle.tdl_meaning.proofs.plies.add_fragments.Goals as goal

pub invariant_of-push : goal.invariant_of-push
invariant_of-push c =
    let part : meet c.piece-next.result c.event.inside.part ≡ Some c.in-Some.cut = search rules in
    meet_inside_left c.piece-next.result c.event.inside.part c.in-Some.cut part

pub invariant_of-push-in-Some-meet : goal.invariant_of-push-in-Some-meet
invariant_of-push-in-Some-meet c =
    let part : meet c.piece-next-2.result c.event.inside.part ≡ Some c.in-Some-meet.cut = search rules in
    meet_inside_left c.piece-next-2.result c.event.inside.part c.in-Some-meet.cut part

pub loop-j-preserved : goal.loop-j-preserved
loop-j-preserved c =
    let e = c.args.event in
    let n = c.args.times in
    let j = c.loop-j.j in
    let w' = c.piece-next.result in
    let whole : w' ≡ piece n e.whole j = c.piece-next.ensures ∙ ap (λ (x : Event). piece n x.whole j) c.event.view_is in
    let met : c.meet.result ≡ meet w' e.part = c.meet.ensures ∙ ap (λ (x : Event). meet w' x.part) c.event.view_is in
    let of : ℕ → List Event = λ k. fragment (piece n e.whole k) e in
    let so_far = c.loop-j.invariant.out in
    record {
      out = elim c.match-meet.branch [
        | in-Some+in_ok-copy+in_ok-push w ↦
            let value : w.in_ok-copy.field-0 ≡ e.value = w.in_ok-copy.ensures ∙ c.loop-j.invariant.value in
            next_in_range of j _ _ _ so_far _ (search rules)
            (fragment_made n j e w' w.in-Some.cut w.in_ok-copy.field-0 whole (sym met ∙ w.in-Some.is) value)
        | in_default w ↦ same_in_range of j _ _ _ so_far (search rules) (fragment_missed n j e w' c.meet.result whole met w.in_default.not-Some)
      ];
      value = c.loop-j.invariant.value;
    }

pub returns-in-Some-meet : goal.returns-in-Some-meet
returns-in-Some-meet c =
    let e = c.args.event in
    let n = c.args.times in
    let j = c.loop-j.j in
    let w' = c.piece-next-2.result in
    let here : n - 1 ≡ j = omega arith in
    let next : j + 1 ≡ n = omega (arith, c.requires.some) in
    let whole : w' ≡ piece n e.whole j =
    c.piece-next-2.ensures ∙ ap (λ (x : Event). piece n x.whole (n - 1)) c.event.view_is ∙ ap (piece n e.whole) here in
    let met : c.meet-2.result ≡ meet w' e.part = c.meet-2.ensures ∙ ap (λ (x : Event). meet w' x.part) c.event.view_is in
    let of : ℕ → List Event = λ k. fragment (piece n e.whole k) e in
    let last = fragment_made n j e w' c.in-Some-meet.cut _ whole (sym met ∙ c.in-Some-meet.is) c.loop-j.invariant.value in
    let all = next_in_range of j _ _ _ c.loop-j.invariant.out _ refl last in
    IfOk-equal c.push-in-Some-meet.result _ _ _ c.push-in-Some-meet.ensures.ok
    (all ∙ ap (λ k. c.args.out.now ++ flat_map of (range_with_len 0 k)) next)

pub returns-in-None : goal.returns-in-None
returns-in-None c =
    let e = c.args.event in
    let n = c.args.times in
    let j = c.loop-j.j in
    let w' = c.piece-next-2.result in
    let here : n - 1 ≡ j = omega arith in
    let next : j + 1 ≡ n = omega (arith, c.requires.some) in
    let whole : w' ≡ piece n e.whole j =
    c.piece-next-2.ensures ∙ ap (λ (x : Event). piece n x.whole (n - 1)) c.event.view_is ∙ ap (piece n e.whole) here in
    let met : c.meet-2.result ≡ meet w' e.part = c.meet-2.ensures ∙ ap (λ (x : Event). meet w' x.part) c.event.view_is in
    let of : ℕ → List Event = λ k. fragment (piece n e.whole k) e in
    let missed = fragment_missed n j e w' c.meet-2.result whole met (λ p is. none-some p (sym c.in-None.is ∙ is)) in
    same_in_range of j _ _ _ c.loop-j.invariant.out refl missed ∙ ap (λ k. c.args.out.now ++ flat_map of (range_with_len 0 k)) next
