use Rattle.std.proofs.Common.{◌≡◌, ◌++◌, codes, sym, ap, ◌∙◌}
use Rattle.std.proofs.lemmas.Result.{on_err_weaker, on_ok_weaker}
use Rattle.tdl_event.specs.Event.{Event as EventValue, arc_text}
use Rattle.tdl_control.proofs.PrintLemmas.{on_err_always, adds_within, adds_after}
use Rattle.tdl_event.proofs.Lines.{added_both, adds_first}
use Rattle.tdl_event.proofs.printing.print_arcs.Goals as goal

pub returns-in_err-add_ends-clause-err : goal.returns-in_err-add_ends-clause-err
returns-in_err-add_ends-clause-err c =
    let err = rw (c.requires.start, c.requires.stop) at c.in_err-add_ends.ensures.err in
    on_err_always _ (adds_within _ _ _ _ (adds_within _ _ _ _ err))

pub returns-in_err-push-clause-err : goal.returns-in_err-push-clause-err
returns-in_err-push-clause-err c =
    let e = c.args.event.now in
    let old = c.args.out.now in
    let ok = rw (c.requires.start, c.requires.stop) at c.in_ok-add_ends.ensures.ok in
    let stopped = adds_first (arc_text e.whole) (codes " ") old c.add_ends.new.out c.push.new.self ok c.in_err-push.ensures.err in
    on_err_always _ (adds_within (arc_text e.whole ++ codes " ") (arc_text e.part) old c.push.new.self stopped)

pub returns-then-eq-clause-ok : goal.returns-then-eq-clause-ok
returns-then-eq-clause-ok c =
    let e = c.args.event.now in
    let old = c.args.out.now in
    let ok = rw (c.requires.start, c.requires.stop) at c.in_ok-add_ends.ensures.ok in
    let again = rw (c.requires.start, c.requires.stop) at c.add_ends-then-eq.ensures.ok in
    let spaced = added_both (arc_text e.whole) (codes " ") old c.add_ends.new.out c.push.new.self ok c.in_ok-push.ensures.ok in
    let seen = c.event.view_is in
    let same : e.part ≡ e.whole = ap (λ (x : EventValue). x.part) (sym seen) ∙ c.eq.ensures.same.0 c.if-eq.true ∙ ap (λ (x : EventValue). x.whole) seen in
    rw same
    (on_ok_weaker c.add_ends-then-eq.result
    (added_both (arc_text e.whole ++ codes " ") (arc_text e.whole) old c.push.new.self c.add_ends-then-eq.new.out spaced) again)

pub returns-then-eq-clause-err : goal.returns-then-eq-clause-err
returns-then-eq-clause-err c =
    let e = c.args.event.now in
    let old = c.args.out.now in
    let ok = rw (c.requires.start, c.requires.stop) at c.in_ok-add_ends.ensures.ok in
    let err = rw (c.requires.start, c.requires.stop) at c.add_ends-then-eq.ensures.err in
    let spaced = added_both (arc_text e.whole) (codes " ") old c.add_ends.new.out c.push.new.self ok c.in_ok-push.ensures.ok in
    let seen = c.event.view_is in
    let same : e.part ≡ e.whole = ap (λ (x : EventValue). x.part) (sym seen) ∙ c.eq.ensures.same.0 c.if-eq.true ∙ ap (λ (x : EventValue). x.whole) seen in
    rw same
    (on_err_weaker c.add_ends-then-eq.result
    (adds_after (arc_text e.whole ++ codes " ") (arc_text e.whole) old c.push.new.self c.add_ends-then-eq.new.out spaced) err)

pub returns-clause-ok : goal.returns-clause-ok
returns-clause-ok c =
    let e = c.args.event.now in
    let old = c.args.out.now in
    let ok = rw (c.requires.start, c.requires.stop) at c.in_ok-add_ends.ensures.ok in
    let also = rw (
      c.print.ensures.text,
      c.start.ensures.value,
      ap (λ (x : EventValue). x.part.start) c.event.view_is,
      c.print-2.ensures.text,
      c.stop.ensures.value,
      ap (λ (x : EventValue). x.part.stop) c.event.view_is,
    ) at c.add_ends-2.ensures.ok in
    let spaced = added_both (arc_text e.whole) (codes " ") old c.add_ends.new.out c.push.new.self ok c.in_ok-push.ensures.ok in
    (on_ok_weaker c.add_ends-2.result (added_both (arc_text e.whole ++ codes " ") (arc_text e.part) old c.push.new.self c.add_ends-2.new.out spaced) also)

pub returns-clause-err : goal.returns-clause-err
returns-clause-err c =
    let e = c.args.event.now in
    let old = c.args.out.now in
    let ok = rw (c.requires.start, c.requires.stop) at c.in_ok-add_ends.ensures.ok in
    let err = rw (
      c.print.ensures.text,
      c.start.ensures.value,
      ap (λ (x : EventValue). x.part.start) c.event.view_is,
      c.print-2.ensures.text,
      c.stop.ensures.value,
      ap (λ (x : EventValue). x.part.stop) c.event.view_is,
    ) at c.add_ends-2.ensures.err in
    let spaced = added_both (arc_text e.whole) (codes " ") old c.add_ends.new.out c.push.new.self ok c.in_ok-push.ensures.ok in
    (on_err_weaker c.add_ends-2.result (adds_after (arc_text e.whole ++ codes " ") (arc_text e.part) old c.push.new.self c.add_ends-2.new.out spaced) err)
