use Rattle.std.proofs.Common.{◌≡◌, ◌-◌, filter, ap, ◌∙◌, subst, arith}
use Rattle.std.specs.List.{range_with_len}
use Rattle.arrayvec.specs.ArrayVec.{array_vec_len}
use Rattle.tdl_desk.specs.Desk.{desk, orbits}
use Rattle.tdl_core.specs.inside.Orbits.{is_shown}
use Rattle.tdl_core.proofs.OrbitLists.{IsListedSoFar, listed_empty, listed_less, listed_more, listed_some}
use Rattle.tdl_core.proofs.looks.put_orbits.Goals as goal
use Rattle.tdl_core.proofs.looks.put_orbits.Goals.{then-is_shown, else-is_shown}

pub loop-orbit-preserved : goal.loop-orbit-preserved
loop-orbit-preserved c =
    elim c.if-is_shown.branch [
      | then-is_shown w ↦ (
        (λ kept stands any.
            rw (w.is_first-is)
            (listed_more (is_shown c.args.shown (desk kept c.args.cycle)) c.loop-orbit.orbit c.args.text.now.items c.loop-orbit.text.items
            c.if-is_shown.text.items c.loop-orbit.is_first c.loop-orbit.auto.orbit
            (w.if-is_shown.ensures kept stands any) (c.loop-orbit.invariant.0 kept stands any)
            (λ e. ap (λ t. t.items) w.text-is ∙ w.put_orbit.ensures.first e) (λ e. ap (λ t. t.items) w.text-is ∙ w.put_orbit.ensures.other e))),
        omega (arith, ap array_vec_len w.text-is, w.put_orbit.ensures.count, c.loop-orbit.invariant.1, c.loop-orbit.auto.orbit),
      )
      | else-is_shown w ↦ (
        (λ kept stands any.
            rw (w.text-is, w.is_first-is)
            (listed_less (is_shown c.args.shown (desk kept c.args.cycle)) c.loop-orbit.orbit c.args.text.now.items c.loop-orbit.text.items
            c.loop-orbit.is_first c.loop-orbit.auto.orbit
            (w.if-is_shown.ensures kept stands any) (c.loop-orbit.invariant.0 kept stands any))),
        omega (arith, ap array_vec_len w.text-is, c.loop-orbit.invariant.1, c.loop-orbit.auto.orbit),
      )
    ]

pub returns-then-is_first-clause-text : goal.returns-then-is_first-clause-text
returns-then-is_first-clause-text c =
    λ kept stands any.
    let p = is_shown c.args.shown (desk kept c.args.cycle) in
    let all : c.loop-orbit.orbit - 1 ≡ 16 = omega (arith, c.loop-orbit-test.false, c.loop-orbit.auto.orbit-end (omega arith)) in
    let so = subst
    (λ n. IsListedSoFar c.args.text.now.items c.loop-orbit.text.items c.loop-orbit.is_first (filter p (range_with_len 1 n))) all
    (c.loop-orbit.invariant.0 kept stands any) in
    let first = subst (λ b. IsListedSoFar c.args.text.now.items c.loop-orbit.text.items b (filter p orbits)) c.if-is_first.true so in
    listed_empty c.args.text.now.items c.loop-orbit.text.items c.push.new.text.items (filter p orbits) first c.push.ensures.items

pub returns-else-is_first-clause-text : goal.returns-else-is_first-clause-text
returns-else-is_first-clause-text c =
    λ kept stands any.
    let p = is_shown c.args.shown (desk kept c.args.cycle) in
    let all : c.loop-orbit.orbit - 1 ≡ 16 = omega (arith, c.loop-orbit-test.false, c.loop-orbit.auto.orbit-end (omega arith)) in
    let so = subst
    (λ n. IsListedSoFar c.args.text.now.items c.loop-orbit.text.items c.loop-orbit.is_first (filter p (range_with_len 1 n))) all
    (c.loop-orbit.invariant.0 kept stands any) in
    let other = subst (λ b. IsListedSoFar c.args.text.now.items c.loop-orbit.text.items b (filter p orbits)) c.if-is_first.false so in
    listed_some c.args.text.now.items c.loop-orbit.text.items (filter p orbits) other
