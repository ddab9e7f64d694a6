use Rattle.std.proofs.Common.{◌≡◌, ◌+◌, ◌-◌, ◌<◌, ◌^◌, ⊎_elim, map, w64, sym, ap, ◌∙◌, arith}
use Rattle.std.proofs.Math.Facts.{to_z_pos}
use Rattle.tdl_expr.specs.Rows.{tree_at}
use Rattle.tdl_meaning.specs.declared.motions.Motion.TheVariants.{Later}
use Rattle.tdl_meaning.specs.Pattern.{moved}
use Rattle.tdl_meaning.specs.Meaning.{cyc}
use Rattle.tdl_meaning.specs.Motions.{time_at}
use Rattle.tdl_meaning.specs.Repeats.{later}
use Rattle.tdl_app.specs.inside.Batches.{batch_events}
use Rattle.tdl_app.proofs.BatchEvents.{batch_short, next_events_moved, next_events_can_move, query_arc_part}
use Rattle.tdl_app.proofs.batches.Batches.next_events.Goals as goal

pub apply-requires-clause-times : goal.apply-requires-clause-times
apply-requires-clause-times g c =
    let e = tree_at c.args.program.now.nodes c.args.program.now.root in
    let s = c.args.self.now in
    let small : s.cycles < 2 ^ 63 = omega (arith, batch_short s c.requires.batches.cut c.args.k c.requires.within) in
    let same : c.args.events.now ≡ batch_events (cyc e) s (c.args.k - 1) =
    ⊎_elim (λ (none : c.args.k ≡ 0). absurd (omega arith)) (λ had. had) c.requires.before in
    rw (to_z_pos w64 small, same) (next_events_can_move e s c.requires.batches (c.args.k - 1) (omega arith) (omega arith))

pub returns-then-k-self : goal.returns-then-k-self
returns-then-k-self g c =
    let e = tree_at c.args.program.now.nodes c.args.program.now.root in
    let s = c.args.self.now in
    let small : s.cycles < 2 ^ 63 = omega (arith, batch_short s c.requires.batches.cut c.args.k c.requires.within) in
    let same : c.args.events.now ≡ batch_events (cyc e) s (c.args.k - 1) =
    ⊎_elim (λ (none : c.args.k ≡ 0). absurd (omega arith)) (λ had. had) c.requires.before in
    let next : c.args.k - 1 + 1 ≡ c.args.k = omega arith in
    c.apply.ensures ∙ ap (λ by. map (moved (time_at (Later by))) c.args.events.now) (to_z_pos w64 small) ∙ ap (map (moved (later s.cycles))) same
    ∙ sym (next_events_moved e s c.requires.batches (c.args.k - 1) (omega arith) (omega arith)) ∙ ap (batch_events (cyc e) s) next

pub query_onto-requires : goal.query_onto-requires
query_onto-requires g c =
    query_arc_part c.args.self.now.arc c.in-Some.part _ _ c.requires.batches.cut.query (sym c.part.ensures ∙ c.in-Some.is)
