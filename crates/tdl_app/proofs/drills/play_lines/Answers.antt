use Rattle.std.proofs.Common.{refl, sym, ◌∙◌}
use Rattle.std.proofs.lemmas.Result.{err_from_is_err_and}
use Rattle.tdl_app.proofs.LinesDrilled.{FinishesLast, so_far_more, so_far_none, so_far_stops}
use Rattle.tdl_app.proofs.drills.play_lines.Goals as goal

pub lines-init : goal.lines-init
lines-init g c = (so_far_none _ _ _ _ _ _ _ c.requires.core, record { osc = refl; midi = refl })

pub lines-preserved : goal.lines-preserved
lines-preserved g c =
    let last : FinishesLast c.args.lines.now = λ before rest line is.
    c.the_finish_is_the_last_line.ensures c.requires.drilled.0 c.requires.drilled.1 before rest line (sym c.requires.drilled.2 ∙ is) in (
      so_far_more c.in-Some.line c.bytes.result.now c.next_line.new.self last
          (record { osc = record { told = refl; faults = refl }; midi = record { told = refl; faults = refl } })
          c.lines.invariant.0 c.in-Some.ensures.some c.bytes.ensures c.in_ok-play_line-in-Some.ensures.ok,
      record {
        osc = c.in_ok-play_line-in-Some.ensures.same.osc ∙ c.lines.invariant.1.osc;
        midi = c.in_ok-play_line-in-Some.ensures.same.midi ∙ c.lines.invariant.1.midi;
      },
    )

pub returns-in_err-play_line-in-Some-clause-err : goal.returns-in_err-play_line-in-Some-clause-err
returns-in_err-play_line-in-Some-clause-err g c =
    let p = err_from_is_err_and c.from_residual.result c.from_residual.ensures.1 in
    rw (p.1, p.2) (so_far_stops c.in_err-play_line-in-Some.field-0.0 c.in-Some.line c.bytes.result.now c.next_line.new.self
    c.last_plays_send_last.ensures.plays
    (record { osc = record { told = refl; faults = refl }; midi = record { told = refl; faults = refl } })
    c.lines.invariant.0 c.in-Some.ensures.some c.bytes.ensures c.in_err-play_line-in-Some.ensures.counts c.in_err-play_line-in-Some.ensures.err)
