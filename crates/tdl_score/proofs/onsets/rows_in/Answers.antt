use Rattle.std.proofs.Common.{◌-◌, Some, None, map, sym, ap, subst, arith, append-nil}
use Rattle.std.specs.List.{AllByRecursion}
use Rattle.std.specs.Option.{option_copied}
use Rattle.tdl_desk.specs.Desk.{desk as desk_of}
use Rattle.tdl_score.specs.Programs.{dated_tree, program_tree}
use Rattle.tdl_score.specs.Score.{IsRowOf, orbit_rows, pattern_rows}
use Rattle.tdl_score.proofs.MappedDesks.{heard_due}
use Rattle.tdl_score.proofs.Sent.{known_more, more_orbits_due, up_to}
use Rattle.tdl_score.proofs.onsets.rows_in.Goals as goal
use Rattle.tdl_score.proofs.onsets.rows_in.Goals.{in-Some+in_ok-push_orbit, in_default}

pub loop-orbit-preserved : goal.loop-orbit-preserved
loop-orbit-preserved g c = record {
  rows = λ kept stands.
      more_orbits_due c.args.span.from c.args.span.to (orbit_rows c.args.cycle (desk_of (map dated_tree kept) c.args.cycle)) c.loop-orbit.orbit
      c.loop-orbit.rows.items _ (omega arith) (c.loop-orbit.invariant.rows kept stands)
      (elim c.match-heard.branch [
        | in-Some+in_ok-push_orbit w ↦
            heard_due c.args.span.from c.args.span.to kept c.args.cycle c.loop-orbit.orbit (Some w.in-Some.program.now)
            (option_copied c.heard.result) c.loop-orbit.rows.items _ _
            (c.heard.ensures kept stands (c.any_soloed-any_soloed.ensures kept stands)) (ap option_copied w.in-Some.is)
            (ap (λ r. r.items) w.rows-is) w.in_ok-push_orbit.ensures.rows
        | in_default w ↦
            heard_due c.args.span.from c.args.span.to kept c.args.cycle c.loop-orbit.orbit None
            (option_copied c.heard.result) c.loop-orbit.rows.items _ _
            (c.heard.ensures kept stands (c.any_soloed-any_soloed.ensures kept stands)) (ap option_copied w.in_default.is)
            (ap (λ r. r.items) w.rows-is) (sym (append-nil c.loop-orbit.rows.items))
      ]);
  known = elim c.match-heard.branch [
    | in-Some+in_ok-push_orbit w ↦
        known_more (IsRowOf c.args.cycle) c.args.span.from c.args.span.to c.loop-orbit.rows.items _ _
        (pattern_rows c.args.cycle c.loop-orbit.orbit (Some (program_tree w.in-Some.program.now))) (ap (λ r. r.items) w.rows-is)
        w.in_ok-push_orbit.ensures.rows c.loop-orbit.invariant.known w.in_ok-push_orbit.ensures.known
    | in_default w ↦ subst (AllByRecursion (IsRowOf c.args.cycle)) (sym (ap (λ r. r.items) w.rows-is)) c.loop-orbit.invariant.known
  ];
}

pub returns-clause-rows : goal.returns-clause-rows
returns-clause-rows g c = λ kept stands.
    up_to c.args.span.from c.args.span.to (orbit_rows c.args.cycle (desk_of (map dated_tree kept) c.args.cycle)) (c.loop-orbit.orbit - 1) 16
    c.loop-orbit.rows.items (omega arith) (c.loop-orbit.invariant.rows kept stands)
