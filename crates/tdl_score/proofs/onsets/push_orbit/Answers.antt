use Rattle.std.proofs.Common.{◌≡◌, ◌++◌, List, OnOk, append-nil, sym, ap, ◌∙◌, subst}
use Rattle.std.specs.List.{AllByRecursion, filter, flat_map}
use Rattle.tdl_event.specs.declared.rows.Row.{Row}
use Rattle.tdl_expr.specs.declared.ids.NodeId.{NodeId}
use Rattle.tdl_expr.specs.declared.nodes.Node.{Node}
use Rattle.tdl_expr.specs.Rows.{IsTable, tree_at}
use Rattle.tdl_expr.specs.Valid.{IsValid, IsWithinLimits}
use Rattle.tdl_compile.specs.Compiled.{Compiled}
use Rattle.tdl_meaning.specs.Onsets.{has_onset}
use Rattle.tdl_meaning.specs.Pattern.{over}
use Rattle.tdl_meaning.specs.Meaning.{cyc}
use Rattle.tdl_score.specs.Readings.{IsPlayable}
use Rattle.tdl_score.specs.Programs.{program_tree}
use Rattle.tdl_score.specs.Score.{row_of}
use Rattle.tdl_score.specs.inside.Parts.{HasLength, IsBetween, part_arc}
use Rattle.tdl_score.proofs.CycleRows.{pattern_rows_known}
use Rattle.tdl_score.proofs.Clipped.{clipped_lengths, cycle_before_last, due_rows}
use Rattle.tdl_score.proofs.PutRows.{all_kept, onset_rows}
use Rattle.tdl_score.proofs.Unasked.{none_due}
use Rattle.tdl_score.proofs.onsets.push_orbit.Goals as goal

-- the tree of a program can be played
playable : ((nodes : List Node) (id : NodeId) → IsTable nodes → IsValid (tree_at nodes id)) → (program : Compiled) (nodes : List Node)
    → nodes ≡ program.nodes → IsTable nodes → IsWithinLimits (program_tree program) → IsPlayable (program_tree program)
playable law program nodes same table limits = record { valid = law program.nodes program.root (subst IsTable same table); limits = limits }

pub returns-then-not-meets_grid-clause-rows : goal.returns-then-not-meets_grid-clause-rows
returns-then-not-meets_grid-clause-rows g c =
    let laws = c.times_of_trees_are_bounded.ensures in
    let tree = program_tree c.args.program.now in
    let is = playable c.validity_law.ensures c.args.program.now c.table.result.now c.table.ensures c.table_law.ensures c.root.ensures.limits in
    let arc = part_arc c.args.span.from c.args.span.to c.args.cycle in
    let between = subst (λ g. IsBetween g arc) c.grid.ensures.value (c.meets_grid.ensures c.if-not-meets_grid.true) in
    let none =
    none_due c.args.span.from c.args.span.to c.args.cycle c.args.orbit c.args.span.forward c.requires.begun c.requires.not_over
    laws.proper laws.in_arc tree is between in
    sym (ap (λ (rows : List Row). c.args.rows.now.items ++ rows) none ∙ append-nil c.args.rows.now.items)

pub returns-then-not-meets_grid-clause-known : goal.returns-then-not-meets_grid-clause-known
returns-then-not-meets_grid-clause-known g c =
    let laws = c.times_of_trees_are_bounded.ensures in
    pattern_rows_known laws.proper laws.in_arc c.args.cycle c.args.orbit
    (cycle_before_last c.args.cycle c.args.span.to c.requires.begun c.args.span.to_last) c.requires.orbit (program_tree c.args.program.now)
    (playable c.validity_law.ensures c.args.program.now c.table.result.now c.table.ensures c.table_law.ensures c.root.ensures.limits)

pub returns-in_err-events-clause-known : goal.returns-in_err-events-clause-known
returns-in_err-events-clause-known g c =
    let laws = c.times_of_trees_are_bounded.ensures in
    pattern_rows_known laws.proper laws.in_arc c.args.cycle c.args.orbit
    (cycle_before_last c.args.cycle c.args.span.to c.requires.begun c.args.span.to_last) c.requires.orbit (program_tree c.args.program.now)
    (playable c.validity_law.ensures c.args.program.now c.table.result.now c.table.ensures c.table_law.ensures c.root.ensures.limits)

pub push_events-requires : goal.push_events-requires
push_events-requires g c =
    let laws = c.times_of_trees_are_bounded.ensures in
    let tree = program_tree c.args.program.now in
    let begun = c.in_ok-events.ensures.events ∙ ap (λ p. filter has_onset (over (cyc (program_tree p)) c.part.result)) c.of.ensures in
    subst (AllByRecursion HasLength) (sym (begun ∙ ap (λ arc. filter has_onset (over (cyc tree) arc)) c.part.ensures.value))
    (all_kept has_onset HasLength (over (cyc tree) (part_arc c.args.span.from c.args.span.to c.args.cycle))
    (clipped_lengths c.args.span.from c.args.span.to c.args.cycle c.args.orbit c.args.span.forward c.requires.begun c.requires.not_over
    laws.proper laws.in_arc tree
    (playable c.validity_law.ensures c.args.program.now c.table.result.now c.table.ensures c.table_law.ensures c.root.ensures.limits)))

pub returns-clause-rows : goal.returns-clause-rows
returns-clause-rows g c =
    let tree = program_tree c.args.program.now in
    let is = playable c.validity_law.ensures c.args.program.now c.table.result.now c.table.ensures c.table_law.ensures c.root.ensures.limits in
    let begun = c.in_ok-events.ensures.events ∙ ap (λ p. filter has_onset (over (cyc (program_tree p)) c.part.result)) c.of.ensures in
    let same =
    ap (flat_map (row_of c.args.orbit)) (begun ∙ ap (λ arc. filter has_onset (over (cyc tree) arc)) c.part.ensures.value)
    ∙ onset_rows c.args.orbit (over (cyc tree) (part_arc c.args.span.from c.args.span.to c.args.cycle))
    ∙ due_rows c.args.span.from c.args.span.to c.args.cycle c.args.orbit c.args.span.forward c.requires.begun c.requires.not_over (cyc tree)
    (c.times_of_trees_are_bounded.ensures.proper tree is.valid) in
    subst (λ (rows : List Row). OnOk c.push_events.result (c.push_events.new.rows.items ≡ c.args.rows.now.items ++ rows)) same c.push_events.ensures

pub returns-clause-known : goal.returns-clause-known
returns-clause-known g c =
    let laws = c.times_of_trees_are_bounded.ensures in
    pattern_rows_known laws.proper laws.in_arc c.args.cycle c.args.orbit
    (cycle_before_last c.args.cycle c.args.span.to c.requires.begun c.args.span.to_last) c.requires.orbit (program_tree c.args.program.now)
    (playable c.validity_law.ensures c.args.program.now c.table.result.now c.table.ensures c.table_law.ensures c.root.ensures.limits)
