use Rattle.tdl_fraction.proofs.UnitCounts.{grid_then, grid_else}
use Rattle.tdl_fraction.proofs.arc.TimeArc.is_on_grid.Goals as goal

pub returns-then-is_whole_count : goal.returns-then-is_whole_count
returns-then-is_whole_count c =
    grid_then c.args.self c.start.result c.stop.result c.is_whole_count.result _ c.start.ensures.value c.stop.ensures.value
    c.if-is_whole_count.true c.is_whole_count.ensures c.is_whole_count-then-is_whole_count.ensures

pub returns-else-is_whole_count : goal.returns-else-is_whole_count
returns-else-is_whole_count c =
    grid_else c.args.self c.start.result c.is_whole_count.result c.start.ensures.value c.if-is_whole_count.false c.is_whole_count.ensures
