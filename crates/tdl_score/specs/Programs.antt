-- Changes whose patterns are programs.
--     dated_tree      the change with the tree of its program
--     rows_between    the rows from one time up to another, in tick units
use Rattle.std.specs.Prelude.{ℕ, ◌-◌, ◌/◌, ◌&&◌, List, filter}
use Rattle.std.specs.List.{flat_map, range_with_len}
use Rattle.std.specs.Int.{div_ceil}
use Rattle.tdl_fraction.specs.Units.{tick_units, time_of}
use Rattle.tdl_event.specs.declared.rows.Row.{Row}
use Rattle.tdl_order.specs.TimeOrder.{is_before, is_from}
use Rattle.tdl_desk.specs.declared.changes.Dated.{Dated}
use Rattle.tdl_desk.specs.Changes.{map_change}
use Rattle.tdl_expr.specs.Rows.{tree_at}
use Rattle.tdl_expr.specs.Tree.{Tree}
use Rattle.tdl_compile.specs.Compiled.{Compiled}
use Rattle.tdl_score.specs.Score.{onset, rows}

abbrev pub program_tree : Compiled → Tree
program_tree program = tree_at program.nodes program.root

abbrev pub dated_tree : Dated Compiled → Dated Tree
dated_tree dated = record { boundary = dated.boundary; change = map_change program_tree dated.change }

-- the rows from one time up to another
abbrev pub due : ℕ → ℕ → List Row → List Row
due from to rows = filter (λ row. is_from onset (time_of from) row && is_before onset (time_of to) row) rows

-- in the cycles that the time meets
abbrev pub rows_between : List (Dated Tree) → ℕ → ℕ → List Row
rows_between changes from to =
    flat_map (λ cycle. due from to (rows changes cycle)) (range_with_len (from / tick_units) (div_ceil to tick_units - from / tick_units))
