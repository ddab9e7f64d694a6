-- What `compile` makes of a row of a table, and why it refuses one.
--     Compiled         the nodes of a table, and the row whose tree is played
--     capped           a number as one word: the greatest word stands for each greater number
--     fault_of         why a tree with these numbers is refused, if it is
--     bounds_fault     why a tree is refused, if it is
use Rattle.std.specs.Prelude.{ℕ, ◌-◌, ◌^◌, min, nat_lt, if◌then◌else◌, Option, Some, None, List}
use Rattle.tdl_fraction.specs.Units.{tick_units, last_cycle}
use Rattle.tdl_expr.specs.declared.ids.NodeId.{NodeId}
use Rattle.tdl_expr.specs.declared.nodes.Node.{Node}
use Rattle.tdl_expr.specs.Tree.{Tree}
use Rattle.tdl_expr.specs.Bounds.{bounds, fine, reach}
use Rattle.tdl_expr.specs.Valid.{max_load, max_fine, max_reach}
use Rattle.tdl_compile.specs.declared.faults.CompileFault.{CompileFault}
use Rattle.tdl_compile.specs.declared.faults.CompileFault.TheVariants.{TooDense, TooFine, TooFar}

pub record Compiled : Type 0 where
  pub nodes : List Node
  pub root : NodeId

abbrev pub capped : ℕ → ℕ
capped n = min n (2 ^ 64 - 1)

-- the load comes before the fineness, and that before the reach
abbrev pub fault_of : ℕ → ℕ → ℕ → Option CompileFault
fault_of load finest furthest = if nat_lt max_load load then Some (TooDense (capped load))
    else (if nat_lt max_fine finest then Some (TooFine (capped finest))
    else (if nat_lt max_reach furthest then Some (TooFar (capped furthest)) else None))

-- for ticks up to the last cycle
abbrev pub bounds_fault : Tree → Option CompileFault
bounds_fault e = fault_of (bounds e).load (fine e tick_units) (reach e last_cycle)
