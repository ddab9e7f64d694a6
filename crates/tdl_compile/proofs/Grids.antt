-- The count and the grid that are kept of a row are those of its tree, where this is no finer than a time may be.
use Rattle.std.proofs.Common.{◌≡◌, ℕ, ◌<◌, ◌≤◌, List, length, get_or, ⊎_elim, arith, ap}
use Rattle.tdl_fraction.specs.Divisor.{lcm}
use Rattle.tdl_fraction.specs.Units.{tick_units}
use Rattle.tdl_expr.specs.declared.nodes.Node.{Node}
use Rattle.tdl_expr.specs.Tree.{Tree}
use Rattle.tdl_expr.specs.Bounds.{bounds, grid, fine}
use Rattle.tdl_expr.specs.Rows.{tree_at}
use Rattle.tdl_expr.specs.Valid.{IsValid, max_load, max_fine}
use Rattle.tdl_expr.proofs.Numbers.{count_at_most_load, grid_positive, grid_at_most_fine, own_grid}
use Rattle.tdl_expr.proofs.ValidRows.{valid_row}
use Rattle.tdl_compile.specs.declared.sizes.RowBounds.{RowBounds}
use Rattle.tdl_compile.specs.inside.Sizes.{NumbersStandFor, AreKnown}
use Rattle.tdl_compile.specs.Compiled.{capped}
use Rattle.tdl_compile.specs.Grids.{IsGridWithin, AreGridsOf}
use Rattle.tdl_compile.proofs.Standing.{grid_cases}

-- the count that is kept is that of its tree, where the load is within its limit
pub kept_count : (e : Tree) (b : RowBounds) → NumbersStandFor b e → b.load ≤ max_load → b.count ≡ (bounds e).count
kept_count e b stands within =
    let load = stands.bounds.load in
    let below = count_at_most_load e in
    ⊎_elim (λ kept. omega (arith, kept, load, below, within)) (λ past. omega (arith, past, load, within)) stands.bounds.count

pub kept_grid : (e : Tree) (b : RowBounds) → IsValid e → NumbersStandFor b e → IsGridWithin e b.grid
kept_grid e b valid stands = record {
  is = λ q p finest.
      let g = grid_positive e valid in
      let l = grid_at_most_fine e q valid p in
      ⊎_elim
      (λ x. record { value = x; positive = omega (arith, g); small = omega (arith, l, finest) })
      (λ x. let past = x.past q p in omega (arith, past, finest))
      (grid_cases e b.grid valid stands.bounds.grid);
}

-- and its least common multiple with the ticks is the unit
pub unit_small : (e : Tree) (u : ℕ) → u ≡ lcm (grid e) tick_units → fine e tick_units ≤ max_fine → u ≤ max_fine
unit_small e u is finest = omega (arith, is, own_grid e tick_units, finest)

pub kept_unit : (e : Tree) (b : RowBounds) → IsValid e → NumbersStandFor b e → fine e tick_units ≤ max_fine → (u : ℕ)
    → u ≡ capped (lcm b.grid tick_units) → u ≡ lcm (grid e) tick_units
kept_unit e b valid stands finest u is =
    let kept = ((kept_grid e b valid stands).is tick_units (omega arith) finest).value in
    let same : capped (lcm b.grid tick_units) ≡ capped (lcm (grid e) tick_units) = ap (λ g. capped (lcm g tick_units)) kept in
    omega (arith, is, same, own_grid e tick_units, finest)

-- of all the rows of a table
pub kept_grids : (nodes : List Node) (rows : List RowBounds) → AreKnown nodes rows → length rows ≡ length nodes → AreGridsOf nodes rows
kept_grids nodes rows known all = record {
  count = all;
  each = λ id row d.
      let within : id.index < length rows = omega (arith, all, row) in
      kept_grid (tree_at nodes id) (get_or rows id.index d) (valid_row nodes id known.table) (known.stand.each id within d);
}
