use Rattle.tdl_grid.proofs.Units.{exact_count, not_before}
use Rattle.tdl_grid.proofs.Grids.{grid_below_rate, small_below_rate, grid_below_step, small_below_step}
use Rattle.tdl_grid.proofs.laws.units_keep_to_grids.Goals as goal

pub returns : goal.returns
returns c = record {
  rate_divides = grid_below_rate;
  rate_small = small_below_rate;
  step_divides = grid_below_step;
  step_small = small_below_step;
  exact = exact_count;
  not_before = not_before;
}
