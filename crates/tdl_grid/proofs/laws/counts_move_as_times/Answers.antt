use Rattle.tdl_grid.proofs.SpanArcs.{span_earlier, span_shifted, span_faster, span_finer, span_turned, span_piece}
use Rattle.tdl_grid.proofs.Moved.{items_later, items_shifted, items_slower, items_finer, items_turned, adds_moved, adds_both, counts_fit}
use Rattle.tdl_grid.proofs.Gained.{adds_passed}
use Rattle.tdl_grid.proofs.Sequences.{items_squeezed}
use Rattle.tdl_grid.proofs.laws.counts_move_as_times.Goals as goal

pub returns-clause-down : goal.returns-clause-down
returns-clause-down c = record {
  earlier = span_earlier;
  shifted = span_shifted;
  faster = span_faster;
  finer = span_finer;
  turned = span_turned;
  piece = span_piece;
}

pub returns-clause-up : goal.returns-clause-up
returns-clause-up c = record {
  later = items_later;
  shifted = items_shifted;
  slower = items_slower;
  squeezed = items_squeezed;
  finer = items_finer;
  turned = items_turned;
  gained = adds_moved;
  passed = adds_passed;
  both = adds_both;
  fits = counts_fit;
}
