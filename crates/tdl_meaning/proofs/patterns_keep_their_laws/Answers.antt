use Rattle.tdl_meaning.proofs.laws.Rates.{at_rate_one, by_no_time, rate_of_whole_rate, rate_of_rate, shift_of_shift, rate_of_shift}
use Rattle.tdl_meaning.proofs.laws.Rates.{shift_of_whole_shift, whole_shift_of_shift}
use Rattle.tdl_meaning.proofs.laws.Pieces.{in_one_piece, pieces_of_pieces, value_in_pieces, segments}
use Rattle.tdl_meaning.proofs.laws.Mixes.{with_one_value, mirrored, stack_of_one, stack_of_two, one_step, rhythm, one_turn, in_turn, by_place, equal}
use Rattle.tdl_meaning.proofs.laws.Mixes.{held_by_one_value, shared_with_one_value, no_choice, at_least, on_one_side}
use Rattle.tdl_meaning.proofs.patterns_keep_their_laws.Goals as goal

pub returns-clause-rates : goal.returns-clause-rates
returns-clause-rates c = record {
  at_rate_one = at_rate_one;
  by_no_time = by_no_time;
  rate_of_whole_rate = λ r n p h positive proper. rate_of_whole_rate n positive p proper r h;
  rate_of_rate = λ r s p h k proper. rate_of_rate p proper r s h k;
  shift_of_whole_shift = λ s k p proper. shift_of_whole_shift k p proper s;
  whole_shift_of_shift = λ k s p proper. whole_shift_of_shift k s p proper;
  shift_of_shift = λ s u p proper. shift_of_shift p proper s u;
  rate_of_shift = λ r s p h proper. rate_of_shift p proper r s h;
  in_one_piece = in_one_piece;
  pieces_of_pieces = pieces_of_pieces;
  value_in_pieces = value_in_pieces;
}

pub returns-clause-mixes : goal.returns-clause-mixes
returns-clause-mixes c = record {
  with_one_value = with_one_value;
  held_by_one_value = held_by_one_value;
  shared_with_one_value = shared_with_one_value;
  mirrored = mirrored;
  segments = segments;
  stack_of_one = stack_of_one;
  stack_of_two = stack_of_two;
  one_step = one_step;
  rhythm = rhythm;
  one_turn = one_turn;
  in_turn = in_turn;
  no_choice = no_choice;
  by_place = by_place;
  equal = equal;
  at_least = at_least;
  on_one_side = on_one_side;
}
