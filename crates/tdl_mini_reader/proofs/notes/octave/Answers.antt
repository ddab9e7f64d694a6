use Rattle.std.proofs.Common.{sym}
use Rattle.tdl_mini_reader.proofs.NoteLemmas.{octave_below, value_fits, seen_less_fits, seen_times_fits, seen_sum_fits, seen_sum}
use Rattle.tdl_mini_reader.proofs.notes.octave.Goals as goal

pub overflow_cast-octave : goal.overflow_cast-octave
overflow_cast-octave c = value_fits _ (octave_below c.args.digits.now _ c.if-not-is_octave.ensures c.digits_value-octave.ensures)

pub overflow_sub-result : goal.overflow_sub-result
overflow_sub-result c = seen_less_fits _ (octave_below c.args.digits.now _ c.if-not-is_octave.ensures c.digits_value-octave.ensures)

pub overflow_mul-result : goal.overflow_mul-result
overflow_mul-result c = seen_times_fits _ (octave_below c.args.digits.now _ c.if-not-is_octave.ensures c.digits_value-octave.ensures)

pub overflow_add-result : goal.overflow_add-result
overflow_add-result c = seen_sum_fits c.args.note _ c.requires (octave_below c.args.digits.now _ c.if-not-is_octave.ensures c.digits_value-octave.ensures)

pub returns : goal.returns
returns c = seen_sum c.args.note c.args.digits.now _ c.requires (sym c.if-not-is_octave.ensures) c.digits_value-octave.ensures
