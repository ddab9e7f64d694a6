use Rattle.std.proofs.Common.{pos}
use Rattle.tdl_fraction.specs.Rational.{whole, ◌-ℚ◌, ◌*ℚ◌}
use Rattle.tdl_fraction.proofs.Field.{+ℚ_comm, plus-whole_neg}
use Rattle.tdl_meaning.proofs.Between.{back_word, cycle_word, weights_word, squeezed_safely}
use Rattle.tdl_meaning.proofs.motions.squeezed.Goals as goal

pub add_whole-requires : goal.add_whole-requires
add_whole-requires c =
    let number = c.number-number.ensures in
    rw (back_word _ number.bound, number.value, plus-whole_neg c.args.time c.args.cycle) c.requires.between.since

pub times_plus_over-requires-clause-in_range : goal.times_plus_over-requires-clause-in_range
times_plus_over-requires-clause-in_range c =
    let a = c.args in
    let number = c.number-number.ensures in
    rw (
      c.add_whole.ensures,
      back_word _ number.bound,
      number.value,
      weights_word _ c.requires.between.before,
      plus-whole_neg a.time a.cycle,
      +ℚ_comm ((a.time -ℚ whole a.cycle) *ℚ whole (pos a.weight)) (whole (pos a.before)),
    ) c.requires.between.sum

pub add_whole-requires-2 : goal.add_whole-requires-2
add_whole-requires-2 c =
    let a = c.args in
    let number = c.number-number.ensures in
    rw (
      c.times_plus_over.ensures,
      c.add_whole.ensures,
      back_word _ number.bound,
      cycle_word _ number.bound,
      number.value,
      weights_word _ c.requires.between.before,
      squeezed_safely a.cycle a.before a.weight a.total a.time,
    ) c.requires.there

pub returns : goal.returns
returns c =
    let a = c.args in
    let number = c.number-number.ensures in
    rw (
      c.add_whole-2.ensures,
      c.times_plus_over.ensures,
      c.add_whole.ensures,
      back_word _ number.bound,
      cycle_word _ number.bound,
      number.value,
      weights_word _ c.requires.between.before,
    ) (squeezed_safely a.cycle a.before a.weight a.total a.time)
