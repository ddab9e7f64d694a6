use Rattle.std.proofs.Common.{◌∙◌}
use Rattle.tdl_grid.proofs.UnitRates.{count_back_fits, opposite_fits, opposite_word, opposite_near, opposite_is}
use Rattle.tdl_grid.proofs.conversions.cycle_not_before.Goals as goal

pub overflow_sub-count : goal.overflow_sub-count
overflow_sub-count c = let q = c.requires in count_back_fits c.args.count c.args.unit q.positive q.small q.in_range

pub overflow_sub-div_euclid : goal.overflow_sub-div_euclid
overflow_sub-div_euclid c = let q = c.requires in opposite_fits c.args.count c.args.unit q.positive q.small q.in_range _ c.div_euclid.ensures

pub overflow_cast-div_euclid : goal.overflow_cast-div_euclid
overflow_cast-div_euclid c = let q = c.requires in opposite_word c.args.count c.args.unit q.positive q.small q.in_range _ c.div_euclid.ensures

pub numbered-requires : goal.numbered-requires
numbered-requires c = let q = c.requires in opposite_near c.args.count c.args.unit q.positive q.small q.in_range _ c.div_euclid.ensures

pub returns : goal.returns
returns c = let q = c.requires in c.numbered.ensures ∙ opposite_is c.args.count c.args.unit q.positive q.small q.in_range _ c.div_euclid.ensures
