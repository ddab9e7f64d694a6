use Rattle.std.proofs.Common.{◌∙◌}
use Rattle.tdl_fraction.proofs.Quotients.{shortened}
use Rattle.tdl_grid.proofs.UnitRates.{cycle_is, cycle_near, word_fits, word_near}
use Rattle.tdl_grid.proofs.conversions.cycle_of.Goals as goal

pub overflow_cast-div_euclid : goal.overflow_cast-div_euclid
overflow_cast-div_euclid c =
    let q = c.requires in
    word_fits c.div_euclid.result (cycle_near c.args.count c.args.unit q.positive q.small q.in_range c.div_euclid.result c.div_euclid.ensures)

pub numbered-requires : goal.numbered-requires
numbered-requires c =
    let q = c.requires in
    word_near c.div_euclid.result (cycle_near c.args.count c.args.unit q.positive q.small q.in_range c.div_euclid.result c.div_euclid.ensures)

pub returns : goal.returns
returns c =
    let q = c.requires in
    let near = cycle_near c.args.count c.args.unit q.positive q.small q.in_range c.div_euclid.result c.div_euclid.ensures in
    c.numbered.ensures ∙ shortened c.div_euclid.result near
    ∙ cycle_is c.args.count c.args.unit q.positive q.small q.in_range c.div_euclid.result c.div_euclid.ensures
