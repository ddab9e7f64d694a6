use Rattle.std.proofs.Common.{FitsSigned, rules, ◌∙◌}
use Rattle.std.specs.Int.{w32}
use Rattle.std.proofs.lemmas.Int.{to_z-of_z}
use Rattle.std.proofs.lemmas.Result.{on_ok_weaker}
use Rattle.tdl_osc.specs.Encoding.{osc_string}
use Rattle.tdl_osc.proofs.Messages.{times_made}
use Rattle.tdl_osc.proofs.Numbers.{cycle_fits, cycle_is, orbit_is}
use Rattle.tdl_osc.proofs.bundles.put_times.Goals as goal

pub overflow_cast-cycle : goal.overflow_cast-cycle
overflow_cast-cycle c = cycle_fits c.args.row.now.onset c.requires.from_zero c.requires.below_end c.floor-cycle.result c.floor-cycle.ensures.value

pub returns : goal.returns
unfolding osc_string
returns c =
    let row = c.args.row.now in
    let cycle = cycle_is row.onset c.requires.from_zero c.requires.below_end c.floor-cycle.result c.floor-cycle.ensures.value in
    let fits : FitsSigned w32 c.micros.result = search rules in
    let orbit = orbit_is row.orbit (search rules) in
    on_ok_weaker c.put_named-3.result
    (times_made row c.args.tempo _ _ _ c.args.out.now.items c.put_named.new.out.items c.put_named-2.new.out.items c.put_named-3.new.out.items cycle
    (to_z-of_z w32 c.micros.result fits ∙ c.micros.ensures) orbit c.in_ok-put_named.ensures c.in_ok-put_named-2.ensures)
    c.put_named-3.ensures
