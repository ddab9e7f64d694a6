use Rattle.std.proofs.Common.{◌<◌, length, arith, sym, ◌∙◌}
use Rattle.tdl_mini_rows.proofs.Places.{place_found, place_next}
use Rattle.tdl_mini_rows.proofs.numbers.index_in.Goals as goal

pub returns-then-eq : goal.returns-then-eq
returns-then-eq c =
    let lt : c.loop-i.i < length c.args.numbers.now = omega arith in
    place_found c.args.numbers.now c.args.number c.loop-i.i c.get.result.now lt (sym (c.get.ensures c.get.result.now))
    (sym c.eq.ensures.value ∙ c.if-eq.true) c.loop-i.invariant

pub loop-i-preserved : goal.loop-i-preserved
loop-i-preserved c =
    let lt : c.loop-i.i < length c.args.numbers.now = omega arith in
    place_next c.args.numbers.now c.args.number c.loop-i.i c.get.result.now lt (sym (c.get.ensures c.get.result.now))
    (sym c.eq.ensures.value ∙ c.if-eq.false) c.loop-i.invariant
