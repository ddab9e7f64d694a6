use Rattle.std.proofs.Common.{◌≡◌, ◌<◌, nat_abs, arith}
use Rattle.std.proofs.lemmas.Int.{ints}
use Rattle.tdl_fraction.proofs.Signs.{inverse-negative, inverse-positive, numerator_some}
use Rattle.tdl_rows.proofs.RateRows.{inverse_fits}
use Rattle.tdl_rows.proofs.fractions.inverse.Goals as goal

pub fraction-requires : goal.fraction-requires
fraction-requires c =
    let size : c.unsigned_abs-size.result ≡ nat_abs c.args.number.num = omega (arith, ints) in
    let some : 0 < c.unsigned_abs-size.result = omega (arith, numerator_some c.args.number c.requires.divides) in
    record { positive = some; in_range = inverse_fits c.args.number _ _ c.requires.bounded (omega (arith, ints)) size some }

pub fraction-requires-else-above-lt0 : goal.fraction-requires-else-above-lt0
fraction-requires-else-above-lt0 c =
    let size : c.unsigned_abs-size.result ≡ nat_abs c.args.number.num = omega (arith, ints) in
    let some : 0 < c.unsigned_abs-size.result = omega (arith, numerator_some c.args.number c.requires.divides) in
    record { positive = some; in_range = inverse_fits c.args.number _ _ c.requires.bounded (omega (arith, ints)) size some }

pub returns-then-above-lt0 : goal.returns-then-above-lt0
returns-then-above-lt0 c =
    inverse-negative c.args.number _ _ c.fraction.result (omega (arith, ints)) (omega (arith, ints)) (omega (arith, ints)) c.fraction.ensures

pub returns-else-above-lt0 : goal.returns-else-above-lt0
returns-else-above-lt0 c =
    inverse-positive c.args.number _ _ c.fraction-else-above-lt0.result (omega (arith, ints)) (omega (arith, ints))
    (omega (arith, ints)) c.fraction-else-above-lt0.ensures
