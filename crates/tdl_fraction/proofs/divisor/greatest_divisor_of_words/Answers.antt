use Rattle.std.proofs.Common.{sym, arith}
use Rattle.tdl_fraction.proofs.Coprime.{zero-gcd}
use Rattle.tdl_fraction.proofs.Euclid.{gcd_le, gcd-zero}
use Rattle.tdl_fraction.proofs.Twos.{gcd_parts}
use Rattle.tdl_fraction.proofs.divisor.greatest_divisor_of_words.Goals as goal

pub returns-then-a-eq0 : goal.returns-then-a-eq0
returns-then-a-eq0 c = sym (zero-gcd _ _ c.if-a-eq0.true)

pub returns-then-b-eq0 : goal.returns-then-b-eq0
returns-then-b-eq0 c = sym (gcd-zero c.args.a c.args.b c.if-b-eq0.true)

pub returns : goal.returns
returns c =
    let first = c.odd_part.ensures in
    let second = c.odd_part-2.ensures in
    let whole = gcd_parts c.args.a c.args.b _ _ _ _ _ _ first.value second.value first.odd second.odd c.odd_divisor.ensures c.common_twos.ensures in
    let most = gcd_le c.args.a c.args.b (omega arith) in
    omega arith
