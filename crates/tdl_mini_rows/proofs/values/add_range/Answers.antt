use Rattle.std.proofs.Common.{◌≡◌, ℕ, map, ap, ◌∙◌, arith}
use Rattle.std.proofs.lemmas.Int.{ints}
use lib.Signed.{le_z}
use Rattle.std.specs.List.{fold}
use Rattle.tdl_fraction.specs.Rational.{whole}
use Rattle.tdl_mini_tree.specs.Values.{integer_of, counted}
use Rattle.tdl_mini_rows.specs.Leaves.{and_distinct}
use Rattle.tdl_mini_rows.proofs.RangeRows.{distinct_more}
use Rattle.tdl_mini_rows.proofs.values.add_range.Goals as goal

pub loop-i-preserved : goal.loop-i-preserved
loop-i-preserved c =
    distinct_more (le_z (integer_of c.args.first) (integer_of c.args.last)) c.loop-i.i (integer_of c.args.first) _ _ _ _ _ _
    (omega (arith, ints)) c.range_number.ensures.value c.whole.ensures c.loop-i.invariant c.in_ok-add_distinct.ensures

pub returns : goal.returns
returns c =
    let e : c.loop-i.i ≡ c.range_length-i-end.result = omega arith in
    c.loop-i.invariant
    ∙ ap (λ (k : ℕ). fold and_distinct c.args.numbers.now
    (map whole (counted (le_z (integer_of c.args.first) (integer_of c.args.last)) k (integer_of c.args.first))))
    (e ∙ c.range_length-i-end.ensures.value)
