-- Numbers of bounded parts.
use Rattle.std.proofs.Common.{◌≡◌, ℕ, ◌<◌, ◌≤◌, nat_lt, nat_le, ℤ, pos, neg_ℤ, nat_abs, IsTrue, List, [], ap, ap₂, ◌∙◌, subst, sym, arith}
use Rattle.std.proofs.lemmas.Bool.{and_parts, leb-true, ltb-true}
use Rattle.std.proofs.lemmas.Int.{ints}
use Rattle.tdl_fraction.specs.Rational.{Rational, frac, neg_ℚ}
use Rattle.std.proofs.lemmas.List.Elements.{All-nil, All-cons}
use Rattle.tdl_fraction.specs.Rational as rational
use Rattle.tdl_fraction.specs.Range.{InRange}
use Rattle.tdl_expr.specs.declared.args.Arg.TheVariants.{Plain}
use Rattle.tdl_expr.specs.declared.nodes.Node.{Node}
use Rattle.tdl_fraction.proofs.Over.{den_positive}
use Rattle.tdl_mini_tree.specs.declared.leaves.Number.{Number}
use Rattle.tdl_mini_tree.specs.Numbers.{number_value, is_ratio, is_whole, divides_tail}
use Rattle.tdl_mini_tree.specs.Valid.{is_factor}
use Rattle.tdl_mini_tree.specs.Values.{integer_of}
use Rattle.tdl_rows.specs.Arguments.{HasBoundedParts}
use Rattle.tdl_rows.specs.Built.{kept}
use Rattle.tdl_rows.specs.Joined as argument
use Rattle.tdl_rows.proofs.Gained.{Gains-none}
use Rattle.tdl_mini_rows.specs.inside.Bounds.{is_rate}
use Rattle.tdl_mini_rows.proofs.Bounded.{IsRate, IsRate-from, is_rate-frac, is_rate-whole, frac-num-le, frac-den-le}
use Rattle.tdl_mini_rows.proofs.NumberRates.{factor_rate, rate_in_range, signed_size}
use Rattle.tdl_command.specs.Rules.{is_below}
use Rattle.tdl_prepare.specs.inside.Views.{LowersNumber}

pub bounded_rate : (r : Rational) → IsTrue (is_rate r) → HasBoundedParts r
bounded_rate r h = let rate : IsRate r = IsRate-from r h in record { near = rate.small; fine = rate.fine }

-- a number that may be a factor
pub factor_bounded : (n : Number) → IsTrue (is_factor n) → HasBoundedParts (number_value n)
factor_bounded n h = bounded_rate (number_value n) (factor_rate n h)

ratio_small : (n : Number) → IsTrue (is_ratio n) → n.whole ≤ 65535
ratio_small n h = leb-true n.whole 65535 (and_parts (nat_le n.whole 65535) (divides_tail n.tail) h).0

pub below_positive : (n : Number) → IsTrue (is_below n) → 0 < n.whole
below_positive n h =
    let last = (and_parts (is_ratio n) _ h).1 in
    ltb-true 0 n.whole (and_parts (is_whole n) (nat_lt 0 n.whole) last).1

-- a whole number over another
quotient_rate : (above below : Number) → IsTrue (is_ratio above) → IsTrue (is_below below) → IsTrue (is_rate (frac (integer_of above) below.whole))
quotient_rate above below a b =
    let positive = below_positive below b in
    let small = ratio_small above a in
    let fine = ratio_small below (and_parts (is_ratio below) _ b).0 in
    let size : nat_abs (integer_of above) ≡ above.whole = signed_size above.is_negative above.whole in
    is_rate-frac (integer_of above) below.whole positive (omega arith) fine (omega arith)

pub quotient_bounded : (above below : Number) → IsTrue (is_ratio above) → IsTrue (is_below below) → HasBoundedParts (frac (integer_of above) below.whole)
quotient_bounded above below a b = bounded_rate _ (quotient_rate above below a b)

-- its parts, as they are passed
module _ (a : ℤ) (n : ℕ) (above below : Number) where
  pub quotient_in_range : IsTrue (is_ratio above) → IsTrue (is_below below) → a ≡ integer_of above → n ≡ below.whole → InRange (frac a n)
  quotient_in_range r b e f = subst InRange (sym (ap₂ frac e f)) (rate_in_range _ (quotient_rate above below r b))

  pub quotient_value : (q : Rational) → a ≡ integer_of above → n ≡ below.whole → q ≡ frac a n → q ≡ frac (integer_of above) below.whole
  quotient_value q e f g = g ∙ ap₂ frac e f

-- below 0 in place of above
pub negative_bounded : (r : Rational) → HasBoundedParts r → HasBoundedParts (neg_ℚ r)
unfolding neg_ℚ
negative_bounded r h =
    let num = frac-num-le (neg_ℤ r.num) r.den (den_positive r) in
    let den = frac-den-le (neg_ℤ r.num) r.den (den_positive r) in
    record { near = omega (arith, ints, num, h.near); fine = omega (arith, den, h.fine) }

whole_bounded : (n : ℕ) → n ≤ 65535 → HasBoundedParts (rational.whole (pos n))
whole_bounded n h = bounded_rate _ (is_rate-whole (pos n) (omega arith))

-- a number that is no pattern
pub plain_number : (nodes : List Node) (q x : Rational) → q ≡ x → HasBoundedParts x → LowersNumber nodes nodes (kept (argument.plain x)) (Plain q)
plain_number nodes q x e h = record {
  number = record { is = tt; bounded = All-cons HasBoundedParts q [] (subst HasBoundedParts (sym e) h) (All-nil HasBoundedParts) };
  is = ap argument.plain e;
  gains = Gains-none nodes;
}

pub count_whole : (nodes : List Node) (n : ℕ) (q : Rational) → n ≤ 65535 → q ≡ rational.whole (pos n)
    → LowersNumber nodes nodes (kept (argument.plain (rational.whole (pos n)))) (Plain q)
count_whole nodes n q h e = plain_number nodes q (rational.whole (pos n)) e (whole_bounded n h)
