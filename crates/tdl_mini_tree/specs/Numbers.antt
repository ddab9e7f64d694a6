-- The numbers of the mini-notation.
--     number_value               the rational that a number is
--     weight_parts               how many ten-thousandths a number without sign and `%` is
--     is_whole                   a number without `.` and `%`
--     is_ratio, is_count,        the rules on numbers: as a factor or a value of an argument, as a count
--     is_weight                  after `!`, and as a weight after `@`
use Rattle.std.specs.Prelude.{ℕ, ◌+◌, ◌*◌, Bool, true, false, not, ◌&&◌, nat_le, nat_lt, ℤ, pos, neg_ℤ}
use Rattle.tdl_mini_tree.specs.Limits.{unit, max_ratio, max_count, max_weight}
use Rattle.tdl_fraction.specs.Rational.{Rational, frac}
use Rattle.tdl_mini_tree.specs.declared.leaves.Number.{Number}
use Rattle.tdl_mini_tree.specs.declared.leaves.Tail.{Tail}
use Rattle.tdl_mini_tree.specs.declared.leaves.Tail.TheVariants.{Whole, Decimals, Over}

abbrev pub signed : Bool → ℕ → ℤ
signed true n = neg_ℤ (pos n)
signed false n = pos n

abbrev pub value_with : Bool → ℕ → Tail → Rational
value_with negative whole Whole = frac (signed negative whole) 1
value_with negative whole (Decimals parts) = frac (signed negative (whole * unit + parts)) unit
value_with negative whole (Over denominator) = frac (signed negative whole) denominator

abbrev pub number_value : Number → Rational
number_value n = value_with n.is_negative n.whole n.tail

abbrev pub tail_parts : Tail → ℕ
tail_parts Whole = 0
tail_parts (Decimals parts) = parts
tail_parts (Over denominator) = 0

abbrev pub weight_parts : Number → ℕ
weight_parts n = n.whole * unit + tail_parts n.tail

abbrev pub is_whole_tail : Tail → Bool
is_whole_tail Whole = true
is_whole_tail (Decimals parts) = false
is_whole_tail (Over denominator) = false

abbrev pub is_whole : Number → Bool
is_whole n = is_whole_tail n.tail

abbrev pub is_decimal_tail : Tail → Bool
is_decimal_tail Whole = true
is_decimal_tail (Decimals parts) = true
is_decimal_tail (Over denominator) = false

abbrev pub divides_tail : Tail → Bool
divides_tail Whole = true
divides_tail (Decimals parts) = true
divides_tail (Over denominator) = nat_lt 0 denominator

-- a whole part or numerator of at most 65,535, and no denominator 0
abbrev pub is_ratio : Number → Bool
is_ratio n = nat_le n.whole max_ratio && divides_tail n.tail

-- 1 to 1,024
abbrev pub is_count : Number → Bool
is_count n = not n.is_negative && is_whole n && nat_lt 0 n.whole && nat_le n.whole max_count

-- without sign and `%`, above 0, with a whole part of at most 16,383
abbrev pub is_weight : Number → Bool
is_weight n = not n.is_negative && is_decimal_tail n.tail && nat_lt 0 (weight_parts n) && nat_le n.whole max_weight
