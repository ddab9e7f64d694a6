-- The numbers of a range between two numerals of a kind are values of that kind.
use Rattle.std.proofs.Common.{◌≡◌, ℕ, suc, ◌<◌, ◌≤◌, Bool, true, false, not, nat_le, IsTrue, ℤ, pos, negsuc, ◌-ℤ◌, nat_abs, refl, sym, subst, arith}
use Rattle.std.proofs.lemmas.Bool.{and_parts, and_from, leb-true, le-leb}
use Rattle.std.proofs.lemmas.Int.{ints}
use lib.Signed.{le_z}
use Rattle.tdl_control.specs.Key.{takes_word}
use Rattle.tdl_mini_tree.specs.declared.leaves.Kind.{Kind}
use Rattle.tdl_mini_tree.specs.declared.leaves.Kind.TheVariants.{Sound, Note, Int, Word, Bool as Truth, Count, Ratio}
use Rattle.tdl_mini_tree.specs.declared.leaves.Number.{Number}
use Rattle.tdl_mini_tree.specs.declared.leaves.Tail.TheVariants.{Whole}
use Rattle.tdl_mini_tree.specs.Numbers.{is_whole, is_ratio, divides_tail}
use Rattle.tdl_mini_tree.specs.Sizes.{range_length}
use Rattle.tdl_mini_tree.specs.Valid.{is_factor, is_integer, is_small, is_small_tail, is_numeral, is_value}
use Rattle.tdl_mini_tree.specs.Values.{integer_of}
use Rattle.tdl_mini_tree.specs.Tree as tree
use Rattle.tdl_mini_rows.specs.Leaves.{integer_value}
use Rattle.tdl_mini_rows.specs.inside.SizeViews.{number_at}
use Rattle.tdl_mini_rows.proofs.NumberRates.{signed_size}

-- a number from one to another is no larger than the larger of them
between : (x y : ℤ) (i m : ℕ) (rising : Bool) → le_z x y ≡ rising → i ≤ nat_abs (y -ℤ x) → nat_abs x ≤ m → nat_abs y ≤ m → nat_abs (number_at rising x i) ≤ m
between x y i m true e h k l = omega (arith, ints)
between x y i m false e h k l = omega (arith, ints)

-- the greatest numeral of a kind
abbrev most : Kind → ℕ
most (Note key) = 2147483647
most (Int key) = 2147483647
most Count = 65535
most Ratio = 65535
most kind = 0

integer_whole : (n : Number) → IsTrue (is_integer n) → n.whole ≤ 2147483647
integer_whole n h = leb-true n.whole 2147483647 (and_parts (nat_le n.whole 2147483647) (is_small_tail n.tail) (and_parts (is_whole n) (is_small n) h).1).0

factor_whole : (n : Number) → IsTrue (is_factor n) → n.whole ≤ 65535
factor_whole n h = leb-true n.whole 65535 (and_parts (nat_le n.whole 65535) (divides_tail n.tail) (and_parts (is_ratio n) (is_small n) h).0).0

numeral_whole : (kind : Kind) (n : Number) → IsTrue (is_numeral kind n) → n.whole ≤ most kind
numeral_whole Sound n h = cc
numeral_whole (Note key) n h = integer_whole n (and_parts (not (takes_word key)) (is_integer n) h).1
numeral_whole (Int key) n h = integer_whole n (and_parts (not (takes_word key)) (is_integer n) h).1
numeral_whole (Word key) n h = cc
numeral_whole Truth n h = cc
numeral_whole Count n h = factor_whole n (and_parts (is_whole n) (is_factor n) h).1
numeral_whole Ratio n h = factor_whole n h

abbrev whole_number : Bool → ℕ → Number
whole_number negative size = record { is_negative = negative; whole = size; tail = Whole }

whole_integer : (negative : Bool) (size : ℕ) → size ≤ 2147483647 → IsTrue (is_integer (whole_number negative size))
whole_integer negative size h = and_from (nat_le size 2147483647) true (le-leb size 2147483647 h) refl

whole_factor : (negative : Bool) (size : ℕ) → size ≤ 65535 → IsTrue (is_factor (whole_number negative size))
whole_factor negative size h =
    and_from (is_ratio (whole_number negative size)) (is_small (whole_number negative size))
    (and_from (nat_le size 65535) true (le-leb size 65535 h) refl) (and_from (nat_le size 2147483647) true (le-leb size 2147483647 (omega arith)) refl)

-- a whole number that is not too large, where there is a numeral of the kind
whole_numeral : (kind : Kind) (n : Number) (negative : Bool) (size : ℕ) → IsTrue (is_numeral kind n) → size ≤ most kind
    → IsTrue (is_numeral kind (whole_number negative size))
whole_numeral Sound n negative size h l = h
whole_numeral (Note key) n negative size h l = and_from (not (takes_word key)) (is_integer (whole_number negative size))
    (and_parts (not (takes_word key)) (is_integer n) h).0 (whole_integer negative size l)
whole_numeral (Int key) n negative size h l = and_from (not (takes_word key)) (is_integer (whole_number negative size))
    (and_parts (not (takes_word key)) (is_integer n) h).0 (whole_integer negative size l)
whole_numeral (Word key) n negative size h l = h
whole_numeral Truth n negative size h l = h
whole_numeral Count n negative size h l = and_from (is_whole (whole_number negative size)) (is_factor (whole_number negative size)) refl
    (whole_factor negative size l)
whole_numeral Ratio n negative size h l = whole_factor negative size l

integer_numeral : (kind : Kind) (a : Number) (n : ℤ) → IsTrue (is_numeral kind a) → nat_abs n ≤ most kind → IsTrue (is_value kind (integer_value n))
integer_numeral kind a (pos n) h l = whole_numeral kind a false n h l
integer_numeral kind a (negsuc n) h l = whole_numeral kind a true (suc n) h l

-- the number at a place of a range, as a value
pub range_value : (kind : Kind) (a b : Number) (i : ℕ) (v : tree.Value) → i < range_length a b → IsTrue (is_numeral kind a) → IsTrue (is_numeral kind b)
    → v ≡ integer_value (number_at (le_z (integer_of a) (integer_of b)) (integer_of a) i) → IsTrue (is_value kind v)
range_value kind a b i v h first last is =
    let low : nat_abs (integer_of a) ≤ most kind = rw (signed_size a.is_negative a.whole) (numeral_whole kind a first) in
    let high : nat_abs (integer_of b) ≤ most kind = rw (signed_size b.is_negative b.whole) (numeral_whole kind b last) in
    let inside : nat_abs (number_at (le_z (integer_of a) (integer_of b)) (integer_of a) i) ≤ most kind =
    between (integer_of a) (integer_of b) i (most kind) _ refl (omega arith) low high in
    let P : tree.Value → Type 0 = λ x. IsTrue (is_value kind x) in
    subst P (sym is) (integer_numeral kind a _ first inside)
