-- Bytes of numbers.
--     decimal_bytes, decimal_lacks    a decimal has digits alone
--     print_lacks, place_lacks        the print of a number in range, and of a time, has neither blanks nor line feeds
--     place_once                      times that are not past the last cycle are told by their texts
use Rattle.std.proofs.Common.{◌≡◌, ℕ, ◌^◌, ◌<◌, ◌≤◌, true, List, [], ◌∷◌, refl, sym, arith}
use Rattle.std.specs.List.{All}
use Rattle.std.specs.Int.{IsInRange}
use Rattle.std.specs.Fmt.{decimal}
use Rattle.std.proofs.lemmas.Bool.Decides.{nat_tests}
use Rattle.std.proofs.lemmas.Fmt.{decimal_is_IsNumeral}
use Rattle.std.proofs.lemmas.List.{get_or_default}
use Rattle.std.proofs.lemmas.List.Elements.{All-head, All-tail}
use Rattle.std.proofs.lemmas.Str.Parse.{digit_at}
use Rattle.tdl_fraction.specs.Printing.{print_of}
use Rattle.tdl_fraction.specs.Range.{InRange}
use Rattle.tdl_fraction.specs.Rational.{Rational}
use Rattle.tdl_fraction.specs.Units.{last_units, time_of}
use Rattle.tdl_fraction.proofs.Order.{≢_from_<ℚ}
use Rattle.tdl_fraction.proofs.Printed.{Reads-print_of, print_of-injective}
use Rattle.tdl_fraction.proofs.Spelling.{bytes_from_reads}
use Rattle.tdl_fraction.proofs.UnitTimes.{units_in_range, units-lt}
use Rattle.tdl_log.proofs.CutLines.{lacks}

range_lacks : (byte low high : ℕ) (xs : List ℕ) → byte < low → All (λ b. IsInRange low high b) xs → lacks byte xs ≡ true
range_lacks byte low high [] below each = refl
range_lacks byte low high (x ∷ xs) below each =
    let here = All-head (λ b. IsInRange low high b) x xs each in
    let rest = range_lacks byte low high xs below (All-tail (λ b. IsInRange low high b) x xs each) in
    grind (arith, nat_tests)

pub decimal_bytes : (n : ℕ) → n < 2 ^ 64 → All (λ b. IsInRange 48 57 b) (decimal n)
decimal_bytes n few k d inside =
    let range = digit_at (decimal n) k (decimal_is_IsNumeral n few).0.1 inside in
    let same = get_or_default (decimal n) k d 0 inside in
    (omega (arith, range, same), omega (arith, range, same))

pub decimal_lacks : (byte n : ℕ) → byte < 48 → n < 2 ^ 64 → lacks byte (decimal n) ≡ true
decimal_lacks byte n below few = range_lacks byte 48 57 (decimal n) below (decimal_bytes n few)

pub print_lacks : (byte : ℕ) (q : Rational) → byte < 45 → InRange q → lacks byte (print_of q) ≡ true
print_lacks byte q below range = range_lacks byte 45 57 (print_of q) below (bytes_from_reads (print_of q) q (Reads-print_of q range))

pub place_in_range : (units : ℕ) → units ≤ last_units → InRange (time_of units)
place_in_range units h = units_in_range units (omega arith)

pub place_lacks : (byte units : ℕ) → byte < 45 → units ≤ last_units → lacks byte (print_of (time_of units)) ≡ true
place_lacks byte units below h = print_lacks byte (time_of units) below (place_in_range units h)

pub place_once : (m n : ℕ) → m ≤ last_units → n ≤ last_units → print_of (time_of m) ≡ print_of (time_of n) → m ≡ n
place_once m n p q e =
    let same : time_of m ≡ time_of n = print_of-injective (time_of m) (time_of n) (place_in_range m p) (place_in_range n q) e in
    nat_same m n (λ h. ≢_from_<ℚ (units-lt m n h) same) (λ h. ≢_from_<ℚ (units-lt n m h) (sym same))
  where
    nat_same : (m n : ℕ) → (m < n → ⊥) → (n < m → ⊥) → m ≡ n
    nat_same m n p q = omega arith
