-- Runs, and the numbers that they begin.
--     IsRun             a longest piece of letters, digits, `_` and `#`
--     Number            a number, with its sign and its tail
--     number_text       the bytes of a number
--     IsNumber          a number stands after a byte and before the rest of a text
--     is_small          a number is not too large
use Rattle.std.specs.Prelude.{◌≡◌, ℕ, Bool, true, false, ◌&&◌, ◌||◌, ◌==◌, ◌<◌, nat_le, if◌then◌else◌, List, [], ◌∷◌, ◌++◌, length, codes, IsTrue}
use Rattle.std.specs.List.{list_all}
use Rattle.std.specs.Char.{is_ascii_digit}
use Rattle.std.specs.Str.Parse.{digits_value}
use Rattle.tdl_control.specs.Limits.{max_whole, max_decimals, max_denominator}
use Rattle.tdl_lexer.specs.Bytes.{is_run_byte, begins}

-- after a byte and before the rest of a text
pub record IsRun (last : ℕ) (run after : List ℕ) : Type 0 where
  pub filled : 0 < length run
  pub bytes : IsTrue (list_all is_run_byte run)
  pub starts : is_run_byte last ≡ false
  pub ends : begins is_run_byte after ≡ false

-- whether a `-` is its sign, its first digits, and its tail: nothing, or `.` or `%` and digits
pub record Number : Type 0 where
  pub negative : Bool
  pub whole : List ℕ
  pub tail : List ℕ

abbrev pub minus_text : Bool → List ℕ
minus_text true = codes "-"
minus_text false = []

abbrev pub number_text : Number → List ℕ
number_text n = minus_text n.negative ++ (n.whole ++ n.tail)

abbrev pub is_tail_mark : ℕ → Bool
is_tail_mark byte = (byte == 46) || (byte == 37)

-- `.` or `%` directly before a digit
abbrev pub begins_tail : List ℕ → Bool
begins_tail [] = false
begins_tail (mark ∷ rest) = is_tail_mark mark && begins is_ascii_digit rest

-- a number goes on as long as it can
abbrev pub IsTail : List ℕ → List ℕ → Type 0
IsTail [] after = begins_tail after ≡ false
IsTail (mark ∷ digits) after =
    IsTrue (is_tail_mark mark) × (0 < length digits) × IsTrue (list_all is_ascii_digit digits) × (begins is_ascii_digit after ≡ false)

-- the byte directly before the digits of a number
abbrev pub before_digits : Bool → ℕ → ℕ
before_digits true last = 45
before_digits false last = last

-- a run of digits alone begins a number
pub record IsNumber (n : Number) (last : ℕ) (after : List ℕ) : Type 0 where
  pub run : IsRun (before_digits n.negative last) n.whole (n.tail ++ after)
  pub digits : IsTrue (list_all is_ascii_digit n.whole)
  pub tail : IsTail n.tail after

-- at most four decimals, or a denominator of at most 65,535
abbrev pub tail_fits : List ℕ → Bool
tail_fits [] = true
tail_fits (mark ∷ digits) = if mark == 46 then nat_le (length digits) max_decimals else nat_le (digits_value 10 digits) max_denominator

abbrev pub is_small : Number → Bool
is_small n = nat_le (digits_value 10 n.whole) max_whole && tail_fits n.tail
