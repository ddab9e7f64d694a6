-- The lines of a script.
--     LineClass       what a line is: too long, or by its front a performer's, a tick, the finish, or any other
--     class_of        the class of a line
--     ReadsTime       a text writes a time from 0 on
--     IsRefusedTick   the text of a tick makes no call, and this line is the reply
use Rattle.std.specs.Prelude.{◌≡◌, ℕ, ◌-◌, ◌⊎◌, pos, ◌&&◌, ◌==◌, nat_le, nat_lt, if◌then◌else◌, List, ◌∷◌, Option, Some, None, length, take, drop, codes}
use Rattle.std.specs.Str.{bytes_eq}
use Rattle.tdl_fraction.specs.Rational.{Rational, whole, ◌≤ℚ◌, IsMultiple}
use Rattle.tdl_fraction.specs.Range.{InRange}
use Rattle.tdl_fraction.specs.Reading.{Reads as ReadsNumber}
use Rattle.tdl_fraction.specs.Units.{tick_units}
use Rattle.tdl_line_machine.specs.declared.faults.LineKind.TheVariants.{LineTooLong}
use Rattle.tdl_line_texts.specs.Limits.{max_line}
use Rattle.tdl_answer.specs.declared.refusals.Refusal.TheVariants.{Unread}
use Rattle.tdl_answer.specs.Refusals.{refusal_line}

-- a performer's line has the performer's number and what follows it, a tick what follows the word
pub data LineClass : Type 0 where
  performers : ℕ → List ℕ → LineClass
  tick : List ℕ → LineClass
  finish : LineClass
  other : LineClass
  too_long : LineClass

pub record Said : Type 0 where
  pub who : ℕ
  pub text : List ℕ

-- `p`, a digit from 1 to 8, a blank, and what follows
abbrev pub performer_of : List ℕ → Option Said
performer_of (letter ∷ digit ∷ blank ∷ text) =
    if letter == 112 && nat_le 49 digit && nat_le digit 56 && blank == 32
    then Some (record { who = digit - 48; text = text })
    else None
performer_of _ = None

-- what follows a front
abbrev pub after_front : List ℕ → List ℕ → Option (List ℕ)
after_front front line = if bytes_eq (take (length front) line) front then Some (drop (length front) line) else None

abbrev pub class_from : Option Said → Option (List ℕ) → List ℕ → LineClass
class_from (Some said) ticked line = performers said.who said.text
class_from None (Some text) line = tick text
class_from None None line = if bytes_eq line (codes "finish") then finish else other

abbrev pub class_of : List ℕ → LineClass
class_of line = if nat_lt max_line (length line) then too_long else class_from (performer_of line) (after_front (codes "tick ") line) line

pub record ReadsTime (text : List ℕ) (time : Rational) : Type 0 where
  pub reads : ReadsNumber text time
  pub in_range : InRange time
  pub from_zero : whole (pos 0) ≤ℚ time

-- ---- lines that make no call
abbrev pub bad_fraction_reply : List ℕ
bad_fraction_reply = codes "refused BadFraction 5\n"

abbrev pub off_grid_reply : List ℕ
off_grid_reply = codes "refused OffGrid 5\n"

abbrev pub unexpected_reply : List ℕ
unexpected_reply = codes "refused Unexpected 0\n"

abbrev pub too_long_reply : List ℕ
too_long_reply = refusal_line (Unread LineTooLong max_line)

-- the text after `tick` writes no time from 0 on
abbrev pub WritesNoTime : List ℕ → Type 0
WritesNoTime text = (time : Rational) → ReadsTime text time → ⊥

-- it writes a time that is no whole count of tick units
pub record WritesOffGrid (text : List ℕ) : Type 0 where
  pub time : Rational
  pub reads : ReadsTime text time
  pub off_grid : IsMultiple tick_units time → ⊥

-- a tick that makes no call, and its reply
abbrev pub IsRefusedTick : List ℕ → List ℕ → Type 0
IsRefusedTick text reply = (WritesNoTime text × (reply ≡ bad_fraction_reply)) ⊎ (WritesOffGrid text × (reply ≡ off_grid_reply))
