-- Which performers the lines of a script may name.
--     HasPerformer      a performer's line names one of the eight
--     line_performer    each line does
use Rattle.std.proofs.Common.{◌≡◌, ℕ, ◌-◌, ◌&&◌, ◌==◌, nat_le, nat_lt, Bool, true, false, if◌then◌else◌}
use Rattle.std.proofs.Common.{List, [], ◌∷◌, length, codes, Option, Some, None, IfSome, refl, arith}
use Rattle.std.proofs.lemmas.Bool.Decides.{nat_tests}
use Rattle.std.specs.Str.{bytes_eq}
use Rattle.tdl_line_texts.specs.Limits.{max_line}
use Rattle.tdl_core.specs.Replies.{IsPerformer}
use Rattle.tdl_app.specs.Script.{LineClass, performers, tick, finish, other, too_long, Said, performer_of, after_front, class_from, class_of}

abbrev pub HasPerformer : LineClass → Type 0
HasPerformer (performers who text) = IsPerformer who
HasPerformer (tick text) = Unit {0}
HasPerformer finish = Unit {0}
HasPerformer other = Unit {0}
HasPerformer too_long = Unit {0}

digit_between : (letter digit blank : ℕ) → letter == 112 && nat_le 49 digit && nat_le digit 56 && blank == 32 ≡ true → IsPerformer (digit - 48)
digit_between letter digit blank test = grind (arith, nat_tests)

if_said : (test : Bool) (said : Said) → (test ≡ true → IsPerformer said.who) → IfSome (if test then Some said else None) (λ s. IsPerformer s.who)
if_said true said h = h refl
if_said false said h = tt

said_performer : (line : List ℕ) → IfSome (performer_of line) (λ said. IsPerformer said.who)
said_performer [] = tt
said_performer (letter ∷ []) = tt
said_performer (letter ∷ digit ∷ []) = tt
said_performer (letter ∷ digit ∷ blank ∷ text) =
    if_said (letter == 112 && nat_le 49 digit && nat_le digit 56 && blank == 32) (record { who = digit - 48; text = text }) (digit_between letter digit blank)

if_finish : (test : Bool) → HasPerformer (if test then finish else other)
if_finish true = tt
if_finish false = tt

from_performer : (said : Option Said) (ticked : Option (List ℕ)) (line : List ℕ)
    → IfSome said (λ s. IsPerformer s.who) → HasPerformer (class_from said ticked line)
from_performer (Some said) ticked line h = h
from_performer None (Some text) line h = tt
from_performer None None line h = if_finish (bytes_eq line (codes "finish"))

if_short : (test : Bool) (class : LineClass) → HasPerformer class → HasPerformer (if test then too_long else class)
if_short true class h = tt
if_short false class h = h

pub line_performer : (line : List ℕ) → HasPerformer (class_of line)
line_performer line =
    if_short (nat_lt max_line (length line)) (class_from (performer_of line) (after_front (codes "tick ") line) line)
    (from_performer (performer_of line) (after_front (codes "tick ") line) line (said_performer line))
