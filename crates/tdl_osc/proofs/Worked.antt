-- The worked packet and its atoms, each closed term by computing alone.
use Rattle.std.proofs.Common.{◌≡◌, pos, negsuc, [], ◌∷◌, codes, refl}
use Rattle.tdl_control.specs.declared.keys.Key.TheVariants.{S}
use Rattle.tdl_control.specs.Setting.{Spelling}
use Rattle.tdl_event.specs.declared.rows.Row.{Row}
use Rattle.tdl_fraction.specs.Divisor.{gcd}
use Rattle.tdl_fraction.specs.Rational.{frac, whole, ◌*ℚ◌, ◌/ℚ◌, inverse, flip, floor}
use Rattle.tdl_tempo.specs.Tempo.{Pace}
use Rattle.tdl_osc.specs.Encoding.{int32_bytes, time_bytes, osc_string}
use Rattle.tdl_osc.specs.Message.{message_bytes}
use Rattle.tdl_osc.specs.Bundle.{bundle_bytes, message_of, bytes_of}

-- the strings and the numbers of the examples of OSC 1.0
three_letters : osc_string (codes "OSC") ≡ 0x4f ∷ 0x53 ∷ 0x43 ∷ 0 ∷ []
unfolding osc_string
three_letters = refl

four_letters : osc_string (codes "data") ≡ 0x64 ∷ 0x61 ∷ 0x74 ∷ 0x61 ∷ 0 ∷ 0 ∷ 0 ∷ 0 ∷ []
unfolding osc_string
four_letters = refl

one_thousand : int32_bytes (pos 1000) ≡ 0 ∷ 0 ∷ 0x03 ∷ 0xe8 ∷ []
unfolding int32_bytes
one_thousand = refl

minus_one : int32_bytes (negsuc 0) ≡ 0xff ∷ 0xff ∷ 0xff ∷ 0xff ∷ []
unfolding int32_bytes
minus_one = refl

-- half a cycle a second, from the first second of 1970 on
abbrev slow : Pace
slow = record { cps = frac (pos 1) 2; origin = 2208988800 }

abbrev drum : Row
drum = record { onset = frac (pos 0) 1; length = frac (pos 1) 2; orbit = 1; controls = (S, Spelling (codes "bd")) ∷ [] }

drum_bundle : bytes_of drum slow
    ≡ 0x23 ∷ 0x62 ∷ 0x75 ∷ 0x6e ∷ 0x64 ∷ 0x6c ∷ 0x65 ∷ 0x00
    ∷ 0x83 ∷ 0xaa ∷ 0x7e ∷ 0x80 ∷ 0x00 ∷ 0x00 ∷ 0x00 ∷ 0x00
    ∷ 0x00 ∷ 0x00 ∷ 0x00 ∷ 0x44
    ∷ 0x2f ∷ 0x64 ∷ 0x69 ∷ 0x72 ∷ 0x74 ∷ 0x2f ∷ 0x70 ∷ 0x6c ∷ 0x61 ∷ 0x79 ∷ 0x00 ∷ 0x00
    ∷ 0x2c ∷ 0x73 ∷ 0x69 ∷ 0x73 ∷ 0x69 ∷ 0x73 ∷ 0x69 ∷ 0x73 ∷ 0x73 ∷ 0x00 ∷ 0x00 ∷ 0x00
    ∷ 0x63 ∷ 0x79 ∷ 0x63 ∷ 0x6c ∷ 0x65 ∷ 0x00 ∷ 0x00 ∷ 0x00 ∷ 0x00 ∷ 0x00 ∷ 0x00 ∷ 0x00
    ∷ 0x64 ∷ 0x65 ∷ 0x6c ∷ 0x74 ∷ 0x61 ∷ 0x00 ∷ 0x00 ∷ 0x00 ∷ 0x00 ∷ 0x0f ∷ 0x42 ∷ 0x40
    ∷ 0x6f ∷ 0x72 ∷ 0x62 ∷ 0x69 ∷ 0x74 ∷ 0x00 ∷ 0x00 ∷ 0x00 ∷ 0x00 ∷ 0x00 ∷ 0x00 ∷ 0x00
    ∷ 0x73 ∷ 0x00 ∷ 0x00 ∷ 0x00 ∷ 0x62 ∷ 0x64 ∷ 0x00 ∷ 0x00 ∷ []
unfolding frac whole ◌*ℚ◌ ◌/ℚ◌ inverse flip floor gcd int32_bytes time_bytes osc_string message_bytes bundle_bytes message_of bytes_of
drum_bundle = refl
