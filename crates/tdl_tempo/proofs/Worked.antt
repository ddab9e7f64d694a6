-- Wire times at worked rows, each closed term by computing alone.
use Rattle.std.proofs.Common.{◌≡◌, pos, refl}
use Rattle.tdl_fraction.specs.Divisor.{gcd}
use Rattle.tdl_fraction.specs.Rational.{frac, whole, ◌*ℚ◌, ◌/ℚ◌, inverse, flip, floor}
use Rattle.tdl_tempo.specs.Tempo.{Pace, timetag, micros}

-- half a cycle a second, from the first second of 1970 on
abbrev slow : Pace
slow = record { cps = frac (pos 1) 2; origin = 2208988800 }

abbrev quick : Pace
quick = record { cps = frac (pos 9) 16; origin = 2208988800 }

-- 83aa7e80 00000000
first_tag : timetag slow (frac (pos 0) 1) ≡ pos 9487534653230284800
unfolding frac whole ◌*ℚ◌ ◌/ℚ◌ inverse flip floor gcd
first_tag = refl

-- 83aa7e81 00000000
second_tag : timetag slow (frac (pos 1) 2) ≡ pos 9487534657525252096
unfolding frac whole ◌*ℚ◌ ◌/ℚ◌ inverse flip floor gcd
second_tag = refl

-- past the last second the tags begin again
last_tag : timetag (record { cps = frac (pos 1) 1; origin = 4294967295 }) (frac (pos 1) 1) ≡ pos 0
unfolding frac whole ◌*ℚ◌ ◌/ℚ◌ inverse flip floor gcd
last_tag = refl

-- a second, and 16/9 of one rounded down
one_second : micros slow (frac (pos 1) 2) ≡ pos 1000000
unfolding frac whole ◌*ℚ◌ ◌/ℚ◌ inverse flip floor gcd
one_second = refl

rounded_down : micros quick (frac (pos 1) 1) ≡ pos 1777777
unfolding frac whole ◌*ℚ◌ ◌/ℚ◌ inverse flip floor gcd
rounded_down = refl

-- the longest length
longest_length : micros (record { cps = frac (pos 1) 1; origin = 0 }) (frac (pos 4000) 1) ≡ pos 2147483647
unfolding frac whole ◌*ℚ◌ ◌/ℚ◌ inverse flip floor gcd
longest_length = refl
