-- The orbits that names name.
--     no_orbit_above    above 16 there is none
use Rattle.std.specs.Prelude.{if◌then◌else◌}
use Rattle.std.proofs.Common.{◌≡◌, ℕ, Bool, true, false, ◌&&◌, nat_le, nat_lt, Some, None, List, refl, sym, ap}
use Rattle.std.specs.Str.Parse.{digits_value}
use Rattle.tdl_line_texts.specs.Names.{orbit_of}
use Rattle.tdl_command.specs.Rules.{is_orbit}

by_test : (n : ℕ) (b : Bool) → is_orbit n ≡ b → (if is_orbit n then Some n else None) ≡ (if b then Some n else None)
by_test n b e = ap (λ (x : Bool). if x then Some n else None) e

pub no_orbit_above : (digits : List ℕ) → false ≡ nat_le (digits_value 10 digits) 16 → None ≡ orbit_of digits
no_orbit_above digits over = sym (by_test (digits_value 10 digits) false (here (nat_lt 0 (digits_value 10 digits))))
  where
    here : (b : Bool) → (b && nat_le (digits_value 10 digits) 16) ≡ false
    here true = sym over
    here false = refl
