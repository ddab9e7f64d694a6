-- What lines look like, by computing alone.
use Rattle.std.proofs.Common.{◌≡◌, true, false, [], ◌∷◌, codes, map, refl}
use Rattle.tdl_fraction.specs.Divisor.{gcd, gcd_within}
use Rattle.tdl_log.specs.LineKinds.{is_deed, is_entry, is_last, is_place, is_port}

entries : map is_entry (codes "3 8 1/3 swap 4 hush" ∷ codes "0 9 2 look" ∷ codes "0 1 2 swap 01 hush" ∷ codes "02 0 1 finish" ∷ codes "2 0 2/2 finish" ∷ [])
    ≡ true ∷ true ∷ false ∷ false ∷ false ∷ []
unfolding gcd gcd_within
entries = refl

deeds : map is_deed (codes "tick 5/2" ∷ codes "swap 1 " ∷ codes "swap 1" ∷ codes "swap  hush" ∷ codes "finish " ∷ []) ≡ true ∷ true ∷ false ∷ false ∷ false ∷ []
unfolding gcd gcd_within
deeds = refl

places : map is_place (codes "0" ∷ codes "1/46080" ∷ codes "1/7" ∷ codes "2/4" ∷ codes "0/3" ∷ codes "1/1" ∷ codes "123456789012345678901234567890/7" ∷ [])
    ≡ true ∷ true ∷ false ∷ false ∷ false ∷ false ∷ false ∷ []
unfolding gcd gcd_within
places = refl

ports : map is_port (codes "port 300 stopped" ∷ codes "port 03 stopped" ∷ codes "port 0 stop" ∷ []) ≡ true ∷ false ∷ false ∷ []
ports = refl

last_lines : map is_last (codes "end 99999999999999999999" ∷ codes "end 03" ∷ codes "end" ∷ []) ≡ true ∷ false ∷ false ∷ []
last_lines = refl
