-- What a look says.
--     units_text    so many tick units, as a number of cycles
--     listed        orbits, with commas between them, or `-` where there is none
--     plays         an orbit is heard, and has a pattern
--     look_text     the frontier, which orbits play, are muted and are soloed, and the place of the look
use Rattle.std.specs.Prelude.{ℕ, Bool, ◌&&◌, List, [], ◌∷◌, ◌++◌, codes, filter, is_some}
use Rattle.std.specs.Fmt.{decimal}
use Rattle.std.specs.List.{flat_map}
use Rattle.tdl_fraction.specs.Printing.{print_of}
use Rattle.tdl_fraction.specs.Units.{time_of}
use Rattle.tdl_desk.specs.Desk.{Desk, is_audible, orbits}

abbrev pub units_text : ℕ → List ℕ
units_text units = print_of (time_of units)

abbrev pub after_comma : ℕ → List ℕ
after_comma orbit = codes "," ++ decimal orbit

abbrev pub listed : List ℕ → List ℕ
listed [] = codes "-"
listed (first ∷ others) = decimal first ++ flat_map after_comma others

abbrev pub plays : {P : Type 0} → Desk P → ℕ → Bool
plays state orbit = is_audible state orbit && is_some (state.pattern orbit)

abbrev pub look_text : {P : Type 0} → Desk P → ℕ → ℕ → List ℕ
look_text state frontier place =
    codes "desk " ++ units_text frontier ++ codes " playing " ++ listed (filter (plays state) orbits)
    ++ codes " muted " ++ listed (filter state.muted orbits) ++ codes " soloed " ++ listed (filter state.soloed orbits)
    ++ codes " place " ++ decimal place
