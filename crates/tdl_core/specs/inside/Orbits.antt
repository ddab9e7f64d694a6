-- Lists of orbits while they are put.
--     Shown       which orbits a list shows
--     is_shown    whether it shows an orbit
--     so_far      the orbits of a list that were put: the first, and each other after a comma
use Rattle.std.specs.Prelude.{ℕ, Bool, List, [], ◌∷◌, ◌++◌}
use Rattle.std.specs.Fmt.{decimal}
use Rattle.std.specs.List.{flat_map}
use Rattle.tdl_desk.specs.Desk.{Desk}
use Rattle.tdl_core.specs.declared.looks.Shown.{Shown}
use Rattle.tdl_core.specs.declared.looks.Shown.TheVariants.{Playing, Muted, Soloed}
use Rattle.tdl_core.specs.Looks.{after_comma, plays}

abbrev pub is_shown : {P : Type 0} → Shown → Desk P → ℕ → Bool
is_shown Playing state orbit = plays state orbit
is_shown Muted state orbit = state.muted orbit
is_shown Soloed state orbit = state.soloed orbit

abbrev pub so_far : List ℕ → List ℕ
so_far [] = []
so_far (first ∷ others) = decimal first ++ flat_map after_comma others
