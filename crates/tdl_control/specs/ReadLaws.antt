-- What texts say of maps.
use Rattle.std.specs.Prelude.{◌≡◌, ℕ, List}
use Rattle.tdl_control.specs.declared.maps.reading.MapKind.{MapKind}
use Rattle.tdl_control.specs.Map.{KeyValues, print_of, IsMap}
use Rattle.tdl_control.specs.Reading.{IsMapFault}

pub record ReadLaws : Type 0 where
  -- maps of one print are the same
  pub one_map : (one other : KeyValues) → IsMap one → IsMap other → print_of one ≡ print_of other → one ≡ other
  -- the print of a map has no fault
  pub no_fault : (entries : KeyValues) (kind : MapKind) (at : ℕ) → IsMap entries → IsMapFault (print_of entries) kind at → ⊥
  -- a text has one fault at most
  pub one_fault : (text : List ℕ) (kind other : MapKind) (at there : ℕ) → IsMapFault text kind at → IsMapFault text other there
      → (kind ≡ other) × (at ≡ there)
