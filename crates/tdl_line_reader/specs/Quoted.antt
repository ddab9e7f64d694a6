-- What reading a quoted text in a kind answers.
--     IsRefusal        what it is refused for is its fault there; out of memory says nothing
--     IsNear           the fault's offset, counted with the `"` before the text, fits 16 bits
use Rattle.std.specs.Prelude.{◌≡◌, ◌≤◌}
use Rattle.tdl_control.specs.declared.faults.Faulted.{Faulted}
use Rattle.tdl_control.specs.declared.faults.Faulted.TheVariants.{NoMemory, At}
use Rattle.tdl_mini_tree.specs.declared.faults.MiniKind.{MiniKind}
use Rattle.tdl_mini_tree.specs.Reading.{Reading, read, unread}

abbrev pub IsRefusal : Reading → Faulted MiniKind → Type 0
IsRefusal reading NoMemory = Unit {0}
IsRefusal (read k ls) (At kind at) = ⊥
IsRefusal (unread fault n) (At kind at) = (kind ≡ fault) × (at ≡ n)

abbrev pub IsNear : Faulted MiniKind → Type 0
IsNear NoMemory = Unit {0}
IsNear (At kind at) = at ≤ 65534
