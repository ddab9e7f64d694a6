-- What an error of a reader of bundles says of the bytes.
use Rattle.std.specs.Prelude.{◌≡◌, ℕ, List}
use Rattle.tdl_control.specs.declared.faults.Faulted.{Faulted}
use Rattle.tdl_control.specs.declared.faults.Faulted.TheVariants.{NoMemory, At}
use Rattle.tdl_osc.specs.declared.faults.OscKind.{OscKind}
use Rattle.tdl_osc.specs.BundleFault.{fault, bundle_fault}

-- out of memory says nothing of them
abbrev pub RefusesBundle : List ℕ → Faulted OscKind → Type 0
RefusesBundle bytes NoMemory = Unit {0}
RefusesBundle bytes (At kind at) = bundle_fault bytes ≡ fault kind at
