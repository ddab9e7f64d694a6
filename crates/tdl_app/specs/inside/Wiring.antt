-- The wires that a script is played on, from before to after.
--     SameWires    what is held is still the same devices
use Rattle.std.specs.Prelude.{◌≡◌, ℕ, List, Option}
use Rattle.tdl_answer.specs.Account.{WireAccounts, wires}
use Rattle.tdl_app.specs.declared.wires.Wires.{Wires}

pub record SameWires {W : Type 0} (old new : Wires W) : Type 0 where
  pub osc : new.osc.ghost_name ≡ old.osc.ghost_name
  pub midi : new.midi.ghost_name ≡ old.midi.ghost_name

-- what two wires told, by what such a wire tells and by its count
abbrev pub wires_of : {W : Type 0} → (W → Option (List (List ℕ))) → (W → ℕ) → Wires W → Wires W → WireAccounts
wires_of told faults old new = wires told faults old.osc.now new.osc.now old.midi.now new.midi.now
