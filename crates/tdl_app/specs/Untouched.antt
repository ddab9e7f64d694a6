-- A run leaves alone the devices that its mode does not use, their counts of faults too.
use Rattle.std.specs.Prelude.{◌≡◌}
use Rattle.tdl_app.specs.declared.devices.Outside.{Outside}

-- what `serve` alone uses
pub record UnusedStay {S K W C : Type 0} (before after : Outside S K W C) : Type 0 where
  pub clock : after.clock ≡ before.clock
  pub ports : after.ports ≡ before.ports

-- all devices but the output
pub record OthersStay {S K W C : Type 0} (before after : Outside S K W C) : Type 0 where
  pub input : after.input ≡ before.input
  pub log : after.log ≡ before.log
  pub osc : after.osc ≡ before.osc
  pub midi : after.midi ≡ before.midi
  pub unused : UnusedStay before after
