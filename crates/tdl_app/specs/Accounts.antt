-- What the devices of a run told, and their counts of faults, before the run and after it.
--     Accounts     of all devices whose content a run may change, and the beats that the clock had left
use Rattle.std.specs.Prelude.{ℕ, List, Option}
use Rattle.tdl_answer.specs.Account.{Account, WireAccounts, account, wires}
use Rattle.tdl_serve.specs.PortAccounts.{PortAccount, port_accounts}
use Rattle.tdl_app.specs.declared.devices.Outside.{Outside}

pub record Accounts : Type 0 where
  pub input : Account ℕ
  pub out : Account ℕ
  pub log : Account ℕ
  pub wires : WireAccounts
  pub ports : List PortAccount
  pub beats : Option (List ℕ)

-- how sources, sinks, wires and clocks tell what they have left, hold and sent, and count their faults
pub record Telling (S K W C : Type 0) : Type 0 where
  pub left : S → Option (List ℕ)
  pub source_faults : S → ℕ
  pub held : K → Option (List ℕ)
  pub sink_faults : K → ℕ
  pub sent : W → Option (List (List ℕ))
  pub wire_faults : W → ℕ
  pub beats : C → Option (List ℕ)

abbrev pub accounts : {S K W C : Type 0} → Telling S K W C → Outside S K W C → Outside S K W C → Accounts
accounts tells before after = record {
  input = account tells.left tells.source_faults before.input after.input;
  out = account tells.held tells.sink_faults before.out after.out;
  log = account tells.held tells.sink_faults before.log after.log;
  wires = wires tells.sent tells.wire_faults before.osc after.osc before.midi after.midi;
  ports = port_accounts tells.left tells.source_faults tells.held tells.sink_faults before.ports.items after.ports.items;
  beats = tells.beats before.clock;
}
