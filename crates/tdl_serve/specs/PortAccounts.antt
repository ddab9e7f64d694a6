-- What the devices of ports told, before a run and after it.
use Rattle.std.specs.Prelude.{ℕ, List, [], ◌∷◌, Option}
use Rattle.tdl_perform.specs.declared.ports.Port.{Port}
use Rattle.tdl_answer.specs.Account.{Account, account}

pub record PortAccount : Type 0 where
  pub source : Account ℕ
  pub sink : Account ℕ

-- of ports from before to after, by what sources and sinks tell and by their counts
module _ {S K : Type 0} (left : S → Option (List ℕ)) (source_faults : S → ℕ) (held : K → Option (List ℕ)) (sink_faults : K → ℕ) where
  abbrev pub port_account : Port S K → Port S K → PortAccount
  port_account before after = record {
    source = account left source_faults before.source after.source;
    sink = account held sink_faults before.sink after.sink;
  }

  -- port by port, of as many ports
  abbrev pub port_accounts : List (Port S K) → List (Port S K) → List PortAccount
  port_accounts [] afters = []
  port_accounts (before ∷ befores) [] = []
  port_accounts (before ∷ befores) (after ∷ afters) = port_account before after ∷ port_accounts befores afters
