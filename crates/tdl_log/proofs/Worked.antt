-- Two logs, each by computing alone.
use Rattle.std.proofs.Common.{◌≡◌, ℕ, [], ◌∷◌, ◌++◌, codes, pos, refl}
use Rattle.std.specs.Fmt.{digits}
use Rattle.tdl_fraction.specs.Divisor.{gcd}
use Rattle.tdl_fraction.specs.Rational.{frac}
use Rattle.tdl_score.specs.declared.histories.Entry.{Entry}
use Rattle.tdl_score.specs.declared.histories.Deed.{Deed}
use Rattle.tdl_score.specs.declared.histories.Deed.TheVariants as deed
use Rattle.tdl_log.specs.declared.ends.PortEnd.TheVariants as end
use Rattle.tdl_log.specs.Log.{Log}
use Rattle.tdl_log.specs.LogText.{log_text}

abbrev entry : ℕ → ℕ → Deed → Entry
entry who before what = record { who = who; frontier = before; deed = what }

-- one swap, and a tick of one cycle
abbrev short_log : Log
short_log = record {
  tempo = record { cps = frac (pos 9) 16; origin = 2208988800 };
  history = entry 1 0 (deed.Swap 0 (codes "d1 $ s \"bd*4\"")) ∷ entry 0 0 (deed.Tick 46080) ∷ [];
  ends = record { port = 0; end = end.Stopped } ∷ [];
}

short_text : log_text short_log
    ≡ codes "tidal-log 1\ncps 9/16\norigin 2208988800\n0 1 0 swap 0 d1 $ s \"bd*4\"\n1 0 0 tick 1\nport 0 stopped\nend 2\n"
unfolding log_text gcd frac digits
short_text = refl

-- ticks by parts of a cycle, a look, a swap four cycles on, swaps at the next cycle, and a look behind the finish
abbrev long_log : Log
long_log = record {
  tempo = record { cps = frac (pos 4) 2; origin = 0 };
  history = entry 1 0 (deed.Swap 0 (codes "d1 $ s \"bd*4\"")) ∷ entry 0 0 (deed.Tick 15360) ∷ entry 2 15360 deed.Look
      ∷ entry 8 15360 (deed.Swap 4 (codes "jumpMod 1 4 $ s \"sn\"")) ∷ entry 0 15360 (deed.Tick 61440)
      ∷ entry 3 61440 (deed.Swap 2 (codes "hush")) ∷ entry 4 61440 (deed.Swap 2 (codes "d16 $ s \"cp\""))
      ∷ entry 0 61440 deed.Finish ∷ entry 5 61440 deed.Look ∷ [];
  ends = record { port = 0; end = end.Finish } ∷ record { port = 1; end = end.Eof } ∷ record { port = 2; end = end.Fault }
      ∷ record { port = 3; end = end.Memory } ∷ record { port = 8; end = end.Spent } ∷ [];
}

long_text : log_text long_log
    ≡ codes "tidal-log 1\ncps 2\norigin 0\n0 1 0 swap 0 d1 $ s \"bd*4\"\n1 0 0 tick 1/3\n2 2 1/3 look\n"
    ++ (codes "3 8 1/3 swap 4 jumpMod 1 4 $ s \"sn\"\n4 0 1/3 tick 4/3\n5 3 4/3 swap 2 hush\n6 4 4/3 swap 2 d16 $ s \"cp\"\n7 0 4/3 finish\n8 5 4/3 look\n"
    ++ codes "port 0 finish\nport 1 eof\nport 2 fault\nport 3 memory\nport 8 spent\nend 9\n")
unfolding log_text gcd frac digits
long_text = refl
