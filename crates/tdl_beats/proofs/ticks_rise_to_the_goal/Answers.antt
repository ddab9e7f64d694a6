use Rattle.std.proofs.Common.{◌*◌, arith}
use Rattle.tdl_fraction.specs.Units.{tick_units}
use Rattle.tdl_beats.proofs.Rising.{ticks_rise, ticks_within, ticks_reach_goal, ticks_reach_last}
use Rattle.tdl_beats.proofs.ticks_rise_to_the_goal.Goals as goal

pub returns : goal.returns
returns c = record {
  rise = λ beats cycles. ticks_rise (tick_units * cycles) 0 0 beats;
  within = λ beats cycles. ticks_within (tick_units * cycles) 0 0 beats (omega arith);
  goal = λ before beat after cycles past. ticks_reach_goal (tick_units * cycles) 0 0 before beat after (omega arith) past;
  last = λ beats cycles rising. ticks_reach_last (tick_units * cycles) 0 0 beats (omega arith) rising;
}
