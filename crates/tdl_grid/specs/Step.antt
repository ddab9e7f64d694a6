-- A step of a sequence in counts: its weight w after earlier weights o, of weights W in all, where a weight of one has x counts
-- of a cycle. So the sequence's unit is x times W, and the step's own x times w.
--     IsStep        the weights are those of a step, and the program's numbers have room for the counts of its cycle
--     step_delay    how many counts a time of the step's own cycle is later in its share
--     share_span    the step's share of the cycle
--     asked_step    what is asked of the step, where a span of the cycle is asked of the sequence
--     asked_arc     the same in times
use Rattle.std.specs.Prelude.{ℕ, ◌+◌, ◌*◌, ◌^◌, ◌<◌, ◌≤◌, Option, option_map, ℤ, pos, ◌+ℤ◌, ◌-ℤ◌, ◌*ℤ◌, nat_abs}
use Rattle.tdl_fraction.specs.Arc.{Arc, map_arc, meet}
use Rattle.tdl_meaning.specs.Pattern.{cycle_arc, squeezed}
use Rattle.tdl_meaning.specs.Heard.{unsqueezed}
use Rattle.tdl_grid.specs.Span.{Span, met, earlier_span}
use Rattle.tdl_grid.specs.declared.steps.Step.{Step}

pub record IsStep (s : Step) : Type 0 where
  pub weight : 0 < s.weight
  pub within : s.before + s.weight ≤ s.total
  pub width : 0 < s.width
  pub small : s.width * s.total ≤ 2 ^ 88
  pub first : nat_abs s.cycle ≤ 2 ^ 36
  pub last : nat_abs (s.cycle +ℤ pos 1) ≤ 2 ^ 36

abbrev pub step_delay : ℤ → ℕ → ℕ → ℕ → ℕ → ℤ
step_delay c o w W x = (c *ℤ pos (x * W) +ℤ pos (o * x)) -ℤ c *ℤ pos (x * w)

abbrev pub share_span : ℤ → ℕ → ℕ → ℕ → ℕ → Span
share_span c o w W x = record { start = c *ℤ pos (x * W) +ℤ pos (o * x); stop = c *ℤ pos (x * W) +ℤ pos (o * x + w * x) }

abbrev pub asked_step : ℤ → ℕ → ℕ → ℕ → ℕ → Span → Option Span
asked_step c o w W x a = option_map (earlier_span (step_delay c o w W x)) (met (share_span c o w W x) a)

-- in times: what an arc has of the share, brought back to the whole cycle
abbrev pub asked_arc : ℤ → ℕ → ℕ → ℕ → Arc → Option Arc
asked_arc c o w W a = option_map (map_arc (unsqueezed c o w W)) (meet (map_arc (squeezed c o w W) (cycle_arc c)) a)
