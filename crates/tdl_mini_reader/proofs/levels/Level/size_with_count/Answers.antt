use Rattle.std.proofs.Common.{◌∙◌}
use Rattle.tdl_mini_reader.proofs.CountLemmas.{played_steps, played_sum}
use Rattle.tdl_mini_reader.proofs.levels.Level.size_with_count.Goals as goal

pub counted-requires-clause-steps : goal.counted-requires-clause-steps
counted-requires-clause-steps c =
    played_steps c.args.self.now c.deref.result.now c.in-Some-Played.field-0.now _ _ _ _ c.deref.ensures.value c.in-Some-Played.ensures.item.3.0
    c.in-Some-Played.ensures.item.1 c.in-Some-Played.field-0-is (c.from.ensures ∙ c.times_of.ensures)

pub counted-requires-clause-sum : goal.counted-requires-clause-sum
counted-requires-clause-sum c =
    played_sum c.args.self.now c.deref.result.now c.in-Some-Played.field-0.now _ _ _ _ c.deref.ensures.value c.in-Some-Played.ensures.item.3.0
    c.in-Some-Played.ensures.item.1 c.in-Some-Played.field-0-is (c.from.ensures ∙ c.times_of.ensures)
