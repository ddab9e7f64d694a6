use Rattle.tdl_mini_rows.specs.inside.Turns.{choices_of}
use Rattle.tdl_mini_rows.proofs.Turns.{turn-later}
use Rattle.tdl_mini_rows.proofs.leaves.push_value.Goals as goal

pub played_leaf-requires-clause-fits : goal.played_leaf-requires-clause-fits
played_leaf-requires-clause-fits c = turn-later (choices_of c.args.play.now) _ 2048 _ c.table_law.ensures.rows c.requires.turn
