use Rattle.tdl_mini_rows.proofs.ArgumentBounds.{argument_stays}
use Rattle.tdl_mini_rows.proofs.laws.arguments_stay.Goals as goal

pub returns : goal.returns
returns c nodes more argument row = argument_stays nodes more (c.growth_laws.ensures.row nodes more) argument row
