use Rattle.tdl_meaning.proofs.Proper.{proper}
use Rattle.tdl_meaning.proofs.Sizes.{range, sizes, numbers, on_grids}
use Rattle.tdl_meaning.proofs.Asked.{asks}
use Rattle.tdl_meaning.proofs.times_of_trees_are_bounded.Goals as goal

pub returns : goal.returns
returns c = record { proper = proper; in_arc = range; sizes = sizes; numbers = numbers; counts = on_grids; asks = asks }
