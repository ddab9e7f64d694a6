use Rattle.tdl_desk.specs.Desk.{desk}
use Rattle.std.proofs.Common.{map}
use Rattle.tdl_score.specs.Programs.{dated_tree, program_tree}
use Rattle.tdl_score.proofs.MappedDesks.{audible_mapped, desk_mapped}
use Rattle.tdl_score.proofs.laws.programs_are_seen_as_trees.Goals as goal

pub returns : goal.returns
returns c = record {
  patterns = λ kept cycle orbit. (desk_mapped program_tree kept cycle).pattern orbit;
  muted = λ kept cycle orbit. (desk_mapped program_tree kept cycle).muted orbit;
  soloed = λ kept cycle orbit. (desk_mapped program_tree kept cycle).soloed orbit;
  audible = λ kept cycle orbit. audible_mapped program_tree (desk kept cycle) (desk (map dated_tree kept) cycle) (desk_mapped program_tree kept cycle) orbit;
}
