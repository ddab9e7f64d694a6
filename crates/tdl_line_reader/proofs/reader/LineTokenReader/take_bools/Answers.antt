use Rattle.tdl_mini_tree.specs.declared.leaves.Kind.TheVariants.{Bool}
use Rattle.tdl_line_reader.proofs.reader.LineTokenReader.take_bools.Goals as goal

pub returns-in_ok-bools-in-Quoted : goal.returns-in_ok-bools-in-Quoted
returns-in_ok-bools-in-Quoted g c = rw c.in-Quoted.is
    (λ readings are. rw (c.in_ok-bools-in-Quoted.ensures.ok (readings Bool) (are Bool)) (c.made.ensures _))
