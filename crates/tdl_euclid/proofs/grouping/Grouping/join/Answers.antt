use Rattle.std.proofs.Common.{ap, length, arith}
use Rattle.tdl_euclid.proofs.ListLemmas.{length-flat-replicate}
use Rattle.tdl_euclid.proofs.grouping.Grouping.join.Goals as goal

pub append-requires : goal.append-requires
append-requires c =
    omega (
      arith,
      ap (λ xs. length xs) c.repeat-lefts.ensures,
      ap (λ xs. length xs) c.repeat-else-self-eq0-2.ensures,
      length-flat-replicate c.self.inside.left_count c.self.inside.left,
      length-flat-replicate c.self.inside.right_count c.self.inside.right,
    )
