use Rattle.std.proofs.Common.{arith}
use Rattle.tdl_mini_rows.proofs.PlainViews.{groups_none, group_none}
use Rattle.tdl_mini_rows.proofs.plain.plain_sequence.Goals as goal

pub returns-in_default-as_slice-2 : goal.returns-in_default-as_slice-2
returns-in_default-as_slice-2 c = λ trees.
    group_none trees c.as_slice.result.now _ c.group-item.result c.as_slice-in-len1.result.now _ c.as_slice.ensures
    (omega (arith, c.in-len1.len_at_least, c.in-len1.len_below)) c.group-item.is c.as_slice-in-len1.ensures.value (λ e. omega arith)

pub returns-in_default-2 : goal.returns-in_default-2
returns-in_default-2 c = λ trees. groups_none trees c.as_slice.result.now _ c.as_slice.ensures (λ e. omega arith)
