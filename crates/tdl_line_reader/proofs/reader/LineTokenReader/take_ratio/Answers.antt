use Rattle.std.proofs.Common.{refl}
use Rattle.tdl_mini_tree.specs.declared.faults.MiniKind.TheVariants.{BadFactor}
use Rattle.tdl_mini_tree.specs.declared.leaves.Kind.TheVariants.{Ratio}
use Rattle.tdl_mini_tree.specs.Numbers.{is_ratio}
use Rattle.tdl_line_machine.specs.declared.faults.LineKind.TheVariants.{Mini}
use Rattle.tdl_line_reader.specs.ReaderView.{core_of}
use Rattle.tdl_line_reader.proofs.Answering.{answers_by, obeyed}
use Rattle.tdl_line_machine.specs.Tokens as token
use Rattle.tdl_line_reader.proofs.reader.LineTokenReader.take_ratio.Goals as goal

pub returns-in_ok-ratio-in-Number : goal.returns-in_ok-ratio-in-Number
returns-in_ok-ratio-in-Number g c = rw c.in-Number.is
    (λ readings are. obeyed (core_of c.args.self.now) (Mini BadFactor) (is_ratio c.in-Number.number) _ _ _ _
    (rw (c.with_ratio.ensures, c.in_ok-ratio-in-Number.ensures.ok) at (c.called.ensures (token.number c.in-Number.number)))
    c.in_ok-check_ratio-in-Number.ensures.ok)

pub returns-in_ok-tree-in-Quoted : goal.returns-in_ok-tree-in-Quoted
returns-in_ok-tree-in-Quoted g c = rw c.in-Quoted.is
    (λ readings are. rw (c.in_ok-tree-in-Quoted.ensures.ok (readings Ratio) (are Ratio))
    (rw c.with_ratio-in-Quoted.ensures at (c.called-in-Quoted.ensures (token.quoted readings))))

pub returns-in-Mark-OpenRound : goal.returns-in-Mark-OpenRound
returns-in-Mark-OpenRound g c = λ readings are. answers_by _ _ _ _ _ (c.open.ensures _) (rw c.in-Mark-OpenRound.is (rw (rw c.in-Mark-OpenRound.is at
    c.in-Mark-OpenRound.field-0-is) refl))
