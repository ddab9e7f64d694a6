use Rattle.std.proofs.Common.{[], subst, arith}
use Rattle.tdl_answer.specs.Asked.{IsAsked, IsUnmade}
use Rattle.tdl_answer.proofs.OneAsk.{other_said, said_no_look, said_not_refused, said_not_silent, same_said}
use Rattle.tdl_answer.proofs.said_lines.SaidLinesTextReader.every.Goals as goal

pub returns-in-Ok-Swap-clause-some : goal.returns-in-Ok-Swap-clause-some
returns-in-Ok-Swap-clause-some c =
    let asked = subst (IsAsked c.args.text.now) c.in-Ok-Swap.field-0-is c.in-Ok-Swap.ensures.ok in
    same_said c.args.text.now c.if_same.result c.in-Ok-Swap.kept c.in-Ok-Swap.every _ c.if_same.ensures.some
    (asked.1 1 [] (omega arith, omega arith)).1

pub returns-in-Ok-Swap-clause-none : goal.returns-in-Ok-Swap-clause-none
returns-in-Ok-Swap-clause-none c =
    let asked = subst (IsAsked c.args.text.now) c.in-Ok-Swap.field-0-is c.in-Ok-Swap.ensures.ok in
    other_said c.args.text.now c.lines_are_read_in_one_way.ensures.one_text c.if_same.result c.in-Ok-Swap.kept c.in-Ok-Swap.every _
    c.if_same.ensures.none asked.0

pub returns-in-Ok-Look : goal.returns-in-Ok-Look
returns-in-Ok-Look c =
    let laws = c.lines_are_read_in_one_way.ensures in
    let asked = subst (IsAsked c.args.text.now) c.in-Ok-Look.field-0-is c.in-Ok-Look.ensures.ok in
    record { some = tt; none = λ n change says. said_no_look laws.one_tree laws.not_both c.args.text.now n change says asked.0 }

pub returns-in-Err-Nothing : goal.returns-in-Err-Nothing
returns-in-Err-Nothing c =
    let laws = c.lines_are_read_in_one_way.ensures in
    let unmade = subst (IsUnmade c.args.text.now) c.in-Err-Nothing.field-0-is c.in-Err-Nothing.ensures.err in
    record { some = tt; none = λ n change says. said_not_silent laws.one_tree laws.not_both c.args.text.now n change says unmade }

pub returns-in-Err-Refused : goal.returns-in-Err-Refused
returns-in-Err-Refused c =
    let laws = c.lines_are_read_in_one_way.ensures in
    let unmade = subst (IsUnmade c.args.text.now) c.in-Err-Refused.field-0-is c.in-Err-Refused.ensures.err in
    record { some = tt; none = λ n change says. said_not_refused laws.one_tree laws.not_both c.args.text.now n change says _ unmade }
