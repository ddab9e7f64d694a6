use Rattle.std.proofs.Common.{rules}
use Rattle.tdl_session.specs.Passes.{pass_of}
use Rattle.tdl_turn.proofs.Lists.{among_left}
use Rattle.tdl_session.proofs.Passes.{mine_met}
use Rattle.tdl_session.proofs.pass.Shared.meet.Goals as goal

pub invariant_of-pass : goal.invariant_of-pass
invariant_of-pass g c = let in-both = among_left _ _ c.other.inside.seat.made c.pass.invariant.4 in
    (search rules, search rules, search rules, search rules, search rules)

pub invariant_of-pass-else-next-pass : goal.invariant_of-pass-else-next-pass
invariant_of-pass-else-next-pass g c = let in-both = among_left _ _ c.other.inside.seat.made c.pass.invariant.4 in
    (search rules, search rules, search rules, search rules, search rules)

pub returns-then-next-pass-clause-mine : goal.returns-then-next-pass-clause-mine
returns-then-next-pass-clause-mine g c = mine_met g.M.Chronicle.by c.args.pass.now (pass_of c.read.new.seat) (search rules) (search rules) (search rules)

pub returns-else-next-pass-clause-mine : goal.returns-else-next-pass-clause-mine
returns-else-next-pass-clause-mine g c = mine_met g.M.Chronicle.by c.args.pass.now (pass_of c.read.new.seat) (search rules) (search rules) (search rules)
