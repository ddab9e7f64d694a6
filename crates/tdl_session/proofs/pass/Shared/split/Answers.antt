use Rattle.std.proofs.Common.{rules, ap, ◌∙◌}
use Rattle.tdl_turn.specs.Sitters.{Sitter}
use Rattle.tdl_session.specs.Passes.{pass_of, mine}
use Rattle.tdl_session.proofs.Passes.{unmade_mine}
use Rattle.tdl_session.proofs.pass.Shared.split.Goals as goal

pub returns-clause-mine : goal.returns-clause-mine
returns-clause-mine g c = let seat = c.read.new.seat in
    ap (λ (s : Sitter g.row.M-Entry.Denot g.row.M-Fixed.Denot). mine g.M.Chronicle.by (pass_of s)) c.split-seat.ensures.new
    ∙ unmade_mine g.M.Chronicle.by seat.next seat.seen (search rules) c.read.ensures.unmade
