use Rattle.std.proofs.Common.{rules, sym, subst, inl}
use Rattle.tdl_turn.specs.Tokens.{Rests}
use Rattle.tdl_turn.proofs.Lists.{among_left}
use Rattle.tdl_turn.proofs.Meetings.{joins}
use Rattle.tdl_turn.proofs.moves.join_token.Goals as goal

pub join_seat-requires : goal.join_seat-requires
join_seat-requires g c = (search rules, search rules, search rules, search rules, joins _ _ _ _ _ _ _ _ c.requires.token.1 c.requires.other.0)

pub returns-clause-rests : goal.returns-clause-rests
returns-clause-rests g c = let token = c.requires.token in
    subst (λ m. Rests m) (sym c.join_seat.ensures.2) (among_left _ _ _ token.0.0, inl (token.1, token.2))
