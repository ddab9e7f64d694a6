use Rattle.std.proofs.Common.{refl}
use Rattle.tdl_meaning.proofs.Between.{round_word}
use Rattle.tdl_meaning.proofs.turns.turned_time.Goals as goal

pub taken_from-requires : goal.taken_from-requires
taken_from-requires c = rw (round_word _ c.number.ensures.bound, c.number.ensures.value) c.requires

pub returns : goal.returns
returns c = rw (c.taken_from.ensures, round_word _ c.number.ensures.bound, c.number.ensures.value) refl
