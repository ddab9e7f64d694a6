use Rattle.std.proofs.Common.{[]}
use Rattle.tdl_session.proofs.Records.{told_mine}
use Rattle.tdl_session.proofs.told.entries_tell_of_calls.Goals as goal

pub returns : goal.returns
returns g c = λ fixed n f h same history told is.
    told_mine g.M.Chronicle.by (λ es call e r. g.M.Machine.adds fixed es n call e r) n f h same [] history told is
