use Rattle.std.proofs.Common.{◌≡◌, ◌+◌, ◌≤◌, ◌++◌, length}
use Rattle.std.specs.Vec.{vec_len, vec_capacity}
use Rattle.tdl_session.specs.inside.Spots.{ends_of}
use Rattle.tdl_session.proofs.MeetingPasses.{Meeting}
use Rattle.tdl_session.proofs.meetings.meet_all.Given as goal

abbrev pub invariant-loop-spot : goal.invariant-loop-spot
invariant-loop-spot g l = record {
  met : Meeting g.M.Chronicle.by l.fn.pass l.pass l.yielded;
  room : vec_len l.ends ≤ vec_len l.fn.ends + length l.yielded;
  capacity : vec_capacity l.ends ≡ vec_capacity l.fn.ends;
  ends : l.ends.items ≡ l.fn.ends.items ++ ends_of l.yielded;
}
