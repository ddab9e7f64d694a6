use Rattle.std.proofs.Common.{◌≡◌, ◌-◌, ◌≤◌, length}
use Rattle.tdl_session.specs.inside.Spots.{AreNew, after_splits}
use Rattle.tdl_session.proofs.spots.spots_for.Given as goal

abbrev pub invariant-loop-pass : goal.invariant-loop-pass
invariant-loop-pass g l = record {
  pass : l.pass ≡ after_splits l.fn.pass (length l.spots.items);
  few : length l.spots.items ≤ l.count;
  new : AreNew l.shared l.fn.pass.next l.fn.pass.seen l.spots.items;
}

abbrev pub decreases-loop-pass : goal.decreases-loop-pass
decreases-loop-pass g l = l.count - length l.spots.items
