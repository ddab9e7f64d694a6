use Rattle.std.proofs.Common.{arith}
use Rattle.tdl_fraction.proofs.Padding.{padded_after, take_after, room_left, full_after}
use Rattle.tdl_fraction.proofs.digits.Digits.append.Goals as goal

pub invariant_of-result-clause-in_range : goal.invariant_of-result-clause-in_range
invariant_of-result-clause-in_range c =
    let s = c.args.self in
    room_left s.buffer c.args.text.now s.len 41 s.full s.in_range c.requires

pub invariant_of-result-clause-padded : goal.invariant_of-result-clause-padded
invariant_of-result-clause-padded c =
    let s = c.args.self in
    let fits = room_left s.buffer c.args.text.now s.len 41 s.full s.in_range c.requires in
    padded_after s.buffer c.args.text.now _ s.len 41 s.full s.padded fits c.copy_from_slice.ensures.after

pub returns : goal.returns
returns c = take_after c.args.self.buffer c.args.text.now _ c.args.self.len (omega arith) c.copy_from_slice.ensures.after

pub invariant_of-result-clause-full : goal.invariant_of-result-clause-full
invariant_of-result-clause-full c =
    let s = c.args.self in
    let fits = room_left s.buffer c.args.text.now s.len 41 s.full s.in_range c.requires in
    full_after s.buffer c.args.text.now _ s.len 41 s.full fits c.copy_from_slice.ensures.after
