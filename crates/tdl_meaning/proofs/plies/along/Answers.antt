use Rattle.std.proofs.Common.{◌-◌, subst, arith}
use Rattle.tdl_fraction.specs.Range.{InRange}
use Rattle.tdl_meaning.proofs.kinds.Pieces.{share_fits, along_fits, along_by_shares}
use Rattle.tdl_meaning.proofs.plies.along.Goals as goal

pub times_plus_over-left-requires-clause-in_range : goal.times_plus_over-left-requires-clause-in_range
times_plus_over-left-requires-clause-in_range c =
    let can = c.requires.can in
    let fits = subst InRange c.start.ensures.value c.start.ensures.in_range in
    rw c.start.ensures.value
    (share_fits c.args.arc.start (c.args.times - c.args.j) c.args.times can.grid can.positive c.requires.some (omega arith) can.start can.fine fits)

pub times_plus_over-passed-requires-clause-in_range : goal.times_plus_over-passed-requires-clause-in_range
times_plus_over-passed-requires-clause-in_range c =
    let can = c.requires.can in
    let fits = subst InRange c.stop.ensures.value c.stop.ensures.in_range in
    rw c.stop.ensures.value
    (share_fits c.args.arc.stop c.args.j c.args.times can.grid can.positive c.requires.some c.requires.within can.stop can.fine fits)

pub add-requires : goal.add-requires
add-requires c =
    let start = subst InRange c.start.ensures.value c.start.ensures.in_range in
    let stop = subst InRange c.stop.ensures.value c.stop.ensures.in_range in
    rw (
      c.times_plus_over-left.ensures,
      c.times_plus_over-passed.ensures,
      c.start.ensures.value,
      c.stop.ensures.value,
      along_by_shares c.args.times c.args.arc c.args.j c.requires.some c.requires.within,
    )
    (along_fits c.args.times c.args.arc c.args.j c.requires.can c.requires.some c.requires.within start stop)

pub returns : goal.returns
returns c =
    rw (c.add.ensures, c.times_plus_over-left.ensures, c.times_plus_over-passed.ensures, c.start.ensures.value, c.stop.ensures.value)
    (along_by_shares c.args.times c.args.arc c.args.j c.requires.some c.requires.within)
