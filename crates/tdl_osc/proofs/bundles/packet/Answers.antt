use Rattle.std.proofs.Common.{pos, ap, ◌∙◌}
use Rattle.std.specs.Int.{w32}
use Rattle.std.proofs.lemmas.Int.{to_z_pos}
use Rattle.tdl_fraction.proofs.Order.{≤ℚ_from_<ℚ}
use Rattle.tdl_osc.specs.Encoding.{osc_string}
use Rattle.tdl_osc.proofs.Messages.{bundle_made}
use Rattle.tdl_osc.proofs.bundles.packet.Goals as goal

pub timetag-requires-clause-to_last : goal.timetag-requires-clause-to_last
timetag-requires-clause-to_last c = ≤ℚ_from_<ℚ c.requires.below_end

pub returns : goal.returns
unfolding osc_string
returns c =
    let size = c.message_size-size in
    let same_size = to_z_pos w32 size.result size.ensures.bound ∙ ap pos (size.ensures.value c.args.tempo) in
    bundle_made c.args.row.now c.args.tempo (pos c.timetag.result) _ _ _ _ _ _ _ _ _ c.timetag.ensures same_size c.in_ok-bytes.ensures.items
    c.in_ok-extend_from_slice.ensures.items c.in_ok-put_time.ensures c.in_ok-put_int.ensures c.in_ok-extend_from_slice-2.ensures.items c.in_ok-put_tags.ensures
    c.in_ok-put_times.ensures c.in_ok-put_controls.ensures
