use Rattle.std.proofs.Common.{◌≡◌, ◌+◌, ◌<◌, [], ◌∷◌, List, length, refl, sym, ap, subst, rules, arith, length-append, ◌∙◌}
use Rattle.tdl_session.specs.inside.Spots.{SpotView, AreNew}
use Rattle.tdl_session.proofs.MeetingPasses.{splits_more, new_more}
use Rattle.tdl_session.proofs.spots.spots_for.Goals as goal

pub loop-pass-preserved : goal.loop-pass-preserved
loop-pass-preserved g c = let S : Type 0 = SpotView g.row.M-Entry.Denot g.row.M-Fixed.Denot g.row.T.Denot in
    let so-far = c.loop-pass.invariant in let items = c.in_ok-push.ensures.items in
    let more : length c.push.new.self.items ≡ length c.loop-pass.spots.items + 1 =
    ap (λ (l : List S). length l) items ∙ length-append c.loop-pass.spots.items (c.of-spot.result ∷ []) in
    let left : length c.loop-pass.spots.items < c.args.count = search rules in record {
      pass = splits_more c.args.pass.now c.loop-pass.pass c.split.new.pass (length c.loop-pass.spots.items) (length c.push.new.self.items) so-far.pass
          c.split.ensures.pass more;
      few = omega (arith, more, left);
      new = subst (AreNew c.args.shared.now c.args.pass.now.next c.args.pass.now.seen) (sym items)
          (new_more c.args.shared.now c.args.pass.now c.loop-pass.pass c.split.result (length c.loop-pass.spots.items) c.loop-pass.spots.items
          c.of-spot.result c.requires.pass so-far.pass refl c.split.ensures.new (ap (λ (s : S). s.pass) c.of-spot.ensures) so-far.new);
    }
