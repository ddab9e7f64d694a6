use Rattle.std.proofs.Common.{◌≡◌, ◌+◌, ◌++◌, length, ap, ◌∙◌, arith}
use Rattle.tdl_euclid.specs.Bits.{bits}
use Rattle.tdl_euclid.proofs.WordLemmas.{length-values, bits-join, shl_or, join_below}
use Rattle.tdl_euclid.proofs.bits.Bits.append.Goals as goal

pub overflow_shl-result : goal.overflow_shl-result
overflow_shl-result c = omega (arith, length-values _ _ _ c.self.view_is, length-values _ _ _ c.next.view_is)

pub invariant_of-result : goal.invariant_of-result
invariant_of-result c =
    let own : c.self.inside.len ≡ length c.args.self = length-values _ _ _ c.self.view_is in
    let more : c.next.inside.len ≡ length c.args.next = length-values _ _ _ c.next.view_is in
    record {
      some = omega arith;
      short = omega arith;
      within = rw (shl_or c.self.inside.len c.next.inside.len c.self.inside.word c.next.inside.word c.self.invariant.within c.next.invariant.within
          (omega arith))
          (join_below c.self.inside.len c.next.inside.len c.self.inside.word c.next.inside.word c.self.invariant.within c.next.invariant.within);
    }

pub returns : goal.returns
returns c =
    let own : c.self.inside.len ≡ length c.args.self = length-values _ _ _ c.self.view_is in
    let more : c.next.inside.len ≡ length c.args.next = length-values _ _ _ c.next.view_is in
    ap (λ w. bits (c.self.inside.len + c.next.inside.len) w)
    (shl_or c.self.inside.len c.next.inside.len c.self.inside.word c.next.inside.word c.self.invariant.within c.next.invariant.within (omega arith))
    ∙ (bits-join c.self.inside.len c.next.inside.len c.self.inside.word c.next.inside.word c.self.invariant.within
    ∙ (ap (λ xs. xs ++ bits c.next.inside.len c.next.inside.word) c.self.view_is
    ∙ ap (λ ys. c.args.self ++ ys) c.next.view_is))
