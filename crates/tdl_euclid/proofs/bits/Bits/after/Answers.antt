use Rattle.std.proofs.Common.{◌≡◌, ◌-◌, ◌+◌, length, drop, ap, sym, ◌∙◌, arith}
use Rattle.std.proofs.lemmas.Nat.{shr_below}
use Rattle.tdl_euclid.proofs.WordLemmas.{length-values, drop-bits}
use Rattle.tdl_euclid.proofs.bits.Bits.after.Goals as goal

pub overflow_sub-result : goal.overflow_sub-result
overflow_sub-result c = omega (arith, length-values _ _ _ c.self.view_is)

pub invariant_of-result : goal.invariant_of-result
invariant_of-result c =
    let size : c.self.inside.len ≡ length c.args.self = length-values _ _ _ c.self.view_is in
    let parts : c.self.inside.len ≡ (c.self.inside.len - c.args.count) + c.args.count = omega arith in
    record {
      some = omega arith;
      short = omega arith;
      within = shr_below c.self.inside.word (c.self.inside.len - c.args.count) c.args.count (rw parts at c.self.invariant.within);
    }

pub returns : goal.returns
returns c =
    let size : c.self.inside.len ≡ length c.args.self = length-values _ _ _ c.self.view_is in
    sym (drop-bits c.args.count c.self.inside.len c.self.inside.word (omega arith))
    ∙ ap (λ xs. drop c.args.count xs) c.self.view_is
