use Rattle.std.proofs.Common.{◌-◌, map, not, ap, ◌∙◌, arith}
use Rattle.std.proofs.lemmas.Nat.{pow_pos}
use Rattle.tdl_euclid.specs.Bits.{bits}
use Rattle.tdl_euclid.proofs.WordLemmas.{ones-shr, map-not-bits}
use Rattle.tdl_euclid.proofs.bits.Bits.complement.Goals as goal

pub overflow_sub-result-2 : goal.overflow_sub-result-2
overflow_sub-result-2 c = omega (arith, ones-shr c.self.inside.len c.self.invariant.short)

pub invariant_of-result : goal.invariant_of-result
invariant_of-result c = record {
  some = omega arith;
  short = omega arith;
  within = omega (arith, ones-shr c.self.inside.len c.self.invariant.short, pow_pos c.self.inside.len);
}

pub returns : goal.returns
returns c =
    ap (λ x. bits c.self.inside.len (x - c.self.inside.word)) (ones-shr c.self.inside.len c.self.invariant.short)
    ∙ (map-not-bits c.self.inside.len c.self.inside.word c.self.invariant.within
    ∙ ap (λ xs. map not xs) c.self.view_is)
