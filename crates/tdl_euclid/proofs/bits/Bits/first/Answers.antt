use Rattle.std.proofs.Common.{◌≡◌, ◌<◌, ◌%◌, length, take, ap, sym, ◌∙◌, arith}
use Rattle.std.proofs.lemmas.Nat.{one_shl}
use Rattle.tdl_euclid.specs.Bits.{bits}
use Rattle.tdl_euclid.proofs.WordLemmas.{length-values, take-bits}
use Rattle.tdl_euclid.proofs.bits.Bits.first.Goals as goal

pub returns : goal.returns
returns c =
    let size : c.self.inside.len ≡ length c.args.self = length-values _ _ _ c.self.view_is in
    let short : c.args.count < 128 = omega arith in
    ap (λ x. bits c.args.count (c.self.inside.word % x)) (one_shl c.args.count 128 short)
    ∙ (sym (take-bits c.args.count c.self.inside.len c.self.inside.word (omega arith))
    ∙ ap (λ xs. take c.args.count xs) c.self.view_is)
