use Rattle.std.proofs.Common.{◌≡◌, ◌==◌, Some, length, ap, sym, ◌∙◌, arith}
use Rattle.std.specs.List.{slice_get}
use Rattle.std.proofs.lemmas.Nat.Bits.{shr_and_one}
use Rattle.tdl_euclid.proofs.WordLemmas.{length-values, get-bits}
use Rattle.tdl_euclid.proofs.bits.Bits.get.Goals as goal

pub returns : goal.returns
returns c =
    let size : c.self.inside.len ≡ length c.args.self = length-values _ _ _ c.self.view_is in
    ap (λ xs. slice_get xs c.args.i) (sym c.self.view_is)
    ∙ (get-bits c.self.inside.len c.args.i c.self.inside.word (omega arith)
    ∙ ap (λ r. Some (r == 1)) (sym (shr_and_one c.self.inside.word c.args.i)))
