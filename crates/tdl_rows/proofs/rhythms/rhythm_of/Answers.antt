use Rattle.std.proofs.Common.{◌≡◌, ◌^◌, ◌≤◌, ℤ, ℕ, nat_abs, to_z, of_z, ap, ap₂, ◌∙◌, arith}
use Rattle.std.specs.Int.{w32, w128}
use Rattle.std.proofs.lemmas.Int.{ints}
use Rattle.std.proofs.lemmas.Result.{IfOk-at_ok}
use Rattle.tdl_euclid.specs.Euclid.{euclid}
use Rattle.tdl_rows.proofs.HitSteps.{rhythm_taken, few_hits}
use Rattle.tdl_rows.proofs.rhythms.rhythm_of.Goals as goal

-- a small number, as the program passes it
passed : (n m : ℤ) → n ≡ m → nat_abs m ≤ 2 ^ 30 → to_z w32 (of_z w32 (to_z w128 (of_z w128 n))) ≡ m
passed n m e h = omega (arith, ints, ap nat_abs e)

pub returns-clause-value : goal.returns-clause-value
returns-clause-value c =
    let taken = rhythm_taken c.args.hits.num c.args.steps.num c.requires.rhythm in
    let few = few_hits c.args.hits.num (nat_abs c.args.steps.num) taken in
    let hits = passed c.numerator-2.result c.args.hits.num c.numerator-2.ensures.value (omega arith) in
    let from = passed c.numerator-3.result c.args.from.num c.numerator-3.ensures.value c.requires.from in
    let steps : c.unsigned_abs-steps.result ≡ nat_abs c.args.steps.num = omega (arith, ints) in
    let is = IfOk-at_ok _ c.unwrap.ensures c.rhythm.ensures.taken in
    is.1 ∙ (ap₂ (λ (k r : ℤ). euclid k c.unsigned_abs-steps.result r) hits from ∙ ap (λ (n : ℕ). euclid c.args.hits.num n c.args.from.num) steps)
