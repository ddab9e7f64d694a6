use Rattle.std.proofs.Common.{rules, ◌≡◌, ℕ, Result, Ok, Err, ◌*◌, ◌/◌, pos, nat_abs, IfSome, sym, ap, ◌∙◌, subst, arith}
use Rattle.std.specs.Result.{OkIff, result_ok}
use Rattle.std.proofs.lemmas.Nat.{div-add-mod'}
use Rattle.tdl_fraction.specs.Rational.{whole, ◌*ℚ◌}
use Rattle.tdl_meaning.proofs.RepeatsOfRows.{cycles_at_rate}
use Rattle.tdl_meaning.proofs.repeats.at_rate.Goals as goal

-- of a conversion that has its value where it fits
if_fits : {E : Type 0} (r : Result ℕ E) (Fits : Type 0) (v : ℕ) (P : ℕ → Type 0) → OkIff r Fits v → P v → IfSome (result_ok r) P
if_fits (Ok x) Fits v P is holds = subst P (sym is.1) holds
if_fits (Err e) Fits v P is holds = tt

pub returns-then-asked-by-eq0 : goal.returns-then-asked-by-eq0
returns-then-asked-by-eq0 c =
    let asked = c.args.cycles * c.unsigned_abs.result in
    let size : c.unsigned_abs.result ≡ nat_abs c.args.rate.num = search rules in
    let all : asked / c.denominator-by.result * c.denominator-by.result ≡ asked =
    omega (arith, div-add-mod' asked c.denominator-by.result, c.if-asked-by-eq0.true) in
    let quotient : asked / c.denominator-by.result * c.args.rate.den ≡ c.args.cycles * nat_abs c.args.rate.num =
    ap (λ d. asked / c.denominator-by.result * d) (sym c.denominator-by.ensures.value) ∙ all ∙ ap (λ a. c.args.cycles * a) size in
    let P : ℕ → Type 0 = λ n. whole (pos n) ≡ whole (pos c.args.cycles) *ℚ c.args.rate in
    subst (λ o. IfSome o P) (sym c.ok.ensures.value)
    (if_fits c.try_from.result _ (asked / c.denominator-by.result) P c.try_from.ensures
    (cycles_at_rate c.args.cycles (asked / c.denominator-by.result) c.args.rate c.requires quotient))
