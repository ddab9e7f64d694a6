use Rattle.std.proofs.Common.{◌≡◌, ◌+◌, ◌*◌, ◌/◌, ◌%◌, ℕ, min, ap, ◌∙◌, rules, arith}
use Rattle.std.specs.Int.{div_ceil}
use Rattle.tdl_expr.specs.Bounds.{upper, lower, broken}
use Rattle.tdl_expr.proofs.Numbers.{upper_positive}
use Rattle.tdl_compile.specs.inside.Sizes.{most_hang}
use Rattle.tdl_compile.proofs.Words.{hang_word}
use Rattle.tdl_compile.proofs.asks.hang_at.Goals as goal
use Rattle.tdl_compile.proofs.asks.hang_at.Goals.{then-lower-gt1, else-lower-gt1}

pub returns-then-hang-upper : goal.returns-then-hang-upper
returns-then-hang-upper c =
    let rate = c.args.rate in
    let part : c.if-lower-gt1.broken ≡ broken rate = elim c.if-lower-gt1.branch [ then-lower-gt1 w ↦ search rules | else-lower-gt1 w ↦ search rules ] in
    let quotient : c.quotient_up.result ≡ div_ceil ((c.args.hang + broken rate) * lower rate) (upper rate) =
    rw (← part, ← c.parts_of-upper.ensures.upper, ← c.parts_of-upper.ensures.lower) c.quotient_up.ensures in
    omega arith

pub returns : goal.returns
returns c =
    let rate = c.args.rate in
    let p = upper rate in
    let s = lower rate in
    let part : c.if-lower-gt1.broken ≡ broken rate = elim c.if-lower-gt1.branch [ then-lower-gt1 w ↦ search rules | else-lower-gt1 w ↦ search rules ] in
    let rest : c.quotient_up-rest.result ≡ div_ceil ((c.args.hang % p + broken rate) * s) p =
    rw (← part, ← c.parts_of-upper.ensures.upper, ← c.parts_of-upper.ensures.lower) c.quotient_up-rest.ensures in
    let whole : c.saturating_mul.result ≡ min (c.args.hang / p * s) most_hang =
    rw (← c.parts_of-upper.ensures.upper, ← c.parts_of-upper.ensures.lower) c.saturating_mul.ensures in
    hang_word c.args.hang (broken rate) p s c.quotient_up-rest.result _ (upper_positive rate c.requires) rest
    (c.saturating_add.ensures ∙ ap (λ (n : ℕ). min (n + c.quotient_up-rest.result) most_hang) whole)
