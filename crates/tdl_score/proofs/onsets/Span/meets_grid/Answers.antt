use Rattle.std.proofs.Common.{◌≡◌, ℕ, ◌≤◌, ◌*◌, ◌+◌, ◌-◌, max, min, ap, ◌∙◌, subst, arith}
use Rattle.std.proofs.lemmas.Bool.{ltb-false}
use Rattle.std.specs.Int.{div_ceil}
use Rattle.tdl_fraction.specs.Units.{tick_units}
use Rattle.tdl_score.proofs.Unasked.{between_multiples}
use Rattle.tdl_score.proofs.onsets.Span.meets_grid.Goals as goal

pub returns : goal.returns
returns c fewer =
    let from = c.args.self.from in
    let to = c.args.self.to in
    let cycle = c.args.cycle in
    let start : c.max.result - c.from-begin.result * tick_units ≡ max from (cycle * tick_units) - cycle * tick_units =
    omega (arith, c.from-begin.ensures, c.max.ensures) in
    let stop : c.min.result - c.from-begin.result * tick_units ≡ min to ((cycle + 1) * tick_units) - cycle * tick_units =
    omega (arith, c.from-begin.ensures, c.min.ensures) in
    let counted = λ (units : ℕ). div_ceil (units * c.args.grid) tick_units in
    between_multiples from to cycle c.args.grid c.requires.positive c.requires.begun c.requires.not_over
    (subst (λ n. n ≤ counted (max from (cycle * tick_units) - cycle * tick_units)) (c.multiples_before-2.ensures ∙ ap counted stop)
    (subst (λ n. c.multiples_before-2.result ≤ n) (c.multiples_before.ensures ∙ ap counted start)
    (ltb-false c.multiples_before.result c.multiples_before-2.result fewer)))
