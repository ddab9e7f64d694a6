use Rattle.std.proofs.Common.{arith, refl, sym, ap₂, ◌∙◌}
use Rattle.std.proofs.lemmas.Bool.{false≢true}
use Rattle.tdl_fraction.specs.Rational.{lt_ℚ}
use Rattle.tdl_order.proofs.Rising.{Rises-from_sorted, falls_at}
use Rattle.tdl_order.proofs.is_in_order.Goals as goal

pub returns-then-is_less : goal.returns-then-is_less
returns-then-is_less g c =
    let earlier = sym (ap₂ lt_ℚ c.time.ensures c.time-in-loop-i.ensures) ∙ sym c.is_less.ensures.value ∙ c.if-is_less.true in (
      λ e. absurd (false≢true e),
      λ rises. absurd (falls_at g.K.TimeOf.time_of c.args.items.now c.loop-i.i c.index-items-i.result c.index-items-i-in-loop-i.result
          (omega arith) (omega arith) c.index-items-i.is c.index-items-i-in-loop-i.is earlier rises),
    )

pub returns : goal.returns
returns g c = (λ e. Rises-from_sorted g.K.TimeOf.time_of c.args.items.now (λ k d low lt. c.loop-i.invariant k d low (omega arith)), λ rises. refl)
