use Rattle.tdl_tempo.proofs.is_cps.Goals as goal

pub returns-then-is_less : goal.returns-then-is_less
returns-then-is_less c =
    let short = c.has_short_parts.ensures in (
      λ h. record { positive = rw (← c.whole.ensures) (c.is_less.ensures.less.0 c.if-is_less.true); above_line = (short.0 h).0; below_line = (short.0 h).1 },
      λ k. short.1 (k.above_line, k.below_line),
    )
