-- Neither loop leaves a blank at its end.
use Rattle.std.proofs.Common.{◌≡◌, ◌-◌, ◌<◌, length, get_or, arith}
use Rattle.tdl_line_texts.proofs.Trimming.{trimmed}
use Rattle.tdl_script.proofs.lines.trimmed.Goals.{then-loop-start-test+else-text-start-eq32, else-loop-start-test}
use Rattle.tdl_script.proofs.lines.trimmed.Goals.{then-loop-end-test+else-text-end-eq32, else-loop-end-test}
use Rattle.tdl_script.proofs.lines.trimmed.Goals as goal

pub returns : goal.returns
returns c =
    let text = c.args.text.now in
    let start = c.loop-start.start in
    let end = c.loop-end.end in
    let first : start < length text → get_or text start 0 ≡ 32 → ⊥ = λ inside e. elim c.loop-start-test.branch [
      | then-loop-start-test+else-text-start-eq32 w ↦ absurd (omega (arith, w.if-text-start-eq32, e))
      | else-loop-start-test w ↦ absurd (omega (arith, w.loop-start-test, inside))
    ] in
    let last : start < end → get_or text (end - 1) 0 ≡ 32 → ⊥ = λ inside e. elim c.loop-end-test.branch [
      | then-loop-end-test+else-text-end-eq32 w ↦ absurd (omega (arith, w.if-text-end-eq32, e))
      | else-loop-end-test w ↦ absurd (omega (arith, w.loop-end-test, inside))
    ] in
    trimmed text start end c.loop-end.invariant.0 c.loop-end.invariant.1 c.loop-start.invariant.1 c.loop-end.invariant.2 first last
