-- A text with a `"` is an expression, and another a text of sounds.
use Rattle.std.specs.Prelude.{Contains}
use Rattle.std.proofs.Common.{rules, ◌≡◌, true, false}
use Rattle.std.proofs.lemmas.Bool.Decides.{not_from_Decides}
use Rattle.std.proofs.lemmas.Result.{err_from_is_err_and}
use Rattle.tdl_control.specs.declared.faults.Faulted.TheVariants.{At}
use Rattle.tdl_line_machine.specs.declared.faults.LineKind.TheVariants.{Mini}
use Rattle.tdl_line_texts.proofs.KeptTexts.{valid_alone}
use Rattle.tdl_script.proofs.PatternTexts.{has_quote, pattern_alone, pattern_refused, sounds_refused}
use Rattle.tdl_script.proofs.lines.read_pattern.Goals as goal

pub returns-in-Err-At-clause-exact : goal.returns-in-Err-At-clause-exact
returns-in-Err-At-clause-exact c =
    let text = c.args.text.now in
    let missed : c.contains.result ≡ false = (search rules) in
    let none : Contains text 34 → ⊥ = not_from_Decides c.contains.result (has_quote text c.contains.result c.contains.ensures.cases) missed in
    λ p is. pattern_alone text (At (Mini c.in-Err-At.kind) c.in-Err-At.at)
    (sounds_refused text c.in-Err-At.kind c.in-Err-At.at c.in_ok-check_length.ensures.ok none (rw c.in-Err-At.field-0-is at c.in-Err-At.ensures.refused)) p is

pub returns-in_err-expr-clause-exact : goal.returns-in_err-expr-clause-exact
returns-in_err-expr-clause-exact c =
    let text = c.args.text.now in
    let met : c.contains.result ≡ true = (search rules) in
    let quoted : Contains text 34 = (has_quote text c.contains.result c.contains.ensures.cases).0 met in
    let p = err_from_is_err_and c.from_residual-in_err-expr.result c.from_residual-in_err-expr.ensures.1 in
    rw (p.1, p.2) (λ q is. pattern_alone text _ (pattern_refused text _ quoted c.in_err-expr.ensures.refused) q is)

pub invariant_of-result-in-Pattern : goal.invariant_of-result-in-Pattern
invariant_of-result-in-Pattern c = record {
  valid = valid_alone c.args.text.now c.in-Pattern.expr (rw c.in-Pattern.is at c.in_ok-expr.ensures.whole);
}
