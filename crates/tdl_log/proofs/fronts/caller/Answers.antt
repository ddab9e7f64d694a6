use Rattle.std.proofs.Common.{◌≡◌, inl, inr, sym, subst, ℕ, ◌∷◌, ◌++◌}
use Rattle.std.specs.Fmt.{decimal}
use Rattle.tdl_log.proofs.ReadFronts.{if_none_always, is_caller, no_blank, no_caller}
use Rattle.tdl_log.proofs.fronts.caller.Goals as goal
use Rattle.tdl_log.proofs.fronts.caller.Goals.{then-digit-lt48-via-then-digit-lt48, then-digit-lt48-via-else-digit-lt48+then-digit-gt56}

pub returns-then-digit-lt48-clause-none : goal.returns-then-digit-lt48-clause-none
returns-then-digit-lt48-clause-none c =
    elim c.then-digit-lt48.branch [
      | then-digit-lt48-via-then-digit-lt48 w ↦
          no_caller c.in_ok-digit.digit.now c.args.text.now c.in_ok-digit.rest.now c.in_ok-digit.ensures.cases.0 (inl w.if-digit-lt48.true)
      | then-digit-lt48-via-else-digit-lt48+then-digit-gt56 w ↦
          no_caller c.in_ok-digit.digit.now c.args.text.now c.in_ok-digit.rest.now c.in_ok-digit.ensures.cases.0 (inr w.if-digit-gt56.true)
    ]

pub returns-in_err-after-clause-none : goal.returns-in_err-after-clause-none
returns-in_err-after-clause-none c =
    if_none_always c.from_residual-in_err-after.result
    (no_blank c.in_ok-digit.digit.now c.args.text.now c.in_ok-digit.rest.now c.in_ok-digit.ensures.cases.0 c.in_err-after.ensures.none)

pub returns-clause-some : goal.returns-clause-some
returns-clause-some c =
    let P : ℕ → Type 0 = λ n. c.args.text.now ≡ decimal n ++ 32 ∷ c.in_ok-after.field-0.now in
    subst P (sym c.from.ensures)
    (is_caller c.in_ok-digit.digit.now c.args.text.now c.in_ok-digit.rest.now c.in_ok-after.field-0.now c.in_ok-digit.ensures.cases.0
    c.if-digit-lt48.false c.if-digit-gt56.false c.in_ok-after.ensures.some)
