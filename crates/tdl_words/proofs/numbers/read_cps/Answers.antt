use Rattle.std.proofs.Common.{◌≡◌, subst, sym, true≢false}
use Rattle.tdl_fraction.specs.Reading.{Reads}
use Rattle.tdl_tempo.specs.Tempo.{IsCps}
use Rattle.tdl_words.proofs.numbers.read_cps.Goals as goal

pub returns-in_err-_allowed-clause-none : goal.returns-in_err-_allowed-clause-none
returns-in_err-_allowed-clause-none c = rw c.from_residual-in_err-_allowed.ensures
    (λ q h.
    let same : q ≡ c.in_ok-cps.cps = c.in_ok-cps.ensures.only q (subst (λ t. Reads t q) (sym c.as_bytes.ensures.value) h.reads) in
    true≢false (sym (c.in_err-_allowed.ensures.found.1 (subst IsCps same h.allowed))))
