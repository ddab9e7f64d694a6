-- How served ports ended.
--     ends_by_cause    each end has its cause
--     unfailed_end     where no object of the port failed, it is one of three
use Rattle.std.proofs.Common.{◌≡◌, ◌≢◌, ℕ, ◌+◌, ◌⊎◌, inl, inr, IsTrue, List, Option, length, sym, ap, ◌∙◌, arith}
use Rattle.std.proofs.lemmas.Bool.{false≢true}
use Rattle.tdl_lines.specs.Lines.{max_input}
use Rattle.tdl_tempo.specs.Tempo.{Pace}
use Rattle.tdl_score.specs.declared.histories.Entry.{Entry}
use Rattle.tdl_log.specs.declared.ends.PortEnd.{PortEnd}
use Rattle.tdl_log.specs.declared.ends.PortEnd.TheVariants.{Eof, Finish, Fault, Spent, Memory, Stopped}
use Rattle.tdl_answer.specs.Account.{Account}
use Rattle.tdl_answer.specs.Taken.{Begun, Taken}
use Rattle.tdl_perform.specs.Port.{AllAnswered, PortEndsAs, ServesPort}
use Rattle.tdl_app.specs.Complete.{EndsByCause, Rose}

-- ends are told apart
abbrev place : PortEnd → ℕ
place Eof = 0
place Finish = 1
place Fault = 2
place Spent = 3
place Memory = 4
place Stopped = 5

apart : {end one other : PortEnd} → (place one ≡ place other → ⊥) → end ≡ one → end ≡ other → ⊥
apart differ is also = differ (ap place (sym is ∙ also))

module _ {source sink : Account ℕ} {script : Taken source} {begun : Option Begun} {others : List (List ℕ)} {end : PortEnd} where
  eof_only : PortEndsAs script begun others sink end → end ≡ Eof → IsTrue script.ended × AllAnswered begun others
  eof_only (PortEndsAs.eof is ended all) e = (ended, all)
  eof_only (PortEndsAs.spent is past all) e = absurd (apart (λ p. omega (arith, p)) is e)
  eof_only (PortEndsAs.lost is rose counted unended all) e = absurd (apart (λ p. omega (arith, p)) is e)
  eof_only (PortEndsAs.broken is rose some) e = absurd (apart (λ p. omega (arith, p)) is e)
  eof_only (PortEndsAs.memory is unended) e = absurd (apart (λ p. omega (arith, p)) is e)

  eof_there : PortEndsAs script begun others sink end → IsTrue script.ended × AllAnswered begun others → end ≡ Eof
  eof_there (PortEndsAs.eof is ended all) h = is
  eof_there (PortEndsAs.spent is past all) h = absurd (omega (arith, past, (script.at_end h.0).counted))
  eof_there (PortEndsAs.lost is rose counted unended all) h = absurd (false≢true (sym unended ∙ h.0))
  eof_there (PortEndsAs.broken is rose some) h = absurd (some h.1.0)
  eof_there (PortEndsAs.memory is unended) h = absurd (unended h.0 h.1)

  spent_only : PortEndsAs script begun others sink end → end ≡ Spent → (length script.bytes ≡ max_input + 1) × (end ≢ Fault) × (end ≢ Memory)
  spent_only (PortEndsAs.eof is ended all) e = absurd (apart (λ p. omega (arith, p)) is e)
  spent_only (PortEndsAs.spent is past all) e = (past, apart (λ p. omega (arith, p)) is, apart (λ p. omega (arith, p)) is)
  spent_only (PortEndsAs.lost is rose counted unended all) e = absurd (apart (λ p. omega (arith, p)) is e)
  spent_only (PortEndsAs.broken is rose some) e = absurd (apart (λ p. omega (arith, p)) is e)
  spent_only (PortEndsAs.memory is unended) e = absurd (apart (λ p. omega (arith, p)) is e)

  spent_there : PortEndsAs script begun others sink end → (length script.bytes ≡ max_input + 1) × (end ≢ Fault) × (end ≢ Memory) → end ≡ Spent
  spent_there (PortEndsAs.eof is ended all) h = absurd (omega (arith, h.0, (script.at_end ended).counted))
  spent_there (PortEndsAs.spent is past all) h = is
  spent_there (PortEndsAs.lost is rose counted unended all) h = absurd (h.1 is)
  spent_there (PortEndsAs.broken is rose some) h = absurd (h.1 is)
  spent_there (PortEndsAs.memory is unended) h = absurd (h.2 is)

  fault_only : PortEndsAs script begun others sink end → end ≡ Fault → Rose source ⊎ Rose sink
  fault_only (PortEndsAs.eof is ended all) e = absurd (apart (λ p. omega (arith, p)) is e)
  fault_only (PortEndsAs.spent is past all) e = absurd (apart (λ p. omega (arith, p)) is e)
  fault_only (PortEndsAs.lost is rose counted unended all) e = inl rose
  fault_only (PortEndsAs.broken is rose some) e = inr rose
  fault_only (PortEndsAs.memory is unended) e = absurd (apart (λ p. omega (arith, p)) is e)

  never : PortEndsAs script begun others sink end → (end ≢ Finish) × (end ≢ Stopped)
  never (PortEndsAs.eof is ended all) = (apart (λ p. omega (arith, p)) is, apart (λ p. omega (arith, p)) is)
  never (PortEndsAs.spent is past all) = (apart (λ p. omega (arith, p)) is, apart (λ p. omega (arith, p)) is)
  never (PortEndsAs.lost is rose counted unended all) = (apart (λ p. omega (arith, p)) is, apart (λ p. omega (arith, p)) is)
  never (PortEndsAs.broken is rose some) = (apart (λ p. omega (arith, p)) is, apart (λ p. omega (arith, p)) is)
  never (PortEndsAs.memory is unended) = (apart (λ p. omega (arith, p)) is, apart (λ p. omega (arith, p)) is)

  pub unfailed_end : PortEndsAs script begun others sink end → ¬ (Rose source) → ¬ (Rose sink) → (end ≡ Eof) ⊎ ((end ≡ Spent) ⊎ (end ≡ Memory))
  unfailed_end (PortEndsAs.eof is ended all) kept too = inl is
  unfailed_end (PortEndsAs.spent is past all) kept too = inr (inl is)
  unfailed_end (PortEndsAs.lost is rose counted unended all) kept too = absurd (kept rose)
  unfailed_end (PortEndsAs.broken is rose some) kept too = absurd (too rose)
  unfailed_end (PortEndsAs.memory is unended) kept too = inr (inr is)

pub ends_by_cause : {tempo : Pace} {number : ℕ} {history : List Entry} {source sink : Account ℕ} {end : PortEnd}
    (served : ServesPort tempo number history source sink end) → EndsByCause served
ends_by_cause served = record {
  eof = (eof_only served.ended, eof_there served.ended);
  spent = (spent_only served.ended, spent_there served.ended);
  fault = fault_only served.ended;
  neither = never served.ended;
}
