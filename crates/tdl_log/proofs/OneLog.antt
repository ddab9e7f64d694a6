-- A log is told by its text.
--     IsPrintable      all that its text needs
--     log_is_lines     its lines have no line feed
--     printable        a run's log has a text
--     log_tells        two of one text are the same
use Rattle.std.proofs.Common.{◌≡◌, ℕ, ◌+◌, ◌^◌, ◌<◌, List, [], ◌∷◌, length, refl, arith}
use Rattle.std.specs.Prelude.{codes}
use Rattle.std.specs.Fmt.{decimal}
use Rattle.std.proofs.lemmas.Fmt.{decimal_injective}
use Rattle.std.proofs.lemmas.List.{append_cancel_left}
use Rattle.tdl_fraction.specs.Printing.{print_of}
use Rattle.tdl_fraction.specs.Range.{InRange}
use Rattle.tdl_fraction.specs.Rational.{Rational}
use Rattle.tdl_fraction.proofs.Over.{den_positive}
use Rattle.tdl_fraction.proofs.Printed.{print_of-injective}
use Rattle.tdl_tempo.specs.Tempo.{IsCps, Pace}
use Rattle.tdl_score.specs.declared.histories.Entry.{Entry}
use Rattle.tdl_score.specs.Readings.{IsReading, Reading}
use Rattle.tdl_log.specs.declared.ends.Ending.{Ending}
use Rattle.tdl_log.specs.Log.{IsRunLog, Log, RiseFrom}
use Rattle.tdl_log.specs.LogText.{cps_line, head_line, log_lines, log_text, origin_line}
use Rattle.tdl_log.proofs.CutLines.{AreLines, lacks_both, lines_once}
use Rattle.tdl_log.proofs.OneLine.{ArePlain, ArePorts, behind_are_lines, lines_behind, rest_once}
use Rattle.tdl_log.proofs.PlainBytes.{decimal_lacks, print_lacks}
use Rattle.tdl_log.proofs.Printable.{legal_is_plain}

-- all that the text needs
pub record IsPrintable (log : Log) : Type 0 where
  pub cps : InRange log.tempo.cps
  pub origin : log.tempo.origin < 2 ^ 64
  pub plain : ArePlain log.history
  pub few : length log.history < 2 ^ 32
  pub ports : ArePorts log.ends

same_pace : (p q : Rational) (m n : ℕ) → p ≡ q → m ≡ n
    → (let a : Pace = record { cps = p; origin = m } in a) ≡ (let b : Pace = record { cps = q; origin = n } in b)
same_pace p q m n e f = cc

same_log : (s t : Pace) (hs ks : List Entry) (es fs : List Ending) → s ≡ t → hs ≡ ks → es ≡ fs
    → (let a : Log = record { tempo = s; history = hs; ends = es } in a) ≡ (let b : Log = record { tempo = t; history = ks; ends = fs } in b)
same_log s t hs ks es fs p q r = cc

pub log_is_lines : (log : Log) → IsPrintable log → AreLines (log_lines log)
log_is_lines log p = (
  refl,
  (
    lacks_both 10 (codes "cps ") (print_of log.tempo.cps) refl (print_lacks 10 log.tempo.cps (omega arith) p.cps),
    (
      lacks_both 10 (codes "origin ") (decimal log.tempo.origin) refl (decimal_lacks 10 log.tempo.origin (omega arith) p.origin),
      behind_are_lines 0 log.history log.ends (length log.history) (omega (arith, p.few)) (omega (arith, p.few)) p.plain p.ports,
    ),
  ),
)

pub three : {A : Type 0} (a b c x y z : A) (r s : List A) → a ∷ (b ∷ (c ∷ r)) ≡ x ∷ (y ∷ (z ∷ s)) → (b ≡ y) × (c ≡ z) × (r ≡ s)
three a b c x y z r s e = (cc, cc, cc)

log_once : (one other : Log) → IsPrintable one → IsPrintable other → log_text one ≡ log_text other → one ≡ other
unfolding log_text
log_once one other p q e =
    let lines = lines_once (log_lines one) (log_lines other) (log_is_lines one p) (log_is_lines other q) e in
    let parts = three head_line (cps_line one.tempo) (origin_line one.tempo) head_line (cps_line other.tempo) (origin_line other.tempo)
    (lines_behind 0 one.history one.ends (length one.history)) (lines_behind 0 other.history other.ends (length other.history)) lines in
    let cps : one.tempo.cps ≡ other.tempo.cps = print_of-injective one.tempo.cps other.tempo.cps p.cps q.cps
    (append_cancel_left (codes "cps ") (print_of one.tempo.cps) (print_of other.tempo.cps) parts.0) in
    let origin : one.tempo.origin ≡ other.tempo.origin = decimal_injective one.tempo.origin other.tempo.origin p.origin q.origin
    (append_cancel_left (codes "origin ") (decimal one.tempo.origin) (decimal other.tempo.origin) parts.1) in
    let rest = rest_once 0 one.history other.history one.ends other.ends (length one.history) (length other.history)
    (omega (arith, p.few)) (omega (arith, q.few)) p.plain q.plain p.ports q.ports parts.2 in
    same_log one.tempo other.tempo one.history other.history one.ends other.ends
    (same_pace one.tempo.cps other.tempo.cps one.tempo.origin other.tempo.origin cps origin) rest.0 rest.1

pub cps_in_range : (cps : Rational) → IsCps cps → InRange cps
cps_in_range cps is = let some = den_positive cps in record { fine = omega (arith, is.below_line); near = omega (arith, is.above_line, some) }

rising_are_ports : (port : ℕ) (ends : List Ending) → RiseFrom port ends → ArePorts ends
rising_are_ports port [] rise = tt
rising_are_ports port (ending ∷ ends) rise = (rise.1, rising_are_ports (ending.port + 1) ends rise.2)

module _ (Reads : Reading) (reading : IsReading Reads) where
  pub printable : (log : Log) → IsRunLog Reads log → IsPrintable log
  printable log is =
      let plain = legal_is_plain Reads reading log.history is.legal in
      record {
        cps = cps_in_range log.tempo.cps is.cps;
        origin = omega (arith, is.origin);
        plain = plain.0;
        few = plain.1;
        ports = rising_are_ports 0 log.ends is.rising;
      }

  pub log_tells : (one other : Log) → IsRunLog Reads one → IsRunLog Reads other → log_text one ≡ log_text other → one ≡ other
  log_tells one other p q e = log_once one other (printable one p) (printable other q) e
