-- The first three lines of a log.
--     empty_sheet                               a log of no entries
--     first_early, second_early, third_early    the text ends before the line does
--     first_wrong, second_wrong, third_wrong    no log has this line there
--     first_read, second_read, third_read       the lines up to it were read
--     head_is, head_is_not                      what a test of the first line tells
use Rattle.std.proofs.Common.{◌≡◌, ℕ, ◌+◌, ◌^◌, ◌<◌, ◌≤◌, List, [], ◌∷◌, ◌++◌, length, drop, pos, lit≤, refl, sym, ap, ◌∙◌, subst, arith}
use Rattle.std.proofs.lemmas.Bool.{true≢false}
use Rattle.std.proofs.lemmas.Slice.Eq.{bytes_eq-Decides}
use Rattle.std.specs.Prelude.{Bool, true, false, not, codes}
use Rattle.std.specs.Str.{bytes_eq}
use Rattle.std.specs.Fmt.{decimal}
use Rattle.tdl_control.specs.declared.faults.Faulted.{Faulted}
use Rattle.tdl_fraction.specs.Divisor.{gcd}
use Rattle.tdl_fraction.specs.Printing.{print_of}
use Rattle.tdl_fraction.specs.Rational.{Rational, frac, whole, lt_ℚ, lt_ℚ_yes}
use Rattle.tdl_grammar.specs.Faults.{IsFault}
use Rattle.tdl_score.specs.Readings.{IsReading, Reading}
use Rattle.tdl_score.proofs.Entries.{IsLegal-nil}
use Rattle.tdl_tempo.specs.Tempo.{IsCps, Pace}
use Rattle.tdl_log.specs.declared.kinds.LogKind.{LogKind}
use Rattle.tdl_log.specs.declared.kinds.LogKind.TheVariants.{Head}
use Rattle.tdl_log.specs.Log.{Log}
use Rattle.tdl_log.specs.LogGrammar.{IsSheet, RefusesLog, log_grammar}
use Rattle.tdl_log.specs.LogText.{cps_line, end_line, head_line, log_lines, origin_line}
use Rattle.tdl_log.specs.Pieces.{Piece, line, cut}
use Rattle.tdl_log.specs.inside.Walks.{IsReadTo, begun_lines, empty_log}
use Rattle.tdl_log.proofs.LogFronts.{line_fault, none_read, read_more}
use Rattle.tdl_log.proofs.NextLines.{cps_goes, head_goes, origin_goes}

-- ---- logs that begin so
one_cps : IsCps (whole (pos 1))
unfolding frac whole lt_ℚ gcd
one_cps = record { positive = lt_ℚ_yes tt; above_line = lit≤ tt; below_line = lit≤ tt }

abbrev pub from_zero : Rational → Pace
from_zero cps = record { cps = cps; origin = 0 }

pub empty_sheet : (Reads : Reading) (tempo : Pace) → IsCps tempo.cps → tempo.origin < 2 ^ 32 → IsSheet Reads (empty_log tempo)
empty_sheet Reads tempo allowed small = record {
  run = record { cps = allowed; origin = small; legal = IsLegal-nil Reads; rising = tt };
  ports = omega arith;
}

-- why a text is refused that was read up to some offset, and has no line there
abbrev pub Early : Reading → List ℕ → ℕ → Faulted LogKind → Type 0
Early Reads text at fault = (log : Log) (lines later : List (List ℕ)) → IsSheet Reads log → begun_lines log ≡ lines ++ later → IsReadTo lines text at
    → RefusesLog Reads text fault

module _ (Reads : Reading) (text : List ℕ) (at : ℕ) (fault : Faulted LogKind) (early : Early Reads text at fault) where
  pub first_early : at ≡ 0 → RefusesLog Reads text fault
  first_early start =
      early (empty_log (from_zero (whole (pos 1)))) [] (begun_lines (empty_log (from_zero (whole (pos 1)))))
      (empty_sheet Reads (from_zero (whole (pos 1))) one_cps (omega arith)) refl (subst (λ n. IsReadTo [] text n) (sym start) (none_read text))

  pub second_early : IsReadTo (head_line ∷ []) text at → RefusesLog Reads text fault
  second_early read =
      let tempo = from_zero (whole (pos 1)) in
      early (empty_log tempo) (head_line ∷ []) (cps_line tempo ∷ origin_line tempo ∷ []) (empty_sheet Reads tempo one_cps (omega arith)) refl read

  pub third_early : (cps : Rational) → IsCps cps → IsReadTo (head_line ∷ cps_line (from_zero cps) ∷ []) text at → RefusesLog Reads text fault
  third_early cps allowed read =
      let tempo = from_zero cps in
      early (empty_log tempo) (head_line ∷ cps_line tempo ∷ []) (origin_line tempo ∷ []) (empty_sheet Reads tempo allowed (omega arith)) refl read

module _ (Reads : Reading) (reading : IsReading Reads) (text : List ℕ) (at : ℕ) (l : List ℕ) (others : List Piece)
    (next : cut (drop at text) ≡ line l ∷ others) where
  pub first_wrong : at ≡ 0 → (l ≡ head_line → ⊥) → IsFault (log_grammar Reads) (cut text) Head at
  first_wrong start none =
      let tempo = from_zero (whole (pos 1)) in
      line_fault Reads reading (empty_log tempo) [] (log_lines (empty_log tempo)) l text at others (empty_sheet Reads tempo one_cps (omega arith)) refl
      (subst (λ n. IsReadTo [] text n) (sym start) (none_read text)) next (λ other sheet go. none (head_goes other l go))

  pub second_wrong : IsReadTo (head_line ∷ []) text at → ((cps : Rational) → IsCps cps → l ≡ codes "cps " ++ print_of cps → ⊥)
      → IsFault (log_grammar Reads) (cut text) Head at
  second_wrong read none =
      let tempo = from_zero (whole (pos 1)) in
      line_fault Reads reading (empty_log tempo) (head_line ∷ []) (cps_line tempo ∷ origin_line tempo ∷ end_line 0 ∷ []) l text at others
      (empty_sheet Reads tempo one_cps (omega arith)) refl read next
      (λ other sheet go. none other.tempo.cps sheet.run.cps (cps_goes other l go))

  pub third_wrong : (cps : Rational) → IsCps cps → IsReadTo (head_line ∷ cps_line (from_zero cps) ∷ []) text at
      → ((origin : ℕ) → origin < 2 ^ 32 → l ≡ codes "origin " ++ decimal origin → ⊥) → IsFault (log_grammar Reads) (cut text) Head at
  third_wrong cps allowed read none =
      let tempo = from_zero cps in
      line_fault Reads reading (empty_log tempo) (head_line ∷ cps_line tempo ∷ []) (origin_line tempo ∷ end_line 0 ∷ []) l text at others
      (empty_sheet Reads tempo allowed (omega arith)) refl read next
      (λ other sheet go. none other.tempo.origin sheet.run.origin (origin_goes other (cps_line tempo) l go))

-- ---- lines that were read
module _ (text l : List ℕ) (at : ℕ) (next : cut (drop at text) ≡ line l ∷ cut (drop (at + length l + 1) text)) (within : at + length l + 1 ≤ length text) where
  pub first_read : at ≡ 0 → l ≡ head_line → IsReadTo (head_line ∷ []) text (length l + 1)
  first_read start is =
      let more = read_more [] text l at (subst (λ n. IsReadTo [] text n) (sym start) (none_read text)) next within in
      let offset : at + length l + 1 ≡ length l + 1 = omega (arith, start) in
      subst (λ n. IsReadTo (head_line ∷ []) text n) offset (subst (λ (bytes : List ℕ). IsReadTo (bytes ∷ []) text (at + length l + 1)) is more)

  pub second_read : (cps : Rational) → IsReadTo (head_line ∷ []) text at → l ≡ codes "cps " ++ print_of cps
      → IsReadTo (head_line ∷ cps_line (from_zero cps) ∷ []) text (at + length l + 1)
  second_read cps read is =
      subst (λ (bytes : List ℕ). IsReadTo (head_line ∷ bytes ∷ []) text (at + length l + 1)) is (read_more (head_line ∷ []) text l at read next within)

  pub third_read : (tempo : Pace) → IsReadTo (head_line ∷ cps_line (from_zero tempo.cps) ∷ []) text at → l ≡ origin_line tempo
      → IsReadTo (begun_lines (empty_log tempo)) text (at + length l + 1)
  third_read tempo read is =
      subst (λ (bytes : List ℕ). IsReadTo (head_line ∷ cps_line tempo ∷ bytes ∷ []) text (at + length l + 1)) is
      (read_more (head_line ∷ cps_line tempo ∷ []) text l at read next within)

-- ---- what a test of the first line tells
pub head_is : (l : List ℕ) (other : Bool) → other ≡ not (bytes_eq l head_line) → other ≡ false → l ≡ head_line
head_is l other told same = (bytes_eq-Decides l head_line).0 (by (bytes_eq l head_line) (sym told ∙ same))
  where
    by : (b : Bool) → not b ≡ false → b ≡ true
    by true e = refl
    by false e = absurd (true≢false e)

pub head_is_not : (l : List ℕ) (other : Bool) → other ≡ not (bytes_eq l head_line) → other ≡ true → l ≡ head_line → ⊥
head_is_not l other told differs same = true≢false (sym differs ∙ told ∙ ap not ((bytes_eq-Decides l head_line).1 same))
