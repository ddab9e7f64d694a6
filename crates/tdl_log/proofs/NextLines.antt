-- The lines with which a log goes on.
--     next_line          what stands where the lines of another log part from those of this one
--     next_is            so it may stand next
--     sheet_with         what may stand keeps a log
--     lines_with         and its line stands behind those of the log
--     rising_more        a port may stand where it is not below the least one
--     head_goes, cps_goes, origin_goes    the lines of the head
use Rattle.std.proofs.Common.{◌≡◌, ℕ, suc, ◌+◌, ◌^◌, ◌<◌, ◌≤◌, false, List, [], ◌∷◌, ◌++◌, length, map, refl, sym, ap, ◌∙◌, subst, append_assoc}
use Rattle.std.proofs.Common.{append-nil, arith, length-append}
use Rattle.std.proofs.lemmas.List.{map-append}
use Rattle.tdl_score.specs.declared.histories.Entry.{Entry}
use Rattle.tdl_score.specs.Readings.{IsReading, Reading}
use Rattle.tdl_score.proofs.Entries.{IsLegal-append}
use Rattle.tdl_tempo.specs.Tempo.{Pace}
use Rattle.tdl_log.specs.declared.ends.Ending.{Ending}
use Rattle.tdl_log.specs.declared.walks.Line.{Line}
use Rattle.tdl_log.specs.declared.walks.Line.TheVariants as told
use Rattle.tdl_log.specs.Log.{AreRising, Log, RiseFrom}
use Rattle.tdl_log.specs.LogGrammar.{IsSheet}
use Rattle.tdl_log.specs.LogText.{cps_line, end_line, entry_line, entry_lines, head_line, log_lines, origin_line, port_line}
use Rattle.tdl_log.specs.inside.Walks.{IsNext, MayStand, begun_lines, is_end, least_from, least_port, line_of, with_line}
use Rattle.tdl_log.proofs.CutLines.{fronts_differ}
use Rattle.tdl_log.proofs.LogFronts.{Goes}
use Rattle.tdl_log.proofs.OneLine.{ArePlain, ArePorts, entry_once, heads, lines_behind, lines_last, no_entry, no_last, port_once, tails}
use Rattle.tdl_log.proofs.OneLog.{printable}

-- ---- ports, and the last line
pub data NextPort (es fs : List Ending) (count : ℕ) (l : List ℕ) : Type 0 where
  a_port : (f : Ending) (later : List Ending) → fs ≡ es ++ f ∷ later → l ≡ port_line f → NextPort es fs count l
  the_last : fs ≡ es → l ≡ end_line count → NextPort es fs count l

port_more : (e f : Ending) (es fs : List Ending) (count : ℕ) (l : List ℕ) → f ≡ e → NextPort es fs count l → NextPort (e ∷ es) (f ∷ fs) count l
port_more e f es fs count l here (a_port g later same is) =
    a_port g later (ap (λ (z : Ending). z ∷ fs) here ∙ ap (λ (zs : List Ending). e ∷ zs) same) is
port_more e f es fs count l here (the_last same is) =
    the_last (ap (λ (z : Ending). z ∷ fs) here ∙ ap (λ (zs : List Ending). e ∷ zs) same) is

next_port : (es fs : List Ending) (count : ℕ) (l : List ℕ) (more : List (List ℕ)) → ArePorts es → ArePorts fs
    → lines_last fs count ≡ map port_line es ++ l ∷ more → NextPort es fs count l
next_port [] [] count l more p q e = the_last refl (sym (heads (end_line count) l [] more e))
next_port [] (f ∷ fs) count l more p q e = a_port f fs refl (sym (heads (port_line f) l (lines_last fs count) more e))
next_port (x ∷ es) [] count l more p q e =
    absurd (fronts_differ (end_line count) (port_line x) (heads (end_line count) (port_line x) [] (map port_line es ++ l ∷ more) e) refl)
next_port (x ∷ es) (f ∷ fs) count l more p q e =
    let one = lines_last fs count in
    let other = map port_line es ++ l ∷ more in
    port_more x f es fs count l (port_once f x q.0 p.0 (heads (port_line f) (port_line x) one other e))
    (next_port es fs count l more p.1 q.1 (tails (port_line f) (port_line x) one other e))

-- ---- entries
pub data NextLine (place : ℕ) (hs ks : List Entry) (es fs : List Ending) (count : ℕ) (l : List ℕ) : Type 0 where
  an_entry : (k : Entry) (later : List Entry) → ks ≡ hs ++ k ∷ later → es ≡ [] → l ≡ entry_line (place + length hs) k → NextLine place hs ks es fs count l
  behind : ks ≡ hs → NextPort es fs count l → NextLine place hs ks es fs count l

entry_more : (place : ℕ) (h k : Entry) (hs ks : List Entry) (es fs : List Ending) (count : ℕ) (l : List ℕ) → k ≡ h → NextLine (place + 1) hs ks es fs count l
    → NextLine place (h ∷ hs) (k ∷ ks) es fs count l
entry_more place h k hs ks es fs count l here (an_entry x later same none is) =
    an_entry x later (ap (λ (z : Entry). z ∷ ks) here ∙ ap (λ (zs : List Entry). h ∷ zs) same) none
    (is ∙ ap (λ n. entry_line n x) (one_on place (length hs)))
  where
    one_on : (m n : ℕ) → m + 1 + n ≡ m + suc n
    one_on m n = omega arith
entry_more place h k hs ks es fs count l here (behind same next) =
    behind (ap (λ (z : Entry). z ∷ ks) here ∙ ap (λ (zs : List Entry). h ∷ zs) same) next

-- the lines behind the head up to those of the ports
abbrev pub begun_behind : ℕ → List Entry → List Ending → List (List ℕ)
begun_behind place entries ends = entry_lines place entries ++ map port_line ends

add_none : (n : ℕ) → n ≡ n + 0
add_none n = omega arith

pub next_line : (place : ℕ) (hs ks : List Entry) (es fs : List Ending) (count : ℕ) (l : List ℕ) (more : List (List ℕ)) → place + length hs < 2 ^ 64
    → place + length ks < 2 ^ 64 → ArePlain hs → ArePlain ks → ArePorts es → ArePorts fs
    → lines_behind place ks fs count ≡ begun_behind place hs es ++ l ∷ more → NextLine place hs ks es fs count l
next_line place [] [] es fs count l more few little p q r s e = behind refl (next_port es fs count l more r s e)
next_line place [] (k ∷ ks) [] fs count l more few little p q r s e =
    an_entry k ks refl refl
    (sym (heads (entry_line place k) l (lines_behind (place + 1) ks fs count) more e) ∙ ap (λ n. entry_line n k) (add_none place))
next_line place [] (k ∷ ks) (x ∷ es) fs count l more few little p q r s e =
    absurd (no_entry place k (port_line x) (omega arith)
    (heads (entry_line place k) (port_line x) (lines_behind (place + 1) ks fs count) (map port_line es ++ l ∷ more) e) (omega arith))
next_line place (h ∷ hs) [] es fs count l more few little p q r s e =
    absurd (no_last place h (begun_behind (place + 1) hs es ++ l ∷ more) fs count (omega arith) (sym e))
next_line place (h ∷ hs) (k ∷ ks) es fs count l more few little p q r s e =
    let one = lines_behind (place + 1) ks fs count in
    let other = begun_behind (place + 1) hs es ++ l ∷ more in
    entry_more place h k hs ks es fs count l (entry_once place k h q.0 p.0 (heads (entry_line place k) (entry_line place h) one other e))
    (next_line (place + 1) hs ks es fs count l more (omega arith) (omega arith) p.1 q.1 r s (tails (entry_line place k) (entry_line place h) one other e))

-- ---- ports that rise
rise_front : (port : ℕ) (es fs : List Ending) → RiseFrom port (es ++ fs) → RiseFrom port es
rise_front port [] fs rise = tt
rise_front port (e ∷ es) fs rise = (rise.0, rise.1, rise_front (e.port + 1) es fs rise.2)

rise_more : (port : ℕ) (es : List Ending) (e : Ending) → RiseFrom port es → least_from port es ≤ e.port → e.port < 256 → RiseFrom port (es ++ e ∷ [])
rise_more port [] e rise above small = (above, small, tt)
rise_more port (x ∷ es) e rise above small = (rise.0, rise.1, rise_more (x.port + 1) es e rise.2 above small)

pub rising_more : (ends : List Ending) (e : Ending) → AreRising ends → least_port ends ≤ e.port → e.port < 256 → AreRising (ends ++ e ∷ [])
rising_more ends e rise above small = rise_more 0 ends e rise above small

rise_least : (port : ℕ) (es : List Ending) (e : Ending) → RiseFrom port (es ++ e ∷ []) → (least_from port es ≤ e.port) × (e.port < 256)
rise_least port [] e rise = (rise.0, rise.1)
rise_least port (x ∷ es) e rise = rise_least (x.port + 1) es e rise.2

pub rising_least : (ends : List Ending) (e : Ending) → AreRising (ends ++ e ∷ []) → (least_port ends ≤ e.port) × (e.port < 256)
rising_least ends e rise = rise_least 0 ends e rise

least_from-append : (port : ℕ) (es : List Ending) (e : Ending) → least_from port (es ++ e ∷ []) ≡ e.port + 1
least_from-append port [] e = refl
least_from-append port (x ∷ es) e = least_from-append (x.port + 1) es e

pub least_port-append : (ends : List Ending) (e : Ending) → least_port (ends ++ e ∷ []) ≡ e.port + 1
least_port-append ends e = least_from-append 0 ends e

-- ---- what may stand next
three_on : (a b c x y z : List ℕ) (r s : List (List ℕ)) → a ∷ b ∷ c ∷ r ≡ x ∷ y ∷ z ∷ s → r ≡ s
three_on a b c x y z r s e = cc

few_more : (es : List Ending) (f : Ending) (later : List Ending) → length (es ++ f ∷ later) ≤ 8 → length es < 8
few_more es f later few = omega (arith, length-append es (f ∷ later))

module _ (Reads : Reading) (reading : IsReading Reads) where
  port_is : (log other : Log) (l : List ℕ) → IsSheet Reads other → other.history ≡ log.history → NextPort log.ends other.ends (length other.history) l
      → (told : Line) × IsNext Reads log l told
  port_is log other l sheet same (a_port f later ends is) =
      let rising : AreRising (log.ends ++ f ∷ later) = subst AreRising ends sheet.run.rising in (
        told.Port f,
        record {
          stands = (
            rise_front 0 (log.ends ++ f ∷ []) later (subst AreRising (sym (append_assoc log.ends (f ∷ []) later)) rising),
            few_more log.ends f later (subst (λ (es : List Ending). length es ≤ 8) ends sheet.ports),
          );
          spelled = is;
        },
      )
  port_is log other l sheet same (the_last ends is) =
      (told.Last, record { stands = tt; spelled = is ∙ ap (λ (es : List Entry). end_line (length es)) same })

  none_add : (n : ℕ) → 0 + n ≡ n
  none_add n = omega arith

  line_is : (log other : Log) (l : List ℕ) → IsSheet Reads other → NextLine 0 log.history other.history log.ends other.ends (length other.history) l
      → (told : Line) × IsNext Reads log l told
  line_is log other l sheet (an_entry k later same none is) = (
    told.Entry k,
    record {
      stands = (none, sheet.run.legal.each log.history k later same);
      spelled = is ∙ ap (λ n. entry_line n k) (none_add (length log.history));
    },
  )
  line_is log other l sheet (behind same next) = port_is log other l sheet same next

  pub next_is : (log other : Log) (l : List ℕ) → IsSheet Reads log → IsSheet Reads other → Goes (log_lines other) (begun_lines log) l
      → (told : Line) × IsNext Reads log l told
  next_is log other l sheet also go =
      let p = printable Reads reading log sheet.run in
      let q = printable Reads reading other also.run in
      let same = three_on head_line (cps_line other.tempo) (origin_line other.tempo) head_line (cps_line log.tempo) (origin_line log.tempo)
      (lines_behind 0 other.history other.ends (length other.history)) (begun_behind 0 log.history log.ends ++ l ∷ go.0) go.1 in
      line_is log other l also
      (next_line 0 log.history other.history log.ends other.ends (length other.history) l go.0 (omega (arith, p.few)) (omega (arith, q.few))
      p.plain q.plain p.ports q.ports same)

-- ---- a log that grows
lines_append : (place : ℕ) (xs : List Entry) (e : Entry) → entry_lines place (xs ++ e ∷ []) ≡ entry_lines place xs ++ entry_line (place + length xs) e ∷ []
lines_append place [] e = ap (λ n. entry_line n e ∷ []) (add_none place)
lines_append place (x ∷ xs) e =
    ap (λ (lines : List (List ℕ)). entry_line place x ∷ lines)
    (lines_append (place + 1) xs e ∙ ap (λ n. entry_lines (place + 1) xs ++ entry_line n e ∷ []) (one_on place (length xs)))
  where
    one_on : (m n : ℕ) → m + 1 + n ≡ m + suc n
    one_on m n = omega arith

from_none : (n : ℕ) → 0 + n ≡ n
from_none n = omega arith

abbrev behind_head : Pace → List (List ℕ) → List (List ℕ)
behind_head tempo lines = head_line ∷ cps_line tempo ∷ origin_line tempo ∷ lines

entry_with : (tempo : Pace) (history : List Entry) (ends : List Ending) (e : Entry) → ends ≡ []
    → behind_head tempo (entry_lines 0 (history ++ e ∷ []) ++ map port_line ends)
    ≡ behind_head tempo (entry_lines 0 history ++ map port_line ends) ++ entry_line (length history) e ∷ []
entry_with tempo history [] e none =
    ap (behind_head tempo)
    (append-nil (entry_lines 0 (history ++ e ∷ [])) ∙ lines_append 0 history e
    ∙ ap (λ n. entry_lines 0 history ++ entry_line n e ∷ []) (from_none (length history))
    ∙ ap (λ (lines : List (List ℕ)). lines ++ entry_line (length history) e ∷ []) (sym (append-nil (entry_lines 0 history))))
entry_with tempo history (x ∷ ends) e none = absurd (some_none x ends none)
  where
    some_none : (y : Ending) (ys : List Ending) → y ∷ ys ≡ [] → ⊥
    some_none y ys same = cc

port_with : (tempo : Pace) (history : List Entry) (ends : List Ending) (e : Ending)
    → behind_head tempo (entry_lines 0 history ++ map port_line (ends ++ e ∷ []))
    ≡ behind_head tempo (entry_lines 0 history ++ map port_line ends) ++ port_line e ∷ []
port_with tempo history ends e =
    ap (behind_head tempo)
    (ap (λ (lines : List (List ℕ)). entry_lines 0 history ++ lines) (map-append port_line ends (e ∷ []))
    ∙ sym (append_assoc (entry_lines 0 history) (map port_line ends) (port_line e ∷ [])))

pub lines_with : (Reads : Reading) (log : Log) (told : Line) → MayStand Reads log told → is_end told ≡ false
    → begun_lines (with_line log told) ≡ begun_lines log ++ line_of log told ∷ []
lines_with Reads log (told.Entry e) stands going = entry_with log.tempo log.history log.ends e stands.0
lines_with Reads log (told.Port ending) stands going = port_with log.tempo log.history log.ends ending
lines_with Reads log told.Last stands going = absurd (cc)

pub sheet_with : (Reads : Reading) (log : Log) (told : Line) → IsSheet Reads log → MayStand Reads log told → IsSheet Reads (with_line log told)
sheet_with Reads log (told.Entry e) sheet stands = record {
  run = record {
    cps = sheet.run.cps;
    origin = sheet.run.origin;
    legal = IsLegal-append Reads log.history e sheet.run.legal stands.1;
    rising = sheet.run.rising;
  };
  ports = sheet.ports;
}
sheet_with Reads log (told.Port ending) sheet stands = record {
  run = record { cps = sheet.run.cps; origin = sheet.run.origin; legal = sheet.run.legal; rising = stands.0 };
  ports = omega (arith, stands.1, length-append log.ends (ending ∷ []));
}
sheet_with Reads log told.Last sheet stands = sheet

-- ---- the head
first_two : (a b x y : List ℕ) (r s : List (List ℕ)) → a ∷ b ∷ r ≡ x ∷ y ∷ s → b ≡ y
first_two a b x y r s e = cc

first_three : (a b c x y z : List ℕ) (r s : List (List ℕ)) → a ∷ b ∷ c ∷ r ≡ x ∷ y ∷ z ∷ s → c ≡ z
first_three a b c x y z r s e = cc

pub head_goes : (other : Log) (l : List ℕ) → Goes (log_lines other) [] l → l ≡ head_line
head_goes other l go = sym (heads head_line l _ go.0 go.1)

pub cps_goes : (other : Log) (l : List ℕ) → Goes (log_lines other) (head_line ∷ []) l → l ≡ cps_line other.tempo
cps_goes other l go = sym (first_two head_line (cps_line other.tempo) head_line l _ go.0 go.1)

pub origin_goes : (other : Log) (second l : List ℕ) → Goes (log_lines other) (head_line ∷ second ∷ []) l → l ≡ origin_line other.tempo
origin_goes other second l go = sym (first_three head_line (cps_line other.tempo) (origin_line other.tempo) head_line second l _ go.0 go.1)
