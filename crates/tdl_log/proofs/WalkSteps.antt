-- A walk over the lines of a log, step by step.
--     bounded              the history that is held keeps within its bounds
--     placed_next          an entry that may follow has times with a print
--     holds_with           what may stand keeps what a walk holds
--     entry_stands, no_entry_stands, last_stands, none_stands    what a line may tell
--     port_stands, no_port    the same of ports
--     shows_front          how far the walk came
--     step_on, step_last   the line was read with it
--     step_fault           no log goes on with the line
use Rattle.std.proofs.Common.{◌≡◌, ℕ, suc, ◌+◌, ◌^◌, ◌<◌, ◌≤◌, Bool, true, false, not, ◌==◌, List, [], ◌∷◌, ◌++◌, length, drop, refl, sym, ap}
use Rattle.std.proofs.Common.{◌∙◌, subst, arith}
use Rattle.std.proofs.lemmas.Bool.{eqb-true}
use Rattle.std.proofs.lemmas.Bool.Decides.{nat_tests}
use Rattle.std.specs.Prelude.{nat_lt, IfNone, IfOk, IfSome, Option, Some, None, Result, Ok, Err}
use Rattle.tdl_fraction.specs.Units.{last_units}
use Rattle.tdl_grammar.specs.Faults.{IsFault}
use Rattle.tdl_score.specs.declared.histories.Entry.{Entry}
use Rattle.tdl_score.specs.declared.histories.Deed.{Deed}
use Rattle.tdl_score.specs.declared.histories.Deed.TheVariants.{Swap, Look, Tick, Finish}
use Rattle.tdl_score.specs.History.{MayFollow, frontier}
use Rattle.tdl_score.specs.Known.{Tells}
use Rattle.tdl_score.specs.Placed.{IsPlaced, IsPlacedDeed}
use Rattle.tdl_score.specs.Readings.{Reading}
use Rattle.tdl_log.specs.declared.ends.Ending.{Ending}
use Rattle.tdl_log.specs.declared.kinds.Front.{Front}
use Rattle.tdl_log.specs.declared.walks.Line.{Line}
use Rattle.tdl_log.specs.declared.walks.Line.TheVariants as told
use Rattle.tdl_log.specs.declared.walks.Walk.{Walk}
use Rattle.tdl_log.specs.Log.{AreRising, Log, log_of}
use Rattle.tdl_log.specs.LogGrammar.{IsSheet, log_grammar}
use Rattle.tdl_log.specs.LogText.{end_line, entry_line, log_lines, port_line}
use Rattle.tdl_log.specs.LineKinds.{line_kind}
use Rattle.tdl_log.specs.Pieces.{line, cut}
use Rattle.tdl_log.specs.inside.Fronts.{ShowsFront}
use Rattle.tdl_log.specs.inside.Walks.{Holds, IsNext, IsReadTo, MayStand, begun_lines, begun_pieces, is_end, least_port, with_line}
use Rattle.tdl_log.proofs.LineLooks.{no_last_line, none_begins, ports_shown}
use Rattle.tdl_log.proofs.LogFronts.{all_but_last, line_fault, read_more}
use Rattle.tdl_log.proofs.NextLines.{lines_with, next_is, rising_least, rising_more, sheet_with}
use Rattle.tdl_log.proofs.OneLine.{IsPlainDeed, port_once}
use Rattle.tdl_log.proofs.OneLog.{printable}
use Rattle.tdl_log.proofs.Printable.{IsBounded, legal_is_bounded, plain_entry}

placed_deed : (deed : Deed) → IsPlainDeed deed → IsPlacedDeed deed
placed_deed (Swap boundary text) plain = tt
placed_deed Look plain = tt
placed_deed (Tick to) plain = plain
placed_deed Finish plain = tt

module _ (Reads : Reading) (walk : Walk) (holds : Holds Reads walk) where
  pub bounded : IsBounded walk.sheet.history.entries
  bounded = legal_is_bounded Reads holds.reading walk.sheet.history.entries holds.sheet.run.legal

  pub short_frontier : walk.known.frontier ≤ last_units
  short_frontier = omega (arith, holds.known.frontier, bounded.frontier)

  pub placed_next : (e : Entry) → MayFollow Reads walk.sheet.history.entries e → IsPlaced e
  placed_next e next =
      let plain = plain_entry Reads holds.reading walk.sheet.history.entries e bounded next in
      record { frontier = plain.frontier; deed = placed_deed e.deed plain.deed }

  pub room_place : walk.known.place + 1 < 2 ^ 32
  room_place = omega (arith, holds.known.place, bounded.few, bounded.performed, bounded.ticks, bounded.finishes)

  pub room_performed : walk.known.performed + 1 < 2 ^ 32
  room_performed = omega (arith, holds.known.performed, bounded.performed)

  pub room_ticks : walk.known.ticks + 1 < 2 ^ 32
  room_ticks = omega (arith, holds.known.ticks, bounded.ticks)

  -- ---- a walk that goes on
  pub holds_with : (next : Walk) (told : Line) → MayStand Reads (log_of walk.sheet) told → log_of next.sheet ≡ with_line (log_of walk.sheet) told
      → Tells next.known next.sheet.history.entries → next.least_port ≡ least_port next.sheet.ends → Holds Reads next
  holds_with next told stands same known least = record {
    reading = holds.reading;
    sheet = subst (λ (log : Log). IsSheet Reads log) (sym same) (sheet_with Reads (log_of walk.sheet) told holds.sheet stands);
    known = known;
    least = least;
  }

  -- ---- what a line may tell
  pub entry_stands : (e : Entry) (l : List ℕ) → walk.sheet.ends ≡ []
      → ((entries : List Entry) → Tells walk.known entries → MayFollow Reads entries e × (l ≡ entry_line (length entries) e))
      → IsNext Reads (log_of walk.sheet) l (told.Entry e)
  entry_stands e l none read =
      let next = read walk.sheet.history.entries holds.known in
      record { stands = (none, next.0); spelled = next.1 }

  pub no_entry_stands : (l : List ℕ) → ((entries : List Entry) (e : Entry) → Tells walk.known entries → MayFollow Reads entries e
      → l ≡ entry_line (length entries) e → ⊥) → (e : Entry) → IsNext Reads (log_of walk.sheet) l (told.Entry e) → ⊥
  no_entry_stands l none e next = none walk.sheet.history.entries e holds.known next.stands.1 next.spelled

  end_is : end_line walk.known.place ≡ end_line (length walk.sheet.history.entries)
  end_is = ap end_line holds.known.place

  pub last_stands : (l : List ℕ) → l ≡ end_line walk.known.place → IsNext Reads (log_of walk.sheet) l told.Last
  last_stands l is = record { stands = tt; spelled = is ∙ end_is }

  pub none_stands : (l : List ℕ) → ((e : Entry) → IsNext Reads (log_of walk.sheet) l (told.Entry e) → ⊥)
      → ((ending : Ending) → AreRising (walk.sheet.ends ++ ending ∷ []) → length walk.sheet.ends < 8 → l ≡ port_line ending → ⊥)
      → (l ≡ end_line walk.known.place → ⊥) → (told : Line) → IsNext Reads (log_of walk.sheet) l told → ⊥
  none_stands l no_entry no_port no_end (told.Entry e) next = no_entry e next
  none_stands l no_entry no_port no_end (told.Port ending) next = no_port ending next.stands.0 next.stands.1 next.spelled
  none_stands l no_entry no_port no_end told.Last next = no_end (next.spelled ∙ sym end_is)

  -- ---- how far the walk came, for the kind of a fault
  pub shows_front : (empty : Bool) → empty ≡ (length walk.sheet.ends == 0)
      → (let front : Front = record { lines = 3; ports = not empty; ended = false } in ShowsFront front (begun_pieces (log_of walk.sheet)))
  shows_front empty is =
      let log = log_of walk.sheet in
      let print = printable Reads holds.reading log holds.sheet.run in
      record {
        lines = long (length (begun_pieces log)) (omega arith);
        ports = ports_shown log print.few print.ports ∙ ap not (sym is);
        ended = no_last_line (begun_lines log) (none_begins log print.few);
      }
    where
      long : (n : ℕ) → 3 ≤ n → nat_lt n 3 ≡ false
      long n above = grind (arith, nat_tests)

  -- ---- a line that was read
  module _ (text l : List ℕ) (read : IsReadTo (begun_lines (log_of walk.sheet)) text walk.at)
      (next : cut (drop walk.at text) ≡ line l ∷ cut (drop (walk.at + length l + 1) text)) where
    pub step_fault : ((told : Line) → IsNext Reads (log_of walk.sheet) l told → ⊥)
        → IsFault (log_grammar Reads) (cut text) (line_kind (begun_pieces (log_of walk.sheet)) l) walk.at
    step_fault none =
        line_fault Reads holds.reading (log_of walk.sheet) (begun_lines (log_of walk.sheet)) (end_line (length walk.sheet.history.entries) ∷ []) l text walk.at
        (cut (drop (walk.at + length l + 1) text)) holds.sheet (all_but_last (log_of walk.sheet)) read next
        (λ other sheet go. let found = next_is Reads holds.reading (log_of walk.sheet) other l holds.sheet sheet go in none found.0 found.1)

    pub step_on : (after : Log) (told : Line) (at : ℕ) → at ≡ walk.at + length l + 1 → IsNext Reads (log_of walk.sheet) l told → is_end told ≡ false
        → walk.at + length l + 1 ≤ length text → after ≡ with_line (log_of walk.sheet) told → IsReadTo (begun_lines after) text at
    step_on after told at at_is is going within same =
        subst (λ n. IsReadTo (begun_lines after) text n) (sym at_is)
        (subst (λ (lines : List (List ℕ)). IsReadTo lines text (walk.at + length l + 1))
        (ap (λ (bytes : List ℕ). begun_lines (log_of walk.sheet) ++ bytes ∷ []) is.spelled
        ∙ sym (lines_with Reads (log_of walk.sheet) told is.stands going) ∙ ap begun_lines (sym same))
        (read_more (begun_lines (log_of walk.sheet)) text l walk.at read next within))

    pub step_last : (after : Log) (told : Line) (at : ℕ) → at ≡ walk.at + length l + 1 → IsNext Reads (log_of walk.sheet) l told → is_end told ≡ true
        → walk.at + length l + 1 ≤ length text → after ≡ with_line (log_of walk.sheet) told → IsReadTo (log_lines after) text at
    step_last after (told.Entry e) at at_is is ends within same = absurd (cc)
    step_last after (told.Port ending) at at_is is ends within same = absurd (cc)
    step_last after told.Last at at_is is ends within same =
        subst (λ n. IsReadTo (log_lines after) text n) (sym at_is)
        (subst (λ (lines : List (List ℕ)). IsReadTo lines text (walk.at + length l + 1))
        (ap (λ (bytes : List ℕ). begun_lines (log_of walk.sheet) ++ bytes ∷ []) is.spelled
        ∙ sym (all_but_last (log_of walk.sheet)) ∙ ap log_lines (sym same))
        (read_more (begun_lines (log_of walk.sheet)) text l walk.at read next within))

-- ---- ports
pub no_ends : (ends : List Ending) (empty : Bool) → empty ≡ (length ends == 0) → empty ≡ true → ends ≡ []
no_ends [] empty told is = refl
no_ends (x ∷ ends) empty told is = let none : suc (length ends) ≡ 0 = eqb-true (suc (length ends)) 0 (sym told ∙ is) in absurd (omega arith)

pub port_stands : (ends : List Ending) (least : ℕ) (ending : Ending) → least ≡ least_port ends → AreRising ends → least ≤ ending.port → ending.port < 256
    → AreRising (ends ++ ending ∷ [])
port_stands ends least ending is rising above small = rising_more ends ending rising (omega (arith, is, above)) small

-- what a line tells of a port is one, and it may not stand
pub no_port : (ends : List Ending) (found : Ending) (l : List ℕ) → l ≡ port_line found → found.port < 256
    → (AreRising (ends ++ found ∷ []) → length ends < 8 → ⊥)
    → (ending : Ending) → AreRising (ends ++ ending ∷ []) → length ends < 8 → l ≡ port_line ending → ⊥
no_port ends found l is small none ending rising few same =
    let one : ending ≡ found = port_once ending found (rising_least ends ending rising).1 small (sym same ∙ is) in
    none (subst (λ (e : Ending). AreRising (ends ++ e ∷ [])) one rising) few

-- ---- answers that hold a value or none
pub if_some_weaker : {X E : Type 0} (P Q : X → Type 0) (r : Result (Option X) E) → ((x : X) → P x → Q x) → IfOk r (λ o. IfSome o P) → IfOk r (λ o. IfSome o Q)
if_some_weaker P Q (Ok (Some x)) each h = each x h
if_some_weaker P Q (Ok None) each h = h
if_some_weaker P Q (Err e) each h = h

pub if_none_weaker : {X E : Type 0} (P Q : Type 0) (r : Result (Option X) E) → (P → Q) → IfOk r (λ o. IfNone o P) → IfOk r (λ o. IfNone o Q)
if_none_weaker P Q (Ok (Some x)) all h = h
if_none_weaker P Q (Ok None) all h = all h
if_none_weaker P Q (Err e) all h = h
