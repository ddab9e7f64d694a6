-- Histories: what was accepted, in order.
--     frontier            up to where the last tick played, in tick units, or 0
--     plays               an entry plays what is due: a tick or the finish
--     performed           what performers did: the entries that play nothing
--     is_finished         the finish is among the entries
--     entries_of          the entries of a caller
--     dated_texts         the texts of its swaps, each with its boundary
--     boundary_of         the least multiple of so many cycles that is not below so many units
--     MayFollow           an entry that may follow a history, where texts are read so
--     IsLegal             each entry may follow those before it
--     before_last_play    the entries before the last one that plays, or all where there is none
--     EndTogether         two histories end at one time, both or neither with the finish
use Rattle.std.specs.Prelude.{◌≡◌, ℕ, ◌+◌, ◌*◌, ◌^◌, ◌<◌, ◌≤◌, Bool, true, false, not, ◌&&◌, ◌||◌, ◌==◌, List, [], ◌∷◌, ◌++◌, count_by, filter, if◌then◌else◌}
use Rattle.std.specs.List.{flat_map, list_any}
use Rattle.std.specs.Int.{div_ceil}
use Rattle.tdl_fraction.specs.Units.{tick_units, last_units}
use Rattle.tdl_desk.specs.declared.changes.Change.{Change}
use Rattle.tdl_expr.specs.Tree.{Tree}
use Rattle.tdl_score.specs.declared.histories.Entry.{Entry}
use Rattle.tdl_score.specs.declared.histories.Deed.{Deed}
use Rattle.tdl_score.specs.declared.histories.Deed.TheVariants.{Swap, Look, Tick, Finish}
use Rattle.tdl_score.specs.Readings.{Reading}

abbrev pub frontier_after : ℕ → Deed → ℕ
frontier_after units (Swap boundary text) = units
frontier_after units Look = units
frontier_after units (Tick to) = to
frontier_after units Finish = units

-- up to where the last tick of these entries played, or what is given
abbrev pub frontier_from : ℕ → List Entry → ℕ
frontier_from units [] = units
frontier_from units (e ∷ entries) = frontier_from (frontier_after units e.deed) entries

abbrev pub frontier : List Entry → ℕ
frontier entries = frontier_from 0 entries

-- of a time in tick units; what is counted by, and the boundary, are in cycles
abbrev pub boundary_of : ℕ → ℕ → ℕ
boundary_of units every = every * div_ceil units (every * tick_units)

abbrev pub is_tick_deed : Deed → Bool
is_tick_deed (Swap boundary text) = false
is_tick_deed Look = false
is_tick_deed (Tick to) = true
is_tick_deed Finish = false

abbrev pub is_finish_deed : Deed → Bool
is_finish_deed (Swap boundary text) = false
is_finish_deed Look = false
is_finish_deed (Tick to) = false
is_finish_deed Finish = true

abbrev pub plays : Deed → Bool
plays deed = is_tick_deed deed || is_finish_deed deed

-- swaps and looks, in order
abbrev pub performed : List Entry → List Entry
performed entries = filter (λ e. not (plays e.deed)) entries

abbrev pub is_finished : List Entry → Bool
is_finished entries = list_any (λ e. is_finish_deed e.deed) entries

abbrev pub entries_of : ℕ → List Entry → List Entry
entries_of who entries = filter (λ e. e.who == who) entries

pub record DatedText : Type 0 where
  pub boundary : ℕ
  pub text : List ℕ

abbrev pub texts_of : Deed → List DatedText
texts_of (Swap boundary text) = record { boundary = boundary; text = text } ∷ []
texts_of Look = []
texts_of (Tick to) = []
texts_of Finish = []

abbrev pub dated_texts : List Entry → List DatedText
dated_texts entries = flat_map (λ e. texts_of e.deed) entries

abbrev pub performed_count : List Entry → ℕ
performed_count entries = count_by (λ e. not (plays e.deed)) entries

abbrev pub tick_count : List Entry → ℕ
tick_count entries = count_by (λ e. is_tick_deed e.deed) entries

abbrev pub max_performed : ℕ
max_performed = 2 ^ 14

abbrev pub max_ticks : ℕ
max_ticks = 2 ^ 22

-- one of eight performers acts after these entries
pub record IsPerformedAfter (entries : List Entry) (who : ℕ) : Type 0 where
  pub from_one : 1 ≤ who
  pub to_eight : who ≤ 8
  pub room : performed_count entries < max_performed

-- and changes what is played, from the boundary on that the text asks for
pub record IsSwapAfter (Reads : Reading) (entries : List Entry) (who boundary : ℕ) (text : List ℕ) : Type 0 where
  pub performed : IsPerformedAfter entries who
  pub every : ℕ
  pub change : Change Tree
  pub reads : Reads text every change
  pub on_cycle : boundary ≡ boundary_of (frontier entries) every

-- a tick after these entries, by at most a cycle; none comes after the finish
pub record IsTickAfter (entries : List Entry) (who to : ℕ) : Type 0 where
  pub ticker : who ≡ 0
  pub going : is_finished entries ≡ false
  pub forward : frontier entries < to
  pub short : to ≤ frontier entries + tick_units
  pub to_last : to ≤ last_units
  pub room : tick_count entries < max_ticks

-- the one finish
pub record IsFinishAfter (entries : List Entry) (who : ℕ) : Type 0 where
  pub ticker : who ≡ 0
  pub going : is_finished entries ≡ false

abbrev pub MayBeDone : Reading → List Entry → ℕ → Deed → Type 0
MayBeDone Reads entries who (Swap boundary text) = IsSwapAfter Reads entries who boundary text
MayBeDone Reads entries who Look = IsPerformedAfter entries who
MayBeDone Reads entries who (Tick to) = IsTickAfter entries who to
MayBeDone Reads entries who Finish = IsFinishAfter entries who

pub record MayFollow (Reads : Reading) (entries : List Entry) (e : Entry) : Type 0 where
  pub frontier : e.frontier ≡ frontier entries
  pub deed : MayBeDone Reads entries e.who e.deed

pub record IsLegal (Reads : Reading) (entries : List Entry) : Type 0 where
  pub each : (before : List Entry) (e : Entry) (after : List Entry) → entries ≡ before ++ e ∷ after → MayFollow Reads before e

abbrev pub has_play : List Entry → Bool
has_play entries = list_any (λ e. plays e.deed) entries

-- cut at the entry that plays last
abbrev pub before_last_play : List Entry → List Entry
before_last_play [] = []
before_last_play (e ∷ entries) = if plays e.deed && not (has_play entries) then [] else e ∷ before_last_play entries

-- up to one time, both or neither with the finish
pub record EndTogether (one other : List Entry) : Type 0 where
  pub frontier : frontier one ≡ frontier other
  pub finished : is_finished one ≡ is_finished other
