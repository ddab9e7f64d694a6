-- Lines that are put one after another.
--     pieces_more, cut_at                  texts of a list: one more, and one that breaks off
--     entries_more, entries_within         the lines of entries: one more, and one that breaks off
--     is_ending                            an ending whose parts are those of the one in its place
--     ports_more, ports_within             the same of ports
--     log_parts, tail_parts, line_parts    the parts of a log, of what is behind the entries, and of an entry's line
use Rattle.std.proofs.Common.{◌≡◌, ℕ, suc, ◌+◌, ◌<◌, List, [], ◌∷◌, ◌++◌, length, get_or, take, drop, map, Option}
use Rattle.std.proofs.Common.{refl, sym, ap, subst, ◌∙◌, append_assoc, append-nil, add-one, arith}
use Rattle.std.proofs.lemmas.Grind.{flat_map-append}
use Rattle.std.proofs.Math.Seq.{take-suc, drop-cons}
use Rattle.std.proofs.lemmas.List.{take-append-drop}
use Rattle.std.proofs.lemmas.List.Folds.{flat_map-map}
use Rattle.std.proofs.Common.{length-take-le}
use Rattle.std.specs.Prelude.{codes}
use Rattle.std.specs.List.{HoldsAt, flat_map}
use Rattle.std.specs.Fmt.{decimal}
use Rattle.tdl_control.proofs.PrintLemmas.{flat_map_at, flat_map_more}
use Rattle.tdl_fraction.specs.Printing.{print_of}
use Rattle.tdl_tempo.specs.Tempo.{Pace}
use Rattle.tdl_score.specs.declared.histories.Entry.{Entry}
use Rattle.tdl_log.specs.declared.ends.Ending.{Ending}
use Rattle.tdl_log.specs.declared.ends.PortEnd.{PortEnd}
use Rattle.tdl_log.specs.Log.{Log}
use Rattle.tdl_log.specs.LogText.{cps_line, deed_text, end_line, entry_line, entry_lines, head_line, log_text, origin_line, port_line, with_feed}
use Rattle.tdl_log.specs.inside.Pages.{Cut, Written}
use Rattle.tdl_log.specs.inside.Pieces.{entries_text, entry_front, head_text, ports_text, tail_text, text_after_head}
use Rattle.tdl_log.proofs.PutPages.{cut_part, cut_parts, written_parts}

-- ---- the texts of a list
pub pieces_more : {X : Type 0} (f : X → List ℕ) (xs : List X) (i : ℕ) (d : X) {old mid new : Option (List ℕ)} {waited among waits : List ℕ}
    → i < length xs → Written old mid waited among (flat_map f (take i xs)) → Written mid new among waits (f (get_or xs i d))
    → Written old new waited waits (flat_map f (take (i + 1) xs))
pieces_more f xs i d inside before one = written_parts (flat_map_more f xs i d inside) before one

pub cut_at : {X : Type 0} (f : X → List ℕ) (xs : List X) (i : ℕ) (d : X) {old mid new : Option (List ℕ)} {waited among : List ℕ}
    → i < length xs → Written old mid waited among (flat_map f (take i xs)) → Cut mid new among (f (get_or xs i d)) → Cut old new waited (flat_map f xs)
cut_at f xs i d inside before part =
    cut_parts (flat_map_at f xs i d inside) before (cut_part (flat_map f (drop (suc i) xs)) refl part)

cut_within : {X : Type 0} (f : X → List ℕ) (xs : List X) (i : ℕ) (here : X) {old mid new : Option (List ℕ)} {waited among : List ℕ}
    → i < length xs → here ≡ get_or xs i here → Written old mid waited among (flat_map f (take i xs)) → Cut mid new among (f here)
    → Cut old new waited (flat_map f xs)
cut_within f xs i here {old} {mid} {new} {waited} {among} inside is before part =
    cut_at f xs i here inside before (subst (λ x. Cut mid new among (f x)) is part)

-- ---- the lines of entries
lines_append : (place : ℕ) (xs ys : List Entry) → entry_lines place (xs ++ ys) ≡ entry_lines place xs ++ entry_lines (place + length xs) ys
lines_append place [] ys = ap (λ n. entry_lines n ys) (omega arith)
lines_append place (x ∷ xs) ys =
    ap (λ lines. entry_line place x ∷ lines)
    (lines_append (place + 1) xs ys ∙ ap (λ n. entry_lines (place + 1) xs ++ entry_lines n ys) (omega arith))

from_none : (n : ℕ) → 0 + n ≡ n
from_none n = omega arith

texts_append : (xs ys : List Entry) → entries_text (xs ++ ys) ≡ entries_text xs ++ flat_map with_feed (entry_lines (length xs) ys)
texts_append xs ys = ap (flat_map with_feed) (lines_append 0 xs ys ∙ ap (λ n. entry_lines 0 xs ++ entry_lines n ys) (from_none (length xs)))
    ∙ flat_map-append with_feed (entry_lines 0 xs) (entry_lines (length xs) ys)

module _ (xs : List Entry) (i : ℕ) (here : Entry) (inside : i < length xs) (is : here ≡ get_or xs i here) where
  taken : length (take i xs) ≡ i
  taken = length-take-le i xs (omega arith)

  -- those before place i, and that at it
  entries_take : entries_text (take (i + 1) xs) ≡ entries_text (take i xs) ++ with_feed (entry_line i here)
  entries_take =
      ap entries_text (rw add-one (take-suc xs i here inside) ∙ ap (λ e. take i xs ++ e ∷ []) (sym is))
      ∙ texts_append (take i xs) (here ∷ [])
      ∙ ap (λ text. entries_text (take i xs) ++ text) (append-nil (with_feed (entry_line (length (take i xs)) here)))
      ∙ ap (λ n. entries_text (take i xs) ++ with_feed (entry_line n here)) taken

  entries_at : entries_text xs ≡ entries_text (take i xs) ++ (with_feed (entry_line i here) ++ flat_map with_feed (entry_lines (i + 1) (drop (suc i) xs)))
  entries_at =
      ap entries_text (sym (take-append-drop i xs) ∙ ap (λ rest. take i xs ++ rest) (drop-cons xs i here inside))
      ∙ ap (λ e. entries_text (take i xs ++ e ∷ drop (suc i) xs)) (sym is)
      ∙ texts_append (take i xs) (here ∷ drop (suc i) xs)
      ∙ ap (λ n. entries_text (take i xs) ++ (with_feed (entry_line n here) ++ flat_map with_feed (entry_lines (n + 1) (drop (suc i) xs)))) taken

  pub entries_more : {old mid new : Option (List ℕ)} {waited among waits : List ℕ} → Written old mid waited among (entries_text (take i xs))
      → Written mid new among waits (with_feed (entry_line i here)) → Written old new waited waits (entries_text (take (i + 1) xs))
  entries_more before one = written_parts entries_take before one

  pub entries_within : {old mid new : Option (List ℕ)} {waited among : List ℕ} → Written old mid waited among (entries_text (take i xs))
      → Cut mid new among (with_feed (entry_line i here)) → Cut old new waited (entries_text xs)
  entries_within before part = cut_parts entries_at before (cut_part (flat_map with_feed (entry_lines (i + 1) (drop (suc i) xs))) refl part)

-- ---- the lines of ports
pub is_ending : (ends : List Ending) (i port : ℕ) (end : PortEnd)
    → HoldsAt (λ (ending : Ending). ◌≡◌ {A = ℕ × PortEnd} (port, end) (ending.port, ending.end)) ends i
    → (let here : Ending = record { port = port; end = end } in here ≡ get_or ends i here)
is_ending ends i port end holds =
    ap (λ (parts : ℕ × PortEnd). let ending : Ending = record { port = parts.0; end = parts.1 } in ending)
    (holds (let here : Ending = record { port = port; end = end } in here))

unfoldable full_port_line : Ending → List ℕ
full_port_line ending = with_feed (port_line ending)

ports_are : (ends : List Ending) → ports_text ends ≡ flat_map full_port_line ends
unfolding full_port_line
ports_are ends = flat_map-map with_feed port_line ends

module _ (ends : List Ending) (i : ℕ) (here : Ending) (inside : i < length ends) (is : here ≡ get_or ends i here) where
  ports_take : ports_text (take (i + 1) ends) ≡ ports_text (take i ends) ++ with_feed (port_line here)
  unfolding full_port_line
  ports_take =
      ports_are (take (i + 1) ends) ∙ flat_map_more full_port_line ends i here inside
      ∙ ap (λ text. text ++ full_port_line (get_or ends i here)) (sym (ports_are (take i ends)))
      ∙ ap (λ e. ports_text (take i ends) ++ full_port_line e) (sym is)

  pub ports_more : {old mid new : Option (List ℕ)} {waited among waits : List ℕ} → Written old mid waited among (ports_text (take i ends))
      → Written mid new among waits (with_feed (port_line here)) → Written old new waited waits (ports_text (take (i + 1) ends))
  ports_more before one = written_parts ports_take before one

  pub ports_within : {old mid new : Option (List ℕ)} {waited among : List ℕ} → Written old mid waited among (ports_text (take i ends))
      → Cut mid new among (with_feed (port_line here)) → Cut old new waited (ports_text ends)
  unfolding full_port_line
  ports_within {old} {mid} {new} {waited} {among} before part =
      subst (λ (text : List ℕ). Cut old new waited text) (sym (ports_are ends))
      (cut_within full_port_line ends i here inside is (subst (λ (text : List ℕ). Written old mid waited among text) (ports_are (take i ends)) before) part)

-- ---- parts of texts
head_parts : (tempo : Pace) (rest : List ℕ)
    → with_feed head_line ++ (with_feed (cps_line tempo) ++ (with_feed (origin_line tempo) ++ rest)) ≡ head_text tempo ++ rest
head_parts tempo rest = simp append_assoc

pub log_parts : (log : Log) → log_text log ≡ head_text log.tempo ++ text_after_head log
unfolding log_text
log_parts log =
    head_parts log.tempo (flat_map with_feed (entry_lines 0 log.history ++ (map port_line log.ends ++ end_line (length log.history) ∷ [])))
    ∙ ap (λ text. head_text log.tempo ++ text)
    (flat_map-append with_feed (entry_lines 0 log.history) (map port_line log.ends ++ end_line (length log.history) ∷ [])
    ∙ ap (λ text. entries_text log.history ++ text)
    (flat_map-append with_feed (map port_line log.ends) (end_line (length log.history) ∷ [])
    ∙ ap (λ text. ports_text log.ends ++ text) (append-nil (with_feed (end_line (length log.history))))))

pub tail_parts : (log : Log) (count : ℕ) → count ≡ length log.history → tail_text log ≡ ports_text log.ends ++ with_feed (end_line count)
tail_parts log count is = ap (λ n. ports_text log.ends ++ with_feed (end_line n)) (sym is)

pub line_parts : (place : ℕ) (e : Entry) → with_feed (entry_line place e) ≡ entry_front place e ++ with_feed (deed_text e.deed)
line_parts place e = simp append_assoc

-- the pieces of the head
pub head_pieces : (tempo : Pace) (p d : List ℕ) → p ≡ print_of tempo.cps → d ≡ decimal tempo.origin
    → codes "tidal-log 1\ncps " ++ (p ++ (codes "\norigin " ++ (d ++ codes "\n"))) ≡ head_text tempo
head_pieces tempo p d first second =
    ap (λ text. codes "tidal-log 1\ncps " ++ (text ++ (codes "\norigin " ++ (d ++ codes "\n")))) first
    ∙ ap (λ text. codes "tidal-log 1\ncps " ++ (print_of tempo.cps ++ (codes "\norigin " ++ (text ++ codes "\n")))) second
