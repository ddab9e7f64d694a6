-- The parts of a log, as they are put.
--     one_after_another  pieces one after another
--     head_text         the first three lines
--     entry_front       an entry's line up to what was done
--     entries_text      the lines of entries, from place 0 on
--     ports_text        the lines of ports
--     tail_text         the lines of the ports, and the last line
--     text_after_head   the lines of the entries, and those behind them
use Rattle.std.specs.Prelude.{ℕ, List, ◌++◌, length, map, codes}
use Rattle.std.specs.Borrow.{Bor}
use Rattle.std.specs.List.{flat_map}
use Rattle.std.specs.Fmt.{decimal}
use Rattle.tdl_fraction.specs.Printing.{print_of}
use Rattle.tdl_tempo.specs.Tempo.{Pace}
use Rattle.tdl_score.specs.declared.histories.Entry.{Entry}
use Rattle.tdl_log.specs.declared.ends.Ending.{Ending}
use Rattle.tdl_log.specs.Log.{Log}
use Rattle.tdl_log.specs.LogText.{end_line, entry_lines, place_text, port_line, with_feed}

abbrev pub one_after_another : List (Bor (List ℕ)) → List ℕ
one_after_another pieces = flat_map (λ piece. piece.now) pieces

abbrev pub head_text : Pace → List ℕ
head_text tempo = codes "tidal-log 1\ncps " ++ (print_of tempo.cps ++ (codes "\norigin " ++ (decimal tempo.origin ++ codes "\n")))

abbrev pub entry_front : ℕ → Entry → List ℕ
entry_front place e = decimal place ++ (codes " " ++ (decimal e.who ++ (codes " " ++ (place_text e.frontier ++ codes " "))))

abbrev pub entries_text : List Entry → List ℕ
entries_text entries = flat_map with_feed (entry_lines 0 entries)

abbrev pub ports_text : List Ending → List ℕ
ports_text ends = flat_map with_feed (map port_line ends)

abbrev pub tail_text : Log → List ℕ
tail_text log = ports_text log.ends ++ with_feed (end_line (length log.history))

abbrev pub text_after_head : Log → List ℕ
text_after_head log = entries_text log.history ++ tail_text log
