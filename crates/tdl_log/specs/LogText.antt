-- The text of a log.
--     deed_text      what was done
--     entry_line     the line of the entry at a place
--     port_line      the line of a port
--     log_lines      all lines: three of the head, those of the entries, those of the ports, and the number of entries
--     log_text       each of these lines with a line feed
use Rattle.std.specs.Prelude.{ℕ, ◌+◌, List, [], ◌∷◌, ◌++◌, length, map, codes}
use Rattle.std.specs.List.{flat_map}
use Rattle.std.specs.Fmt.{decimal}
use Rattle.tdl_fraction.specs.Printing.{print_of}
use Rattle.tdl_fraction.specs.Units.{time_of}
use Rattle.tdl_tempo.specs.Tempo.{Pace}
use Rattle.tdl_score.specs.declared.histories.Entry.{Entry}
use Rattle.tdl_score.specs.declared.histories.Deed.{Deed}
use Rattle.tdl_score.specs.declared.histories.Deed.TheVariants.{Swap, Look, Tick, Finish}
use Rattle.tdl_log.specs.declared.ends.Ending.{Ending}
use Rattle.tdl_log.specs.declared.ends.PortEnd.{PortEnd}
use Rattle.tdl_log.specs.declared.ends.PortEnd.TheVariants as port
use Rattle.tdl_log.specs.Log.{Log}

-- so many tick units, in cycles
abbrev pub place_text : ℕ → List ℕ
place_text units = print_of (time_of units)

abbrev pub swap_text : ℕ → List ℕ → List ℕ
swap_text boundary text = codes "swap " ++ (decimal boundary ++ (codes " " ++ text))

abbrev pub tick_front : List ℕ
tick_front = codes "tick "

abbrev pub tick_text : ℕ → List ℕ
tick_text to = tick_front ++ place_text to

abbrev pub deed_text : Deed → List ℕ
deed_text (Swap boundary text) = swap_text boundary text
deed_text Look = codes "look"
deed_text (Tick to) = tick_text to
deed_text Finish = codes "finish"

-- the place, the caller, the time before it, and what was done
abbrev pub entry_line : ℕ → Entry → List ℕ
entry_line place e = decimal place ++ (codes " " ++ (decimal e.who ++ (codes " " ++ (place_text e.frontier ++ (codes " " ++ deed_text e.deed)))))

-- from a place on
abbrev pub entry_lines : ℕ → List Entry → List (List ℕ)
entry_lines place [] = []
entry_lines place (e ∷ entries) = entry_line place e ∷ entry_lines (place + 1) entries

abbrev pub end_word : PortEnd → List ℕ
end_word port.Eof = codes "eof"
end_word port.Finish = codes "finish"
end_word port.Fault = codes "fault"
end_word port.Spent = codes "spent"
end_word port.Memory = codes "memory"
end_word port.Stopped = codes "stopped"

abbrev pub port_line : Ending → List ℕ
port_line ending = codes "port " ++ (decimal ending.port ++ (codes " " ++ end_word ending.end))

abbrev pub head_line : List ℕ
head_line = codes "tidal-log 1"

abbrev pub cps_line : Pace → List ℕ
cps_line tempo = codes "cps " ++ print_of tempo.cps

abbrev pub origin_line : Pace → List ℕ
origin_line tempo = codes "origin " ++ decimal tempo.origin

abbrev pub end_line : ℕ → List ℕ
end_line entries = codes "end " ++ decimal entries

abbrev pub log_lines : Log → List (List ℕ)
log_lines log = head_line ∷ cps_line log.tempo ∷ origin_line log.tempo
    ∷ (entry_lines 0 log.history ++ (map port_line log.ends ++ end_line (length log.history) ∷ []))

abbrev pub with_feed : List ℕ → List ℕ
with_feed line = line ++ codes "\n"

unfoldable pub log_text : Log → List ℕ
log_text log = flat_map with_feed (log_lines log)
