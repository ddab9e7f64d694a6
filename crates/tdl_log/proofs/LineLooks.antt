-- What the lines of a log look like.
--     begins           a line begins with a byte
--     other_looks      a line that begins with another byte than a word has not this form
--     port_looks       the line of a port is a port's
--     end_looks        the last line is a last line
--     none_begins      none of the lines before the last begins as it does
use Rattle.std.proofs.Common.{◌≡◌, ℕ, suc, ◌+◌, ◌^◌, ◌<◌, ◌≤◌, Bool, true, false, not, ◌&&◌, ◌||◌, ◌==◌, List, [], ◌∷◌, ◌++◌, length, get_or, map}
use Rattle.std.proofs.Common.{refl, sym, ap, ◌∙◌, arith}
use Rattle.std.proofs.lemmas.Bool.Decides.{nat_tests}
use Rattle.std.proofs.lemmas.List.{map-append}
use Rattle.std.proofs.lemmas.List.Folds.{list_any-append}
use Rattle.std.specs.Prelude.{codes, if◌then◌else◌}
use Rattle.std.specs.List.{list_any}
use Rattle.std.specs.Fmt.{decimal}
use Rattle.tdl_score.specs.declared.histories.Entry.{Entry}
use Rattle.tdl_log.specs.declared.ends.Ending.{Ending}
use Rattle.tdl_log.specs.declared.ends.PortEnd.{PortEnd}
use Rattle.tdl_log.specs.declared.ends.PortEnd.TheVariants as port
use Rattle.tdl_log.specs.Log.{Log}
use Rattle.tdl_log.specs.LogText.{end_line, end_word, entry_line, entry_lines, port_line}
use Rattle.tdl_log.specs.LineKinds.{before, behind, has, is_decimal, is_end_word, is_last, is_line_of, is_port, is_split, is_word}
use Rattle.tdl_log.specs.Pieces.{line}
use Rattle.tdl_log.specs.inside.Walks.{begun_lines}
use Rattle.tdl_log.proofs.CutLines.{lacks}
use Rattle.tdl_log.proofs.LineForms.{decimal_looks, split_in}
use Rattle.tdl_log.proofs.OneLine.{ArePorts, entry_begins}
use Rattle.tdl_log.proofs.PlainBytes.{decimal_lacks}

abbrev pub begins : ℕ → List ℕ → Bool
begins byte bytes = get_or bytes 0 0 == byte

-- ---- other forms
unsplit : (h x z : Bool) → x ≡ false → (h && (x && z)) ≡ false
unsplit true x z e = ap (λ (b : Bool). b && z) e
unsplit false x z e = refl

other_word : (w : ℕ) (word : List ℕ) (byte : ℕ) (bytes : List ℕ) (t : Bool) → (byte == w) ≡ false
    → is_word (w ∷ word) (if t then [] else byte ∷ bytes) ≡ false
other_word w word byte bytes true e = refl
other_word w word byte bytes false e = ap (λ (b : Bool). b && is_word word bytes) e

pub other_looks : (w : ℕ) (word : List ℕ) (form : List ℕ → Bool) (bytes : List ℕ) → begins w bytes ≡ false
    → is_split (is_word (w ∷ word)) form bytes ≡ false
other_looks w word form [] e = refl
other_looks w word form (byte ∷ bytes) e =
    unsplit (has 32 (byte ∷ bytes)) (is_word (w ∷ word) (before 32 (byte ∷ bytes))) (form (behind 32 (byte ∷ bytes)))
    (other_word w word byte (before 32 bytes) (byte == 32) e)

-- ---- a field with a blank behind it
has_none : (mark : ℕ) (bytes : List ℕ) → lacks mark bytes ≡ true → has mark bytes ≡ false
has_none mark [] none = refl
has_none mark (byte ∷ bytes) none = by (byte == mark) (lacks mark bytes) (has mark bytes) none (has_none mark bytes)
  where
    by : (t u v : Bool) → (not t && u) ≡ true → (u ≡ true → v ≡ false) → (t || v) ≡ false
    by true u v e each = absurd (cc)
    by false u v e each = each e

both_true : (a b : Bool) → a ≡ true → b ≡ true → (a && b) ≡ true
both_true a b p q = ap (λ (c : Bool). c && b) p ∙ q

split_looks : (is_field is_left : List ℕ → Bool) (front left : List ℕ) → lacks 32 front ≡ true → is_field front ≡ true → is_left left ≡ true
    → is_split is_field is_left (front ++ 32 ∷ left) ≡ true
split_looks is_field is_left front left none field rest =
    sym (split_in is_field is_left (front ++ 32 ∷ left) front left (record { joined = refl; first = has_none 32 front none }))
    ∙ both_true (is_field front) (is_left left) field rest

word_looks : (end : PortEnd) → is_end_word (end_word end) ≡ true
word_looks port.Eof = refl
word_looks port.Finish = refl
word_looks port.Fault = refl
word_looks port.Spent = refl
word_looks port.Memory = refl
word_looks port.Stopped = refl

pub port_looks : (ending : Ending) → ending.port < 256 → is_port (port_line ending) ≡ true
port_looks ending small =
    split_looks is_decimal is_end_word (decimal ending.port) (end_word ending.end) (decimal_lacks 32 ending.port (omega arith) (omega arith))
    (decimal_looks ending.port (omega arith)) (word_looks ending.end)

pub end_looks : (entries : ℕ) → entries < 2 ^ 64 → is_last (end_line entries) ≡ true
end_looks entries few = decimal_looks entries few

-- ---- first bytes of lines
below_begins : (byte first : ℕ) → first ≤ 57 → 57 < byte → (first == byte) ≡ false
below_begins byte first small above = grind (arith, nat_tests)

none_entries : (byte place : ℕ) (entries : List Entry) → 57 < byte → place + length entries < 2 ^ 64
    → list_any (begins byte) (entry_lines place entries) ≡ false
none_entries byte place [] above few = refl
none_entries byte place (e ∷ entries) above few =
    ap (λ (b : Bool). b || list_any (begins byte) (entry_lines (place + 1) entries))
    (below_begins byte (get_or (entry_line place e) 0 0) (entry_begins place e (omega arith)) above)
    ∙ none_entries byte (place + 1) entries above (omega arith)

none_ports : (ends : List Ending) → list_any (begins 101) (map port_line ends) ≡ false
none_ports [] = refl
none_ports (ending ∷ ends) = none_ports ends

neither : (a b : Bool) → a ≡ false → b ≡ false → (a || b) ≡ false
neither a b p q = ap (λ (c : Bool). c || b) p ∙ q

pub none_begins : (log : Log) → length log.history < 2 ^ 32 → list_any (begins 101) (begun_lines log) ≡ false
none_begins log few =
    list_any-append (begins 101) (entry_lines 0 log.history) (map port_line log.ends)
    ∙ neither (list_any (begins 101) (entry_lines 0 log.history)) (list_any (begins 101) (map port_line log.ends))
    (none_entries 101 0 log.history (omega arith) (omega arith)) (none_ports log.ends)

-- ---- what lines look like that begin with other bytes
unlooked : (test : List ℕ → Bool) (byte : ℕ) → ((bytes : List ℕ) → begins byte bytes ≡ false → test bytes ≡ false) → (lines : List (List ℕ))
    → list_any (begins byte) lines ≡ false → list_any (is_line_of test) (map line lines) ≡ false
unlooked test byte other [] none = refl
unlooked test byte other (bytes ∷ lines) none =
    by (begins byte bytes) (list_any (begins byte) lines) none (other bytes) (unlooked test byte other lines)
  where
    by : (t u : Bool) → (t || u) ≡ false → (t ≡ false → test bytes ≡ false)
        → (u ≡ false → list_any (is_line_of test) (map line lines) ≡ false) → (test bytes || list_any (is_line_of test) (map line lines)) ≡ false
    by true u e here more = absurd (cc)
    by false u e here more = neither (test bytes) (list_any (is_line_of test) (map line lines)) (here refl) (more e)

pub no_last_line : (lines : List (List ℕ)) → list_any (begins 101) lines ≡ false → list_any (is_line_of is_last) (map line lines) ≡ false
no_last_line lines none = unlooked is_last 101 (λ bytes. other_looks 101 (codes "nd") is_decimal bytes) lines none

no_port_line : (lines : List (List ℕ)) → list_any (begins 112) lines ≡ false → list_any (is_line_of is_port) (map line lines) ≡ false
no_port_line lines none = unlooked is_port 112 (λ bytes. other_looks 112 (codes "ort") (is_split is_decimal is_end_word) bytes) lines none

-- a port is among the lines where one ended
abbrev pub has_ended : List Ending → Bool
has_ended ends = not (length ends == 0)

ports_look : (ends : List Ending) → ArePorts ends → list_any (is_line_of is_port) (map line (map port_line ends)) ≡ has_ended ends
ports_look [] small = refl
ports_look (ending ∷ ends) small =
    ap (λ (b : Bool). b || list_any (is_line_of is_port) (map line (map port_line ends))) (port_looks ending small.0)
    ∙ sym (ap not (some_ended (length ends)))
  where
    some_ended : (n : ℕ) → (suc n == 0) ≡ false
    some_ended n = grind (arith, nat_tests)

pub ports_shown : (log : Log) → length log.history < 2 ^ 32 → ArePorts log.ends
    → list_any (is_line_of is_port) (map line (begun_lines log)) ≡ has_ended log.ends
ports_shown log few small =
    let entries = entry_lines 0 log.history in
    let ports = map port_line log.ends in
    ap (list_any (is_line_of is_port)) (map-append line entries ports)
    ∙ list_any-append (is_line_of is_port) (map line entries) (map line ports)
    ∙ ap (λ (b : Bool). b || list_any (is_line_of is_port) (map line ports))
    (no_port_line entries (none_entries 112 0 log.history (omega arith) (omega arith)))
    ∙ ports_look log.ends small
