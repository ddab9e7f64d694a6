-- Lines of a log that are told by their texts.
--     IsPlain                    an entry whose numbers are small, and whose text has no line feed
--     entry_once, port_once      entries at one place, and ports, are told by their lines
--     behind_are_lines           the lines behind the head have no line feed
--     rest_once                  entries and ports are told by the lines behind the head
use Rattle.std.proofs.Common.{◌≡◌, ℕ, ◌+◌, ◌^◌, ◌<◌, ◌≤◌, true, ◌==◌, List, [], ◌∷◌, ◌++◌, length, get_or, map, refl, sym, ap, ◌∙◌, arith}
use Rattle.std.specs.Prelude.{codes, if◌then◌else◌}
use Rattle.std.specs.List.{AllByRecursion}
use Rattle.std.specs.Fmt.{decimal}
use Rattle.std.proofs.lemmas.Fmt.{decimal_injective, decimal_is_IsNumeral}
use Rattle.std.proofs.lemmas.List.{append_cancel_left, get_or_append_left}
use Rattle.tdl_fraction.specs.Units.{last_units}
use Rattle.tdl_score.specs.declared.histories.Entry.{Entry}
use Rattle.tdl_score.specs.declared.histories.Deed.{Deed}
use Rattle.tdl_score.specs.declared.histories.Deed.TheVariants.{Swap, Look, Tick, Finish}
use Rattle.tdl_log.specs.declared.ends.Ending.{Ending}
use Rattle.tdl_log.specs.declared.ends.PortEnd.{PortEnd}
use Rattle.tdl_log.specs.declared.ends.PortEnd.TheVariants as port
use Rattle.tdl_log.specs.LogText.{deed_text, end_line, end_word, entry_line, entry_lines, place_text, port_line, swap_text, tick_text}
use Rattle.tdl_log.proofs.CutLines.{AreLines, cut_once, fronts_differ, lacks, lacks_both, lines_both}
use Rattle.tdl_log.proofs.PlainBytes.{decimal_bytes, decimal_lacks, place_lacks, place_once}

abbrev pub IsPlainDeed : Deed → Type 0
IsPlainDeed (Swap boundary text) = (boundary < 2 ^ 64) × (lacks 10 text ≡ true)
IsPlainDeed Look = Unit {0}
IsPlainDeed (Tick to) = to ≤ last_units
IsPlainDeed Finish = Unit {0}

pub record IsPlain (e : Entry) : Type 0 where
  pub who : e.who < 2 ^ 64
  pub frontier : e.frontier ≤ last_units
  pub deed : IsPlainDeed e.deed

-- ---- deeds
swap_once : (m n : ℕ) (xs ys : List ℕ) → m < 2 ^ 64 → n < 2 ^ 64 → swap_text m xs ≡ swap_text n ys → Swap m xs ≡ Swap n ys
swap_once m n xs ys p q e =
    let cut = cut_once 32 (decimal m) (decimal n) xs ys (decimal_lacks 32 m (omega arith) p) (decimal_lacks 32 n (omega arith) q)
    (append_cancel_left (codes "swap ") (decimal m ++ 32 ∷ xs) (decimal n ++ 32 ∷ ys) e) in
    let number : m ≡ n = decimal_injective m n p q cut.0 in
    ap (λ k. Swap k xs) number ∙ ap (λ zs. Swap n zs) cut.1

tick_once : (m n : ℕ) → m ≤ last_units → n ≤ last_units → tick_text m ≡ tick_text n → Tick m ≡ Tick n
tick_once m n p q e = ap Tick (place_once m n p q (append_cancel_left (codes "tick ") (place_text m) (place_text n) e))

pub deed_once : (one other : Deed) → IsPlainDeed one → IsPlainDeed other → deed_text one ≡ deed_text other → one ≡ other
deed_once (Swap m xs) (Swap n ys) p q e = swap_once m n xs ys p.0 q.0 e
deed_once (Swap m xs) Look p q e = absurd (fronts_differ (swap_text m xs) (codes "look") e refl)
deed_once (Swap m xs) (Tick n) p q e = absurd (fronts_differ (swap_text m xs) (tick_text n) e refl)
deed_once (Swap m xs) Finish p q e = absurd (fronts_differ (swap_text m xs) (codes "finish") e refl)
deed_once Look (Swap n ys) p q e = absurd (fronts_differ (codes "look") (swap_text n ys) e refl)
deed_once Look Look p q e = refl
deed_once Look (Tick n) p q e = absurd (fronts_differ (codes "look") (tick_text n) e refl)
deed_once Look Finish p q e = absurd (fronts_differ (codes "look") (codes "finish") e refl)
deed_once (Tick m) (Swap n ys) p q e = absurd (fronts_differ (tick_text m) (swap_text n ys) e refl)
deed_once (Tick m) Look p q e = absurd (fronts_differ (tick_text m) (codes "look") e refl)
deed_once (Tick m) (Tick n) p q e = tick_once m n p q e
deed_once (Tick m) Finish p q e = absurd (fronts_differ (tick_text m) (codes "finish") e refl)
deed_once Finish (Swap n ys) p q e = absurd (fronts_differ (codes "finish") (swap_text n ys) e refl)
deed_once Finish Look p q e = absurd (fronts_differ (codes "finish") (codes "look") e refl)
deed_once Finish (Tick n) p q e = absurd (fronts_differ (codes "finish") (tick_text n) e refl)
deed_once Finish Finish p q e = refl

-- ---- entries
same_fields : (w v f g : ℕ) (d h : Deed) → w ≡ v → f ≡ g → d ≡ h
    → (let a : Entry = record { who = w; frontier = f; deed = d } in a) ≡ (let b : Entry = record { who = v; frontier = g; deed = h } in b)
same_fields w v f g d h p q r = cc

pub entry_once : (place : ℕ) (one other : Entry) → IsPlain one → IsPlain other → entry_line place one ≡ entry_line place other → one ≡ other
entry_once place one other p q e =
    let behind = λ (x : Entry). place_text x.frontier ++ 32 ∷ deed_text x.deed in
    let called = cut_once 32 (decimal one.who) (decimal other.who) (behind one) (behind other)
    (decimal_lacks 32 one.who (omega arith) p.who) (decimal_lacks 32 other.who (omega arith) q.who)
    (append_cancel_left (codes " ") (decimal one.who ++ 32 ∷ behind one) (decimal other.who ++ 32 ∷ behind other)
    (append_cancel_left (decimal place) (32 ∷ (decimal one.who ++ 32 ∷ behind one)) (32 ∷ (decimal other.who ++ 32 ∷ behind other)) e)) in
    let timed = cut_once 32 (place_text one.frontier) (place_text other.frontier) (deed_text one.deed) (deed_text other.deed)
    (place_lacks 32 one.frontier (omega arith) p.frontier) (place_lacks 32 other.frontier (omega arith) q.frontier) called.1 in
    same_fields one.who other.who one.frontier other.frontier one.deed other.deed
    (decimal_injective one.who other.who p.who q.who called.0)
    (place_once one.frontier other.frontier p.frontier q.frontier timed.0)
    (deed_once one.deed other.deed p.deed q.deed timed.1)

-- ---- ports
-- two words begin with an f, and two with an s
read_end : List ℕ → PortEnd
read_end word =
    if get_or word 0 0 == 101 then port.Eof
    else (if get_or word 0 0 == 102 then (if get_or word 1 0 == 97 then port.Fault else port.Finish)
    else (if get_or word 0 0 == 109 then port.Memory
    else (if get_or word 1 0 == 112 then port.Spent else port.Stopped)))

read_word : (end : PortEnd) → read_end (end_word end) ≡ end
unfolding read_end
read_word port.Eof = refl
read_word port.Finish = refl
read_word port.Fault = refl
read_word port.Spent = refl
read_word port.Memory = refl
read_word port.Stopped = refl

end_once : (one other : PortEnd) → end_word one ≡ end_word other → one ≡ other
end_once one other e = sym (read_word one) ∙ ap read_end e ∙ read_word other

same_ending : (m n : ℕ) (x y : PortEnd) → m ≡ n → x ≡ y
    → (let a : Ending = record { port = m; end = x } in a) ≡ (let b : Ending = record { port = n; end = y } in b)
same_ending m n x y p q = cc

pub port_once : (one other : Ending) → one.port < 256 → other.port < 256 → port_line one ≡ port_line other → one ≡ other
port_once one other p q e =
    let cut = cut_once 32 (decimal one.port) (decimal other.port) (end_word one.end) (end_word other.end)
    (decimal_lacks 32 one.port (omega arith) (omega arith)) (decimal_lacks 32 other.port (omega arith) (omega arith))
    (append_cancel_left (codes "port ") (decimal one.port ++ 32 ∷ end_word one.end) (decimal other.port ++ 32 ∷ end_word other.end) e) in
    same_ending one.port other.port one.end other.end (decimal_injective one.port other.port (omega arith) (omega arith) cut.0)
    (end_once one.end other.end cut.1)

-- ---- lines without a line feed
word_lacks : (end : PortEnd) → lacks 10 (end_word end) ≡ true
word_lacks port.Eof = refl
word_lacks port.Finish = refl
word_lacks port.Fault = refl
word_lacks port.Spent = refl
word_lacks port.Memory = refl
word_lacks port.Stopped = refl

deed_lacks : (deed : Deed) → IsPlainDeed deed → lacks 10 (deed_text deed) ≡ true
deed_lacks (Swap boundary text) p =
    lacks_both 10 (codes "swap ") (decimal boundary ++ 32 ∷ text) refl
    (lacks_both 10 (decimal boundary) (32 ∷ text) (decimal_lacks 10 boundary (omega arith) p.0) p.1)
deed_lacks Look p = refl
deed_lacks (Tick to) p = lacks_both 10 (codes "tick ") (place_text to) refl (place_lacks 10 to (omega arith) p)
deed_lacks Finish p = refl

entry_is_line : (place : ℕ) (e : Entry) → place < 2 ^ 64 → IsPlain e → lacks 10 (entry_line place e) ≡ true
entry_is_line place e few p =
    lacks_both 10 (decimal place) (32 ∷ (decimal e.who ++ 32 ∷ (place_text e.frontier ++ 32 ∷ deed_text e.deed))) (decimal_lacks 10 place (omega arith) few)
    (lacks_both 10 (decimal e.who) (32 ∷ (place_text e.frontier ++ 32 ∷ deed_text e.deed)) (decimal_lacks 10 e.who (omega arith) p.who)
    (lacks_both 10 (place_text e.frontier) (32 ∷ deed_text e.deed) (place_lacks 10 e.frontier (omega arith) p.frontier) (deed_lacks e.deed p.deed)))

port_is_line : (ending : Ending) → ending.port < 256 → lacks 10 (port_line ending) ≡ true
port_is_line ending p =
    lacks_both 10 (codes "port ") (decimal ending.port ++ 32 ∷ end_word ending.end) refl
    (lacks_both 10 (decimal ending.port) (32 ∷ end_word ending.end) (decimal_lacks 10 ending.port (omega arith) (omega arith)) (word_lacks ending.end))

abbrev pub ArePlain : List Entry → Type 0
ArePlain entries = AllByRecursion IsPlain entries

abbrev pub ArePorts : List Ending → Type 0
ArePorts ends = AllByRecursion (λ ending. ending.port < 256) ends

entries_are_lines : (place : ℕ) (entries : List Entry) → place + length entries < 2 ^ 64 → ArePlain entries → AreLines (entry_lines place entries)
entries_are_lines place [] few p = tt
entries_are_lines place (e ∷ entries) few p = (entry_is_line place e (omega arith) p.0, entries_are_lines (place + 1) entries (omega arith) p.1)

ports_are_lines : (ends : List Ending) → ArePorts ends → AreLines (map port_line ends)
ports_are_lines [] p = tt
ports_are_lines (ending ∷ ends) p = (port_is_line ending p.0, ports_are_lines ends p.1)

-- ---- the lines behind the head
abbrev pub lines_behind : ℕ → List Entry → List Ending → ℕ → List (List ℕ)
lines_behind place entries ends count = entry_lines place entries ++ (map port_line ends ++ end_line count ∷ [])

pub behind_are_lines : (place : ℕ) (entries : List Entry) (ends : List Ending) (count : ℕ) → place + length entries < 2 ^ 64 → count < 2 ^ 64
    → ArePlain entries → ArePorts ends → AreLines (lines_behind place entries ends count)
behind_are_lines place entries ends count few small p q =
    lines_both (entry_lines place entries) (map port_line ends ++ end_line count ∷ []) (entries_are_lines place entries few p)
    (lines_both (map port_line ends) (end_line count ∷ []) (ports_are_lines ends q)
    (lacks_both 10 (codes "end ") (decimal count) refl (decimal_lacks 10 count (omega arith) small), tt))

-- the first byte of an entry's line is a digit, and of the lines behind the entries none is
pub entry_begins : (place : ℕ) (e : Entry) → place < 2 ^ 64 → get_or (entry_line place e) 0 0 ≤ 57
entry_begins place e few =
    let some : 0 < length (decimal place) = (decimal_is_IsNumeral place few).0.0 in
    omega (
      arith,
      get_or_append_left (decimal place) (32 ∷ (decimal e.who ++ 32 ∷ (place_text e.frontier ++ 32 ∷ deed_text e.deed))) 0 0 some,
      (decimal_bytes place few 0 0 some).1,
    )

pub no_entry : (place : ℕ) (e : Entry) (line : List ℕ) → place < 2 ^ 64 → entry_line place e ≡ line → 57 < get_or line 0 0 → ⊥
no_entry place e line few same above = omega (arith, entry_begins place e few, ap (λ xs. get_or xs 0 0) same)

pub heads : {A : Type 0} (x y : A) (xs ys : List A) → x ∷ xs ≡ y ∷ ys → x ≡ y
heads x y xs ys e = cc

pub tails : {A : Type 0} (x y : A) (xs ys : List A) → x ∷ xs ≡ y ∷ ys → xs ≡ ys
tails x y xs ys e = cc

abbrev pub lines_last : List Ending → ℕ → List (List ℕ)
lines_last ends count = map port_line ends ++ end_line count ∷ []

ports_once : (xs ys : List Ending) (m n : ℕ) → ArePorts xs → ArePorts ys → lines_last xs m ≡ lines_last ys n → xs ≡ ys
ports_once [] [] m n p q e = refl
ports_once [] (y ∷ ys) m n p q e =
    absurd (fronts_differ (end_line m) (port_line y) (heads (end_line m) (port_line y) [] (lines_last ys n) e) refl)
ports_once (x ∷ xs) [] m n p q e =
    absurd (fronts_differ (port_line x) (end_line n) (heads (port_line x) (end_line n) (lines_last xs m) [] e) refl)
ports_once (x ∷ xs) (y ∷ ys) m n p q e =
    let here : x ≡ y = port_once x y p.0 q.0 (heads (port_line x) (port_line y) (lines_last xs m) (lines_last ys n) e) in
    ap (λ z. z ∷ xs) here ∙ ap (λ zs. y ∷ zs) (ports_once xs ys m n p.1 q.1 (tails (port_line x) (port_line y) (lines_last xs m) (lines_last ys n) e))

-- no entry stands where the last lines begin
pub no_last : (place : ℕ) (e : Entry) (rest : List (List ℕ)) (ends : List Ending) (count : ℕ) → place < 2 ^ 64
    → entry_line place e ∷ rest ≡ lines_last ends count → ⊥
no_last place e rest [] count few same =
    no_entry place e (end_line count) few (heads (entry_line place e) (end_line count) rest [] same) (omega arith)
no_last place e rest (x ∷ ends) count few same =
    no_entry place e (port_line x) few (heads (entry_line place e) (port_line x) rest (lines_last ends count) same) (omega arith)

pub rest_once : (place : ℕ) (hs ks : List Entry) (es fs : List Ending) (m n : ℕ) → place + length hs < 2 ^ 64 → place + length ks < 2 ^ 64
    → ArePlain hs → ArePlain ks → ArePorts es → ArePorts fs → lines_behind place hs es m ≡ lines_behind place ks fs n → (hs ≡ ks) × (es ≡ fs)
rest_once place [] [] es fs m n few little p q r s e = (refl, ports_once es fs m n r s e)
rest_once place [] (k ∷ ks) es fs m n few little p q r s e =
    absurd (no_last place k (lines_behind (place + 1) ks fs n) es m (omega arith) (sym e))
rest_once place (h ∷ hs) [] es fs m n few little p q r s e =
    absurd (no_last place h (lines_behind (place + 1) hs es m) fs n (omega arith) e)
rest_once place (h ∷ hs) (k ∷ ks) es fs m n few little p q r s e =
    let one = lines_behind (place + 1) hs es m in
    let other = lines_behind (place + 1) ks fs n in
    let here : h ≡ k = entry_once place h k p.0 q.0 (heads (entry_line place h) (entry_line place k) one other e) in
    let rest = rest_once (place + 1) hs ks es fs m n (omega arith) (omega arith) p.1 q.1 r s
    (tails (entry_line place h) (entry_line place k) one other e) in
    (ap (λ z. z ∷ hs) here ∙ ap (λ zs. k ∷ zs) rest.0, rest.1)
