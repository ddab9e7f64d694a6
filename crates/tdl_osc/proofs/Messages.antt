-- A row's message and its bundle, by their parts.
use Rattle.std.proofs.Common.{◌≡◌, ℕ, ◌+◌, ◌*◌, ◌≤◌, ℤ, pos, ◌-ℤ◌, List, [], ◌++◌, codes, length, take, refl, sym, ap, ◌∙◌, append_assoc, append-nil}
use Rattle.std.proofs.Common.{length-append, arith}
use Rattle.std.specs.List.{flat_map}
use Rattle.std.proofs.lemmas.Grind.{flat_map-append}
use Rattle.std.proofs.lemmas.List.{take_all}
use Rattle.tdl_control.specs.Map.{KeyValues}
use Rattle.tdl_event.specs.declared.rows.Row.{Row}
use Rattle.tdl_fraction.specs.Rational.{floor}
use Rattle.tdl_tempo.specs.Tempo.{Pace, timetag, micros}
use Rattle.tdl_osc.specs.Encoding.{int32_bytes, time_bytes, osc_string, string_end}
use Rattle.tdl_osc.specs.Message.{argument_bytes, tag_of, message_bytes}
use Rattle.tdl_osc.specs.Bundle.{control_arguments, time_arguments, bundle_bytes, message_of, bytes_of}
use Rattle.tdl_osc.proofs.Arguments.{length-tags}
use Rattle.tdl_osc.proofs.Strings.{osc_string-parts}

-- the tags of a row's arguments, by its controls
abbrev pub row_tags : KeyValues → List ℕ
row_tags controls = codes ",sisisi" ++ flat_map tag_of (control_arguments controls)

-- the bytes of the arguments before the controls, and of the controls
abbrev pub time_part : Row → Pace → List ℕ
time_part row tempo = flat_map argument_bytes (time_arguments row tempo)

abbrev pub control_part : KeyValues → List ℕ
control_part controls = flat_map argument_bytes (control_arguments controls)

message_of-parts : (row : Row) (tempo : Pace)
    → message_of row tempo ≡ (osc_string (codes "/dirt/play") ++ osc_string (row_tags row.controls)) ++ (time_part row tempo ++ control_part row.controls)
unfolding message_of message_bytes
message_of-parts row tempo =
    ap (λ piece. (osc_string (codes "/dirt/play") ++ osc_string (row_tags row.controls)) ++ piece)
    (flat_map-append argument_bytes (time_arguments row tempo) (control_arguments row.controls))

length-row_tags : (controls : KeyValues) → length (row_tags controls) ≡ 7 + 2 * length controls
length-row_tags controls = omega (arith, length-tags controls)

length-address : length (osc_string (codes "/dirt/play")) ≡ 12
unfolding osc_string
length-address = refl

length-time_part : (row : Row) (tempo : Pace) → length (time_part row tempo) ≡ 36
unfolding osc_string int32_bytes
length-time_part row tempo = refl

-- the tags with their end
osc_string-row_tags : (controls : KeyValues) → osc_string (row_tags controls) ≡ row_tags controls ++ string_end (7 + 2 * length controls)
osc_string-row_tags controls = osc_string-parts (row_tags controls) ∙ ap (λ n. row_tags controls ++ string_end n) (length-row_tags controls)

-- what is added in turn comes to the tags
pub tags_made : (controls : KeyValues) (i n : ℕ) (start first out all : List ℕ) → length controls ≤ i → n ≡ length controls
    → first ≡ start ++ codes ",sisisi" → out ≡ first ++ flat_map tag_of (control_arguments (take i controls)) → all ≡ out ++ string_end (7 + 2 * n)
    → all ≡ start ++ osc_string (row_tags controls)
tags_made controls i n start first out all past same e0 e1 e2 =
    let every : take i controls ≡ controls = take_all i controls past in
    let at_tags : out ≡ start ++ row_tags controls =
    e1 ∙ ap (λ es. first ++ flat_map tag_of (control_arguments es)) every ∙ ap (λ text. text ++ flat_map tag_of (control_arguments controls)) e0
    ∙ append_assoc start (codes ",sisisi") (flat_map tag_of (control_arguments controls)) in
    e2 ∙ ap (λ m. out ++ string_end (7 + 2 * m)) same ∙ ap (λ text. text ++ string_end (7 + 2 * length controls)) at_tags
    ∙ append_assoc start (row_tags controls) (string_end (7 + 2 * length controls)) ∙ ap (λ text. start ++ text) (sym (osc_string-row_tags controls))

-- three numbers after their names, added in turn
six_pieces : (start one two three a b c d e f : List ℕ) → one ≡ start ++ a ++ b → two ≡ one ++ c ++ d → three ≡ two ++ e ++ f
    → three ≡ start ++ (a ++ (b ++ (c ++ (d ++ (e ++ (f ++ []))))))
six_pieces start one two three a b c d e f first second third = rw (third, second, first) (simp (append_assoc, append-nil))

-- what is added in turn comes to the arguments before the controls
pub times_made : (row : Row) (tempo : Pace) (cycle delta orbit : ℤ) (start one two three : List ℕ)
    → cycle ≡ floor row.onset → delta ≡ micros tempo row.length → orbit ≡ pos row.orbit -ℤ pos 1
    → one ≡ start ++ osc_string (codes "cycle") ++ int32_bytes cycle
    → two ≡ one ++ osc_string (codes "delta") ++ int32_bytes delta
    → three ≡ two ++ osc_string (codes "orbit") ++ int32_bytes orbit
    → three ≡ start ++ time_part row tempo
times_made row tempo cycle delta orbit start one two three same_cycle same_delta same_orbit e1 e2 e3 =
    six_pieces start one two three _ _ _ _ _ _
    (e1 ∙ ap (λ n. start ++ osc_string (codes "cycle") ++ int32_bytes n) same_cycle)
    (e2 ∙ ap (λ n. one ++ osc_string (codes "delta") ++ int32_bytes n) same_delta)
    (e3 ∙ ap (λ n. two ++ osc_string (codes "orbit") ++ int32_bytes n) same_orbit)

-- the size of a message, by those of its parts
pub length-message_of : (row : Row) (tempo : Pace) (tag_part : ℕ) → tag_part ≡ 7 + 2 * length row.controls + length (string_end (7 + 2 * length row.controls))
    → 48 + tag_part + length (control_part row.controls) ≡ length (message_of row tempo)
length-message_of row tempo tag_part same =
    let parts = ap length (message_of-parts row tempo) in
    let outer = length-append (osc_string (codes "/dirt/play") ++ osc_string (row_tags row.controls)) (time_part row tempo ++ control_part row.controls) in
    let front = length-append (osc_string (codes "/dirt/play")) (osc_string (row_tags row.controls)) in
    let back = length-append (time_part row tempo) (control_part row.controls) in
    let tagged = ap length (osc_string-row_tags row.controls) ∙ length-append (row_tags row.controls) (string_end (7 + 2 * length row.controls)) in
    omega (arith, parts, outer, front, back, tagged, length-row_tags row.controls, length-address, length-time_part row tempo)

-- what is added in turn comes to the bundle
pub bundle_made : (row : Row) (tempo : Pace) (tag size : ℤ) (none head timed sized addressed tagged told all : List ℕ)
    → tag ≡ timetag tempo row.onset → size ≡ pos (length (message_of row tempo)) → none ≡ []
    → head ≡ none ++ osc_string (codes "#bundle") → timed ≡ head ++ time_bytes tag → sized ≡ timed ++ int32_bytes size
    → addressed ≡ sized ++ osc_string (codes "/dirt/play") → tagged ≡ addressed ++ osc_string (row_tags row.controls)
    → told ≡ tagged ++ time_part row tempo → all ≡ told ++ control_part row.controls
    → all ≡ bytes_of row tempo
unfolding bytes_of bundle_bytes
bundle_made row tempo tag size none head timed sized addressed tagged told all same_tag same_size e0 e1 e2 e3 e4 e5 e6 e7 =
    let front = osc_string (codes "#bundle") ++ time_bytes tag ++ int32_bytes size in
    let address = osc_string (codes "/dirt/play") in
    let at_front : sized ≡ front = e3
    ∙ ap (λ b. b ++ int32_bytes size) (e2 ∙ ap (λ b. b ++ time_bytes tag) (e1 ∙ ap (λ b. b ++ osc_string (codes "#bundle")) e0)) in
    let at_address : addressed ≡ front ++ address = e4 ∙ ap (λ b. b ++ address) at_front in
    let at_tags : tagged ≡ front ++ (address ++ osc_string (row_tags row.controls)) = e5 ∙ ap (λ b. b ++ osc_string (row_tags row.controls)) at_address
    ∙ append_assoc front address (osc_string (row_tags row.controls)) in
    let at_end : all ≡ (front ++ (address ++ osc_string (row_tags row.controls))) ++ (time_part row tempo ++ control_part row.controls) =
    e7 ∙ ap (λ b. b ++ control_part row.controls) (e6 ∙ ap (λ b. b ++ time_part row tempo) at_tags)
    ∙ append_assoc (front ++ (address ++ osc_string (row_tags row.controls))) (time_part row tempo) (control_part row.controls) in
    at_end
    ∙ append_assoc front (address ++ osc_string (row_tags row.controls)) (time_part row tempo ++ control_part row.controls)
    ∙ ap (λ message. front ++ message) (sym (message_of-parts row tempo))
    ∙ ap (λ t. osc_string (codes "#bundle") ++ time_bytes t ++ int32_bytes size ++ message_of row tempo) same_tag
    ∙ ap (λ n. osc_string (codes "#bundle") ++ time_bytes (timetag tempo row.onset) ++ int32_bytes n ++ message_of row tempo) same_size
