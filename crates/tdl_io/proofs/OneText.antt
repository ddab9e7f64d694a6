-- A text is the frames of one list of packets at most, and reading it byte by byte finds them.
use Rattle.std.proofs.Common.{◌≡◌, ℕ, ◌<◌, ◌^◌, true, false, inl, inr, List, [], ◌∷◌, ◌++◌, take, drop, length, refl, ap, sym, ◌∙◌, subst, arith, rules}
use Rattle.std.proofs.Common.{append_assoc, append-nil}
use Rattle.std.proofs.Math.Seq.{take-append_seam}
use Rattle.std.proofs.lemmas.Bool.{cases_Bool, and_parts, and_from, ltb-true, lt-ltb}
use Rattle.std.proofs.lemmas.List.{append_cancel_left}
use Rattle.std.proofs.lemmas.List.Elements.{All-nil, All-cons, All-head, All-tail, All-push}
use Rattle.std.proofs.lemmas.Option.{none-some, same_Some}
use Rattle.std.proofs.lemmas.Slice.Eq.{bytes_eq-Decides}
use Rattle.std.specs.List.{All}
use Rattle.std.specs.Option.{option_map}
use Rattle.std.specs.Prelude.{Option, None, Some, is_some, nat_lt, IsTrue}
use Rattle.std.specs.Str.{bytes_eq}
use Rattle.byteorder.specs.Endian.{big_number}
use Rattle.byteorder.specs.Numbers.{big_number-reads_back}
use Rattle.tdl_io.specs.Frames.{HasFrame, frame, frames, is_frame, none_after, packets_from, packets_told, are_frames, FrameLaws}
use Rattle.tdl_io.specs.Told.{with_piece}

-- the number in front of a frame is the packet's length
front_number : (packet rest : List ℕ) → HasFrame packet → big_number 4 (frame packet ++ rest) ≡ length packet
front_number packet rest has = big_number-reads_back 4 (length packet) (packet ++ rest) (omega (arith, has))

-- what stands at a text's front is the frame of one packet at most
one_frame : (p q x y : List ℕ) → HasFrame p → HasFrame q → frame p ++ x ≡ frame q ++ y → (p ≡ q) × (x ≡ y)
one_frame p q x y has_p has_q same =
    let size : length p ≡ length q = sym (front_number p x has_p) ∙ ap (big_number 4) same ∙ front_number q y has_q in
    let behind : p ++ x ≡ q ++ y = ap (drop 4) same in
    let packets : p ≡ q = sym (take-append_seam p x) ∙ ap (take (length p)) behind ∙ ap (λ n. take n (q ++ y)) size ∙ take-append_seam q y in
    (packets, append_cancel_left q x y (ap (λ packet. packet ++ x) (sym packets) ∙ behind))

-- the test tells what its name says
frame_tested : (bytes : List ℕ) → IsTrue (is_frame bytes) → (bytes ≡ frame (drop 4 bytes)) × HasFrame (drop 4 bytes)
frame_tested bytes is =
    let both = and_parts (bytes_eq bytes (frame (drop 4 bytes))) (nat_lt (length (drop 4 bytes)) (2 ^ 31)) is in
    ((bytes_eq-Decides bytes (frame (drop 4 bytes))).0 both.0, ltb-true _ _ both.1)

frame_passes : (packet : List ℕ) → HasFrame packet → IsTrue (is_frame (frame packet))
frame_passes packet has =
    let same = (bytes_eq-Decides (frame packet) (frame packet)).1 refl in
    and_from (bytes_eq (frame packet) (frame packet)) (nat_lt (length packet) (2 ^ 31)) same (lt-ltb _ _ has)

-- the front of a frame is none
front_fails : (packet read : List ℕ) (next : ℕ) (more : List ℕ) → HasFrame packet → read ++ next ∷ more ≡ frame packet → is_frame read ≡ false
front_fails packet read next more has parts =
    elim (cases_Bool (is_frame read)) [
      | inl is ↦
          let tested = frame_tested read is in
          let same : frame (drop 4 read) ++ next ∷ more ≡ frame packet ++ [] =
          ap (λ front. front ++ next ∷ more) (sym tested.0) ∙ parts ∙ sym (append-nil (frame packet)) in
          let none_left = ap length (one_frame (drop 4 read) packet (next ∷ more) [] tested.1 has same).1 in
          absurd (omega (arith, none_left))
      | inr is ↦ is
    ]

-- one byte more, where it ends a frame
ends_frame : (read : List ℕ) (byte : ℕ) (bytes : List ℕ) → is_frame (read ++ byte ∷ []) ≡ true
    → packets_from read (byte ∷ bytes) ≡ option_map (λ packets. drop 4 (read ++ byte ∷ []) ∷ packets) (packets_from [] bytes)
ends_frame read byte bytes is = rw (packets_from, is) refl

-- and where it ends none
goes_on : (read : List ℕ) (byte : ℕ) (bytes : List ℕ) → is_frame (read ++ byte ∷ []) ≡ false
    → packets_from read (byte ∷ bytes) ≡ packets_from (read ++ byte ∷ []) bytes
goes_on read byte bytes not = rw (packets_from, not) refl

-- a frame is read, and then what stands behind it
reads_frame : (packet read bytes rest : List ℕ) → HasFrame packet → 0 < length bytes → read ++ bytes ≡ frame packet
    → packets_from read (bytes ++ rest) ≡ option_map (λ packets. packet ∷ packets) (packets_from [] rest)
reads_frame packet read [] rest has some parts = absurd (omega (arith, some))
reads_frame packet read (byte ∷ []) rest has some parts =
    ends_frame read byte rest (subst (λ text. is_frame text ≡ true) (sym parts) (frame_passes packet has))
    ∙ ap (λ text. option_map (λ packets. drop 4 text ∷ packets) (packets_from [] rest)) parts
reads_frame packet read (byte ∷ next ∷ bytes) rest has some parts =
    let whole : (read ++ byte ∷ []) ++ next ∷ bytes ≡ frame packet = append_assoc read (byte ∷ []) (next ∷ bytes) ∙ parts in
    goes_on read byte (next ∷ bytes ++ rest) (front_fails packet (read ++ byte ∷ []) next bytes has whole)
    ∙ reads_frame packet (read ++ byte ∷ []) (next ∷ bytes) rest has (omega arith) whole

-- so the packets of frames are found
pub reads_frames : (packets : List (List ℕ)) → All HasFrame packets → packets_from [] (frames packets) ≡ Some packets
reads_frames [] have = refl
reads_frames (packet ∷ packets) have =
    reads_frame packet [] (frame packet) (frames packets) (All-head HasFrame packet packets have) (omega arith) refl
    ∙ ap (option_map (λ later. packet ∷ later)) (reads_frames packets (All-tail HasFrame packet packets have))

-- nothing is found where something is left over
found_none : (read : List ℕ) (packets : List (List ℕ)) → none_after read ≡ Some packets → (read ≡ frames packets) × All HasFrame packets
found_none [] packets found =
    let none = same_Some [] packets found in
    (ap frames none, subst (All HasFrame) none (All-nil HasFrame))
found_none (first ∷ read) packets found = absurd (none-some packets found)

-- a packet and those behind it are found where those are
found_later : (packet : List ℕ) (later : Option (List (List ℕ))) (packets : List (List ℕ)) → option_map (λ others. packet ∷ others) later ≡ Some packets
    → (others : List (List ℕ)) × (later ≡ Some others) × (packet ∷ others ≡ packets)
found_later packet None packets found = absurd (none-some packets found)
found_later packet (Some others) packets found = (others, refl, same_Some (packet ∷ others) packets found)

-- and what is found are the packets of frames
pub found_frames : (read bytes : List ℕ) (packets : List (List ℕ)) → packets_from read bytes ≡ Some packets
    → (read ++ bytes ≡ frames packets) × All HasFrame packets
found_frames read [] packets found =
    let none = found_none read packets found in
    (append-nil read ∙ none.0, none.1)
found_frames read (byte ∷ bytes) packets found =
    let whole = read ++ byte ∷ [] in
    let parts : read ++ byte ∷ bytes ≡ whole ++ bytes = sym (append_assoc read (byte ∷ []) bytes) in
    elim (cases_Bool (is_frame whole)) [
      | inl is ↦
          let rest = found_later (drop 4 whole) (packets_from [] bytes) packets (sym (ends_frame read byte bytes is) ∙ found) in
          let behind = found_frames [] bytes rest.0 rest.1 in
          let tested = frame_tested whole is in (
            parts ∙ ap (λ front. front ++ bytes) tested.0 ∙ ap (λ text. frame (drop 4 whole) ++ text) behind.0 ∙ ap frames rest.2,
            subst (All HasFrame) rest.2 (All-cons HasFrame (drop 4 whole) rest.0 tested.1 behind.1),
          )
      | inr not ↦
          let later = found_frames whole bytes packets (sym (goes_on read byte bytes not) ∙ found) in
          (parts ∙ later.0, later.1)
    ]

-- frames with one more behind them
frames-push : (packets : List (List ℕ)) (packet : List ℕ) → frames (packets ++ packet ∷ []) ≡ frames packets ++ frame packet
frames-push [] packet = append-nil (frame packet)
frames-push (first ∷ packets) packet =
    ap (λ text. frame first ++ text) (frames-push packets packet) ∙ sym (append_assoc (frame first) (frames packets) (frame packet))

is_some_tells : {A : Type 0} (told : Option A) → IsTrue (is_some told) → (packets : A) × (told ≡ Some packets)
is_some_tells None is = absurd (search (rules, is))
is_some_tells (Some packets) is = (packets, refl)

stays_told : {A : Type 0} (told : Option (List A)) (more : List A) → IsTrue (is_some told) → IsTrue (is_some (with_piece told more))
stays_told None more is = is
stays_told (Some xs) more is = refl

-- where frames are told, one more frame is one more packet
pub tells_one_more : (told : Option (List ℕ)) (packet : List ℕ) → HasFrame packet → IsTrue (are_frames told)
    → packets_told (with_piece told (frame packet)) ≡ with_piece (packets_told told) (packet ∷ [])
tells_one_more None packet has are = refl
tells_one_more (Some bytes) packet has are =
    let some = is_some_tells (packets_from [] bytes) are in
    let found = found_frames [] bytes some.0 some.1 in
    let text : bytes ++ frame packet ≡ frames (some.0 ++ packet ∷ []) = ap (λ text. text ++ frame packet) found.0 ∙ sym (frames-push some.0 packet) in
    ap (packets_from []) text
    ∙ reads_frames (some.0 ++ packet ∷ []) (All-push HasFrame some.0 packet found.1 has)
    ∙ ap (λ told. with_piece told (packet ∷ [])) (sym some.1)

-- and frames are told then
pub tells_on : (told : Option (List ℕ)) (packet : List ℕ) → HasFrame packet → IsTrue (are_frames told) → IsTrue (are_frames (with_piece told (frame packet)))
tells_on told packet has are =
    ap is_some (tells_one_more told packet has are) ∙ stays_told (packets_told told) (packet ∷ []) are

-- what the definitions mean
pub frame_laws : FrameLaws
frame_laws = record {
  told = λ bytes packets. (
    found_frames [] bytes packets,
    λ are. ap (packets_from []) are.0 ∙ reads_frames packets are.1,
  );
  one = λ left right has_left has_right same.
      let both : Some left ≡ Some right = sym (reads_frames left has_left) ∙ ap (packets_from []) same ∙ reads_frames right has_right in
      same_Some left right both;
}
