-- A buffer of which a front holds a text, and the rest is zeros.
use Rattle.std.proofs.Common.{◌≡◌, ℕ, ◌+◌, ◌-◌, ◌≤◌, List, ◌++◌, length, take, drop, replicate, ap, ◌∙◌, arith, length-take-le, length-append, length-drop}
use Rattle.std.proofs.lemmas.List.{drop-replicate, drop-drop}
use Rattle.std.proofs.lemmas.Slice.{take-put_mid, drop-put_mid}
use borrow.Rule.Slice.PartMut.{put_mid}

-- a text written behind the front leaves zeros behind it
pub padded_after : (buffer text written : List ℕ) (len room : ℕ) → length buffer ≡ room → drop len buffer ≡ replicate (room - len) 0
    → len + length text ≤ room → written ≡ text
    → drop (len + length text) (put_mid len (len + length text - len) buffer written) ≡ replicate (room - (len + length text)) 0
padded_after buffer text written len room long padded fits same =
    let more : len + length text - len ≡ length text = omega arith in
    let all : length written ≡ len + length text - len = omega (arith, ap length same) in
    let less : room - len - length text ≡ room - (len + length text) = omega arith in
    let kept = drop-put_mid len _ buffer written (len + length text) (omega arith) (omega arith) all in
    let split = drop-drop (length text) len buffer in
    let zeros = ap (drop (length text)) padded in
    let fewer = drop-replicate {X = ℕ} (length text) (room - len) 0 in
    rw (kept, ← split, zeros, fewer, less)

-- and the front is then the old one with the text behind it
pub take_after : (buffer text written : List ℕ) (len : ℕ) → len ≤ length buffer → written ≡ text
    → take (len + length text) (put_mid len (len + length text - len) buffer written) ≡ take len buffer ++ text
take_after buffer text written len fits same =
    take-put_mid len _ buffer written (len + length text) (omega (arith, ap length same)) fits ∙ ap (λ t. take len buffer ++ t) same

-- what may still be written
pub room_left : (buffer text : List ℕ) (len room : ℕ) → length buffer ≡ room → len ≤ room → length (take len buffer) + length text ≤ room
    → len + length text ≤ room
room_left buffer text len room long fits h = omega (arith, length-take-le len buffer (omega arith))

-- the buffer keeps its length
pub full_after : (buffer text written : List ℕ) (len room : ℕ) → length buffer ≡ room → len + length text ≤ room → written ≡ text
    → length (put_mid len (len + length text - len) buffer written) ≡ room
full_after buffer text written len room long fits same =
    let k = len + length text - len in
    let rest = drop k (drop len buffer) in
    omega (
      arith,
      length-append (take len buffer) (written ++ rest),
      length-append written rest,
      length-take-le len buffer (omega arith),
      length-drop k
          (drop len buffer),
      length-drop len buffer,
      ap length same,
    )
