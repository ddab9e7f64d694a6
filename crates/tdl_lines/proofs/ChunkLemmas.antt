-- The parts of a chunk.
use Rattle.std.proofs.Common.{◌≡◌, ◌≢◌, ℕ, ◌+◌, ◌-◌, ◌<◌, ◌≤◌, Bool, true, false, List, [], ◌∷◌, ◌++◌, length, take, drop, get_or, Option, None, Some}
use Rattle.std.proofs.Common.{IfSome, min, inl, inr, ◌⊎◌, refl, sym, ap, subst, ◌∙◌, arith, length-drop}
use Rattle.std.proofs.lemmas.Bool.{cases_lt, eqb-true, eq-eqb}
use Rattle.std.proofs.lemmas.List.{take-append-drop, take-append-le, take-take, take_all, drop-take, drop-drop, drop_more, get_or-take}
use Rattle.std.proofs.lemmas.List.{length-take-le}
use Rattle.std.proofs.lemmas.List.Elements.{All-from_get_or}
use Rattle.std.specs.Prelude.{slice_range}
use Rattle.tdl_io.specs.Told.{GaveExactly, after_piece}
use Rattle.tdl_io.proofs.Told.{after_piece-nil}
use Rattle.memchr.specs.Find.{IsFirstByte, is_byte}
use Rattle.tdl_lines.specs.Lines.{line_feed}
use Rattle.tdl_lines.specs.inside.Chunk.{Fills, ReadsFront}
use Rattle.tdl_lines.specs.inside.ChunkState.{ChunkState}

-- a line feed was found
pub feed_found : (bytes : List ℕ) (start end count : ℕ) → start ≤ end → end ≤ length bytes
    → IsFirstByte (is_byte 10) (slice_range bytes start end) (Some count)
    → ReadsFront true (slice_range bytes start end)
    (record { front = slice_range bytes start (start + count); unread = slice_range bytes (start + count + 1) end })
feed_found bytes start end count ordered within first =
    let hay = slice_range bytes start end in
    let all = drop start bytes in
    let size : length hay ≡ end - start = length-take-le (end - start) all (omega (arith, length-drop start bytes)) in
    let inside : count < end - start = omega (arith, first.0.high) in
    let front : slice_range bytes start (start + count) ≡ take count hay =
    let n : start + count - start ≡ count = omega arith in
    ap (λ (k : ℕ). take k all) n ∙ sym (take-take count (end - start) all (omega arith)) in
    let rest : slice_range bytes (start + count + 1) end ≡ drop (count + 1) hay =
    let n : end - start ≡ (count + 1) + (end - (start + count + 1)) = omega arith in
    let m : start + (count + 1) ≡ start + count + 1 = omega arith in
    sym (ap (λ (k : ℕ). drop (count + 1) (take k all)) n
    ∙ drop-take (count + 1) (end - (start + count + 1)) all
    ∙ ap (take (end - (start + count + 1))) (drop-drop (count + 1) start bytes ∙ ap (λ (k : ℕ). drop k bytes) m)) in
    let feed : get_or hay count 0 ≡ line_feed = eqb-true (get_or hay count 0) 10 first.1 in
    record {
      no_feed = rw front (All-from_get_or (λ byte. byte ≢ line_feed) (take count hay) 0 (λ i below.
          let at : i < count = omega (arith, length-take-le count hay (omega arith)) in
          λ e. first.0.before i (omega arith) at (eq-eqb (get_or hay i 0) 10 (sym (get_or-take count hay i 0 at) ∙ e))));
      parts = sym (take-append-drop count hay)
          ∙ ap (λ (xs : List ℕ). take count hay ++ xs) (drop_more hay count 0 (omega (arith, first.0.high)))
          ∙ ap (λ (b : ℕ). take count hay ++ b ∷ drop (count + 1) hay) feed
          ∙ sym (ap (λ (xs : List ℕ). xs ++ line_feed ∷ slice_range bytes (start + count + 1) end) front
          ∙ ap (λ (xs : List ℕ). take count hay ++ line_feed ∷ xs) rest);
    }

-- there is none
pub feed_missing : (bytes : List ℕ) (start end : ℕ) → IsFirstByte (is_byte 10) (slice_range bytes start end) None
    → ReadsFront false (slice_range bytes start end) (record { front = slice_range bytes start end; unread = slice_range bytes end end })
feed_missing bytes start end none = record {
  no_feed = All-from_get_or (λ byte. byte ≢ line_feed) (slice_range bytes start end) 0 (λ i below e.
      none i (omega arith) below (eq-eqb (get_or (slice_range bytes start end) i 0) 10 e));
  parts = let none_left : end - end ≡ 0 = omega arith in (refl, ap (λ (k : ℕ). take k (drop end bytes)) none_left);
}

pub reads_same : {found : Bool} {bytes bytes' : List ℕ} {chunk : ChunkState} → bytes ≡ bytes' → ReadsFront found bytes chunk
    → ReadsFront found bytes' chunk
reads_same {found} {bytes} {bytes'} {chunk} same reads = subst (λ (xs : List ℕ). ReadsFront found xs chunk) same reads

-- ---- what a source gave
take_both : (most count end : ℕ) (bytes : List ℕ) → end ≡ min count most → count ≤ length bytes → (most < count) ⊎ (count ≤ most)
    → take end bytes ≡ take most (take count bytes)
take_both most count end bytes at fits (inr all) =
    let same : end ≡ count = omega arith in
    ap (λ (n : ℕ). take n bytes) same ∙ sym (take_all most (take count bytes) (omega (arith, length-take-le count bytes fits)))
take_both most count end bytes at fits (inl some) =
    let same : end ≡ most = omega arith in
    ap (λ (n : ℕ). take n bytes) same ∙ sym (take-take most count bytes (omega arith))

none_told : {before after : Option (List ℕ)} {bytes : List ℕ} → GaveExactly before after bytes → bytes ≡ [] → IfSome before (λ rest. rest ≡ [])
    → IfSome after (λ rest. rest ≡ [])
none_told {before} {after} {bytes} gave nothing none =
    subst (λ (told : Option (List ℕ)). IfSome told (λ rest. rest ≡ []))
    (gave.was ∙ ap (λ (p : List ℕ). after_piece p after) nothing ∙ after_piece-nil after) none

pub fills : {Known : List ℕ → Type 0} {before after : Option (List ℕ)} (left count end : ℕ) (into behind front : List ℕ)
    → GaveExactly before after (take count into) → Known (take count into) → count ≤ length into → count ≤ left → 0 < length into → end ≡ min count (left - 1)
    → (count ≡ 0 → 0 < length into → IfSome before (λ rest. rest ≡ []))
    → Fills Known left count before after (record { front = front; unread = slice_range (into ++ behind) 0 end })
fills {Known} {before} {after} left count end into behind front gave known fits most some at none = record {
  bytes = take count into;
  count_is = length-take-le count into fits;
  most = most;
  gave = gave;
  known = known;
  unread = let all : end - 0 ≡ end = omega arith in
      ap (λ (n : ℕ). take n (into ++ behind)) all
      ∙ take-append-le end into behind (omega arith) ∙ take_both (left - 1) count end into at fits (cases_lt (left - 1) count);
  none_left = λ zero_count. none_told gave (ap (λ (n : ℕ). take n into) zero_count) (none zero_count some);
}
