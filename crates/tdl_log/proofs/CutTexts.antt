-- Texts that are cut at their line feeds.
--     joined              the pieces of a text are the text
--     cut_feed, cut_rest  the first piece: up to the first line feed, or all
--     cut_lines           lines with line feeds, and what is behind them
--     lines_bytes         the bytes of lines
--     size_more           how many bytes there are with one line more
use Rattle.std.proofs.Common.{◌≡◌, ℕ, ◌+◌, Bool, true, false, not, ◌&&◌, ◌==◌, List, [], ◌∷◌, ◌++◌, length, map, refl, sym, ap, ◌∙◌}
use Rattle.std.proofs.Common.{append_assoc, append-nil, arith, length-append}
use Rattle.std.proofs.lemmas.Bool.{eqb-true, true≢false}
use Rattle.std.proofs.lemmas.Grind.{flat_map-append}
use Rattle.std.specs.List.{flat_map}
use Rattle.tdl_log.specs.LogText.{with_feed}
use Rattle.tdl_log.specs.Pieces.{Piece, line, rest, bytes_of, cut, onto, size}
use Rattle.tdl_log.proofs.CutLines.{AreLines, lacks}

-- ---- a text
onto_bytes : (byte : ℕ) (pieces : List Piece) → flat_map bytes_of (onto byte pieces) ≡ byte ∷ flat_map bytes_of pieces
onto_bytes byte [] = refl
onto_bytes byte (line bytes ∷ pieces) = refl
onto_bytes byte (rest bytes ∷ pieces) = refl

-- the pieces of a text that begins with a byte
abbrev pub cut_by : ℕ → List ℕ → Bool → List Piece
cut_by byte bytes is_feed =
    elim is_feed [
      | true ↦ line [] ∷ cut bytes
      | false ↦ onto byte (cut bytes)
    ]

joined_by : (byte : ℕ) (bytes : List ℕ) (t : Bool) → (byte == 10) ≡ t → flat_map bytes_of (cut bytes) ≡ bytes
    → flat_map bytes_of (cut_by byte bytes t) ≡ byte ∷ bytes
joined_by byte bytes true is more =
    let feed : byte ≡ 10 = eqb-true byte 10 is in
    ap (λ (b : ℕ). b ∷ flat_map bytes_of (cut bytes)) (sym feed) ∙ ap (λ (xs : List ℕ). byte ∷ xs) more
joined_by byte bytes false is more = onto_bytes byte (cut bytes) ∙ ap (λ (xs : List ℕ). byte ∷ xs) more

pub joined : (text : List ℕ) → flat_map bytes_of (cut text) ≡ text
joined [] = refl
joined (byte ∷ bytes) = joined_by byte bytes (byte == 10) refl (joined bytes)

-- ---- its first piece
no_feed : (byte : ℕ) (bytes : List ℕ) → lacks 10 (byte ∷ bytes) ≡ true → (byte == 10) ≡ false
no_feed byte bytes none = by (byte == 10) (lacks 10 bytes) none
  where
    by : (t u : Bool) → (not t && u) ≡ true → t ≡ false
    by true u e = absurd (true≢false (sym e))
    by false u e = refl

none_later : (byte : ℕ) (bytes : List ℕ) → lacks 10 (byte ∷ bytes) ≡ true → lacks 10 bytes ≡ true
none_later byte bytes none = by (byte == 10) (lacks 10 bytes) none
  where
    by : (t u : Bool) → (not t && u) ≡ true → u ≡ true
    by true u e = absurd (true≢false (sym e))
    by false u e = e

cut_plain : (byte : ℕ) (bytes : List ℕ) → (byte == 10) ≡ false → cut (byte ∷ bytes) ≡ onto byte (cut bytes)
cut_plain byte bytes plain = ap (λ (t : Bool). cut_by byte bytes t) plain

pub cut_feed : (bytes others : List ℕ) → lacks 10 bytes ≡ true → cut (bytes ++ 10 ∷ others) ≡ line bytes ∷ cut others
cut_feed [] others none = refl
cut_feed (byte ∷ bytes) others none =
    cut_plain byte (bytes ++ 10 ∷ others) (no_feed byte bytes none)
    ∙ ap (λ (pieces : List Piece). onto byte pieces) (cut_feed bytes others (none_later byte bytes none))

pub cut_rest : (bytes : List ℕ) → lacks 10 bytes ≡ true → cut bytes ≡ rest bytes ∷ []
cut_rest [] none = refl
cut_rest (byte ∷ bytes) none =
    cut_plain byte bytes (no_feed byte bytes none) ∙ ap (λ (pieces : List Piece). onto byte pieces) (cut_rest bytes (none_later byte bytes none))

-- ---- lines
pub cut_lines : (lines : List (List ℕ)) (text : List ℕ) → AreLines lines → cut (flat_map with_feed lines ++ text) ≡ map line lines ++ cut text
cut_lines [] text are = refl
cut_lines (l ∷ lines) text are =
    ap cut (append_assoc (with_feed l) (flat_map with_feed lines) text ∙ append_assoc l (10 ∷ []) (flat_map with_feed lines ++ text))
    ∙ cut_feed l (flat_map with_feed lines ++ text) are.0 ∙ ap (λ (pieces : List Piece). line l ∷ pieces) (cut_lines lines text are.1)

pub lines_bytes : (lines : List (List ℕ)) (more : List Piece)
    → flat_map bytes_of (map line lines ++ more) ≡ flat_map with_feed lines ++ flat_map bytes_of more
lines_bytes [] more = refl
lines_bytes (l ∷ lines) more =
    ap (λ (bytes : List ℕ). with_feed l ++ bytes) (lines_bytes lines more)
    ∙ sym (append_assoc (with_feed l) (flat_map with_feed lines) (flat_map bytes_of more))

pub size_more : (pieces : List Piece) (l : List ℕ) → size (pieces ++ line l ∷ []) ≡ size pieces + length l + 1
size_more pieces l =
    ap length (flat_map-append bytes_of pieces (line l ∷ []) ∙ ap (λ (bytes : List ℕ). flat_map bytes_of pieces ++ bytes) (append-nil (l ++ 10 ∷ [])))
    ∙ length-append (flat_map bytes_of pieces) (l ++ 10 ∷ []) ∙ ap (λ n. size pieces + n) (length-append l (10 ∷ [])) ∙ add_up (size pieces) (length l)
  where
    add_up : (m n : ℕ) → m + (n + 1) ≡ m + n + 1
    add_up m n = omega arith
