-- How a reader stands while it takes bytes and gives lines.
use Rattle.std.proofs.Common.{◌≡◌, ℕ, zero, suc, ◌+◌, ◌-◌, ◌<◌, Bool, true, false, IsTrue, List, [], ◌∷◌, ◌++◌, length, take, refl, sym, ap}
use Rattle.std.proofs.Common.{◌∙◌, arith, append-nil, append_assoc, length-append, inl, inr, ◌⊎◌}
use Rattle.std.proofs.Math.Seq.{take-append-add}
use Rattle.std.proofs.lemmas.List.{take-append-le, take_all}
use Rattle.tdl_lines.specs.Lines.{HasNoFeed, rest_from, trimmed, line_feed, lines_in, lines_of, max_input}
use Rattle.tdl_lines.specs.Reading.{Reading, HasRead, HasGivenAll, HasGivenSome, fresh}
use Rattle.tdl_lines.proofs.LineLemmas.{cut, cut_line, cut_whole, lines_after_whole, lines_last, lines_plain, lines_whole, rest_line, rest_whole}

-- ---- the bytes that count
pub take_more : (most left : ℕ) (taken more : List ℕ) → length taken + left ≡ most + 1 → (left ≡ 0) ⊎ (0 < left)
    → take most (taken ++ more) ≡ take most taken ++ take (left - 1) more
take_more most left taken more counted (inl none) =
    let no_more : left - 1 ≡ 0 = omega arith in
    take-append-le most taken more (omega arith)
    ∙ sym (ap (λ (n : ℕ). take most taken ++ take n more) no_more ∙ append-nil (take most taken))
take_more most left taken more counted (inr some) =
    let all : take most taken ≡ taken = take_all most taken (omega arith) in
    let sum : most ≡ length taken + (left - 1) = omega arith in
    ap (λ (n : ℕ). take n (taken ++ more)) sum ∙ take-append-add taken more (left - 1) ∙ ap (λ (xs : List ℕ). xs ++ take (left - 1) more) (sym all)

pub zero_or_more : (n : ℕ) → (n ≡ 0) ⊎ (0 < n)
zero_or_more zero = inl refl
zero_or_more (suc n) = inr (omega arith)

-- ---- lines that were given, and the pending bytes
parts_at : (ended : Bool) (before pending : List ℕ) (given : List (List ℕ)) → given ≡ lines_in ended before
    → (rest_from [] before ≡ []) ⊎ (IsTrue ended × (pending ≡ [])) → lines_in ended (before ++ pending) ≡ given ++ lines_in ended pending
parts_at ended before pending given lines (inl whole) =
    lines_after_whole ended before pending whole
    ∙ ap (λ (ls : List (List ℕ)). ls ++ lines_in ended pending) (sym (lines ∙ lines_whole ended before whole))
parts_at ended before pending given lines (inr last) =
    ap (λ (xs : List ℕ). lines_in ended (before ++ xs)) last.1 ∙ ap (lines_in ended) (append-nil before) ∙ sym lines
    ∙ sym (ap (λ (xs : List ℕ). given ++ lines_in ended xs) last.1 ∙ append-nil given)

-- the lines of what was taken are those that were given, and those of the pending bytes
pub lines_then_pending : {reading : Reading} {taken : List ℕ} {given : List (List ℕ)} → HasRead reading taken given
    → lines_of reading.ended taken ≡ given ++ lines_in reading.ended reading.pending
lines_then_pending {reading} {taken} {given} read =
    ap (lines_in reading.ended) read.parts ∙ parts_at reading.ended read.before reading.pending given read.lines read.whole

-- no byte was taken yet
pub read_none : HasRead fresh [] []
read_none = record { before = []; parts = refl; lines = refl; whole = inl refl; counted = refl; fits = λ ended. absurd (cc) }

-- ---- more bytes
-- a reader takes more bytes while it gives no line
pub record TakesMore (old : Reading) (more waiting : List ℕ) (left : ℕ) (ended : Bool) : Type 0 where
  pub waiting_is : waiting ≡ old.pending ++ take (old.left - 1) more
  pub size : length more + left ≡ old.left
  pub none_more : IsTrue old.ended → (more ≡ []) × IsTrue ended
  pub fits : IsTrue ended → IsTrue old.ended ⊎ (0 < left)

same_lines : (old new : Bool) (before : List ℕ) (given : List (List ℕ)) → given ≡ lines_in old before → (IsTrue old → IsTrue new)
    → rest_from [] before ≡ [] → given ≡ lines_in new before
same_lines old new before given lines stays whole = lines ∙ lines_whole old before whole ∙ sym (lines_whole new before whole)

nothing_waits : {pending more waiting : List ℕ} (n : ℕ) → waiting ≡ pending ++ take n more → more ≡ [] → pending ≡ [] → waiting ≡ []
nothing_waits {pending} {more} {waiting} n waits none_more none_pending =
    let none : take n more ≡ [] = ap (take n) none_more ∙ take_all n [] (omega arith) in
    waits ∙ ap (λ (xs : List ℕ). pending ++ xs) none ∙ append-nil pending ∙ none_pending

pub more_read : (old : Reading) (more waiting : List ℕ) (left : ℕ) (ended : Bool) (line taken : List ℕ) (given : List (List ℕ))
    → TakesMore old more waiting left ended → HasRead old taken given
    → HasRead (record { pending = waiting; left = left; ended = ended; line = line }) (taken ++ more) given
more_read old more waiting left ended line taken given takes read = record {
  before = read.before;
  parts = take_more max_input old.left taken more read.counted (zero_or_more old.left)
      ∙ ap (λ (xs : List ℕ). xs ++ take (old.left - 1) more) read.parts
      ∙ append_assoc read.before old.pending (take (old.left - 1) more)
      ∙ ap (λ (xs : List ℕ). read.before ++ xs) (sym takes.waiting_is);
  lines = elim read.whole [
    | inl whole ↦ same_lines old.ended ended read.before given read.lines (λ e. (takes.none_more e).1) whole
    | inr last ↦ read.lines ∙ ap (λ (e : Bool). lines_in e read.before) (last.0 ∙ sym (takes.none_more last.0).1)
  ];
  whole = elim read.whole [
    | inl whole ↦ inl whole
    | inr last ↦ inr ((takes.none_more last.0).1, nothing_waits (old.left - 1) takes.waiting_is (takes.none_more last.0).0 last.1)
  ];
  counted = omega (arith, read.counted, takes.size, length-append taken more);
  fits = λ e. elim (takes.fits e) [
    | inl before ↦ omega (arith, read.fits before, ap length (takes.none_more before).0, length-append taken more)
    | inr some ↦ omega (arith, read.counted, takes.size, length-append taken more)
  ];
}

-- ---- lines
-- a line, and its line feed
pub line_given : (reading : Reading) (raw rest taken : List ℕ) (given : List (List ℕ)) → HasRead reading taken given
    → reading.pending ≡ raw ++ line_feed ∷ rest → HasNoFeed raw
    → HasRead (record reading { pending = rest; line = trimmed raw }) taken (given ++ trimmed raw ∷ [])
line_given reading raw rest taken given read parts plain =
    let line = raw ++ line_feed ∷ [] in
    let whole = whole_before reading raw rest taken given read parts in
    let whole_after = rest_whole read.before line whole ∙ rest_line raw plain in record {
      before = read.before ++ line;
      parts = read.parts
          ∙ ap (λ (xs : List ℕ). read.before ++ xs) (parts ∙ sym (append_assoc raw (line_feed ∷ []) rest))
          ∙ sym (append_assoc read.before line rest);
      lines = sym (lines_whole reading.ended (read.before ++ line) whole_after
          ∙ cut_whole read.before line whole
          ∙ ap (λ (ls : List (List ℕ)). cut read.before ++ ls) (cut_line raw plain)
          ∙ ap (λ (ls : List (List ℕ)). ls ++ trimmed raw ∷ []) (sym (read.lines ∙ lines_whole reading.ended read.before whole)));
      whole = inl whole_after;
      counted = read.counted;
      fits = read.fits;
    }
  where
    whole_before : (reading : Reading) (raw rest taken : List ℕ) (given : List (List ℕ)) (read : HasRead reading taken given)
        → reading.pending ≡ raw ++ line_feed ∷ rest → rest_from [] read.before ≡ []
    whole_before reading raw rest taken given read parts = elim read.whole [
      | inl whole ↦ whole
      | inr last ↦ absurd (omega (arith, ap length (sym last.1 ∙ parts), length-append raw (line_feed ∷ rest)))
    ]

whole_where_some : (reading : Reading) (taken : List ℕ) (given : List (List ℕ)) (read : HasRead reading taken given) → 0 < length reading.pending
    → rest_from [] read.before ≡ []
whole_where_some reading taken given read some = elim read.whole [
  | inl whole ↦ whole
  | inr last ↦ absurd (omega (arith, ap length last.1))
]

-- the last line, which has no line feed
pub last_given : (reading : Reading) (taken : List ℕ) (given : List (List ℕ)) → HasRead reading taken given → HasNoFeed reading.pending
    → 0 < length reading.pending → reading.ended ≡ true
    → HasRead (record reading { pending = []; line = trimmed reading.pending }) taken (given ++ trimmed reading.pending ∷ [])
last_given reading taken given read plain some ended =
    let whole = whole_where_some reading taken given read some in record {
      before = read.before ++ reading.pending;
      parts = read.parts ∙ sym (append-nil (read.before ++ reading.pending));
      lines = sym (lines_after_whole reading.ended read.before reading.pending whole
          ∙ ap (λ (e : Bool). cut read.before ++ lines_in e reading.pending) ended
          ∙ ap (λ (ls : List (List ℕ)). cut read.before ++ ls) (lines_last reading.pending plain some)
          ∙ ap (λ (ls : List (List ℕ)). ls ++ trimmed reading.pending ∷ []) (sym (read.lines ∙ lines_whole reading.ended read.before whole)));
      whole = inr (ended, refl);
      counted = read.counted;
      fits = read.fits;
    }

-- the source ended, and nothing is pending
pub all_given_at_end : (reading : Reading) (taken : List ℕ) (given : List (List ℕ)) → HasRead reading taken given → reading.pending ≡ []
    → reading.ended ≡ true → HasGivenAll true reading taken given
all_given_at_end reading taken given read none ended = record {
  read = read;
  ended_is = ended;
  lines = ap (λ (e : Bool). lines_of e taken) (sym ended) ∙ lines_then_pending read
      ∙ ap (λ (xs : List ℕ). given ++ lines_in reading.ended xs) none ∙ append-nil given;
}

-- the source has not ended, and no line feed is pending
pub all_given_so_far : (reading : Reading) (taken : List ℕ) (given : List (List ℕ)) → HasRead reading taken given → HasNoFeed reading.pending
    → reading.ended ≡ false → HasGivenAll false reading taken given
all_given_so_far reading taken given read plain ended = record {
  read = read;
  ended_is = ended;
  lines = ap (λ (e : Bool). lines_of e taken) (sym ended) ∙ lines_then_pending read
      ∙ ap (λ (e : Bool). given ++ lines_in e reading.pending) ended
      ∙ ap (λ (ls : List (List ℕ)). given ++ ls) (lines_plain reading.pending plain) ∙ append-nil given;
}

-- no more is known than what was given
pub some_given : (reading : Reading) (taken : List ℕ) (given : List (List ℕ)) → HasRead reading taken given → HasGivenSome reading.ended taken given
some_given reading taken given read = record {
  others = lines_in reading.ended reading.pending;
  lines = lines_then_pending read;
  fits = omega (arith, read.counted);
}
