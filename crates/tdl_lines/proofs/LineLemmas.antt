-- How bytes that come piece by piece are cut to lines.
use Rattle.std.proofs.Common.{◌≡◌, ◌≢◌, ℕ, ◌<◌, Bool, true, false, List, [], ◌∷◌, ◌++◌, length, map, All, Option, Some, None}
use Rattle.std.proofs.Common.{MatchOption, Bor, refl, sym, ap, ◌∙◌, arith, append-nil, append_assoc, inl, inr, ◌⊎◌}
use Rattle.std.proofs.lemmas.Bool.{ne_eqb, cases_eq, eq-eqb}
use Rattle.std.proofs.lemmas.List.{map-append}
use Rattle.std.proofs.lemmas.List.Elements.{All-nil, All-cons, All-head, All-tail, All-append}
use Rattle.std.specs.Option.{unwrap_or}
use Rattle.tdl_lines.specs.Lines.{HasNoFeed, pieces_from, rest_from, with_feeds, trimmed, last_line, lines_in, line_feed}

-- ---- carriage returns
pub trimmed_return : (front : List ℕ) → trimmed (front ++ 13 ∷ []) ≡ front
trimmed_return [] = refl
trimmed_return (byte ∷ []) = refl
trimmed_return (byte ∷ next ∷ front) = ap (λ xs. byte ∷ xs) (trimmed_return (next ∷ front))

trimmed_one : (byte : ℕ) → byte ≢ 13 → trimmed (byte ∷ []) ≡ byte ∷ []
trimmed_one byte other = rw (ne_eqb byte 13 other)

pub trimmed_same : (line : List ℕ) → ((front : List ℕ) → line ≡ front ++ 13 ∷ [] → ⊥) → trimmed line ≡ line
trimmed_same [] none = refl
trimmed_same (byte ∷ []) none = trimmed_one byte (λ e. none [] (ap (λ b. b ∷ []) e))
trimmed_same (byte ∷ next ∷ bytes) none =
    ap (λ xs. byte ∷ xs) (trimmed_same (next ∷ bytes) (λ front e. none (byte ∷ front) (ap (λ xs. byte ∷ xs) e)))

-- what the code does
pub trimmed_is : (line : Bor (List ℕ)) (r : Option (Bor (List ℕ)))
    → MatchOption r ((front : List ℕ) → line.now ≢ front ++ 13 ∷ []) (λ front. line.now ≡ front.now ++ 13 ∷ [])
    → (unwrap_or r line).now ≡ trimmed line.now
trimmed_is line None none = sym (trimmed_same line.now none)
trimmed_is line (Some front) some = sym (ap trimmed some ∙ trimmed_return front.now)

-- ---- bytes without a line feed, and then others

pub pieces_plain : (piece xs ys : List ℕ) → HasNoFeed xs → pieces_from piece (xs ++ ys) ≡ pieces_from (piece ++ xs) ys
pieces_plain piece [] ys plain = ap (λ p. pieces_from p ys) (sym (append-nil piece))
pieces_plain piece (x ∷ xs) ys plain =
    rw (ne_eqb x 10 (All-head (λ b. b ≢ line_feed) x xs plain))
    (pieces_plain (piece ++ x ∷ []) xs ys (All-tail (λ b. b ≢ line_feed) x xs plain) ∙ ap (λ p. pieces_from p ys) (append_assoc piece (x ∷ []) xs))

pub rest_plain : (piece xs ys : List ℕ) → HasNoFeed xs → rest_from piece (xs ++ ys) ≡ rest_from (piece ++ xs) ys
rest_plain piece [] ys plain = ap (λ p. rest_from p ys) (sym (append-nil piece))
rest_plain piece (x ∷ xs) ys plain =
    rw (ne_eqb x 10 (All-head (λ b. b ≢ line_feed) x xs plain))
    (rest_plain (piece ++ x ∷ []) xs ys (All-tail (λ b. b ≢ line_feed) x xs plain) ∙ ap (λ p. rest_from p ys) (append_assoc piece (x ∷ []) xs))

-- ---- bytes, and then others
abbrev IsFeedOrNot : ℕ → Type 0
IsFeedOrNot byte = (byte ≡ line_feed) ⊎ (byte ≢ line_feed)

pieces_append_at : (piece : List ℕ) (byte : ℕ) (xs ys : List ℕ)
    → ((p : List ℕ) → pieces_from p (xs ++ ys) ≡ pieces_from p xs ++ pieces_from (rest_from p xs) ys) → IsFeedOrNot byte
    → pieces_from piece (byte ∷ (xs ++ ys)) ≡ pieces_from piece (byte ∷ xs) ++ pieces_from (rest_from piece (byte ∷ xs)) ys
pieces_append_at piece byte xs ys rest (inl feed) = rw (eq-eqb byte line_feed feed) (ap (λ (ps : List (List ℕ)). piece ∷ ps) (rest []))
pieces_append_at piece byte xs ys rest (inr other) = rw (ne_eqb byte line_feed other) (rest (piece ++ byte ∷ []))

pub pieces_append : (piece xs ys : List ℕ) → pieces_from piece (xs ++ ys) ≡ pieces_from piece xs ++ pieces_from (rest_from piece xs) ys
pieces_append piece [] ys = refl
pieces_append piece (byte ∷ xs) ys = pieces_append_at piece byte xs ys (λ p. pieces_append p xs ys) (cases_eq byte line_feed)

rest_append_at : (piece : List ℕ) (byte : ℕ) (xs ys : List ℕ) → ((p : List ℕ) → rest_from p (xs ++ ys) ≡ rest_from (rest_from p xs) ys)
    → IsFeedOrNot byte → rest_from piece (byte ∷ (xs ++ ys)) ≡ rest_from (rest_from piece (byte ∷ xs)) ys
rest_append_at piece byte xs ys rest (inl feed) = rw (eq-eqb byte line_feed feed) (rest [])
rest_append_at piece byte xs ys rest (inr other) = rw (ne_eqb byte line_feed other) (rest (piece ++ byte ∷ []))

pub rest_append : (piece xs ys : List ℕ) → rest_from piece (xs ++ ys) ≡ rest_from (rest_from piece xs) ys
rest_append piece [] ys = refl
rest_append piece (byte ∷ xs) ys = rest_append_at piece byte xs ys (λ p. rest_append p xs ys) (cases_eq byte line_feed)

-- ---- lines
abbrev pub cut : List ℕ → List (List ℕ)
cut bytes = map trimmed (pieces_from [] bytes)

pub no_last_line : (piece : List ℕ) → last_line false piece ≡ []
no_last_line [] = refl
no_last_line (byte ∷ piece) = refl

pub last_line_some : (piece : List ℕ) → 0 < length piece → last_line true piece ≡ trimmed piece ∷ []
last_line_some [] some = absurd (omega arith)
last_line_some (byte ∷ piece) some = refl

-- behind whole lines the lines are those of the other bytes
pub cut_whole : (xs ys : List ℕ) → rest_from [] xs ≡ [] → cut (xs ++ ys) ≡ cut xs ++ cut ys
cut_whole xs ys whole =
    ap (map trimmed) (pieces_append [] xs ys ∙ ap (λ (p : List ℕ). pieces_from [] xs ++ pieces_from p ys) whole)
    ∙ map-append trimmed (pieces_from [] xs) (pieces_from [] ys)

pub rest_whole : (xs ys : List ℕ) → rest_from [] xs ≡ [] → rest_from [] (xs ++ ys) ≡ rest_from [] ys
rest_whole xs ys whole = rest_append [] xs ys ∙ ap (λ p. rest_from p ys) whole

pub lines_whole : (ended : Bool) (xs : List ℕ) → rest_from [] xs ≡ [] → lines_in ended xs ≡ cut xs
lines_whole ended xs whole = ap (λ (p : List ℕ). cut xs ++ last_line ended p) whole ∙ append-nil (cut xs)

pub lines_after_whole : (ended : Bool) (xs ys : List ℕ) → rest_from [] xs ≡ [] → lines_in ended (xs ++ ys) ≡ cut xs ++ lines_in ended ys
lines_after_whole ended xs ys whole =
    ap (λ (ls : List (List ℕ)). ls ++ last_line ended (rest_from [] (xs ++ ys))) (cut_whole xs ys whole)
    ∙ ap (λ (p : List ℕ). (cut xs ++ cut ys) ++ last_line ended p) (rest_whole xs ys whole)
    ∙ append_assoc (cut xs) (cut ys) (last_line ended (rest_from [] ys))

-- a line, and its line feed
pub cut_line : (line : List ℕ) → HasNoFeed line → cut (line ++ line_feed ∷ []) ≡ trimmed line ∷ []
cut_line line plain = ap (map trimmed) (pieces_plain [] line (line_feed ∷ []) plain)

pub rest_line : (line : List ℕ) → HasNoFeed line → rest_from [] (line ++ line_feed ∷ []) ≡ []
rest_line line plain = rest_plain [] line (line_feed ∷ []) plain

-- bytes without a line feed
pub cut_plain : (bytes : List ℕ) → HasNoFeed bytes → cut bytes ≡ []
cut_plain bytes plain = ap cut (sym (append-nil bytes)) ∙ ap (map trimmed) (pieces_plain [] bytes [] plain)

pub rest_of_plain : (bytes : List ℕ) → HasNoFeed bytes → rest_from [] bytes ≡ bytes
rest_of_plain bytes plain = ap (rest_from []) (sym (append-nil bytes)) ∙ rest_plain [] bytes [] plain

pub lines_plain : (bytes : List ℕ) → HasNoFeed bytes → lines_in false bytes ≡ []
lines_plain bytes plain =
    ap (λ (ls : List (List ℕ)). ls ++ last_line false (rest_from [] bytes)) (cut_plain bytes plain) ∙ no_last_line (rest_from [] bytes)

pub lines_last : (bytes : List ℕ) → HasNoFeed bytes → 0 < length bytes → lines_in true bytes ≡ trimmed bytes ∷ []
lines_last bytes plain some =
    ap (λ (ls : List (List ℕ)). ls ++ last_line true (rest_from [] bytes)) (cut_plain bytes plain)
    ∙ ap (last_line true) (rest_of_plain bytes plain) ∙ last_line_some bytes some

-- ---- pieces and the rest join to the bytes
join_at : (piece : List ℕ) (byte : ℕ) (bytes : List ℕ) → ((p : List ℕ) → with_feeds (pieces_from p bytes) ++ rest_from p bytes ≡ p ++ bytes)
    → (byte ≡ line_feed) ⊎ (byte ≢ line_feed)
    → with_feeds (pieces_from piece (byte ∷ bytes)) ++ rest_from piece (byte ∷ bytes) ≡ piece ++ byte ∷ bytes
join_at piece byte bytes rest (inl feed) =
    rw (eq-eqb byte line_feed feed)
    (append_assoc (piece ++ line_feed ∷ []) (with_feeds (pieces_from [] bytes)) (rest_from [] bytes)
    ∙ ap (λ xs. (piece ++ line_feed ∷ []) ++ xs) (rest [])
    ∙ append_assoc piece (line_feed ∷ []) bytes
    ∙ ap (λ (b : ℕ). piece ++ b ∷ bytes) (sym feed))
join_at piece byte bytes rest (inr other) =
    rw (ne_eqb byte line_feed other)
    (rest (piece ++ byte ∷ []) ∙ append_assoc piece (byte ∷ []) bytes)

pub join_from : (piece bytes : List ℕ) → with_feeds (pieces_from piece bytes) ++ rest_from piece bytes ≡ piece ++ bytes
join_from piece [] = sym (append-nil piece)
join_from piece (byte ∷ bytes) = join_at piece byte bytes (λ p. join_from p bytes) (cases_eq byte line_feed)

-- ---- none of them has a line feed
plain_one : (piece : List ℕ) (byte : ℕ) → HasNoFeed piece → byte ≢ line_feed → HasNoFeed (piece ++ byte ∷ [])
plain_one piece byte plain other =
    All-append (λ b. b ≢ line_feed) piece (byte ∷ []) plain (All-cons (λ b. b ≢ line_feed) byte [] other (All-nil (λ b. b ≢ line_feed)))

pieces_plain_at : (piece : List ℕ) (byte : ℕ) (bytes : List ℕ) → ((p : List ℕ) → HasNoFeed p → All HasNoFeed (pieces_from p bytes))
    → HasNoFeed piece → IsFeedOrNot byte → All HasNoFeed (pieces_from piece (byte ∷ bytes))
pieces_plain_at piece byte bytes rest plain (inl feed) =
    rw (eq-eqb byte line_feed feed) (All-cons HasNoFeed piece (pieces_from [] bytes) plain (rest [] (All-nil (λ b. b ≢ line_feed))))
pieces_plain_at piece byte bytes rest plain (inr other) =
    rw (ne_eqb byte line_feed other) (rest (piece ++ byte ∷ []) (plain_one piece byte plain other))

pub pieces_are_plain : (piece bytes : List ℕ) → HasNoFeed piece → All HasNoFeed (pieces_from piece bytes)
pieces_are_plain piece [] plain = All-nil HasNoFeed
pieces_are_plain piece (byte ∷ bytes) plain = pieces_plain_at piece byte bytes (λ p q. pieces_are_plain p bytes q) plain (cases_eq byte line_feed)

rest_plain_at : (piece : List ℕ) (byte : ℕ) (bytes : List ℕ) → ((p : List ℕ) → HasNoFeed p → HasNoFeed (rest_from p bytes)) → HasNoFeed piece
    → IsFeedOrNot byte → HasNoFeed (rest_from piece (byte ∷ bytes))
rest_plain_at piece byte bytes rest plain (inl feed) = rw (eq-eqb byte line_feed feed) (rest [] (All-nil (λ b. b ≢ line_feed)))
rest_plain_at piece byte bytes rest plain (inr other) = rw (ne_eqb byte line_feed other) (rest (piece ++ byte ∷ []) (plain_one piece byte plain other))

pub rest_is_plain : (piece bytes : List ℕ) → HasNoFeed piece → HasNoFeed (rest_from piece bytes)
rest_is_plain piece [] plain = plain
rest_is_plain piece (byte ∷ bytes) plain = rest_plain_at piece byte bytes (λ p q. rest_is_plain p bytes q) plain (cases_eq byte line_feed)
