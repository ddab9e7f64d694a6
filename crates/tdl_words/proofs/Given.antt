-- The pieces as the parser takes them, and by the grammar; and what the rows after their uses say.
use Rattle.std.proofs.Common.{◌≡◌, ◌++◌, ◌||◌, ℕ, Bool, true, false, refl, List, [], ◌∷◌, map, Option, Some, None, true≢false, sym, ap, subst, ◌∙◌, ◌⊎◌}
use Rattle.std.proofs.Common.{inl, inr}
use Rattle.std.proofs.lemmas.Slice.Eq.{bytes_eq-Decides}
use Rattle.std.proofs.lemmas.List.{append-nil, append_assoc}
use Rattle.std.specs.Prelude.{if◌then◌else◌, ◌==◌, IfSome}
use Rattle.std.proofs.Math.Bool.{or-false}
use Rattle.std.proofs.lemmas.Bool.{eqb-true}
use Rattle.std.specs.Str.{bytes_eq}
use Rattle.clap.specs.Walk.{Row, Text, first_of, has_row}
use Rattle.tdl_words.specs.Words.{Form, Plain, End, Long, Other, Piece, Word, Given, before, form, given, is_listed, pieces, positional}
use Rattle.tdl_words.specs.inside.Tells.{only}
use Rattle.tdl_words.proofs.Rules.{row, uses}
use Rattle.tdl_words.proofs.Walks.{taken}

abbrev pub minus : Text
minus = 45 ∷ []

abbrev pub IsAtMostOne : List Text → Type 0
IsAtMostOne [] = Unit {0}
IsAtMostOne (text ∷ []) = Unit {0}
IsAtMostOne (first ∷ second ∷ rest) = ⊥

-- a listed option is given `-`
abbrev pub HasMinus : List Text → List Piece → Type 0
HasMinus names [] = ⊥
HasMinus names (Word word ∷ rest) = HasMinus names rest
HasMinus names (Given name text ∷ rest) = ((is_listed names name ≡ true) × (text ≡ minus)) ⊎ HasMinus names rest

-- each option that is given is listed
abbrev pub AllListed : List Text → List Piece → Type 0
AllListed names [] = Unit {0}
AllListed names (Word word ∷ rest) = AllListed names rest
AllListed names (Given name text ∷ rest) = (is_listed names name ≡ true) × AllListed names rest

pub row-last : (name id text : Text) (rows : List Row)
    → first_of name (rows ++ row id text ∷ []) ≡ (if has_row name rows then first_of name rows else (if bytes_eq id name then Some text else None))
row-last name id text [] = go (bytes_eq id name) refl
  where
    go : (t : Bool) → bytes_eq id name ≡ t → first_of name (row id text ∷ []) ≡ (if bytes_eq id name then Some text else None)
    go true e = rw e refl
    go false e = rw e refl
row-last name id text (r ∷ rs) = go (bytes_eq r.id name) refl (row-last name id text rs)
  where
    go : (t : Bool) → bytes_eq r.id name ≡ t
        → first_of name (rs ++ row id text ∷ []) ≡ (if has_row name rs then first_of name rs else (if bytes_eq id name then Some text else None))
        → first_of name ((r ∷ rs) ++ row id text ∷ [])
        ≡ (if has_row name (r ∷ rs) then first_of name (r ∷ rs) else (if bytes_eq id name then Some text else None))
    go true e next = rw e refl
    go false e next = rw e next

pub no_row : (name : Text) (rows : List Row) → has_row name rows ≡ false → first_of name rows ≡ None
no_row name [] none = refl
no_row name (r ∷ rs) none = go (bytes_eq r.id name) refl (no_row name rs)
  where
    go : (t : Bool) → bytes_eq r.id name ≡ t → (has_row name rs ≡ false → first_of name rs ≡ None) → first_of name (r ∷ rs) ≡ None
    go true e next = absurd (true≢false (rw e at none))
    go false e next = rw e (next (rw e at none))

pub has_row-last : (name id text : Text) (rows : List Row) → has_row name (rows ++ row id text ∷ []) ≡ (has_row name rows || bytes_eq id name)
has_row-last name id text [] = or-false (bytes_eq id name)
has_row-last name id text (r ∷ rs) = go (bytes_eq r.id name) refl (has_row-last name id text rs)
  where
    go : (t : Bool) → bytes_eq r.id name ≡ t → has_row name (rs ++ row id text ∷ []) ≡ (has_row name rs || bytes_eq id name)
        → has_row name ((r ∷ rs) ++ row id text ∷ []) ≡ (has_row name (r ∷ rs) || bytes_eq id name)
    go true e next = rw e refl
    go false e next = rw e next

-- ---- what the rows say after uses of options

-- one more first use
one_more : (name id text : Text) (rows : List Row) → has_row id rows ≡ false
    → only (first_of name (rows ++ row id text ∷ [])) ≡ only (first_of name rows) ++ (if bytes_eq id name then text ∷ [] else [])
one_more name id text rows fresh = go (bytes_eq id name) refl (has_row name rows) refl
  where
    go : (t : Bool) → bytes_eq id name ≡ t → (u : Bool) → has_row name rows ≡ u
        → only (first_of name (rows ++ row id text ∷ [])) ≡ only (first_of name rows) ++ (if bytes_eq id name then text ∷ [] else [])
    go true e true f =
        let same : id ≡ name = (bytes_eq-Decides id name).0 e in
        absurd (true≢false (sym f ∙ subst (λ n. has_row n rows ≡ false) same fresh))
    go true e false f = rw (row-last name id text rows, f, e, no_row name rows f) refl
    go false e true f = rw (row-last name id text rows, f, e) (sym (append-nil (only (first_of name rows))))
    go false e false f = rw (row-last name id text rows, f, e, no_row name rows f) refl

-- the rows at the end say of each option what it was given
pub uses_tell : (found : List Piece) (rows now : List Row) → uses [] rows found ≡ Some now
    → (positional found ≡ []) × ((name : Text) → only (first_of name now) ≡ only (first_of name rows) ++ given name found)
uses_tell [] rows now e = (
  refl,
  λ name. let same : rows ≡ now = cc in ap (λ rs. only (first_of name rs)) (sym same)
      ∙ sym (append-nil (only (first_of name rows))),
)
uses_tell (Word word ∷ rest) rows now e = absurd (cc)
uses_tell (Given id text ∷ rest) rows now e = go (has_row id rows) refl (λ h. uses_tell rest (rows ++ row id text ∷ []) now h)
  where
    go : (t : Bool) → has_row id rows ≡ t
        → (uses [] (rows ++ row id text ∷ []) rest ≡ Some now
        → (positional rest ≡ []) × ((name : Text) → only (first_of name now) ≡ only (first_of name (rows ++ row id text ∷ [])) ++ given name rest))
        → (positional rest ≡ []) × ((name : Text) → only (first_of name now) ≡ only (first_of name rows) ++ given name (Given id text ∷ rest))
    go true f next = let none : None ≡ Some now = rw f at e in absurd (cc)
    go false f next =
        let told = next (rw f at e) in
        (told.0, λ name. told.1 name ∙ ap (λ texts. texts ++ given name rest) (one_more name id text rows f) ∙ joins name (bytes_eq id name) refl)
      where
        joins : (name : Text) (t : Bool) → bytes_eq id name ≡ t
            → (only (first_of name rows) ++ (if bytes_eq id name then text ∷ [] else [])) ++ given name rest
            ≡ only (first_of name rows) ++ given name (Given id text ∷ rest)
        joins name true g = rw g (append_assoc (only (first_of name rows)) (text ∷ []) (given name rest))
        joins name false g = rw (g, append-nil (only (first_of name rows))) refl

nothing_more : (text : Text) (rest : List Text) → IsAtMostOne (text ∷ rest) → rest ≡ []
nothing_more text [] one = refl
nothing_more text (second ∷ rest) one = absurd one

-- options that are listed, given at most once and not used yet can be used
abbrev pub MayUse : List Text → List Row → List Piece → Type 0
MayUse names rows found = (name : Text) → is_listed names name ≡ true → (has_row name rows ≡ true → given name found ≡ []) × IsAtMostOne (given name found)

pub used_once : (names : List Text) (found : List Piece) (rows : List Row) → AllListed names found → positional found ≡ [] → MayUse names rows found
    → uses [] rows found ≡ None → ⊥
used_once names [] rows listed alone may e = cc
used_once names (Word word ∷ rest) rows listed alone may e = cc
used_once names (Given id text ∷ rest) rows listed alone may e = go (has_row id rows) refl (used_once names rest (rows ++ row id text ∷ []) listed.1 alone)
  where
    go : (t : Bool) → has_row id rows ≡ t → (MayUse names (rows ++ row id text ∷ []) rest → uses [] (rows ++ row id text ∷ []) rest ≡ None → ⊥) → ⊥
    go true f next =
        let same : bytes_eq id id ≡ true = (bytes_eq-Decides id id).1 refl in
        let none : text ∷ given id rest ≡ [] = rw same at ((may id listed.0).0 f) in
        cc
    go false f next = next still (rw f at e)
      where
        by_name : (name : Text) → is_listed names name ≡ true → (t : Bool) → bytes_eq id name ≡ t
            → (has_row name (rows ++ row id text ∷ []) ≡ true → given name rest ≡ []) × IsAtMostOne (given name rest)
        by_name name known true g =
            let none : given name rest ≡ [] = nothing_more text (given name rest) (rw g at ((may name known).1)) in
            (λ _. none, subst IsAtMostOne (sym none) tt)
        by_name name known false g =
            let before_it = may name known in
            (λ used. rw g at (before_it.0 (sym (or-false (has_row name rows)) ∙ (rw (has_row-last name id text rows, g) at used))), rw g at (before_it.1))

        still : MayUse names (rows ++ row id text ∷ []) rest
        still name known = by_name name known (bytes_eq id name) refl

-- ---- the pieces by the grammar, and as the parser takes them

abbrev pub WaitsListed : List Text → Option Text → Type 0
WaitsListed names None = Unit {0}
WaitsListed names (Some name) = is_listed names name ≡ true

all_before : (names : List Text) (piece : Piece) (rest : Option (List Piece))
    → ((others : List Piece) → AllListed names others → AllListed names (piece ∷ others))
    → IfSome rest (AllListed names) → IfSome (before piece rest) (AllListed names)
all_before names piece None adds h = h
all_before names piece (Some others) adds h = adds others h

pub all_listed : (names : List Text) (waiting : Option Text) (words : List Text) → WaitsListed names waiting
    → IfSome (taken names waiting words) (AllListed names)
unfolding taken
all_listed names None [] waits = tt
all_listed names (Some name) [] waits = tt
all_listed names None (word ∷ rest) waits = go (form word) refl (all_listed names None rest tt) (λ name known. all_listed names (Some name) rest known)
  where
    words_alone : (words : List Text) → AllListed names (map Word words)
    words_alone [] = tt
    words_alone (w ∷ ws) = words_alone ws

    go : (f : Form) → form word ≡ f → IfSome (taken names None rest) (AllListed names)
        → ((name : Text) → is_listed names name ≡ true → IfSome (taken names (Some name) rest) (AllListed names))
        → IfSome (taken names None (word ∷ rest)) (AllListed names)
    go Plain e idle waiting = rw e (all_before names (Word word) (taken names None rest) (λ others h. h) idle)
    go End e idle waiting = rw e (words_alone rest)
    go Other e idle waiting = rw e tt
    go (Long name value) e idle waiting = by_name (is_listed names name) refl value e
      where
        by_name : (t : Bool) → is_listed names name ≡ t → (v : Option Text) → form word ≡ Long name v
            → IfSome (taken names None (word ∷ rest)) (AllListed names)
        by_name false known v e = rw (e, known) tt
        by_name true known None e = rw (e, known) (waiting name known)
        by_name true known (Some v) e = rw (e, known) (all_before names (Given name v) (taken names None rest) (λ others h. (known, h)) idle)
all_listed names (Some name) (word ∷ rest) waits = go (form word) refl (all_listed names None rest tt)
  where
    go : (f : Form) → form word ≡ f → IfSome (taken names None rest) (AllListed names) → IfSome (taken names (Some name) (word ∷ rest)) (AllListed names)
    go Plain e idle = rw e (all_before names (Given name word) (taken names None rest) (λ others h. (waits, h)) idle)
    go End e idle = rw e tt
    go Other e idle = rw e tt
    go (Long n v) e idle = rw e tt

-- the same, or the grammar has none, since an option is given `-` alone
abbrev pub SameOrMinus : List Text → Option (List Piece) → Option (List Piece) → Type 0
SameOrMinus names exact as_taken = (exact ≡ as_taken) ⊎ ((exact ≡ None) × IfSome as_taken (HasMinus names))

more_minus : (names : List Text) (piece : Piece) (rest : List Piece) → HasMinus names rest → HasMinus names (piece ∷ rest)
more_minus names (Word word) rest h = h
more_minus names (Given name text) rest h = inr h

minus_before : (names : List Text) (piece : Piece) (rest : Option (List Piece)) → IfSome rest (HasMinus names) → IfSome (before piece rest) (HasMinus names)
minus_before names piece None h = h
minus_before names piece (Some others) h = more_minus names piece others h

same_before : (names : List Text) (piece : Piece) (exact as_taken : Option (List Piece)) → SameOrMinus names exact as_taken
    → SameOrMinus names (before piece exact) (before piece as_taken)
same_before names piece exact as_taken (inl same) = inl (ap (before piece) same)
same_before names piece exact as_taken (inr h) = inr (ap (before piece) h.0, minus_before names piece as_taken h.1)

minus_value : (names : List Text) (name word : Text) (rest : Option (List Piece)) → is_listed names name ≡ true → word ≡ minus
    → IfSome (before (Given name word) rest) (HasMinus names)
minus_value names name word None known is = tt
minus_value names name word (Some others) known is = inl (known, is)

pub same_or_minus : (names : List Text) (waiting : Option Text) (words : List Text) → WaitsListed names waiting
    → SameOrMinus names (pieces names waiting words) (taken names waiting words)
unfolding taken pieces
same_or_minus names None [] waits = inl refl
same_or_minus names (Some name) [] waits = inl refl
same_or_minus names None (word ∷ rest) waits = go (form word) refl (same_or_minus names None rest tt) (λ name known. same_or_minus names (Some name) rest known)
  where
    go : (f : Form) → form word ≡ f → SameOrMinus names (pieces names None rest) (taken names None rest)
        → ((name : Text) → is_listed names name ≡ true → SameOrMinus names (pieces names (Some name) rest) (taken names (Some name) rest))
        → SameOrMinus names (pieces names None (word ∷ rest)) (taken names None (word ∷ rest))
    go Plain e idle waiting = rw e (same_before names (Word word) (pieces names None rest) (taken names None rest) idle)
    go End e idle waiting = rw e (inl refl)
    go Other e idle waiting = rw e (inl refl)
    go (Long name value) e idle waiting = by_name (is_listed names name) refl value e
      where
        by_name : (t : Bool) → is_listed names name ≡ t → (v : Option Text) → form word ≡ Long name v
            → SameOrMinus names (pieces names None (word ∷ rest)) (taken names None (word ∷ rest))
        by_name false known v e = rw (e, known) (inl refl)
        by_name true known None e = rw (e, known) (waiting name known)
        by_name true known (Some v) e = rw (e, known) (same_before names (Given name v) (pieces names None rest) (taken names None rest) idle)
same_or_minus names (Some name) (word ∷ rest) waits = by_word word (same_or_minus names None rest tt)
  where
    by_word : (w : Text) → SameOrMinus names (pieces names None rest) (taken names None rest)
        → SameOrMinus names (pieces names (Some name) (w ∷ rest)) (taken names (Some name) (w ∷ rest))
    by_word [] idle = same_before names (Given name []) (pieces names None rest) (taken names None rest) idle
    by_word (x ∷ []) idle = go (x == 45) refl
      where
        go : (t : Bool) → (x == 45) ≡ t → SameOrMinus names (pieces names (Some name) ((x ∷ []) ∷ rest)) (taken names (Some name) ((x ∷ []) ∷ rest))
        go true e = rw e (inr (refl, minus_value names name (x ∷ []) (taken names None rest) waits (ap (λ (b : ℕ). b ∷ []) (eqb-true x 45 e))))
        go false e = rw e (same_before names (Given name (x ∷ [])) (pieces names None rest) (taken names None rest) idle)
    by_word (x ∷ y ∷ more) idle = go (x == 45) refl (y == 45) refl more
      where
        go : (t : Bool) → (x == 45) ≡ t → (u : Bool) → (y == 45) ≡ u → (m : Text)
            → SameOrMinus names (pieces names (Some name) ((x ∷ y ∷ m) ∷ rest)) (taken names (Some name) ((x ∷ y ∷ m) ∷ rest))
        go false e u f m = rw e (same_before names (Given name (x ∷ y ∷ m)) (pieces names None rest) (taken names None rest) idle)
        go true e false f m = rw (e, f) (inl refl)
        go true e true f [] = rw (e, f) (inl refl)
        go true e true f (z ∷ zs) = rw (e, f) (inl refl)
