-- The first of the words, which is the mode.
use Rattle.std.proofs.Common.{◌≡◌, ◌≤◌, ℕ, true, false, true≢false, arith, refl, List, [], ◌∷◌, map, drop, length, get_or, sym, ap, ◌∙◌, codes}
use Rattle.std.proofs.lemmas.Slice.Eq.{bytes_eq-Decides}
use Rattle.std.specs.Prelude.{String, string_bytes}
use Rattle.std.specs.Str.{bytes_eq}
use Rattle.std.specs.Cmp.Lexicographic.{same_text}
use Rattle.tdl_tempo.specs.Tempo.{Pace}
use Rattle.tdl_words.specs.Modes.{AskDrill, AskPlay, AskQuery, AskServe, Asked, Asks, AsksDrill, AsksPlay, AsksQuery, AsksServe, Query}

-- the first word is this one
abbrev pub IsAt : {Z : Type 0} → List (String Z) → List ℕ → Type 0
IsAt [] name = ⊥
IsAt (word ∷ rest) name = string_bytes word ≡ name

pub is_at : {Z : Type 0} (words : List (String Z)) (mode : String Z) (word name : List ℕ) → 1 ≤ length words → mode ≡ get_or words 0 mode
    → word ≡ string_bytes mode
    → true ≡ bytes_eq word name → IsAt words name
is_at [] mode word name some first text same = omega arith
is_at (w ∷ ws) mode word name some first text same = sym (ap string_bytes first) ∙ sym text ∙ same_text word name same

-- a word is one mode
pub other_mode : (mode one other : List ℕ) → bytes_eq one other ≡ false → mode ≡ one → mode ≡ other → ⊥
other_mode mode one other differ is is_too = true≢false (sym ((bytes_eq-Decides one other).1 (sym is ∙ is_too)) ∙ differ)

module _ {Z : Type 0} where
  pub asks_query : (words : List (String Z)) (query : Query) → IsAt words (codes "query") → AsksQuery (drop 1 (map string_bytes words)) query
      → Asks (map string_bytes words) (AskQuery query)
  asks_query [] query at asks = absurd at
  asks_query (w ∷ ws) query at asks = (at, asks)

  pub asks_play : (words : List (String Z)) (pace : Pace) → IsAt words (codes "play") → AsksPlay (drop 1 (map string_bytes words)) pace
      → Asks (map string_bytes words) (AskPlay pace)
  asks_play [] pace at asks = absurd at
  asks_play (w ∷ ws) pace at asks = (at, asks)

  pub asks_serve : (words : List (String Z)) (pace : Pace) (performers cycles : ℕ) → IsAt words (codes "serve")
      → AsksServe (drop 1 (map string_bytes words)) pace performers cycles → Asks (map string_bytes words) (AskServe pace performers cycles)
  asks_serve [] pace performers cycles at asks = absurd at
  asks_serve (w ∷ ws) pace performers cycles at asks = (at, asks)

  pub asks_drill : (words : List (String Z)) (start lines : ℕ) → IsAt words (codes "drill") → AsksDrill (drop 1 (map string_bytes words)) start lines
      → Asks (map string_bytes words) (AskDrill start lines)
  asks_drill [] start lines at asks = absurd at
  asks_drill (w ∷ ws) start lines at asks = (at, asks)

  pub no_query : (words : List (String Z)) → IsAt words (codes "query") → ((query : Query) → AsksQuery (drop 1 (map string_bytes words)) query → ⊥)
      → (asked : Asked) → Asks (map string_bytes words) asked → ⊥
  no_query [] at none asked asks = at
  no_query (w ∷ ws) at none (AskQuery query) asks = none query asks.1
  no_query (w ∷ ws) at none (AskPlay pace) asks = other_mode (string_bytes w) (codes "query") (codes "play") refl at asks.0
  no_query (w ∷ ws) at none (AskServe pace k n) asks = other_mode (string_bytes w) (codes "query") (codes "serve") refl at asks.0
  no_query (w ∷ ws) at none (AskDrill k n) asks = other_mode (string_bytes w) (codes "query") (codes "drill") refl at asks.0

  pub no_play : (words : List (String Z)) → IsAt words (codes "play") → ((pace : Pace) → AsksPlay (drop 1 (map string_bytes words)) pace → ⊥)
      → (asked : Asked) → Asks (map string_bytes words) asked → ⊥
  no_play [] at none asked asks = at
  no_play (w ∷ ws) at none (AskPlay pace) asks = none pace asks.1
  no_play (w ∷ ws) at none (AskQuery query) asks = other_mode (string_bytes w) (codes "play") (codes "query") refl at asks.0
  no_play (w ∷ ws) at none (AskServe pace k n) asks = other_mode (string_bytes w) (codes "play") (codes "serve") refl at asks.0
  no_play (w ∷ ws) at none (AskDrill k n) asks = other_mode (string_bytes w) (codes "play") (codes "drill") refl at asks.0

  pub no_serve : (words : List (String Z)) → IsAt words (codes "serve")
      → ((pace : Pace) (performers cycles : ℕ) → AsksServe (drop 1 (map string_bytes words)) pace performers cycles → ⊥)
      → (asked : Asked) → Asks (map string_bytes words) asked → ⊥
  no_serve [] at none asked asks = at
  no_serve (w ∷ ws) at none (AskServe pace k n) asks = none pace k n asks.1
  no_serve (w ∷ ws) at none (AskQuery query) asks = other_mode (string_bytes w) (codes "serve") (codes "query") refl at asks.0
  no_serve (w ∷ ws) at none (AskPlay pace) asks = other_mode (string_bytes w) (codes "serve") (codes "play") refl at asks.0
  no_serve (w ∷ ws) at none (AskDrill k n) asks = other_mode (string_bytes w) (codes "serve") (codes "drill") refl at asks.0

  pub no_drill : (words : List (String Z)) → IsAt words (codes "drill")
      → ((start lines : ℕ) → AsksDrill (drop 1 (map string_bytes words)) start lines → ⊥)
      → (asked : Asked) → Asks (map string_bytes words) asked → ⊥
  no_drill [] at none asked asks = at
  no_drill (w ∷ ws) at none (AskDrill k n) asks = none k n asks.1
  no_drill (w ∷ ws) at none (AskQuery query) asks = other_mode (string_bytes w) (codes "drill") (codes "query") refl at asks.0
  no_drill (w ∷ ws) at none (AskPlay pace) asks = other_mode (string_bytes w) (codes "drill") (codes "play") refl at asks.0
  no_drill (w ∷ ws) at none (AskServe pace k n) asks = other_mode (string_bytes w) (codes "drill") (codes "serve") refl at asks.0
