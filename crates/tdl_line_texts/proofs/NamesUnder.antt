-- The names of the table by their first letter.
--     found_under     what bytes mean is found among the names that begin as they do
--     under_letter    the part of a table by letters that stands at a letter
--     none_under      no name begins with a byte that is no letter
use Rattle.std.specs.Prelude.{if◌then◌else◌, ◌==◌}
use Rattle.std.specs.List.{filter, list_all, range_with_len}
use Rattle.std.specs.Char.{is_ascii_lowercase}
use Rattle.std.proofs.Common.{◌≡◌, ℕ, ◌-◌, ◌<◌, ◌≤◌, Bool, true, false, ◌&&◌, cond, Option, Some, List, [], ◌∷◌, map, length, get_or, leb, Bor, refl, sym}
use Rattle.std.proofs.Common.{ap, ◌∙◌, arith}
use Rattle.std.proofs.lemmas.Bool.{and_parts, eqb-true, leb-true, false≢true}
use Rattle.std.proofs.lemmas.List.{get_or-map, length-map}
use Rattle.std.proofs.lemmas.List.FromFn.{get_or-map-range_with_len, length-map-range_with_len}
use Rattle.tdl_mini_machine.specs.Tokens.{same_text}
use Rattle.tdl_line_machine.specs.declared.names.Name.{Name}
use Rattle.tdl_line_texts.specs.declared.words.Meaning.{Meaning as Row}
use Rattle.tdl_line_texts.specs.Names.{Meaning, meaning, meanings, named_among}
use Rattle.tdl_line_texts.specs.inside.NamesView.{begins_with, meaning_of}

-- ---- bytes that begin with a byte
abbrev IsFoundUnder : ℕ → List ℕ → List Meaning → Type 0
IsFoundUnder byte rest es = named_among (filter (begins_with byte) es) (byte ∷ rest) ≡ named_among es (byte ∷ rest)

found_step : (byte : ℕ) (rest : List ℕ) (means : Name) (es : List Meaning) → IsFoundUnder byte rest es
    → (text : List ℕ) → IsFoundUnder byte rest (meaning text means ∷ es)
found_step byte rest means es more [] = more
found_step byte rest means es more (first ∷ others) = tested (first == byte) refl
  where
    tested : (b : Bool) → (first == byte) ≡ b
        → named_among (cond b (meaning (first ∷ others) means ∷ filter (begins_with byte) es) (filter (begins_with byte) es)) (byte ∷ rest)
        ≡ named_among (meaning (first ∷ others) means ∷ es) (byte ∷ rest)
    tested true e = ap (λ (n : Option Name). if (first == byte) && same_text others rest then Some means else n) more
    tested false e = rw e more

found_among : (byte : ℕ) (rest : List ℕ) (es : List Meaning) → IsFoundUnder byte rest es
found_among byte rest [] = refl
found_among byte rest (e ∷ es) = found_step byte rest e.means es (found_among byte rest es) e.text

pub found_under : (bytes : List ℕ) → 1 ≤ length bytes → named_among (filter (begins_with (get_or bytes 0 0)) meanings) bytes ≡ named_among meanings bytes
found_under [] h = absurd (omega arith)
found_under (byte ∷ rest) h = found_among byte rest meanings

-- ---- a table with a part for each letter
abbrev entries_of : Bor (List Row) → List Meaning
entries_of part = map meaning_of part.now

abbrev under : ℕ → List Meaning
under byte = filter (begins_with byte) meanings

pub under_letter : (byte : ℕ) (parts : List (Bor (List Row))) (other : Bor (List Row))
    → map entries_of parts ≡ map under (range_with_len 97 26) → is_ascii_lowercase byte ≡ true
    → map meaning_of (get_or parts (byte - 97) other).now ≡ filter (begins_with byte) meanings
under_letter byte parts other table letter =
    sym (get_or-map entries_of parts (byte - 97) other [] inside)
    ∙ (ap (λ (es : List (List Meaning)). get_or es (byte - 97) []) table
    ∙ get_or-map-range_with_len under 97 26 (byte - 97) byte [] (omega (arith, above, below)) (omega (arith, above)))
  where
    bounds : (leb 97 byte ≡ true) × (leb byte 122 ≡ true)
    bounds = and_parts (leb 97 byte) (leb byte 122) letter

    above : 97 ≤ byte
    above = leb-true 97 byte bounds.0

    below : byte ≤ 122
    below = leb-true byte 122 bounds.1

    inside : byte - 97 < length parts
    inside = omega (arith, above, below, length-map parts entries_of, ap length table, length-map-range_with_len under 97 26)

-- ---- no letter
abbrev is_lettered : List ℕ → Bool
is_lettered [] = true
is_lettered (first ∷ others) = is_ascii_lowercase first

none_step : (byte : ℕ) (means : Name) (es : List Meaning) → is_ascii_lowercase byte ≡ false → [] ≡ filter (begins_with byte) es
    → (text : List ℕ) → is_lettered text ≡ true → [] ≡ filter (begins_with byte) (meaning text means ∷ es)
none_step byte means es none more [] lettered = more
none_step byte means es none more (first ∷ others) lettered = tested (first == byte) refl
  where
    tested : (b : Bool) → (first == byte) ≡ b → [] ≡ cond b (meaning (first ∷ others) means ∷ filter (begins_with byte) es) (filter (begins_with byte) es)
    tested true e = absurd (false≢true (sym none ∙ (ap is_ascii_lowercase (sym (eqb-true first byte e)) ∙ lettered)))
    tested false e = more

none_among : (byte : ℕ) (es : List Meaning) → is_ascii_lowercase byte ≡ false → list_all (λ e. is_lettered e.text) es ≡ true
    → [] ≡ filter (begins_with byte) es
none_among byte [] none lettered = refl
none_among byte (e ∷ es) none lettered = none_step byte e.means es none (none_among byte es none parts.1) e.text parts.0
  where
    parts : (is_lettered e.text ≡ true) × (list_all (λ e. is_lettered e.text) es ≡ true)
    parts = and_parts (is_lettered e.text) _ lettered

pub none_under : (byte : ℕ) → is_ascii_lowercase byte ≡ false → [] ≡ filter (begins_with byte) meanings
none_under byte none = none_among byte meanings none refl
