-- The values of the tokens of a text, by its kind.
--     Good                   a terminal stands at a token whose number, if it is one, is small
--     all_good               each terminal that stands at small tokens
--     Fine, fine_pieces      each terminal of pieces is good, and each rule on them holds
--     good_number            a number that is good is small
--     value_valid            a fine value is one of its kind
--     first_valid, last_valid    likewise the ends of a range
--     after_key              the kind after braces has a key that fits
use Rattle.std.proofs.Common.{◌≡◌, ℕ, ℤ, Bool, true, false, not, ◌&&◌, ◌||◌, if◌then◌else◌, Option, Some, None, List, [], ◌∷◌, ◌++◌, IsTrue, refl, sym, ap}
use Rattle.std.proofs.Common.{◌∙◌, subst}
use Rattle.std.specs.Prelude.{nat_le, map, length, codes, option_map}
use Rattle.std.specs.List.{list_all, AllZip}
use Rattle.std.proofs.lemmas.List.Folds.{list_all-append}
use Rattle.std.proofs.lemmas.Bool.{false≢true, and_parts, and_from, or_right}
use Rattle.tdl_control.specs.Key.{takes_word}
use Rattle.tdl_mini_tree.specs.declared.leaves.Number.{Number}
use Rattle.tdl_mini_tree.specs.declared.leaves.Kind.{Kind}
use Rattle.tdl_mini_tree.specs.declared.leaves.Kind.TheVariants.{Sound, Note, Int, Word, Bool as Truths, Count, Ratio}
use Rattle.tdl_mini_tree.specs.Numbers.{is_whole, is_ratio}
use Rattle.tdl_mini_machine.specs.Notes.{note_of}
use Rattle.tdl_mini_machine.specs.Tokens.{Tok, digits, letters, mark, end, value_of, word_value, whole_value, has_sharp, same_text}
use Rattle.tdl_mini_machine.specs.Rules.{Rule, number_rules, Test, test_between}
use Rattle.tdl_mini_grammar.specs.Spelling.{Terminal, IsTokenOf, value, numeral, Pieces, nothing, spells, ◌▸◌, ◌obeying◌, terminals, value_pieces}
use Rattle.tdl_mini_tree.specs.Tree.{kind_after}
use Rattle.tdl_mini_grammar.specs.Tests.{after, tests_from}
use Rattle.tdl_mini_tree.specs.Tree as tree
use Rattle.tdl_mini_tree.specs.Valid.{fits_key, is_small, is_numeral, has_sounds, has_names, has_notes, has_truths, is_factor, is_value}
use Rattle.tdl_mini_grammar.proofs.SmallTokens.{is_small_tok}

pub record Good (x : Terminal) : Type 0 where
  pub tok : Tok
  pub stands : IsTokenOf x tok
  pub small : IsTrue (is_small_tok tok)

abbrev pub AllGood : List Terminal → Type 0
AllGood [] = Unit {0}
AllGood (x ∷ xs) = Good x × AllGood xs

good_parts : (a b : List Terminal) → AllGood (a ++ b) → AllGood a × AllGood b
good_parts [] b h = (tt, h)
good_parts (x ∷ a) b h = let rest = good_parts a b h.1 in ((h.0, rest.0), rest.1)

pub all_good : (xs : List Terminal) (toks : List Tok) → AllZip IsTokenOf xs toks → IsTrue (list_all is_small_tok toks) → AllGood xs
all_good [] [] h small = tt
all_good [] (t ∷ toks) h small = absurd h
all_good (x ∷ xs) [] h small = absurd h
all_good (x ∷ xs) (t ∷ toks) h small =
    (record { tok = t; stands = h.0; small = (and_parts (is_small_tok t) _ small).0 }, all_good xs toks h.1 (and_parts (is_small_tok t) _ small).1)

abbrev Held : List Test → Type 0
Held ts = IsTrue (list_all (λ t. t.holds) ts)

held_parts : (a b : List Test) → Held (a ++ b) → Held a × Held b
held_parts a b h =
    let parts : (list_all (λ (t : Test). t.holds) a && list_all (λ (t : Test). t.holds) b) ≡ true = sym (list_all-append (λ (t : Test). t.holds) a b) ∙ h in
    and_parts _ _ parts

abbrev pub AllHold : List Rule → Type 0
AllHold rules = IsTrue (list_all (λ r. r.holds) rules)

rules_hold : (at ends : ℕ) (rules : List Rule) → Held (map (test_between at ends) rules) → AllHold rules
rules_hold at ends [] h = refl
rules_hold at ends (r ∷ rules) h =
    let parts = and_parts r.holds _ h in
    and_from r.holds _ parts.0 (rules_hold at ends rules parts.1)

abbrev pub Fine : Pieces → Type 0
Fine nothing = Unit {0}
Fine (spells x) = Good x
Fine (a ▸ b) = Fine a × Fine b
Fine (a obeying rules) = Fine a × AllHold rules

pub fine_pieces : (from : ℕ) (a : Pieces) → AllGood (terminals a) → Held (tests_from from a) → Fine a
fine_pieces from nothing good held = tt
fine_pieces from (spells x) good held = good.0
fine_pieces from (a ▸ b) good held =
    let g = good_parts (terminals a) (terminals b) good in
    let h = held_parts (tests_from from a) (tests_from (after from a) b) held in
    (fine_pieces from a g.0 h.0, fine_pieces (after from a) b g.1 h.1)
fine_pieces from (a obeying rules) good held =
    let h = held_parts (tests_from from a) (map (test_between from (after from a)) rules) held in
    (fine_pieces from a good h.0, rules_hold from (after from a) rules h.1)

-- ---- what a token may be
pub good_number : (n : Number) → Good (numeral n) → IsTrue (is_small n)
good_number n g = let P : Tok → Type 0 = λ t. IsTrue (is_small_tok t) in subst P g.stands.1 g.small

-- whole numbers are values
abbrev has_numbers : Kind → Bool
has_numbers Sound = false
has_numbers (Note key) = not (takes_word key)
has_numbers (Int key) = not (takes_word key)
has_numbers (Word key) = false
has_numbers Truths = false
has_numbers Count = true
has_numbers Ratio = true

-- a value that one token may be
abbrev suits : Kind → tree.Value → Bool
suits kind (tree.sound text None) = has_sounds kind
suits kind (tree.sound text (Some n)) = false
suits kind (tree.name text) = has_names kind
suits kind (tree.note n) = has_notes kind
suits kind (tree.truth b) = has_truths kind
suits kind (tree.number n) = is_small n && (not (is_whole n) || has_numbers kind)

abbrev if_some : (tree.Value → Bool) → Option tree.Value → Bool
if_some p None = true
if_some p (Some v) = p v

either : (p : tree.Value → Bool) (b : Bool) (x y : Option tree.Value) → if_some p x ≡ true → if_some p y ≡ true → if_some p (if b then x else y) ≡ true
either p true x y h k = h
either p false x y h k = k

number_suits : (kind : Kind) (n : Number) → is_small n ≡ true → has_numbers kind ≡ true → suits kind (tree.number n) ≡ true
number_suits kind n small has = and_from (is_small n) (not (is_whole n) || has_numbers kind) small (or_right (not (is_whole n)) (has_numbers kind) has)

word_suits : (kind : Kind) (text : List ℕ) → IsTrue (fits_key kind) → if_some (suits kind) (word_value kind text) ≡ true
word_suits Sound text key = either (suits Sound) (has_sharp text) None (Some (tree.sound text None)) refl refl
word_suits (Note key) text fits = here (note_of text)
  where
    here : (o : Option ℤ) → if_some (suits (Note key)) (option_map tree.note o) ≡ true
    here None = refl
    here (Some n) = fits
word_suits (Int key) text fits = refl
word_suits (Word key) text fits = either (suits (Word key)) (has_sharp text) None (Some (tree.name text)) refl fits
word_suits Truths text key = here (same_text text (codes "t")) (same_text text (codes "true")) (same_text text (codes "f")) (same_text text (codes "false"))
  where
    here : (a b c d : Bool)
        → if_some (suits Truths)
        (if a then Some (tree.truth true) else
        (if b then Some (tree.truth true) else (if c then Some (tree.truth false) else (if d then Some (tree.truth false) else None)))) ≡ true
    here true b c d = refl
    here false true c d = refl
    here false false true d = refl
    here false false false true = refl
    here false false false false = refl
word_suits Count text key = refl
word_suits Ratio text key = refl

whole_suits : (kind : Kind) (n : Number) (text : List ℕ) → IsTrue (fits_key kind) → is_small n ≡ true → if_some (suits kind) (whole_value kind n text) ≡ true
whole_suits Sound n text key small = either (suits Sound) (not n.is_negative && nat_le (length text) 32) (Some (tree.sound text None)) None refl refl
whole_suits (Note key) n text fits small = number_suits (Note key) n small fits
whole_suits (Int key) n text fits small = number_suits (Int key) n small fits
whole_suits (Word key) n text fits small = refl
whole_suits Truths n text key small = here (same_text text (codes "1")) (same_text text (codes "0"))
  where
    here : (a b : Bool) → if_some (suits Truths) (if a then Some (tree.truth true) else (if b then Some (tree.truth false) else None)) ≡ true
    here true b = refl
    here false true = refl
    here false false = refl
whole_suits Count n text key small = number_suits Count n small refl
whole_suits Ratio n text key small = number_suits Ratio n small refl

digits_suit : (kind : Kind) (n : Number) (text : List ℕ) (b : Bool) → is_whole n ≡ b → IsTrue (fits_key kind) → is_small n ≡ true
    → if_some (suits kind) (if b then whole_value kind n text else Some (tree.number n)) ≡ true
digits_suit kind n text true e key small = whole_suits kind n text key small
digits_suit kind n text false e key small = and_from (is_small n) (not (is_whole n) || has_numbers kind) small (ap (λ (b : Bool). not b || has_numbers kind) e)

token_suits : (kind : Kind) (t : Tok) → IsTrue (fits_key kind) → IsTrue (is_small_tok t) → if_some (suits kind) (value_of kind t) ≡ true
token_suits kind (digits n text true) key small = refl
token_suits kind (digits n text false) key small = digits_suit kind n text (is_whole n) refl key small
token_suits kind (letters text true) key small = refl
token_suits kind (letters text false) key small = word_suits kind text key
token_suits kind (mark m) key small = refl
token_suits kind end key small = refl

good_suits : (kind : Kind) (v : tree.Value) → IsTrue (fits_key kind) → Good (value kind v) → suits kind v ≡ true
good_suits kind v key g = ap (if_some (suits kind)) (sym g.stands) ∙ token_suits kind g.tok key g.small

-- ---- values
-- a number that is no value of the kind is whole by its test, and so no number of a token
never_whole : (n : Number) → (is_small n && (not (is_whole n) || false)) ≡ true → (is_whole n && true) ≡ true → ⊥
never_whole n h held = here (is_whole n) (and_parts (is_small n) _ h).1 (and_parts (is_whole n) true held).0
  where
    here : (b : Bool) → (not b || false) ≡ true → b ≡ true → ⊥
    here true k e = false≢true k
    here false k e = false≢true e

-- a whole number is a value where its kind has numbers
number_taken : (n : Number) (has : Bool) → (is_small n && (not (is_whole n) || has)) ≡ true → (is_whole n && true) ≡ true
    → (has && (is_whole n && is_small n)) ≡ true
number_taken n true h held = and_from (is_whole n) (is_small n) (and_parts (is_whole n) true held).0 (and_parts (is_small n) _ h).0
number_taken n false h held = absurd (never_whole n h held)

number_valid : (kind : Kind) (n : Number) → suits kind (tree.number n) ≡ true → AllHold (number_rules kind n) → is_numeral kind n ≡ true
number_valid Sound n h held = absurd (never_whole n h held)
number_valid (Note key) n h held = number_taken n (not (takes_word key)) h held
number_valid (Int key) n h held = number_taken n (not (takes_word key)) h held
number_valid (Word key) n h held = absurd (never_whole n h held)
number_valid Truths n h held = absurd (never_whole n h held)
number_valid Count n h held =
    let (whole, rest) = and_parts (is_whole n) (is_ratio n && true) held in
    and_from (is_whole n) (is_factor n) whole (and_from (is_ratio n) (is_small n) (and_parts (is_ratio n) true rest).0 (and_parts (is_small n) _ h).0)
number_valid Ratio n h held = and_from (is_ratio n) (is_small n) (and_parts (is_ratio n) true held).0 (and_parts (is_small n) _ h).0

pub value_valid : (kind : Kind) (v : tree.Value) → IsTrue (fits_key kind) → Fine (value_pieces kind v) → IsTrue (is_value kind v)
value_valid kind (tree.sound text None) key fine = good_suits kind (tree.sound text None) key fine
value_valid kind (tree.sound text (Some n)) key fine =
    and_from (has_sounds kind) (is_whole n && is_small n) (good_suits kind (tree.sound text None) key fine.0)
    (and_from (is_whole n) (is_small n) (and_parts (is_whole n) true fine.1.1.1).0 (good_number n fine.1.1.0))
value_valid kind (tree.name text) key fine = good_suits kind (tree.name text) key fine
value_valid kind (tree.note n) key fine = good_suits kind (tree.note n) key fine
value_valid kind (tree.truth b) key fine = good_suits kind (tree.truth b) key fine
value_valid kind (tree.number n) key fine = number_valid kind n (good_suits kind (tree.number n) key fine.0) fine.1

-- ---- ranges
pub first_valid : (kind : Kind) (n : Number) → IsTrue (fits_key kind) → Good (value kind (tree.number n)) → AllHold (number_rules kind n)
    → IsTrue (is_numeral kind n)
first_valid kind n key good held = number_valid kind n (good_suits kind (tree.number n) key good) held

-- what a kind takes before `..`, it takes after it
pub last_valid : (kind : Kind) (a n : Number) → IsTrue (is_numeral kind a) → Good (numeral n) → AllHold (number_rules kind n)
    → IsTrue (is_numeral kind n)
last_valid Sound a n first good held = absurd (false≢true first)
last_valid (Note key) a n first good held =
    and_from (not (takes_word key)) _ (and_parts (not (takes_word key)) _ first).0
    (and_from (is_whole n) (is_small n) (and_parts (is_whole n) true held).0 (good_number n good))
last_valid (Int key) a n first good held =
    and_from (not (takes_word key)) _ (and_parts (not (takes_word key)) _ first).0
    (and_from (is_whole n) (is_small n) (and_parts (is_whole n) true held).0 (good_number n good))
last_valid (Word key) a n first good held = absurd (false≢true first)
last_valid Truths a n first good held = absurd (false≢true first)
last_valid Count a n first good held =
    let (whole, rest) = and_parts (is_whole n) (is_ratio n && true) held in
    and_from (is_whole n) (is_factor n) whole (and_from (is_ratio n) (is_small n) (and_parts (is_ratio n) true rest).0 (good_number n good))
last_valid Ratio a n first good held = and_from (is_ratio n) (is_small n) (and_parts (is_ratio n) true held).0 (good_number n good)

-- a factor takes any numbers
pub after_key : (kind : Kind) (bs : tree.Braces) → IsTrue (fits_key kind) → IsTrue (fits_key (kind_after kind bs))
after_key kind tree.no_brace key = key
after_key kind (tree.brace bs ls) key = refl
