-- The form of a word, as the parser tells it.
use Rattle.std.proofs.Common.{◌≡◌, ℕ, Bool, true, false, refl, [], ◌∷◌, Option, Some, None, sym, ap, subst, ◌∙◌}
use Rattle.std.specs.Prelude.{◌==◌, slice_get}
use Rattle.std.specs.Str.{IsUtf8, bytes_eq, chars, encode_utf8_all}
use Rattle.std.specs.Char.{encode_utf8}
use Rattle.std.specs.List.{before_first}
use Rattle.std.proofs.lemmas.Bool.{eqb-true}
use Rattle.std.proofs.lemmas.Str.{encodes-chars}
use Rattle.clap.specs.Lexer.{long_of, short_of}
use Rattle.clap.specs.Walk.{Text}
use Rattle.tdl_words.specs.Words.{Plain, End, Long, Other, form, is_equals, value_of}

abbrev pub dashes : Text
dashes = 45 ∷ 45 ∷ []

pub data Looks (word : Text) : Type 0 where
  as_plain : form word ≡ Plain → bytes_eq word dashes ≡ false → long_of word ≡ None → short_of word ≡ None → Looks word
  as_end : form word ≡ End → bytes_eq word dashes ≡ true → Looks word
  as_long : (name : Text) (value : Option Text) → form word ≡ Long name value → bytes_eq word dashes ≡ false → long_of word ≡ Some (name, value) → Looks word
  as_other : (flags : Text) (char : ℕ) → form word ≡ Other → bytes_eq word dashes ≡ false → long_of word ≡ None → short_of word ≡ Some flags
      → slice_get (chars flags) 0 ≡ Some char → Looks word

minus_alone : (y : ℕ) (ys : Text) → encode_utf8_all (45 ∷ []) ≡ 45 ∷ y ∷ ys → ⊥
unfolding encode_utf8
minus_alone y ys e = cc

first_char : (y : ℕ) (ys : Text) → IsUtf8 (45 ∷ y ∷ ys) → (c : ℕ) × (slice_get (chars (y ∷ ys)) 0 ≡ Some c)
unfolding chars
first_char y ys utf8 = go (chars (y ∷ ys)) refl
  where
    go : (cs : Text) → chars (y ∷ ys) ≡ cs → (c : ℕ) × (slice_get (chars (y ∷ ys)) 0 ≡ Some c)
    go [] e =
        let whole : encode_utf8_all (45 ∷ []) ≡ 45 ∷ y ∷ ys = ap (λ cs. encode_utf8_all (45 ∷ cs)) (sym e) ∙ encodes-chars (45 ∷ y ∷ ys) utf8 in
        absurd (minus_alone y ys whole)
    go (c ∷ cs) e = (c, ap (λ xs. slice_get xs 0) e)

pub looks : (word : Text) → IsUtf8 word → Looks word
looks [] utf8 = as_plain refl refl refl refl
looks (x ∷ []) utf8 = go (x == 45) refl
  where
    go : (a : Bool) → (x == 45) ≡ a → Looks (x ∷ [])
    go true e = as_plain refl (rw e refl) (rw e refl) (rw e refl)
    go false e = as_plain refl (rw e refl) (rw e refl) (rw e refl)
looks (x ∷ y ∷ rest) utf8 = go (x == 45) refl (y == 45) refl
  where
    go : (a : Bool) → (x == 45) ≡ a → (b : Bool) → (y == 45) ≡ b → Looks (x ∷ y ∷ rest)
    go false e b f = as_plain (rw e refl) (rw e refl) (rw e refl) (rw e refl)
    go true e false f =
        let minus : x ≡ 45 = eqb-true x 45 e in
        let char = first_char y rest (subst (λ (b : ℕ). IsUtf8 (b ∷ y ∷ rest)) minus utf8) in
        as_other (y ∷ rest) char.0 (rw (e, f) refl) (rw (e, f) refl) (rw (e, f) refl) (rw (e, f) refl) char.1
    go true e true f = after rest refl
      where
        after : (r : Text) → rest ≡ r → Looks (x ∷ y ∷ rest)
        after [] g = as_end (rw (g, e, f) refl) (rw (g, e, f) refl)
        after (z ∷ zs) g =
            as_long (before_first is_equals (z ∷ zs)) (value_of (z ∷ zs)) (rw (g, e, f) refl) (rw (g, e, f) refl) (rw (g, e, f) refl)
