-- The tokens of a text, one after the other, as they are read.
use Rattle.std.proofs.Common.{◌≡◌, ℕ, ◌+◌, ◌-◌, ◌<◌, ◌≤◌, Option, None, Ok, Err, List, [], ◌∷◌, ◌++◌, length, take, drop, refl, ap, sym, ◌∙◌, subst, arith}
use Rattle.std.proofs.Common.{length-append}
use Rattle.std.specs.List.{slice_range}
use Rattle.std.proofs.lemmas.List.{length-drop, drop-drop}
use Rattle.std.proofs.Math.Seq.{take-append_seam, drop-append_seam}
use Rattle.tdl_lexer.specs.declared.lexemes.Lexeme.{Lexeme}
use Rattle.tdl_lexer.specs.declared.lexemes.Flaw.{Flaw}
use Rattle.tdl_lexer.specs.declared.signs.Token.{Token}
use Rattle.tdl_lexer.specs.Languages.{Language}
use Rattle.tdl_lexer.specs.Tokens.{byte_before, next_place, NextToken, Front, Faulty, IsCut, IsFaultAt, end_token}
use Rattle.tdl_lexer.specs.inside.Lexeme.{lexeme_or}
use Rattle.tdl_lexer.proofs.Finders.{Finds}
use Rattle.tdl_lexer.proofs.LexemeLemmas.{LexemeOf, lexeme_is, fault_is}

-- the reader stands at a place: tokens lead to one before it, and blank space alone lies between
pub record ReadUpTo (L : Language) (text : List ℕ) (tokens : List Token) (at : ℕ) : Type 0 where
  pub from : ℕ
  pub front : Front L text tokens 0 from
  pub place : at ≡ next_place L text from
  pub inside : at ≤ length text

abbrev pub token : Lexeme → ℕ → Token
token x at = record { sign = x.sign; at = at; end = at + x.len }

-- the lexeme at a place makes the next token
pub record TokenThere (L : Language) (text : List ℕ) (from at : ℕ) (x : Lexeme) : Type 0 where
  pub next : NextToken L text from (token x at)
  pub within : at + x.len ≤ length text
  pub filled : 0 < x.len

Front_push : (L : Language) (text : List ℕ) (tokens : List Token) (t : Token) (from to : ℕ) → Front L text tokens from to → NextToken L text to t
    → Front L text (tokens ++ t ∷ []) from t.end
Front_push L text [] t from to h next = let P : ℕ → Type 0 = λ n. NextToken L text n t in (subst P (sym h) next, refl)
Front_push L text (s ∷ tokens) t from to h next = (h.0, Front_push L text tokens t s.end to h.1 next)

module _ (L : Language) (find : ℕ → List ℕ → Option L.Form) (finds : Finds L find) where
  -- the place behind the blank space from an offset on
  place_is : (text rest : List ℕ) (from n : ℕ) → from ≤ length text → rest ≡ drop from text → n ≡ length (L.blank rest)
      → (from + n ≡ next_place L text from) × (from + n ≤ length text)
  place_is text rest from n within e en =
      let is : n ≡ length (L.blank (drop from text)) = en ∙ ap (λ t. length (L.blank t)) e in
      (omega (arith, is), omega (arith, is, finds.blank (drop from text), length-drop from text))

  pub read_none : (text : List ℕ) (tokens : List Token) (at : ℕ) → tokens ≡ [] → at ≡ length (L.blank text) → ReadUpTo L text tokens at
  read_none text tokens at none e =
      let h = place_is text text 0 at (omega arith) refl e in
      let zero : 0 + at ≡ at = omega arith in
      let Q : List Token → Type 0 = λ ts. ReadUpTo L text ts at in
      subst Q (sym none) (record { from = 0; front = refl; place = sym zero ∙ h.0; inside = omega (arith, h.1) })

  by_form : (text : List ℕ) (from at : ℕ) (x : Lexeme) → at ≡ next_place L text from → at ≤ length text → LexemeOf L (byte_before text at) (drop at text) x
      → TokenThere L text from at x
  by_form text from at x place inside h =
      let bytes = L.spell h.form in
      let len : x.len ≡ length bytes = ap (λ (y : Lexeme). y.len) h.is in
      let sign : x.sign ≡ L.sign h.form = ap (λ (y : Lexeme). y.sign) h.is in
      let filled = finds.filled h.form (byte_before text at) h.after h.stands in
      let size = ap length h.joined in
      let within : at + x.len ≤ length text = omega (arith, len, filled, size, length-drop at text, length-append bytes h.after) in
      let past : (at + x.len) - at ≡ length bytes = omega (arith, len) in
      let slice : slice_range text at (at + x.len) ≡ bytes = ap (λ k. take k (drop at text)) past ∙ ap (take (length bytes)) h.joined
      ∙ take-append_seam bytes h.after in
      let left : drop (at + x.len) text ≡ h.after = sym (drop-drop x.len at text) ∙ ap (λ k. drop k (drop at text)) len ∙ ap (drop (length bytes)) h.joined
      ∙ drop-append_seam bytes h.after in
      let P : List ℕ → Type 0 = λ rest. L.Stands h.form (byte_before text at) rest × (L.flaw h.form rest ≡ None) in
      let there = subst P (sym left) (h.stands, h.flawless) in
      record {
        next = record { form = h.form; place = place; within = within; is = slice; stands = there.0; flawless = there.1; sign = sign };
        within = within;
        filled = omega (arith, len, filled);
      }

  pub token_there : (text : List ℕ) (tokens : List Token) (at : ℕ) (x : Lexeme) (h : ReadUpTo L text tokens at)
      → Ok x ≡ lexeme_or L (drop at text) (find (byte_before text at) (drop at text)) → TokenThere L text h.from at x
  token_there text tokens at x h is =
      by_form text h.from at x h.place h.inside (lexeme_is L find finds (byte_before text at) (drop at text) x (sym is))

  -- one token more, and the blank space after it
  pub read_more : (text rest : List ℕ) (tokens more : List Token) (at n : ℕ) (x : Lexeme) → ReadUpTo L text tokens at
      → Ok x ≡ lexeme_or L (drop at text) (find (byte_before text at) (drop at text)) → more ≡ tokens ++ token x at ∷ [] → rest ≡ drop (at + x.len) text
      → n ≡ length (L.blank rest) → ReadUpTo L text more (at + x.len + n)
  read_more text rest tokens more at n x h is pushed e en =
      let there = token_there text tokens at x h is in
      let place = place_is text rest (at + x.len) n there.within e en in
      let P : List Token → Type 0 = λ ts. ReadUpTo L text ts (at + x.len + n) in
      subst P (sym pushed) (record {
        from = at + x.len;
        front = Front_push L text tokens (token x at) 0 h.from h.front there.next;
        place = place.0;
        inside = place.1;
      })

  -- a fault stands where the reader stands
  pub fault_there : (text : List ℕ) (tokens : List Token) (at : ℕ) (flaw : Flaw) → ReadUpTo L text tokens at → at < length text
      → Err flaw ≡ lexeme_or L (drop at text) (find (byte_before text at) (drop at text)) → IsFaultAt L text flaw.kind (at + flaw.past)
  fault_there text tokens at flaw h inside is =
      let filled : 0 < length (drop at text) = omega (arith, length-drop at text) in
      let faulty = fault_is L find finds (byte_before text at) (drop at text) flaw filled (sym is) in
      record {
        before = tokens;
        to = h.from;
        front = h.front;
        past = flaw.past;
        place = ap (λ n. n + flaw.past) h.place;
        faulty = subst (λ n. Faulty L flaw (byte_before text n) (drop n text)) h.place faulty;
      }

-- the whole text is read
pub cut_done : (L : Language) (text : List ℕ) (tokens all : List Token) (at : ℕ) → ReadUpTo L text tokens at → length text ≤ at
    → all ≡ tokens ++ end_token at ∷ [] → IsCut L text all
cut_done L text tokens all at h done e =
    let ends : at ≡ length text = let inside : at ≤ length text = h.inside in omega arith in
    record { before = tokens; to = h.from; front = h.front; whole = sym ends ∙ h.place; ends = e ∙ ap (λ n. tokens ++ end_token n ∷ []) ends }
