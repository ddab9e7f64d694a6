-- What a lexeme says of the text, and a fault.
use Rattle.std.proofs.Common.{◌≡◌, ℕ, ◌<◌, ◌≤◌, ◌+◌, inl, inr, Option, Some, None, Result, Ok, Err, List, ◌++◌}
use Rattle.std.proofs.Common.{length, drop, refl, ap, sym, ◌∙◌, arith, length-append}
use Rattle.std.specs.Prelude.{IfOk, IfErr}
use Rattle.std.proofs.lemmas.List.{length-drop}
use Rattle.std.proofs.Math.Seq.{drop-append_seam}
use Rattle.tdl_lexer.specs.declared.lexemes.Lexeme.{Lexeme}
use Rattle.tdl_lexer.specs.declared.lexemes.Flaw.{Flaw}
use Rattle.tdl_lexer.specs.Languages.{Language, at_front}
use Rattle.tdl_lexer.specs.Tokens.{unlisted, Faulty}
use Rattle.tdl_lexer.specs.inside.Lexeme.{judged, lexeme_or}
use Rattle.tdl_lexer.proofs.Finders.{Found, Finds}

abbrev pub lexeme : (L : Language) → L.Form → Lexeme
lexeme L form = record { sign = L.sign form; len = length (L.spell form) }

-- a form without flaw, and the lexeme that it makes
pub record LexemeOf (L : Language) (last : ℕ) (rest : List ℕ) (x : Lexeme) : Type 0 where
  pub form : L.Form
  pub after : List ℕ
  pub joined : rest ≡ L.spell form ++ after
  pub stands : L.Stands form last after
  pub flawless : L.flaw form after ≡ None
  pub is : x ≡ lexeme L form

abbrev lexeme_fault : Flaw → Result Lexeme Flaw
lexeme_fault flaw = Err flaw

ok_judged : (x y : Lexeme) (o : Option Flaw) → judged x o ≡ Ok y → (o ≡ None) × (y ≡ x)
ok_judged x y None e = (refl, cc)
ok_judged x y (Some flaw) e = cc

same_flaw : (flaw other : Flaw) → lexeme_fault other ≡ lexeme_fault flaw → flaw ≡ other
same_flaw flaw other e = cc

err_judged : (x : Lexeme) (o : Option Flaw) (flaw : Flaw) → judged x o ≡ Err flaw → o ≡ Some flaw
err_judged x None flaw e = cc
err_judged x (Some other) flaw e = cc

-- what follows a form is what its flaw is judged by
flaw_read : (L : Language) (form : L.Form) (rest after : List ℕ) → rest ≡ L.spell form ++ after
    → L.flaw form (drop (length (L.spell form)) rest) ≡ L.flaw form after
flaw_read L form rest after joined =
    ap (λ t. L.flaw form (drop (length (L.spell form)) t)) joined ∙ ap (L.flaw form) (drop-append_seam (L.spell form) after)

ok_of : (L : Language) (last : ℕ) (rest : List ℕ) (o : Option L.Form) (x : Lexeme)
    → ((form : L.Form) → o ≡ Some form → Found L last rest form) → lexeme_or L rest o ≡ Ok x → LexemeOf L last rest x
ok_of L last rest None x found e = cc
ok_of L last rest (Some form) x found e =
    let there = found form refl in
    let h = ok_judged (lexeme L form) x (L.flaw form (drop (length (L.spell form)) rest)) e in
    record {
      form = form;
      after = there.0;
      joined = there.1;
      stands = there.2;
      flawless = sym (flaw_read L form rest there.0 there.1) ∙ h.0;
      is = h.1;
    }

module _ (L : Language) (find : ℕ → List ℕ → Option L.Form) (finds : Finds L find) where
  pub lexeme_is : (last : ℕ) (rest : List ℕ) (x : Lexeme)
      → lexeme_or L rest (find last rest) ≡ Ok x → LexemeOf L last rest x
  lexeme_is last rest x e = ok_of L last rest (find last rest) x (finds.found last rest) e

  no_form : (last : ℕ) (rest : List ℕ) → find last rest ≡ None
      → (form : L.Form) (after : List ℕ) → rest ≡ L.spell form ++ after → L.Stands form last after → ⊥
  no_form last rest none form after joined stands =
      never (sym none ∙ ap (find last) joined ∙ finds.read form last after stands)
    where
      never : None ≡ Some form → ⊥
      never e = cc

  err_of : (last : ℕ) (rest : List ℕ) (o : Option L.Form) (flaw : Flaw)
      → find last rest ≡ o → 0 < length rest → lexeme_or L rest o ≡ Err flaw → Faulty L flaw last rest
  err_of last rest None flaw found filled e =
      inr (record { filled = filled; formless = no_form last rest found }, same_flaw flaw (at_front (unlisted rest)) e)
  err_of last rest (Some form) flaw found filled e =
      let there = finds.found last rest form found in
      let h = err_judged (lexeme L form) (L.flaw form (drop (length (L.spell form)) rest)) flaw e in
      inl (record {
        form = form;
        after = there.0;
        joined = there.1;
        stands = there.2;
        is = sym (flaw_read L form rest there.0 there.1) ∙ h;
      })

  pub fault_is : (last : ℕ) (rest : List ℕ) (flaw : Flaw)
      → 0 < length rest → lexeme_or L rest (find last rest) ≡ Err flaw → Faulty L flaw last rest
  fault_is last rest flaw filled e = err_of last rest (find last rest) flaw refl filled e

  -- ---- and back
  lexeme_read : (form : L.Form) (last : ℕ) (rest after : List ℕ)
      → rest ≡ L.spell form ++ after → L.Stands form last after → lexeme_or L rest (find last rest) ≡ judged (lexeme L form) (L.flaw form after)
  lexeme_read form last rest after joined stands =
      ap (lexeme_or L rest) (ap (find last) joined ∙ finds.read form last after stands)
      ∙ ap (judged (lexeme L form)) (flaw_read L form rest after joined)

  pub token_read : (form : L.Form) (last : ℕ) (rest after : List ℕ)
      → rest ≡ L.spell form ++ after → L.Stands form last after → L.flaw form after ≡ None → lexeme_or L rest (find last rest) ≡ Ok (lexeme L form)
  token_read form last rest after joined stands h =
      lexeme_read form last rest after joined stands ∙ ap (judged (lexeme L form)) h

  pub fault_read : (flaw : Flaw) (last : ℕ) (rest : List ℕ)
      → Faulty L flaw last rest → lexeme_or L rest (find last rest) ≡ Err flaw
  fault_read flaw last rest (inl h) =
      lexeme_read h.form last rest h.after h.joined h.stands ∙ ap (judged (lexeme L h.form)) h.is
  fault_read flaw last rest (inr h) =
      ap (lexeme_or L rest) (unknown (find last rest) refl) ∙ ap Err (sym h.1)
    where
      unknown : (o : Option L.Form) → find last rest ≡ o → o ≡ None
      unknown None e = refl
      unknown (Some form) e = let there = finds.found last rest form e in absurd (h.0.formless form there.0 there.1 there.2)

  -- ---- a fault stands at a byte
  pub fault_stands : (flaw : Flaw) (last : ℕ) (rest : List ℕ)
      → Faulty L flaw last rest → 0 < length rest
  fault_stands flaw last rest (inl h) =
      let filled = finds.filled h.form last h.after h.stands in
      omega (arith, filled, ap length h.joined, length-append (L.spell h.form) h.after)
  fault_stands flaw last rest (inr h) = h.0.filled

  pub fault_within : (flaw : Flaw) (last : ℕ) (rest : List ℕ)
      → Faulty L flaw last rest → flaw.past ≤ length rest
  fault_within flaw last rest (inl h) =
      let within = finds.within h.form h.after flaw h.is in
      omega (arith, within, ap length h.joined, length-append (L.spell h.form) h.after)
  fault_within flaw last rest (inr h) =
      let past : flaw.past ≡ 0 = ap (λ (f : Flaw). f.past) h.1 in
      omega (arith, past)

  -- ---- what the code answers
  pub lexeme_within : (last : ℕ) (text : List ℕ) (at : ℕ) (r : Result Lexeme Flaw) → r ≡ lexeme_or L (drop at text) (find last (drop at text))
      → at < length text → IfOk r (λ x. (0 < x.len) × (at + x.len ≤ length text))
  lexeme_within last text at (Err flaw) e inside = tt
  lexeme_within last text at (Ok x) e inside =
      let h = lexeme_is last (drop at text) x (sym e) in
      let filled = finds.filled h.form last h.after h.stands in
      let len : x.len ≡ length (L.spell h.form) = ap (λ (y : Lexeme). y.len) h.is in
      let size = ap length h.joined in
      (omega (arith, filled, len), omega (arith, filled, len, size, length-drop at text, length-append (L.spell h.form) h.after))

  pub flaw_within : (last : ℕ) (text : List ℕ) (at : ℕ) (r : Result Lexeme Flaw) → r ≡ lexeme_or L (drop at text) (find last (drop at text)) → at < length text
      → IfErr r (λ flaw. at + flaw.past ≤ length text)
  flaw_within last text at (Ok x) e inside = tt
  flaw_within last text at (Err flaw) e inside =
      let faulty = fault_is last (drop at text) flaw (omega (arith, length-drop at text)) (sym e) in
      omega (arith, length-drop at text, fault_within flaw last (drop at text) faulty)
