-- A text is cut in one way: at each place one thing comes next.
use Rattle.std.proofs.Common.{◌≡◌, ℕ, ◌+◌, ◌-◌, ◌<◌, ◌≤◌, true, false, cond, nat_le, Option, Result, Ok, Err, List, [], ◌∷◌, ◌++◌, length, drop, refl, ap, sym}
use Rattle.std.proofs.Common.{◌∙◌, subst, arith, length-take, length-take-le}
use Rattle.std.specs.List.{slice_range}
use Rattle.std.proofs.lemmas.List.{length-drop}
use Rattle.std.proofs.lemmas.List.Folds.{drop_split}
use Rattle.std.proofs.lemmas.Bool.Decides.{nat_tests}
use Rattle.tdl_lexer.specs.declared.lexemes.Lexeme.{Lexeme}
use Rattle.tdl_lexer.specs.declared.lexemes.Flaw.{Flaw}
use Rattle.tdl_lexer.specs.declared.signs.Sign.{Sign}
use Rattle.tdl_lexer.specs.declared.signs.Token.{Token}
use Rattle.tdl_lexer.specs.declared.signs.LexKind.{LexKind}
use Rattle.tdl_lexer.specs.Languages.{Language}
use Rattle.tdl_lexer.specs.Tokens.{byte_before, next_place, NextToken, Front, IsCut, IsFaultAt, end_token}
use Rattle.tdl_lexer.specs.inside.Lexeme.{lexeme_or}
use Rattle.tdl_lexer.proofs.Finders.{Finds}
use Rattle.tdl_lexer.proofs.LexemeLemmas.{token_read, fault_read, fault_stands}

-- what comes next: the text's end, a token, or a fault
data Next : Type 0 where
  Ended : Next
  Goes : Token → Next
  Fails : LexKind → ℕ → Next

abbrev token : Sign → ℕ → ℕ → Token
token sign at end = record { sign = sign; at = at; end = end }

abbrev outcome : ℕ → Result Lexeme Flaw → Next
outcome at (Ok x) = Goes (token x.sign at (at + x.len))
outcome at (Err flaw) = Fails flaw.kind (at + flaw.past)

-- nothing more is cut
abbrev Stops : Next → Type 0
Stops Ended = Unit {0}
Stops (Goes t) = ⊥
Stops (Fails kind at) = Unit {0}

same_goes : (t u : Token) → Goes t ≡ Goes u → t ≡ u
same_goes t u e = cc

ended_fails : (kind : LexKind) (at : ℕ) → Ended ≡ Fails kind at → ⊥
ended_fails kind at e = cc

same_fails : (k l : LexKind) (m n : ℕ) → Fails k m ≡ Fails l n → (k ≡ l) × (m ≡ n)
same_fails k l m n e = (kinds e, places e)
  where
    kinds : Fails k m ≡ Fails l n → k ≡ l
    kinds e = cc

    places : Fails k m ≡ Fails l n → m ≡ n
    places e = cc

module _ (L : Language) (find : ℕ → List ℕ → Option L.Form) (finds : Finds L find) where
  abbrev next_at : List ℕ → ℕ → Next
  next_at text at = cond (nat_le (length text) at) Ended (outcome at (lexeme_or L (drop at text) (find (byte_before text at) (drop at text))))

  abbrev next : List ℕ → ℕ → Next
  next text from = next_at text (next_place L text from)

  next_inside : (text : List ℕ) (at : ℕ) → at < length text
      → next_at text at ≡ outcome at (lexeme_or L (drop at text) (find (byte_before text at) (drop at text)))
  next_inside text at inside =
      let short : nat_le (length text) at ≡ false = grind (arith, nat_tests) in
      rw short refl

  -- a token comes next
  token_next : (text : List ℕ) (from : ℕ) (t : Token) → NextToken L text from t → next text from ≡ Goes t
  token_next text from t h =
      let filled = finds.filled h.form (byte_before text t.at) (drop t.end text) h.stands in
      let within : t.end ≤ length text = h.within in
      let size : length (slice_range text t.at t.end) ≡ length (L.spell h.form) = ap length h.is in
      let ordered : t.at < t.end = omega (arith, filled, size, length-take {A = ℕ}) in
      let len : length (slice_range text t.at t.end) ≡ t.end - t.at = length-take-le (t.end - t.at) (drop t.at text) (omega (arith, length-drop t.at text)) in
      let joined = drop_split text t.at t.end (omega arith) ∙ ap (λ bytes. bytes ++ drop t.end text) h.is in
      let ends : t.at + length (L.spell h.form) ≡ t.end = omega (arith, size, len) in
      ap (next_at text) (sym h.place)
      ∙ next_inside text t.at (omega arith)
      ∙ ap (outcome t.at) (token_read L find finds h.form (byte_before text t.at) (drop t.at text) (drop t.end text) joined h.stands h.flawless)
      ∙ ap (λ s. Goes (token s t.at (t.at + length (L.spell h.form)))) (sym h.sign)
      ∙ ap (λ n. Goes (token t.sign t.at n)) ends

  -- the text ends
  end_next : (text : List ℕ) (to : ℕ) → length text ≡ next_place L text to → next text to ≡ Ended
  end_next text to whole =
      let over : nat_le (length text) (length text) ≡ true = grind (arith, nat_tests) in
      let ended : next_at text (length text) ≡ Ended = rw over refl in
      ap (next_at text) (sym whole) ∙ ended

  -- a fault comes next
  fault_next : (text : List ℕ) (kind : LexKind) (at : ℕ) (h : IsFaultAt L text kind at) → next text h.to ≡ Fails kind at
  fault_next text kind at h =
      let place = next_place L text h.to in
      let flaw : Flaw = record { kind = kind; past = h.past } in
      let filled = fault_stands L find finds flaw (byte_before text place) (drop place text) h.faulty in
      next_inside text place (omega (arith, filled, length-drop place text))
      ∙ ap (outcome place) (fault_read L find finds flaw (byte_before text place) (drop place text) h.faulty)
      ∙ ap (Fails kind) (sym h.place)

  -- tokens after which nothing more is cut
  record Last (text : List ℕ) (tokens : List Token) (from : ℕ) (x : Next) : Type 0 where
    to : ℕ
    front : Front L text tokens from to
    then : next text to ≡ x
    stops : Stops x

  one_way : (text : List ℕ) (a b : List Token) (from : ℕ) (x y : Next) → Last text a from x → Last text b from y → (a ≡ b) × (x ≡ y)
  one_way text [] [] from x y h k = (refl, sym h.then ∙ ap (next text) (sym h.front ∙ k.front) ∙ k.then)
  one_way text [] (u ∷ b) from x y h k =
      let goes = sym h.then ∙ ap (next text) (sym h.front) ∙ token_next text from u k.front.0 in
      absurd (subst Stops goes h.stops)
  one_way text (t ∷ a) [] from x y h k =
      let goes = sym k.then ∙ ap (next text) (sym k.front) ∙ token_next text from t h.front.0 in
      absurd (subst Stops goes k.stops)
  one_way text (t ∷ a) (u ∷ b) from x y h k =
      let same = same_goes t u (sym (token_next text from t h.front.0) ∙ token_next text from u k.front.0) in
      let P : Token → Type 0 = λ v. Front L text b v.end k.to in
      let more = one_way text a b t.end x y (record { to = h.to; front = h.front.1; then = h.then; stops = h.stops })
      (record { to = k.to; front = subst P (sym same) k.front.1; then = k.then; stops = k.stops }) in
      (ap (λ v. v ∷ a) same ∙ ap (λ ts. u ∷ ts) more.0, more.1)

  cut_last : (text : List ℕ) (tokens : List Token) (h : IsCut L text tokens) → Last text h.before 0 Ended
  cut_last text tokens h = record { to = h.to; front = h.front; then = end_next text h.to h.whole; stops = tt }

  fault_last : (text : List ℕ) (kind : LexKind) (at : ℕ) (h : IsFaultAt L text kind at) → Last text h.before 0 (Fails kind at)
  fault_last text kind at h = record { to = h.to; front = h.front; then = fault_next text kind at h; stops = tt }

  pub cut_unique : (text : List ℕ) (a b : List Token) → IsCut L text a → IsCut L text b → a ≡ b
  cut_unique text a b h k =
      let same = one_way text h.before k.before 0 Ended Ended (cut_last text a h) (cut_last text b k) in
      h.ends ∙ ap (λ ts. ts ++ end_token (length text) ∷ []) same.0 ∙ sym k.ends

  pub cut_no_fault : (text : List ℕ) (tokens : List Token) (kind : LexKind) (at : ℕ) → IsCut L text tokens → IsFaultAt L text kind at → ⊥
  cut_no_fault text tokens kind at h k =
      ended_fails kind at (one_way text h.before k.before 0 Ended (Fails kind at) (cut_last text tokens h) (fault_last text kind at k)).1

  pub fault_unique : (text : List ℕ) (k l : LexKind) (m n : ℕ) → IsFaultAt L text k m → IsFaultAt L text l n → (k ≡ l) × (m ≡ n)
  fault_unique text k l m n h j =
      same_fails k l m n (one_way text h.before j.before 0 (Fails k m) (Fails l n) (fault_last text k m h) (fault_last text l n j)).1
