-- The tree of a text of any grammar, or its first fault, as a machine of the grammar computes them.
--     Answer       this tree, or this fault at a byte
--     IsAnswer     what the definitions say of one
--     answer       the answer for a text
--     answer_is    the definitions say so
use Rattle.std.proofs.Common.{◌≡◌, ℕ, ◌+◌, inl, inr, true, Ok, Err, List, [], ◌∷◌, ◌++◌, map, get_or, refl, sym, ◌∙◌, subst}
use Rattle.std.proofs.Common.{append_assoc}
use Rattle.std.specs.List.{AllZip}
use Rattle.std.proofs.lemmas.List.{get_or_default}
use Rattle.tdl_grammar.specs.Grammar.{Grammar}
use Rattle.tdl_grammar.specs.Faults.{IsFault}
use Rattle.tdl_grammar.specs.Machine.{Stop, Taken, stop_kind, stop_at}
use Rattle.tdl_grammar.specs.inside.TokenMachine.{TokenMachine, IsExact, runs}
use Rattle.tdl_grammar.proofs.FirstFault as first
use Rattle.tdl_grammar.proofs.Runs.{goes_on, run-append}
use Rattle.tdl_lexer.specs.declared.signs.Token.{Token}
use Rattle.tdl_lexer.specs.Tokens.{end_token}
use Rattle.tdl_texts.specs.Texts.{Notation, AreToks, IsWritten, RefusesAt}
use Rattle.tdl_texts.specs.inside.Fits.{Fits}
use Rattle.tdl_texts.proofs.EachText.{within_tokens, at_its_byte}
use Rattle.tdl_texts.proofs.Toks.{ending, one_list}
use Rattle.tdl_definition_tests.proofs.Cuts as cuts
use Rattle.tdl_definition_tests.proofs.Cuts.{Cut, whole, broken, cut, cut_is}

pub data Answer (Tree Kind : Type 0) : Type 0 where
  tree : Tree → Answer Tree Kind
  fault : Kind → ℕ → Answer Tree Kind

abbrev pub IsAnswer : {g : Grammar} → Notation g → List ℕ → Answer g.Tree g.Kind → Type 0
IsAnswer n text (tree t) = IsWritten n text t
IsAnswer n text (fault kind at) = RefusesAt n text kind at

-- the byte of a place
abbrev byte_of : {g : Grammar} → Notation g → List Token → g.Place → ℕ
byte_of n tokens place = (get_or tokens (n.token place) (end_token 0)).at + n.offset place

abbrev after : {g : Grammar} → (n : Notation g) → (m : TokenMachine g) → List Token → (m.State → Answer g.Tree g.Kind) → Taken m.State g.Kind g.Place
    → Answer g.Tree g.Kind
after n m tokens more (Ok s) = more s
after n m tokens more (Err stop) = fault (stop_kind stop) (byte_of n tokens (stop_at stop))

abbrev told : {g : Grammar} → (n : Notation g) → (m : TokenMachine g) → List Token → List g.Token → m.State → Answer g.Tree g.Kind
told n m tokens [] s = tree (m.tree s)
told n m tokens (t ∷ others) s = after n m tokens (λ next. told n m tokens others next) (m.take true s t)

-- with the token of the grammar that each token is
abbrev told_of : {g : Grammar} → (n : Notation g) → (m : TokenMachine g) → (Token → g.Token) → Cut → Answer g.Tree g.Kind
told_of n m tok (whole tokens) = told n m tokens (map tok tokens) m.first
told_of n m tok (broken kind at) = fault (n.cut_kind kind) at

abbrev pub answer : {g : Grammar} → (n : Notation g) → (m : TokenMachine g) → (List ℕ → Token → g.Token) → List ℕ → Answer g.Tree g.Kind
answer n m tok text = told_of n m (tok text) (cut n.mode text)

not_none : {A : Type 0} (xs : List A) (x : A) → xs ++ x ∷ [] ≡ [] → ⊥
not_none [] x e = cc
not_none (y ∷ xs) x e = cc

module _ {g : Grammar} (n : Notation g) (m : TokenMachine g) (h : IsExact m) (f : Fits n m) (text : List ℕ) (tokens : List Token) where
  refused : (toks : List g.Token) → AreToks n text tokens toks → (stop : Stop g.Kind g.Place) → IsFault g toks (stop_kind stop) (stop_at stop)
      → RefusesAt n text (stop_kind stop) (byte_of n tokens (stop_at stop))
  refused toks are stop found =
      let place = stop_at stop in
      let there = get_or tokens (n.token place) (end_token 0) in
      let inside = within_tokens n m h f text tokens toks (stop_kind stop) place are found in
      inr (at_its_byte n m h f text tokens toks (stop_kind stop) place there are found (get_or_default tokens (n.token place) (end_token 0) there inside))

  one_more : (front : List g.Token) (t : g.Token) (s next : m.State) → runs m true front ≡ Ok s → m.take true s t ≡ Ok next
      → runs m true (front ++ t ∷ []) ≡ Ok next
  one_more front t s next e is = run-append (m.take true) front (t ∷ []) m.first s e ∙ goes_on (m.take true) s t [] next (Ok next) is refl

  at_last : (front : List g.Token) (last : g.Token) → m.IsEnd last → AreToks n text tokens (front ++ last ∷ []) → (s : m.State) → runs m true front ≡ Ok s
      → (r : Taken m.State g.Kind g.Place) → m.take true s last ≡ r → IsAnswer n text (after n m tokens (λ next. tree (m.tree next)) r)
  at_last front last ends are s e (Ok next) is = record {
    tokens = tokens;
    toks = front ++ last ∷ [];
    tokenized = are;
    is = first.text_found g m h (front ++ last ∷ []) next (one_more front last s next e is) (h.end_ends s next last ends is);
  }
  at_last front last ends are s e (Err stop) is =
      refused (front ++ last ∷ []) are stop (first.fault_found g m h front last [] s stop e is (λ none. ends))

  at_token : (front : List g.Token) (t : g.Token) (others : List g.Token) (last : g.Token)
      → AreToks n text tokens (front ++ t ∷ (others ++ last ∷ [])) → (s : m.State) → runs m true front ≡ Ok s
      → (more : m.State → Answer g.Tree g.Kind) → ((next : m.State) → runs m true (front ++ t ∷ []) ≡ Ok next → IsAnswer n text (more next))
      → (r : Taken m.State g.Kind g.Place) → m.take true s t ≡ r → IsAnswer n text (after n m tokens more r)
  at_token front t others last are s e more each (Ok next) is = each next (one_more front t s next e is)
  at_token front t others last are s e more each (Err stop) is =
      refused (front ++ t ∷ (others ++ last ∷ [])) are stop
      (first.fault_found g m h front t (others ++ last ∷ []) s stop e is (λ none. absurd (not_none others last none)))

  told_from : (others front : List g.Token) (last : g.Token) → m.IsEnd last → AreToks n text tokens (front ++ (others ++ last ∷ []))
      → (s : m.State) → runs m true front ≡ Ok s → IsAnswer n text (told n m tokens (others ++ last ∷ []) s)
  told_from [] front last ends are s e = at_last front last ends are s e (m.take true s last) refl
  told_from (t ∷ others) front last ends are s e =
      at_token front t others last are s e (λ next. told n m tokens (others ++ last ∷ []) next)
      (λ next is.
      told_from others (front ++ t ∷ []) last ends (subst (AreToks n text tokens) (sym (append_assoc front (t ∷ []) (others ++ last ∷ []))) are) next is)
      (m.take true s t) refl

  told_is : (toks : List g.Token) → AreToks n text tokens toks → IsAnswer n text (told n m tokens toks m.first)
  told_is toks are =
      let e = ending n m f text tokens are.cut in
      let same = (one_list n m f text tokens tokens toks (e.front ++ e.last ∷ []) are e.are).1 in
      subst (λ (ts : List g.Token). IsAnswer n text (told n m tokens ts m.first)) (sym same) (told_from e.front [] e.last e.ends e.are m.first refl)

module _ {g : Grammar} (n : Notation g) (m : TokenMachine g) (h : IsExact m) (f : Fits n m) (tok : List ℕ → Token → g.Token)
    (is : (text : List ℕ) (t : Token) → n.IsTok text t (tok text t)) where
  zip_map : (text : List ℕ) (tokens : List Token) → AllZip (n.IsTok text) tokens (map (tok text) tokens)
  zip_map text [] = tt
  zip_map text (t ∷ tokens) = (is text t, zip_map text tokens)

  told_of_is : (text : List ℕ) (c : Cut) → cuts.IsCutAs n.mode text c → IsAnswer n text (told_of n m (tok text) c)
  told_of_is text (whole tokens) k = told_is n m h f text tokens (map (tok text) tokens) (record { cut = k; are = zip_map text tokens })
  told_of_is text (broken kind at) k = inl (record { cause = kind; same = refl; fault = k })

  pub answer_is : (text : List ℕ) → IsAnswer n text (answer n m tok text)
  answer_is text = told_of_is text (cut n.mode text) (cut_is n.mode text)
