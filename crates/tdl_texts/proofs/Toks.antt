-- The tokens of a text, as the grammar sees them.
--     some_toks        there are such
--     one_list         and no others
--     long             there are as many as tokens
--     zip_at           each is that of the token of its place
--     last_is_end      the last ends the text
--     at_token         a list of tokens round one of them
use Rattle.std.proofs.Common.{◌≡◌, ℕ, zero, suc, ◌<◌, List, [], ◌∷◌, ◌++◌, length, get_or, take, drop, refl, sym, ap, ap₂, ◌∙◌, subst, arith, drop-cons}
use Rattle.std.proofs.lemmas.List.{take-append-drop}
use Rattle.std.proofs.lemmas.Slice.Zip.{AllZip-long}
use Rattle.std.specs.List.{AllZip}
use Rattle.tdl_grammar.specs.Grammar.{Grammar}
use Rattle.tdl_grammar.specs.inside.TokenMachine.{TokenMachine}
use Rattle.tdl_lexer.specs.declared.signs.Token.{Token}
use Rattle.tdl_lexer.specs.Tokens.{IsCut, end_token, language}
use Rattle.tdl_lexer.proofs.ModeCuts.{IsCut-unique}
use Rattle.tdl_texts.specs.Texts.{Notation, AreToks}
use Rattle.tdl_texts.specs.inside.Fits.{Fits}

-- ---- lists in pairs
none_zip : {A B : Type 0} (R : A → B → Type 0) (ys : List B) (y : B) → AllZip R [] (ys ++ y ∷ []) → ⊥
none_zip R [] y h = h
none_zip R (z ∷ ys) y h = h

zip_none : {A B : Type 0} (R : A → B → Type 0) (xs : List A) (x : A) → AllZip R (xs ++ x ∷ []) [] → ⊥
zip_none R [] x h = h
zip_none R (z ∷ xs) x h = h

zip_last : {A B : Type 0} (R : A → B → Type 0) (xs : List A) (x : A) (ys : List B) (y : B) → AllZip R (xs ++ x ∷ []) (ys ++ y ∷ []) → R x y
zip_last R [] x [] y h = h.0
zip_last R [] x (z ∷ ys) y h = absurd (none_zip R ys y h.1)
zip_last R (z ∷ xs) x [] y h = absurd (zip_none R xs x h.1)
zip_last R (w ∷ xs) x (z ∷ ys) y h = zip_last R xs x ys y h.1

zip-append : {A B : Type 0} (R : A → B → Type 0) (a b : List A) (x y : List B) → AllZip R a x → AllZip R b y → AllZip R (a ++ b) (x ++ y)
zip-append R [] b [] y h k = k
zip-append R [] b (u ∷ x) y h k = absurd h
zip-append R (t ∷ a) b [] y h k = absurd h
zip-append R (t ∷ a) b (u ∷ x) y h k = (h.0, zip-append R a b x y h.1 k)

pub zip_at : {A B : Type 0} (R : A → B → Type 0) (xs : List A) (ys : List B) (i : ℕ) (d : A) (e : B) → AllZip R xs ys → i < length xs
    → R (get_or xs i d) (get_or ys i e)
zip_at R [] ys i d e h inside = absurd (omega arith)
zip_at R (x ∷ xs) [] i d e h inside = absurd h
zip_at R (x ∷ xs) (y ∷ ys) zero d e h inside = h.0
zip_at R (x ∷ xs) (y ∷ ys) (suc i) d e h inside = zip_at R xs ys i d e h.1 (omega arith)

-- ---- one token among others
pub at_token : (tokens : List Token) (i : ℕ) (there : Token) → i < length tokens → there ≡ get_or tokens i there
    → tokens ≡ take i tokens ++ there ∷ drop (suc i) tokens
at_token tokens i there inside is =
    sym (take-append-drop i tokens) ∙ ap (λ (ts : List Token). take i tokens ++ ts)
    (drop-cons tokens i there inside ∙ ap (λ (t : Token). t ∷ drop (suc i) tokens) (sym is))

module _ {g : Grammar} (n : Notation g) (m : TokenMachine g) (f : Fits n m) where
  -- ---- there are such
  pub some_toks : (text : List ℕ) (tokens : List Token) → (toks : List g.Token) × AllZip (n.IsTok text) tokens toks
  some_toks text [] = ([], tt)
  some_toks text (t ∷ tokens) =
      let first = f.some text t in
      let others = some_toks text tokens in
      (first.0 ∷ others.0, (first.1, others.1))

  -- they end as a text does
  pub record Ending (text : List ℕ) (tokens : List Token) : Type 0 where
    pub front : List g.Token
    pub last : g.Token
    pub ends : m.IsEnd last
    pub are : AreToks n text tokens (front ++ last ∷ [])

  pub ending : (text : List ℕ) (tokens : List Token) → IsCut (language n.mode) text tokens → Ending text tokens
  ending text tokens cut =
      let before = some_toks text cut.before in
      let end = f.some text (end_token (length text)) in
      record {
        front = before.0;
        last = end.0;
        ends = f.ends text (length text) end.0 end.1;
        are = record {
          cut = cut;
          are = subst (λ (ts : List Token). AllZip (n.IsTok text) ts (before.0 ++ end.0 ∷ [])) (sym cut.ends)
              (zip-append (n.IsTok text) cut.before (end_token (length text) ∷ []) before.0 (end.0 ∷ []) before.1 (end.1, tt));
        };
      }

  -- ---- and no others
  one_zip : (text : List ℕ) (tokens : List Token) (a b : List g.Token) → AllZip (n.IsTok text) tokens a → AllZip (n.IsTok text) tokens b → a ≡ b
  one_zip text [] [] [] h k = refl
  one_zip text [] [] (y ∷ b) h k = absurd k
  one_zip text [] (x ∷ a) b h k = absurd h
  one_zip text (t ∷ tokens) [] b h k = absurd h
  one_zip text (t ∷ tokens) (x ∷ a) [] h k = absurd k
  one_zip text (t ∷ tokens) (x ∷ a) (y ∷ b) h k =
      ap₂ (λ (u : g.Token) (us : List g.Token). u ∷ us) (f.one text t x y h.0 k.0) (one_zip text tokens a b h.1 k.1)

  pub one_list : (text : List ℕ) (tokens others : List Token) (a b : List g.Token) → AreToks n text tokens a → AreToks n text others b
      → (tokens ≡ others) × (a ≡ b)
  one_list text tokens others a b h k =
      let same = IsCut-unique n.mode text tokens others h.cut k.cut in
      (same, one_zip text others a b (subst (λ (ts : List Token). AllZip (n.IsTok text) ts a) same h.are) k.are)

  pub long : (text : List ℕ) (tokens : List Token) (toks : List g.Token) → AreToks n text tokens toks → length toks ≡ length tokens
  long text tokens toks h = AllZip-long (n.IsTok text) tokens toks h.are

  -- ---- the end
  pub last_is_end : (text : List ℕ) (tokens : List Token) (front : List g.Token) (next : g.Token) → AreToks n text tokens (front ++ next ∷ []) → m.IsEnd next
  last_is_end text tokens front next h =
      f.ends text (length text) next
      (zip_last (n.IsTok text) h.cut.before (end_token (length text)) front next
      (subst (λ (ts : List Token). AllZip (n.IsTok text) ts (front ++ next ∷ [])) h.cut.ends h.are))
