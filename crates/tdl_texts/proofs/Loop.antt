-- A machine takes the tokens of a text one after another.
--     ReadsUpTo        so many tokens bring the machine to this state
--     reads_none       none of them
--     reads_once       and to one state alone
--     reads_further    one more
--     written          all of them: it is at its end, and the text has its tree
--     StopsAt          the machine stops at one of the tokens
--     stops_there      where it stops at the next
--     refused          the text is refused then, at the byte of the fault
use Rattle.std.proofs.Common.{◌≡◌, ℕ, suc, ◌+◌, ◌<◌, inr, true, Ok, Err, List, [], ◌∷◌, ◌++◌, length, get_or, take, drop, refl, sym, ap, ◌∙◌}
use Rattle.std.proofs.Common.{subst, arith, drop-cons, add-one}
use Rattle.std.proofs.Math.Seq.{take-suc, take-length}
use Rattle.std.proofs.lemmas.List.{take-append-drop}
use Rattle.std.specs.List.{AllZip}
use Rattle.std.proofs.lemmas.Slice.Zip.{AllZip-long}
use Rattle.tdl_grammar.specs.Grammar.{Grammar}
use Rattle.tdl_grammar.specs.Faults.{IsText, IsFault}
use Rattle.tdl_grammar.specs.Machine.{Stop, stop_kind, stop_at, run}
use Rattle.tdl_grammar.specs.inside.TokenMachine.{TokenMachine, IsExact, runs}
use Rattle.tdl_grammar.proofs.FirstFault as first
use Rattle.tdl_grammar.proofs.Runs.{begins, goes_on, run-append}
use Rattle.tdl_grammar.proofs.Tests.{ok_is}
use Rattle.tdl_lexer.specs.declared.signs.Token.{Token}
use Rattle.tdl_lexer.specs.Tokens.{IsCut, language}
use Rattle.tdl_texts.specs.Texts.{Notation, AreToks, IsWritten, RefusesAt}
use Rattle.tdl_texts.specs.inside.Fits.{Fits}
use Rattle.tdl_texts.proofs.Toks.{ending, some_toks, long, zip_at, last_is_end}
use Rattle.tdl_texts.proofs.EachText.{at_its_byte}

abbrev pub ReadsUpTo : {g : Grammar} → (n : Notation g) → (m : TokenMachine g) → List ℕ → List Token → ℕ → m.State → Type 0
ReadsUpTo {g} n m text tokens i s = (toks : List g.Token) → AllZip (n.IsTok text) tokens toks → runs m true (take i toks) ≡ Ok s

module _ {g : Grammar} (n : Notation g) (m : TokenMachine g) (h : IsExact m) (f : Fits n m) where
  pub reads_none : (text : List ℕ) (tokens : List Token) → ReadsUpTo n m text tokens 0 m.first
  reads_none text tokens = λ toks are. refl

  pub reads_once : (text : List ℕ) (tokens : List Token) (i : ℕ) (s t : m.State) → ReadsUpTo n m text tokens i s → ReadsUpTo n m text tokens i t → s ≡ t
  reads_once text tokens i s t one other =
      let toks = some_toks n m f text tokens in ok_is (runs m true (take i toks.0)) s t (one toks.0 toks.1) (other toks.0 toks.1)

  -- ---- the next token
  pub record There (text : List ℕ) (toks : List g.Token) (i : ℕ) (here : Token) : Type 0 where
    pub tok : g.Token
    pub is : n.IsTok text here tok
    pub inside : i < length toks
    pub cut : toks ≡ take i toks ++ tok ∷ drop (suc i) toks
    pub front : take (i + 1) toks ≡ take i toks ++ tok ∷ []

  pub there : (text : List ℕ) (tokens : List Token) (toks : List g.Token) (i : ℕ) (here : Token) → i < length tokens → here ≡ get_or tokens i here
      → AllZip (n.IsTok text) tokens toks → There text toks i here
  there text tokens toks i here inside is are =
      let some = f.some text here in
      let tok = get_or toks i some.0 in
      let stands : n.IsTok text here tok = subst (λ (x : Token). n.IsTok text x tok) (sym is)
      (zip_at (n.IsTok text) tokens toks i here some.0 are inside) in
      let as_many : length toks ≡ length tokens = AllZip-long (n.IsTok text) tokens toks are in
      let room : i < length toks = omega (arith, as_many) in
      record {
        tok = tok;
        is = stands;
        inside = room;
        cut = sym (take-append-drop i toks) ∙ ap (λ (ts : List g.Token). take i toks ++ ts) (drop-cons toks i some.0 room);
        front = rw add-one (take-suc toks i some.0 room);
      }

  pub reads_further : (text : List ℕ) (tokens : List Token) (i : ℕ) (here : Token) (s next : m.State) → i < length tokens → here ≡ get_or tokens i here
      → ReadsUpTo n m text tokens i s → ((x : g.Token) → n.IsTok text here x → m.take true s x ≡ Ok next) → ReadsUpTo n m text tokens (i + 1) next
  reads_further text tokens i here s next inside is read goes = λ toks are.
      let x = there text tokens toks i here inside is are in
      ap (runs m true) x.front
      ∙ run-append (m.take true) (take i toks) (x.tok ∷ []) m.first s (read toks are)
      ∙ goes_on (m.take true) s x.tok [] next (Ok next) (goes x.tok x.is) refl

  -- ---- the end
  ended_after : (front : List g.Token) (last : g.Token) (s t : m.State) → m.IsEnd last → run (m.take true) s (front ++ last ∷ []) ≡ Ok t → m.IsEnded t
  ended_after [] last s t end e =
      let b = begins (m.take true) s last [] t e in
      subst m.IsEnded (ok_is (Ok b.next) b.next t refl b.more) (h.end_ends s b.next last end b.taken)
  ended_after (x ∷ front) last s t end e =
      let b = begins (m.take true) s x (front ++ last ∷ []) t e in ended_after front last b.next t end b.more

  all_read : (text : List ℕ) (tokens : List Token) (s : m.State) (toks : List g.Token) → AreToks n text tokens toks
      → ReadsUpTo n m text tokens (length tokens) s → runs m true toks ≡ Ok s
  all_read text tokens s toks are read =
      let all : take (length tokens) toks ≡ toks = ap (λ (k : ℕ). take k toks) (sym (long n m f text tokens toks are)) ∙ take-length toks in
      ap (runs m true) (sym all) ∙ read toks are.are

  pub record Written (text : List ℕ) (tokens : List Token) (s : m.State) : Type 0 where
    pub toks : List g.Token
    pub are : AreToks n text tokens toks
    pub reached : runs m true toks ≡ Ok s
    pub ended : m.IsEnded s
    pub is : IsText g toks (m.tree s)
    pub tree : IsWritten n text (m.tree s)

  pub written : (text : List ℕ) (tokens : List Token) (s : m.State) → IsCut (language n.mode) text tokens
      → ReadsUpTo n m text tokens (length tokens) s → Written text tokens s
  written text tokens s cut read =
      let e = ending n m f text tokens cut in
      let toks = e.front ++ e.last ∷ [] in
      let reached = all_read text tokens s toks e.are read in
      let ended = ended_after e.front e.last m.first s e.ends reached in
      let is = first.text_found g m h toks s reached ended in
      record {
        toks = toks;
        are = e.are;
        reached = reached;
        ended = ended;
        is = is;
        tree = record { tokens = tokens; toks = toks; tokenized = e.are; is = is };
      }

  -- ---- faults
  -- the machine stops at a token, after so many
  pub record StopsAt (text : List ℕ) (tokens : List Token) (stop : Stop g.Kind g.Place) : Type 0 where
    pub read : ℕ
    pub here : Token
    pub state : m.State
    pub inside : read < length tokens
    pub is : here ≡ get_or tokens read here
    pub reached : ReadsUpTo n m text tokens read state
    pub stops : (x : g.Token) → n.IsTok text here x → m.take true state x ≡ Err stop

  pub first_fault : (text : List ℕ) (tokens : List Token) (toks : List g.Token) (stop : Stop g.Kind g.Place) → StopsAt text tokens stop
      → AreToks n text tokens toks → IsFault g toks (stop_kind stop) (stop_at stop)
  first_fault text tokens toks stop at are =
      let x = there text tokens toks at.read at.here at.inside at.is are.are in
      let front = take at.read toks in
      let others = drop (suc at.read) toks in
      subst (λ (ts : List g.Token). IsFault g ts (stop_kind stop) (stop_at stop)) (sym x.cut)
      (first.fault_found g m h front x.tok others at.state stop (at.reached toks are.are) (at.stops x.tok x.is)
      (λ none. last_is_end n m f text tokens front x.tok
      (subst (λ (ts : List g.Token). AreToks n text tokens (front ++ x.tok ∷ ts)) none (subst (AreToks n text tokens) x.cut are))))

  pub refused : (text : List ℕ) (tokens : List Token) (stop : Stop g.Kind g.Place) (there : Token) → IsCut (language n.mode) text tokens
      → StopsAt text tokens stop → there ≡ get_or tokens (n.token (stop_at stop)) there
      → RefusesAt n text (stop_kind stop) (there.at + n.offset (stop_at stop))
  refused text tokens stop there cut at is =
      let toks = some_toks n m f text tokens in
      let are : AreToks n text tokens toks.0 = record { cut = cut; are = toks.1 } in
      inr (at_its_byte n m h f text tokens toks.0 (stop_kind stop) (stop_at stop) there are (first_fault text tokens toks.0 stop at are) is)

  -- that fault stands at one of the text's tokens
  pub stands_within : (text : List ℕ) (tokens : List Token) (stop : Stop g.Kind g.Place) → IsCut (language n.mode) text tokens
      → StopsAt text tokens stop → n.token (stop_at stop) < length tokens
  stands_within text tokens stop cut at =
      let toks = some_toks n m f text tokens in
      let are : AreToks n text tokens toks.0 = record { cut = cut; are = toks.1 } in
      let inside = f.within toks.0 (stop_kind stop) (stop_at stop) (first_fault text tokens toks.0 stop at are) in
      let as_many = long n m f text tokens toks.0 are in
      omega (arith, inside, as_many)
