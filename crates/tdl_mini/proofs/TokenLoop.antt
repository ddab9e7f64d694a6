-- What the reader has read, from token to token.
--     IsReadUpTo     the reader's state is the machine's after so many tokens, whatever further layers there are
--     Goes           what taking a token says of the reader before and after it
--     read_none      nothing is read
--     stays_there    what is read names no further layers
--     room_there     few tokens are read
--     read_further   after one more token
--     fault_there    where the reader stops the text is refused
--     fault_within   at one of its tokens
--     fault_placed, lexer_placed    the text is refused at the byte of a fault
--     no_memory      a text of the grammar is refused by out of memory alone
--     whole_text, whole_kind, read_all    at the end the text is read
--     whole_valid    its tree is valid
use Rattle.std.proofs.Common.{◌≡◌, ℕ, suc, ◌+◌, ◌<◌, ◌≤◌, ◌^◌, inl, true, false, Some, Ok, Err, List, [], ◌++◌, length, get_or, IsTrue, refl, sym, ap, ◌∙◌}
use Rattle.std.proofs.Common.{subst, arith}
use Rattle.std.proofs.lemmas.List.{append-nil, append_assoc, get_or_default}
use Rattle.tdl_control.specs.declared.faults.Faulted.{Faulted}
use Rattle.tdl_control.specs.declared.faults.Faulted.TheVariants.{NoMemory, At}
use Rattle.tdl_lexer.specs.declared.signs.Token.{Token}
use Rattle.tdl_lexer.specs.declared.signs.LexKind.{LexKind}
use Rattle.tdl_lexer.specs.MiniForms.{mini_notation}
use Rattle.tdl_lexer.specs.Tokens.{IsCut, Refuses as LexerRefuses, end_token}
use Rattle.tdl_grammar.proofs.Tests.{ok_is, untested-same}
use Rattle.tdl_texts.specs.Texts.{RefusesAt}
use Rattle.tdl_texts.proofs.Loop.{ReadsUpTo, reads_none, reads_once, reads_further, Written, written, StopsAt, refused, stands_within}
use Rattle.tdl_mini_tree.specs.declared.faults.MiniKind.{MiniKind}
use Rattle.tdl_mini_tree.specs.declared.leaves.Kind.{Kind}
use Rattle.tdl_mini_reader.specs.declared.nests.Nests.{Nests}
use Rattle.tdl_mini_reader.specs.declared.stages.Stage.{Stage}
use Rattle.tdl_mini_reader.specs.declared.reader.MiniTokenReader.{MiniTokenReader}
use Rattle.tdl_mini_machine.specs.Tokens.{Tok}
use Rattle.tdl_mini_grammar.specs.Faults.{IsText}
use Rattle.tdl_mini_tree.specs.Tree as tree
use Rattle.tdl_mini_grammar.specs.Tests.{tests}
use Rattle.tdl_mini_grammar.specs.Texts.{tok_of, mini_texts, IsMini, Refuses}
use Rattle.tdl_mini_tree.specs.View.{layers_of}
use Rattle.tdl_mini_machine.specs.Machine.States.{State, Fault, Taken, first_state, final_state, fault_kind, fault_at}
use Rattle.tdl_mini_machine.specs.Machine.Running.{taken, run}
use Rattle.tdl_mini_reader.specs.NestsView.{trees_in}
use Rattle.tdl_mini_reader.specs.ReaderView.{state_of, fault_of, Refusal, StaysAt, HasGrown}
use Rattle.tdl_mini.specs.inside.LoopView.{IsTokenFault, IsWithin, IsAtToken, with_kind}
use Rattle.tdl_mini_tree.specs.Valid.{fits_key, is_valid}
use Rattle.tdl_mini_grammar.proofs.Exact.{exact}
use Rattle.tdl_mini_machine.proofs.Counts.{run-untested}
use Rattle.tdl_mini_grammar.proofs.MiniMachine.{mini_machine, is_exact}
use Rattle.tdl_mini_grammar.proofs.Validity.{valid_of_mini}
use Rattle.tdl_mini_grammar.proofs.TextsRead.{fits, IsMini-no_fault}

-- so many tokens bring the machine to this state
abbrev Reads : Kind → List ℕ → List Token → ℕ → State → Type 0
Reads kind = ReadsUpTo (mini_texts kind) (mini_machine kind)

pub record IsReadUpTo (kind : Kind) (text : List ℕ) (tokens : List Token) (i : ℕ) (r : MiniTokenReader) (p : Stage) : Type 0 where
  pub state : (more : List tree.Layers) → Reads kind text tokens i (state_of (trees_in r.nests ++ more) r p)
  pub count : r.read ≡ i
  pub room : length (trees_in r.nests) ≤ r.read

pub read_none :
    (kind : Kind) (text : List ℕ) (tokens : List Token) (r : MiniTokenReader) (p : Stage) → trees_in r.nests ≡ [] →
    ((trees : List tree.Layers) → state_of trees r p ≡ first_state kind) → IsReadUpTo kind text tokens 0 r p
read_none kind text tokens r p empty same =
    let count : r.read ≡ 0 = ap (λ (s : State). s.read) (same []) in
    let long : length (trees_in r.nests) ≡ 0 = ap length empty in
    record {
      state = λ more. subst (Reads kind text tokens 0) (sym (same (trees_in r.nests ++ more)))
          (reads_none (mini_texts kind) (mini_machine kind) (is_exact kind) (fits kind) text tokens);
      count = count;
      room = omega arith;
    }

plain_state : (kind : Kind) (text : List ℕ) (tokens : List Token) (i : ℕ) (r : MiniTokenReader) (p : Stage) → IsReadUpTo kind text tokens i r p
    → Reads kind text tokens i (state_of (trees_in r.nests) r p)
plain_state kind text tokens i r p h =
    subst (λ (trees : List tree.Layers). Reads kind text tokens i (state_of trees r p)) (append-nil (trees_in r.nests)) (h.state [])

pub stays_there : (kind : Kind) (text : List ℕ) (tokens : List Token) (i : ℕ) (r : MiniTokenReader) (p : Stage) → IsReadUpTo kind text tokens i r p
    → StaysAt (trees_in r.nests) r p
stays_there kind text tokens i r p h = λ more.
    reads_once (mini_texts kind) (mini_machine kind) (is_exact kind) (fits kind) text tokens i _ _ (h.state more) (plain_state kind text tokens i r p h)

pub room_there : (kind : Kind) (text : List ℕ) (tokens : List Token) (i : ℕ) (r : MiniTokenReader) (p : Stage) → IsReadUpTo kind text tokens i r p
    → length tokens ≤ suc (length text) → length text ≤ 2 ^ 24 → i < length tokens → r.read < 2 ^ 25
room_there kind text tokens i r p h few short inside = let count : r.read ≡ i = h.count in omega arith

-- the state before a token, over the layers that there are after it
grown_state :
    (kind : Kind) (text : List ℕ) (tokens : List Token) (i : ℕ) (r : MiniTokenReader) (p : Stage) (new : Nests) → IsReadUpTo kind text tokens i r p
    → HasGrown r.nests new → (more : List tree.Layers) → Reads kind text tokens i (state_of (trees_in new ++ more) r p)
grown_state kind text tokens i r p new h grown more =
    let trees : trees_in r.nests ++ (grown.added ++ more) ≡ trees_in new ++ more = sym (append_assoc (trees_in r.nests) grown.added more)
    ∙ ap (λ (ts : List tree.Layers). ts ++ more) (sym grown.trees) in
    subst (λ (ts : List tree.Layers). Reads kind text tokens i (state_of ts r p)) trees (h.state (grown.added ++ more))

pub record Goes (r f : MiniTokenReader) (p next : Stage) (tok : Tok) : Type 0 where
  pub ok : (more : List tree.Layers) → taken true (state_of (trees_in f.nests ++ more) r p) tok ≡ Ok (state_of (trees_in f.nests ++ more) f next)
  pub grown : HasGrown r.nests f.nests
  pub count : f.read ≡ r.read + 1
  pub room : length (trees_in f.nests) ≤ f.read

pub read_further :
    (kind : Kind) (text : List ℕ) (tokens : List Token) (i : ℕ) (there : Token) (tok : Tok) (r f : MiniTokenReader) (p next : Stage) → i < length tokens →
    there ≡ get_or tokens i there → tok ≡ tok_of text there → IsReadUpTo kind text tokens i r p → Goes r f p next tok
    → IsReadUpTo kind text tokens (i + 1) f next
read_further kind text tokens i there tok r f p next inside is same h goes =
    let count : r.read ≡ i = h.count in
    let further : f.read ≡ r.read + 1 = goes.count in
    record {
      state = λ more. reads_further (mini_texts kind) (mini_machine kind) (is_exact kind) (fits kind) text tokens i there
          (state_of (trees_in f.nests ++ more) r p) (state_of (trees_in f.nests ++ more) f next) inside is
          (grown_state kind text tokens i r p f.nests h goes.grown more)
          (λ x here. ap (taken true (state_of (trees_in f.nests ++ more) r p)) (here ∙ sym same) ∙ goes.ok more);
      count = omega arith;
      room = goes.room;
    }

-- ---- faults
pub record Stops (r : Taken) (kind : MiniKind) (at : ℕ) : Type 0 where
  pub fault : Fault
  pub is : r ≡ Err fault
  pub kind_is : fault_kind fault ≡ kind
  pub at_is : fault_at fault ≡ at

stops_at : (r : Taken) (kind : MiniKind) (at : ℕ) → fault_of r ≡ Some (At kind at) → Stops r kind at
stops_at (Ok s) kind at e = cc
stops_at (Err fault) kind at e = record { fault = fault; is = refl; kind_is = cc; at_is = cc }

-- a fault at the first byte of its token
at_front : (kind : Kind) (text : List ℕ) (k : MiniKind) (at : ℕ) → RefusesAt (mini_texts kind) text k (at + 0) → Refuses kind text (At k at)
at_front kind text k at h = let same : at + 0 ≡ at = omega arith in subst (λ (n : ℕ). RefusesAt (mini_texts kind) text k n) same h

pub fault_there :
    (kind : Kind) (text : List ℕ) (tokens : List Token) (i : ℕ) (there : Token) (tok : Tok) (r : MiniTokenReader) (p : Stage) (fault : Faulted MiniKind)
    → IsCut mini_notation text tokens →
    i < length tokens → there ≡ get_or tokens i there → tok ≡ tok_of text there → IsReadUpTo kind text tokens i r p →
    Refusal (taken true (state_of (trees_in r.nests) r p) tok) fault → IsTokenFault kind text tokens fault
fault_there kind text tokens i there tok r p NoMemory cut inside is same h refusal = tt
fault_there kind text tokens i there tok r p (At k at) cut inside is same h refusal =
    let s = state_of (trees_in r.nests) r p in
    let stops = stops_at (taken true s tok) k at refusal in
    let stopped : StopsAt (mini_texts kind) (mini_machine kind) (is_exact kind) (fits kind) text tokens stops.fault = record {
      read = i;
      here = there;
      state = s;
      inside = inside;
      is = is;
      reached = plain_state kind text tokens i r p h;
      stops = λ x here. ap (taken true s) (here ∙ sym same) ∙ stops.is;
    } in
    let within : fault_at stops.fault < length tokens =
    stands_within (mini_texts kind) (mini_machine kind) (is_exact kind) (fits kind) text tokens stops.fault cut stopped in
    let inside_at : at < length tokens = subst (λ (n : ℕ). n < length tokens) stops.at_is within in (
      inside_at,
      λ d.
          let here = get_or tokens at d in
          let here_is : here ≡ get_or tokens (fault_at stops.fault) here =
          get_or_default tokens at d here inside_at ∙ ap (λ (n : ℕ). get_or tokens n here) (sym stops.at_is) in
          subst (λ (m : MiniKind). Refuses kind text (At m here.at)) stops.kind_is
          (at_front kind text (fault_kind stops.fault) here.at
          (refused (mini_texts kind) (mini_machine kind) (is_exact kind) (fits kind) text tokens stops.fault here cut stopped here_is)),
    )

pub fault_within : (kind : Kind) (text : List ℕ) (tokens : List Token) (fault : Faulted MiniKind) → IsTokenFault kind text tokens fault
    → IsWithin (length tokens) fault
fault_within kind text tokens NoMemory h = tt
fault_within kind text tokens (At fault at) h = h.0

pub fault_placed :
    (kind : Kind) (text : List ℕ) (tokens : List Token) (fault result : Faulted MiniKind) → IsTokenFault kind text tokens fault →
    IsAtToken tokens fault result → Refuses kind text result
fault_placed kind text tokens NoMemory result h is = subst (Refuses kind text) (sym is) tt
fault_placed kind text tokens (At fault at) result h is = subst (Refuses kind text) (sym (is (end_token 0))) (h.1 (end_token 0))

pub lexer_placed : (kind : Kind) (text : List ℕ) (fault : Faulted LexKind) (result : Faulted MiniKind) → LexerRefuses mini_notation text fault
    → result ≡ with_kind fault
    → Refuses kind text result
lexer_placed kind text NoMemory result h is = subst (Refuses kind text) (sym is) tt
lexer_placed kind text (At cause at) result h is = subst (Refuses kind text) (sym is) (inl (record { cause = cause; same = refl; fault = h }))

-- a text of the grammar is refused by out of memory alone
pub no_memory : (kind : Kind) (text : List ℕ) (fault : Faulted MiniKind) → Refuses kind text fault → (ls : tree.Layers) → IsMini kind text ls → fault ≡ NoMemory
no_memory kind text NoMemory h ls is = refl
no_memory kind text (At fault at) h ls is = absurd (IsMini-no_fault kind text ls fault at is h)

-- ---- the end
whole : (kind : Kind) (text : List ℕ) (tokens : List Token) (r : MiniTokenReader) (p : Stage) → IsCut mini_notation text tokens
    → IsReadUpTo kind text tokens (length tokens) r p
    → Written (mini_texts kind) (mini_machine kind) (is_exact kind) (fits kind) text tokens (state_of (trees_in r.nests) r p)
whole kind text tokens r p cut h =
    written (mini_texts kind) (mini_machine kind) (is_exact kind) (fits kind) text tokens _ cut (plain_state kind text tokens (length tokens) r p h)

pub whole_text : (kind : Kind) (text : List ℕ) (tokens : List Token) (r : MiniTokenReader) (p : Stage) → IsCut mini_notation text tokens
    → IsReadUpTo kind text tokens (length tokens) r p → IsMini kind text (layers_of (trees_in r.nests) r.level.sequences.items)
whole_text kind text tokens r p cut h = (whole kind text tokens r p cut h).tree

kind_read : (kind : Kind) (toks : List Tok) (ls : tree.Layers) (s : State) → IsText kind toks ls → run true (first_state kind) toks ≡ Ok s → s.level.kind ≡ kind
kind_read kind toks ls s is e =
    let done : run false (first_state kind) toks ≡ Ok (final_state kind ls (length toks)) = exact kind toks ls false is.reads
    ∙ untested-same (tests kind ls) _ in
    ap (λ (f : State). f.level.kind)
    (ok_is (run false (first_state kind) toks) s (final_state kind ls (length toks)) (run-untested toks (first_state kind) s e) done)

pub whole_kind : (kind : Kind) (text : List ℕ) (tokens : List Token) (r : MiniTokenReader) (p : Stage) → IsCut mini_notation text tokens
    → IsReadUpTo kind text tokens (length tokens) r p → r.level.kind ≡ kind
whole_kind kind text tokens r p cut h =
    let s = state_of (trees_in r.nests) r p in
    let w = whole kind text tokens r p cut h in
    kind_read kind w.toks s.level.layers s w.is w.reached

pub read_all : (kind : Kind) (text : List ℕ) (tokens : List Token) (i : ℕ) (r : MiniTokenReader) (p : Stage) → i ≡ length tokens
    → IsReadUpTo kind text tokens i r p
    → IsReadUpTo kind text tokens (length tokens) r p
read_all kind text tokens i r p e h = subst (λ (n : ℕ). IsReadUpTo kind text tokens n r p) e h

pub whole_valid : (kind : Kind) (text : List ℕ) (tokens : List Token) (r : MiniTokenReader) (p : Stage) → IsTrue (fits_key kind)
    → IsCut mini_notation text tokens
    → IsReadUpTo kind text tokens (length tokens) r p → IsTrue (is_valid r.level.kind (layers_of (trees_in r.nests) r.level.sequences.items))
whole_valid kind text tokens r p key cut h =
    let ls = layers_of (trees_in r.nests) r.level.sequences.items in
    subst (λ (k : Kind). IsTrue (is_valid k ls)) (sym (whole_kind kind text tokens r p cut h))
    (valid_of_mini kind text ls key (whole_text kind text tokens r p cut h))
