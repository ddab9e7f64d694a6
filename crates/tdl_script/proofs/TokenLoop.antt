-- What the reader has read, from token to token.
--     IsReadUpTo       the reader's state is the machine's after so many tokens
--     read_none        nothing is read
--     read_further     after one more token
--     stopped_there    where the reader stops the text is refused
--     read_all         at the end the text is read
--     stage_ends       and the reader is at its end
--     within_tokens, byte_small    a fault stands at one of the tokens of a short text
--     refused_at, lexer_refused    the text is refused at the byte of a fault
use Rattle.std.proofs.Common.{◌≡◌, ℕ, suc, ◌+◌, ◌<◌, ◌≤◌, inl, inr, true, Ok, Err, List, length, get_or, refl, sym, ap, ◌∙◌}
use Rattle.std.proofs.Common.{subst, arith, length-append}
use Rattle.std.specs.List.{HoldsAt}
use Rattle.std.specs.Prelude.{[], ◌∷◌}
use Rattle.std.proofs.lemmas.List.{get_or_default}
use Rattle.tdl_control.specs.declared.faults.Faulted.{Faulted}
use Rattle.tdl_control.specs.declared.faults.Faulted.TheVariants.{NoMemory, At}
use Rattle.tdl_grammar.specs.Machine.{Stop, stop_kind, stop_at}
use Rattle.tdl_lexer.specs.declared.signs.LexKind.{LexKind}
use Rattle.tdl_lexer.specs.declared.signs.Token.{Token}
use Rattle.tdl_lexer.specs.LineForms.{line_notation}
use Rattle.tdl_lexer.specs.Tokens.{IsCut, Refuses, end_token}
use Rattle.tdl_texts.specs.Texts.{RefusesAt}
use Rattle.tdl_texts.proofs.Loop.{ReadsUpTo, reads_none, reads_further, Written, written, StopsAt, refused, stands_within}
use Rattle.tdl_mini_tree.specs.declared.leaves.Kind.{Kind}
use Rattle.tdl_mini_tree.specs.Reading.{Reading}
use Rattle.tdl_command.specs.declared.tree.Whole.{Whole}
use Rattle.tdl_command.specs.Tree as tree
use Rattle.tdl_command.specs.View.{whole_of}
use Rattle.tdl_line_machine.specs.declared.faults.LineKind.{LineKind}
use Rattle.tdl_line_machine.specs.Pieces.{Place}
use Rattle.tdl_line_machine.specs.declared.goals.Goal.{Goal}
use Rattle.tdl_line_machine.specs.Machine as machine
use Rattle.tdl_line_machine.specs.Machine.{taken}
use Rattle.tdl_line_machine.specs.Machine.States.{State, Step, first_core, first_stage, ended}
use Rattle.tdl_line_machine.specs.Tokens.{Tok}
use Rattle.tdl_line_grammar.specs.inside.Laws.{tree_at}
use Rattle.tdl_line_grammar.proofs.LineMachine.{line_machine, is_exact}
use Rattle.tdl_line_texts.specs.Limits.{max_line}
use Rattle.tdl_line_texts.specs.Texts.{IsTok, IsWhole, RefusesWhole, line_texts}
use Rattle.tdl_line_texts.proofs.LinePieces.{pieces}
use Rattle.tdl_line_texts.proofs.LineTokens.{fits}
use Rattle.tdl_line_reader.specs.declared.faults.Fault.{Fault}
use Rattle.tdl_line_reader.specs.declared.faults.Fault.TheVariants as fault
use Rattle.tdl_line_reader.specs.declared.faults.Place.{Place as PlaceValue}
use Rattle.tdl_line_reader.specs.declared.reader.LineTokenReader.{LineTokenReader}
use Rattle.tdl_line_reader.specs.declared.stages.Asked.{Asked}
use Rattle.tdl_line_reader.specs.declared.stages.Asked.TheVariants as asked
use Rattle.tdl_line_reader.specs.declared.stages.NumberStage.{NumberStage}
use Rattle.tdl_line_reader.specs.declared.stages.NumberStage.TheVariants as number_stage
use Rattle.tdl_line_reader.specs.declared.stages.Stage.{Stage}
use Rattle.tdl_line_reader.specs.declared.stages.Stage.TheVariants as stage
use Rattle.tdl_line_reader.specs.declared.tokens.Tok.{Tok as TokValue}
use Rattle.tdl_line_reader.specs.ReaderView.{AreReadings, IsTokOf, Stops, asking_of, core_of, number_of, place_of, spot_of, stage_of, state_of, tok_value}
use Rattle.tdl_script.specs.declared.quoted.QuotedText.{QuotedText}
use Rattle.tdl_script.specs.inside.QuotedView.{text_reads}
use Rattle.tdl_script.specs.inside.LoopView.{IsTokenFault, IsWithin, IsAtByte, with_kind}

-- ---- the loop
abbrev Reads : Goal → List ℕ → List Token → ℕ → State → Type 0
Reads goal = ReadsUpTo (line_texts goal) (line_machine goal)

pub record IsReadUpTo (goal : Goal) (text : List ℕ) (tokens : List Token) (i : ℕ) (r : LineTokenReader) (p : Stage) : Type 0 where
  pub state : Reads goal text tokens i (state_of r p)
  pub count : r.read ≡ i

pub read_none : (goal : Goal) (text : List ℕ) (tokens : List Token) (r : LineTokenReader) (p : Stage) → core_of r ≡ first_core → stage_of p ≡ first_stage goal
    → IsReadUpTo goal text tokens 0 r p
read_none goal text tokens r p core start =
    let same : record { core = first_core; stage = first_stage goal } ≡ state_of r p =
    ap (λ (c : machine.Core). record { core = c; stage = first_stage goal }) (sym core)
    ∙ ap (λ (q : machine.Stage). record { core = core_of r; stage = q }) (sym start) in
    record {
      state = subst (Reads goal text tokens 0) same (reads_none (line_texts goal) (line_machine goal) (is_exact goal) (fits goal) text tokens);
      count = ap (λ (c : machine.Core). c.read) core;
    }

pub read_further :
    (goal : Goal) (text : List ℕ) (tokens : List Token) (i : ℕ) (here : Token) (t : TokValue QuotedText) (r f : LineTokenReader) (p next : Stage)
    → i < length tokens
    → here ≡ get_or tokens i here → ((tok : Tok) → IsTok text here tok → IsTokOf text_reads tok t) → IsReadUpTo goal text tokens i r p →
    ((readings : Kind → Reading) → AreReadings text_reads readings t → taken true (state_of r p) (tok_value readings t) ≡ Ok (state_of f next))
    → f.read ≡ r.read + 1
    → IsReadUpTo goal text tokens (i + 1) f next
read_further goal text tokens i here t r f p next inside is exactly h goes count =
    let before : r.read ≡ i = h.count in
    record {
      state = reads_further (line_texts goal) (line_machine goal) (is_exact goal) (fits goal) text tokens i here (state_of r p) (state_of f next) inside is
          h.state (λ x stands. let known = exactly x stands in ap (taken true (state_of r p)) (sym known.2) ∙ goes known.0 known.1);
      count = omega arith;
    }

-- ---- where it stops
there_is : (tokens : List Token) (i : ℕ) (d : Token) → i < length tokens → get_or tokens i d ≡ get_or tokens i (get_or tokens i d)
there_is tokens i d inside = get_or_default tokens i d (get_or tokens i d) inside

short_token : (text : List ℕ) (tokens : List Token) (i : ℕ) → length text ≤ max_line → IsCut line_notation text tokens → i < length tokens
    → HoldsAt (λ (t : Token). t.at ≤ max_line) tokens i
short_token text tokens i short cut inside = λ d.
    let piece = pieces text tokens i (get_or tokens i d) cut inside (there_is tokens i d inside) in omega (arith, piece.ordered, piece.within)

-- the machine stops with this fault
record StopsWith (goal : Goal) (text : List ℕ) (tokens : List Token) (kind : LineKind) (place : PlaceValue) : Type 0 where
  stop : Stop LineKind Place
  kind_is : kind ≡ stop_kind stop
  place_is : place_of place ≡ stop_at stop
  at : StopsAt (line_texts goal) (line_machine goal) (is_exact goal) (fits goal) text tokens stop

stops_with : (goal : Goal) (text : List ℕ) (tokens : List Token) (i : ℕ) (here : Token) (s : State) (kind : LineKind) (place : PlaceValue) → i < length tokens
    → here ≡ get_or tokens i here → Reads goal text tokens i s → (x : Tok) → IsTok text here x → (step : Step) → taken true s x ≡ step
    → Stops step (fault.At kind place) → StopsWith goal text tokens kind place
stops_with goal text tokens i here s kind place inside is reached x stands (Ok f) e h = absurd h
stops_with goal text tokens i here s kind place inside is reached x stands (Err stop) e h = record {
  stop = stop;
  kind_is = h.0;
  place_is = h.1;
  at = record {
    read = i;
    here = here;
    state = s;
    inside = inside;
    is = is;
    reached = reached;
    stops = λ y other. ap (taken true s) ((fits goal).one text here y x other stands) ∙ e;
  };
}

refuses : (goal : Goal) (text : List ℕ) (tokens : List Token) (kind : LineKind) (place : PlaceValue) → length text ≤ max_line → IsCut line_notation text tokens
    → StopsWith goal text tokens kind place → IsTokenFault goal text tokens (fault.At kind place)
refuses goal text tokens kind place short cut h =
    let within = stands_within (line_texts goal) (line_machine goal) (is_exact goal) (fits goal) text tokens h.stop cut h.at in
    let inside : place.token < length tokens = subst (λ (p : Place). p.token < length tokens) (sym h.place_is) within in (
      (inside, short_token text tokens place.token short cut inside),
      λ d.
          let here = get_or tokens place.token d in
          let is : here ≡ get_or tokens (stop_at h.stop).token here =
          there_is tokens place.token d inside ∙ ap (λ (p : Place). get_or tokens p.token here) h.place_is in
          let at_stop = refused (line_texts goal) (line_machine goal) (is_exact goal) (fits goal) text tokens h.stop here cut h.at is in
          let at_place = subst (λ (p : Place). RefusesAt (line_texts goal) text (stop_kind h.stop) (here.at + p.offset)) (sym h.place_is) at_stop in
          inr (short, subst (λ (k : LineKind). RefusesAt (line_texts goal) text k (here.at + place.offset)) (sym h.kind_is) at_place),
    )

pub stopped_there :
    (goal : Goal) (text : List ℕ) (tokens : List Token) (i : ℕ) (here : Token) (t : TokValue QuotedText) (r : LineTokenReader) (p : Stage) (f : Fault)
    → length text ≤ max_line
    → IsCut line_notation text tokens → i < length tokens → here ≡ get_or tokens i here → ((tok : Tok) → IsTok text here tok → IsTokOf text_reads tok t)
    → IsReadUpTo goal text tokens i r p →
    ((readings : Kind → Reading) → AreReadings text_reads readings t → Stops (taken true (state_of r p) (tok_value readings t)) f)
    → IsTokenFault goal text tokens f
stopped_there goal text tokens i here t r p fault.NoMemory short cut inside is exactly h stops = tt
stopped_there goal text tokens i here t r p (fault.At kind place) short cut inside is exactly h stops =
    let some = (fits goal).some text here in
    let known = exactly some.0 some.1 in
    refuses goal text tokens kind place short cut
    (stops_with goal text tokens i here (state_of r p) kind place inside is h.state some.0 some.1 (taken true (state_of r p) some.0) refl
    (subst (λ (u : Tok). Stops (taken true (state_of r p) u) (fault.At kind place)) known.2 (stops known.0 known.1)))

-- ---- the end
asked_goes_on : (s : machine.Spot) (a : Asked) (w : tree.Whole) → asking_of s a ≡ ended w → ⊥
asked_goes_on s (asked.Ratio call) w e = absurd cc
asked_goes_on s _ w e = absurd cc

number_goes_on : (n : NumberStage) (w : tree.Whole) → number_of n ≡ ended w → ⊥
number_goes_on number_stage.Minus w e = absurd cc
number_goes_on _ w e = absurd cc

stage_ended : (p : Stage) (w : tree.Whole) → stage_of p ≡ ended w → (v : Whole) × (p ≡ stage.Ended v)
stage_ended (stage.Ended v) w e = (v, refl)
stage_ended (stage.Asking s a) w e = absurd (asked_goes_on (spot_of s) a w e)
stage_ended (stage.Number n) w e = absurd (number_goes_on n w e)
stage_ended _ w e = absurd cc

whole : (goal : Goal) (text : List ℕ) (tokens : List Token) (i : ℕ) (r : LineTokenReader) (p : Stage) → IsCut line_notation text tokens → i ≡ length tokens
    → IsReadUpTo goal text tokens i r p → Written (line_texts goal) (line_machine goal) (is_exact goal) (fits goal) text tokens (state_of r p)
whole goal text tokens i r p cut all h =
    written (line_texts goal) (line_machine goal) (is_exact goal) (fits goal) text tokens (state_of r p) cut
    (subst (λ (n : ℕ). Reads goal text tokens n (state_of r p)) all h.state)

pub stage_ends : (goal : Goal) (text : List ℕ) (tokens : List Token) (i : ℕ) (r : LineTokenReader) (p : Stage) → IsCut line_notation text tokens
    → i ≡ length tokens
    → IsReadUpTo goal text tokens i r p → (w : Whole) × (p ≡ stage.Ended w)
stage_ends goal text tokens i r p cut all h = stage_ended p _ (whole goal text tokens i r p cut all h).ended

pub read_all :
    (goal : Goal) (text : List ℕ) (tokens : List Token) (i : ℕ) (r : LineTokenReader) (p : Stage) (w : Whole) → length text ≤ max_line
    → IsCut line_notation text tokens
    → i ≡ length tokens → IsReadUpTo goal text tokens i r p → p ≡ stage.Ended w → IsWhole goal text (whole_of w)
read_all goal text tokens i r p w short cut all h is =
    let read = whole goal text tokens i r p cut all h in
    let same : tree_at (stage_of p) ≡ whole_of w = ap (λ (q : Stage). tree_at (stage_of q)) is in
    subst (IsWhole goal text) same (record { short = short; written = read.tree })

-- ---- the byte of a fault
pub within_tokens : (goal : Goal) (text : List ℕ) (tokens : List Token) (f : Fault) → IsTokenFault goal text tokens f → IsWithin tokens f
within_tokens goal text tokens fault.NoMemory h = tt
within_tokens goal text tokens (fault.At kind place) h = h.0

pub byte_small : (tokens : List Token) (kind : LineKind) (place : PlaceValue) (f : Fault) (t : Token) → f ≡ fault.At kind place → IsWithin tokens f
    → HoldsAt (λ (u : Token). t ≡ u) tokens place.token → t.at ≤ max_line
byte_small tokens kind place f t is within there =
    let h = subst (IsWithin tokens) is within in
    subst (λ (u : Token). u.at ≤ max_line) (sym (there t)) (h.1 t)

pub refused_at : (goal : Goal) (text : List ℕ) (tokens : List Token) (f : Fault) (result : Faulted LineKind) → IsTokenFault goal text tokens f
    → IsAtByte tokens f result → RefusesWhole goal text result
refused_at goal text tokens fault.NoMemory result h is = subst (RefusesWhole goal text) (sym is) tt
refused_at goal text tokens (fault.At kind place) result h is = subst (RefusesWhole goal text) (sym (is (end_token 0))) (h.1 (end_token 0))

pub lexer_refused : (goal : Goal) (text : List ℕ) (f : Faulted LexKind) (result : Faulted LineKind) → length text ≤ max_line → Refuses line_notation text f
    → result ≡ with_kind f → RefusesWhole goal text result
lexer_refused goal text NoMemory result short h is = subst (RefusesWhole goal text) (sym is) tt
lexer_refused goal text (At cause at) result short h is =
    subst (RefusesWhole goal text) (sym is) (inr (short, inl (record { cause = cause; same = refl; fault = h })))
