-- Tokens, each by what the machine does with it, and what a token changes.
use Rattle.std.proofs.Common.{◌≡◌, ℕ, ◌≤◌, ◌+◌, Bool, true, false, List, [], ◌++◌, length, append-nil, length-append, refl, subst, ap, ◌∙◌, arith}
use Rattle.std.specs.Borrow.{Bor}
use Rattle.tdl_mini_tree.specs.declared.leaves.Number.{Number}
use Rattle.tdl_mini_machine.specs.declared.marks.Mark.{Mark}
use Rattle.tdl_mini_reader.specs.declared.tokens.Tok.{Tok}
use Rattle.tdl_mini_reader.specs.declared.tokens.Tok.TheVariants as tok
use Rattle.tdl_mini_machine.specs.Machine.States.{State, and_then, Taken}
use Rattle.tdl_mini_machine.specs.Machine.Settling.{settled}
use Rattle.tdl_mini_machine.specs.Machine.Running.{taken, at_end}
use Rattle.tdl_mini_machine.specs.Machine.Marks.{taken_mark}
use Rattle.tdl_mini_machine.specs.Machine.Values.{with_counting, uncounted, with_number, with_value}
use Rattle.tdl_mini_reader.specs.TokenView.{tok_value}
use Rattle.tdl_control.specs.declared.faults.Faulted.{Faulted}
use Rattle.tdl_mini_tree.specs.declared.faults.MiniKind.{MiniKind}
use Rattle.tdl_mini_reader.specs.declared.nests.Nests.{Nests}
use Rattle.tdl_mini_reader.specs.declared.stages.Stage.{Stage}
use Rattle.tdl_mini_reader.specs.declared.reader.MiniTokenReader.{MiniTokenReader}
use Rattle.tdl_mini_machine.specs.Tokens as token
use Rattle.tdl_mini_tree.specs.Tree as tree
use Rattle.tdl_mini_reader.specs.NestsView.{trees_in}
use Rattle.tdl_mini_reader.specs.ReaderView.{state_of, Refusal, HasGrown}
use Rattle.tdl_mini_reader.specs.inside.Calls.{past_of}
use Rattle.tdl_mini_reader.specs.inside.GrowthView.{IsTakenOn, IsRefusedOn}
use Rattle.tdl_mini_machine.proofs.Counts.{taken_counts}

pub inside_mark : (s : State) (t : Tok) (m : Mark) → t ≡ tok.Mark m → taken true s (tok_value t) ≡ taken_mark true s (tok_value t) m
inside_mark s t m e = rw e refl

pub inside_count : (s : State) (t : Tok) (n : Number) (text : Bor (List ℕ)) (is_count : Bool) → t ≡ tok.Number n text is_count → is_count ≡ true
    → taken true s (tok_value t) ≡ with_counting true s (tok_value t) n s.stage
inside_count s t n text is_count e counts = rw (e, counts) refl

pub inside_number : (s : State) (t : Tok) (n : Number) (text : Bor (List ℕ)) (is_count : Bool) → t ≡ tok.Number n text is_count → is_count ≡ false
    → taken true s (tok_value t) ≡ with_number true s (tok_value t) n s.stage
inside_number s t n text is_count e plain = rw (e, plain) refl

pub inside_uncounted : (s : State) (t : Tok) (text : Bor (List ℕ)) (is_count : Bool) → t ≡ tok.Word text is_count → is_count ≡ true
    → taken true s (tok_value t) ≡ uncounted true s (tok_value t) s.stage
inside_uncounted s t text is_count e counts = rw (e, counts) refl

pub inside_word : (s : State) (t : Tok) (text : Bor (List ℕ)) (is_count : Bool) → t ≡ tok.Word text is_count → is_count ≡ false
    → taken true s (tok_value t) ≡ with_value true s (tok_value t)
inside_word s t text is_count e plain = rw (e, plain) refl

pub inside_end : (s : State) (t : Tok) → t ≡ tok.End → taken true s (tok_value t) ≡ and_then (settled true s (tok_value t))
    (λ f. at_end f (tok_value t) f.frames)
inside_end s t e = rw e refl

pub refused_here : (before : List tree.Layers → Taken) (trees : List tree.Layers) (fault : Faulted MiniKind) → IsRefusedOn before trees fault
    → Refusal (before trees) fault
refused_here before trees fault h = subst (λ ts. Refusal (before ts) fault) (append-nil trees) (h [])

pub read_stays : (old new : MiniTokenReader) (p q : Stage) (t : token.Tok) → IsTakenOn (λ trees. taken true (state_of trees old p) t) new q
    → new.read ≡ old.read
read_stays old new p q t h =
    let trees = trees_in new.nests ++ [] in
    let counted = (taken_counts true (state_of trees old p) (past_of trees new q) t (h [])).0 in
    omega (arith, counted)

pub few_layers : (old new : Nests) (read : ℕ) → HasGrown old new → length (trees_in old) ≤ read → length (trees_in new) ≤ read + 1
few_layers old new read h few =
    let long : length (trees_in new) ≡ length (trees_in old) + length h.added = ap length h.trees ∙ length-append (trees_in old) h.added in
    omega (arith, long, h.few, few)
