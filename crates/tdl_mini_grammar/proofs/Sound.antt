-- What the machine reads to its end is spelled by the tree that it makes.
--     run_fits         a state after some tokens spells them
--     sound            the tree of the end
use Rattle.std.proofs.Common.{◌≡◌, ℕ, false, Ok, List, [], ◌∷◌, ◌++◌, refl, sym, subst, append_assoc, append-nil}
use Rattle.std.specs.List.{AllZip}
use Rattle.tdl_mini_tree.specs.declared.leaves.Kind.{Kind}
use Rattle.tdl_mini_machine.specs.Tokens.{Tok}
use Rattle.tdl_mini_grammar.specs.Spelling.{Terminal, IsTokenOf}
use Rattle.tdl_mini_grammar.specs.Grammar.{Reads}
use Rattle.tdl_mini_machine.specs.Machine.States.{State, Level, Frame, Stage, ended, first_state}
use Rattle.tdl_mini_machine.specs.Machine.Running.{taken, run}
use Rattle.tdl_mini_machine.proofs.Keeping.{state, Keeps, keeps_then, kept}
use Rattle.tdl_mini_grammar.proofs.Spelled.{spelled, Fit}
use Rattle.tdl_mini_grammar.proofs.Went.{Went}
use Rattle.tdl_mini_grammar.proofs.WentNumbers.{taken_fits}

-- a state that spells some tokens
pub record Spells (outer : Kind) (front : List Tok) (s : State) : Type 0 where
  pub stands : AllZip IsTokenOf (spelled s) front
  pub fit : Fit outer s

AllZip-more : (xs : List Terminal) (ts : List Tok) (x : Terminal) (t : Tok) → AllZip IsTokenOf xs ts → IsTokenOf x t
    → AllZip IsTokenOf (xs ++ x ∷ []) (ts ++ t ∷ [])
AllZip-more [] [] x t h k = (k, tt)
AllZip-more [] (u ∷ ts) x t h k = absurd h
AllZip-more (y ∷ xs) [] x t h k = absurd h
AllZip-more (y ∷ xs) (u ∷ ts) x t h k = (h.0, AllZip-more xs ts x t h.1 k)

spells_more : (outer : Kind) (front : List Tok) (s f : State) (t : Tok) → Spells outer front s → Went outer t s f → Spells outer (front ++ t ∷ []) f
spells_more outer front s f t h w =
    record {
      stands = subst (λ (xs : List Terminal). AllZip IsTokenOf xs (front ++ t ∷ [])) (sym w.reads) (AllZip-more (spelled s) front w.next t h.stands w.stands);
      fit = w.fit;
    }

pub run_fits : (outer : Kind) (tokens front : List Tok) (s : State) → Spells outer front s → Keeps (Spells outer (front ++ tokens)) (run false s tokens)
run_fits outer [] front s h = subst (λ (ts : List Tok). Spells outer ts s) (sym (append-nil front)) h
run_fits outer (t ∷ tokens) front s h =
    keeps_then (Went outer t s) (Spells outer (front ++ t ∷ tokens)) (taken false s t) (λ next. run false next tokens)
    (taken_fits outer s t h.fit)
    (λ f w. rw (append_assoc front (t ∷ []) tokens) at (run_fits outer tokens (front ++ t ∷ []) f (spells_more outer front s f t h w)))

first_spells : (kind : Kind) → Spells kind [] (first_state kind)
first_spells kind = record { stands = tt; fit = record { frames = refl; level = (tt, tt, tt); stage = tt } }

pub spells_front : (kind : Kind) (front : List Tok) (s : State) → run false (first_state kind) front ≡ Ok s → Spells kind front s
spells_front kind front s e = kept (Spells kind front) (run false (first_state kind) front) s e (run_fits kind front [] (first_state kind) (first_spells kind))

reads_in : (kind : Kind) (tokens : List Tok) (frames : List Frame) (l : Level) (n : ℕ) → Spells kind tokens (state frames l ended n)
    → Reads kind tokens l.layers
reads_in kind tokens [] l n h =
    subst (λ (k : Kind). Reads k tokens l.layers) h.fit.frames (record { spelled = h.stands; filled = h.fit.stage.1; formed = h.fit.level.0 })
reads_in kind tokens (f ∷ frames) l n h = absurd h.fit.stage.0

pub reads_end : (kind : Kind) (tokens : List Tok) (s : State) → Spells kind tokens s → s.stage ≡ ended → Reads kind tokens s.level.layers
reads_end kind tokens s h is = reads_in kind tokens s.frames s.level s.read (subst (λ (p : Stage). Spells kind tokens (state s.frames s.level p s.read)) is h)

pub sound : (kind : Kind) (tokens : List Tok) (s : State) → run false (first_state kind) tokens ≡ Ok s → s.stage ≡ ended → Reads kind tokens s.level.layers
sound kind tokens s e is = reads_end kind tokens s (spells_front kind tokens s e) is
