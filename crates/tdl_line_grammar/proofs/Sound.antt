-- What the machine reads to its end is spelled by the tree that it makes.
--     taken_goes       a step adds a terminal that stands at its token
--     sound            the tree of the end
use Rattle.std.specs.List.{AllZip}
use Rattle.std.proofs.Common.{◌≡◌, ℕ, false, Ok, List, [], ◌∷◌, ◌++◌, refl, sym, subst, append_assoc, append-nil}
use Rattle.tdl_grammar.specs.Machine.{run}
use Rattle.tdl_line_machine.specs.Tokens.{Tok}
use Rattle.tdl_line_machine.specs.Pieces.{Terminal}
use Rattle.tdl_line_grammar.specs.Spelling.{IsTokenOf}
use Rattle.tdl_line_machine.specs.declared.goals.Goal.{Goal}
use Rattle.tdl_line_machine.specs.declared.goals.Goal.TheVariants.{Line as a_line, Pattern as a_pattern}
use Rattle.tdl_line_grammar.specs.Grammar.{Reads}
use Rattle.tdl_line_machine.specs.Machine.States.{Stage, beginning, flagging, addressed, jumping, jumping_at, jumped, done, ended, wanting, opening, opened}
use Rattle.tdl_line_machine.specs.Machine.States.{measured, shifted, expressed, named, chained, keyed, set, negating, negated, listing, list_open, timing}
use Rattle.tdl_line_machine.specs.Machine.States.{parts_open, part_wanted, part_read, weighing, weighted, asking_ratio, asking_count, asking_bools, asking_fun}
use Rattle.tdl_line_machine.specs.Machine.{taken_at, taken}
use Rattle.tdl_line_machine.specs.Machine.States.{asking_bounds, bounding, bounded, fraction, above, slash, closing, minus as negation, State}
use Rattle.tdl_line_machine.specs.Machine.States.{first_state}
use Rattle.tdl_line_grammar.specs.inside.Laws.{IsEnded, tree_of}
use Rattle.tdl_line_grammar.proofs.Kept.{Kept, core, at}
use Rattle.tdl_line_grammar.proofs.SoundKeeps.{Keeps, keeps_then, kept}
use Rattle.tdl_line_grammar.proofs.SoundText.{spelled, Fit, Went, Goes, kept_of}
use Rattle.tdl_line_grammar.proofs.SoundBegins.{wanted_goes, opening_goes, opened_goes, fraction_goes, minus_goes, above_number_goes, slash_goes, closing_goes}
use Rattle.tdl_line_grammar.proofs.SoundExpressions.{measured_goes, shifted_goes, expr_goes, named_goes, fun_goes}
use Rattle.tdl_line_grammar.proofs.SoundArguments.{ratio_goes, count_goes, bools_goes, argument_goes, bounds_goes, bound_goes, bounded_goes, key_goes}
use Rattle.tdl_line_grammar.proofs.SoundArguments.{setting_goes}
use Rattle.tdl_line_grammar.proofs.SoundArguments.{negating_goes, negated_goes}
use Rattle.tdl_line_grammar.proofs.SoundLists.{listing_goes, list_goes, timing_goes, parts_open_goes, part_wanted_goes, part_read_goes, weighing_goes}
use Rattle.tdl_line_grammar.proofs.SoundLists.{weighted_goes}
use Rattle.tdl_line_grammar.proofs.SoundLines.{at_start, beginning_goes, flagging_goes, addressed_goes, jumping_goes, jumping_at_goes, jumped_goes, done_goes}

-- ---- one token
-- what is said of a stage
abbrev StageGoes : Goal → Tok → Stage → ℕ → Kept → Type 0
StageGoes goal t p n k = Goes goal t (spelled k p) (taken_at false (core k n) t p)

pub taken_goes : (goal : Goal) (t : Tok) (k : Kept) (n : ℕ) (p : Stage) → Fit goal k p → StageGoes goal t p n k
taken_goes goal t k n beginning h = at_start goal k (λ g. StageGoes g t beginning n) h (beginning_goes t n)
taken_goes goal t k n (flagging f) h = at_start goal k (λ g. StageGoes g t (flagging f) n) h (flagging_goes t n f)
taken_goes goal t k n (addressed o) h = at_start goal k (λ g. StageGoes g t (addressed o) n) h (addressed_goes t n o)
taken_goes goal t k n jumping h = at_start goal k (λ g. StageGoes g t jumping n) h (jumping_goes t n)
taken_goes goal t k n (jumping_at m) h = at_start goal k (λ g. StageGoes g t (jumping_at m) n) h (jumping_at_goes t n m)
taken_goes goal t k n (jumped m every) h = at_start goal k (λ g. StageGoes g t (jumped m every) n) h (jumped_goes t n m every)
taken_goes goal t k n (done l) h = at_start goal k (λ g. StageGoes g t (done l) n) h.0 (done_goes t n l h.1)
taken_goes goal t k n (ended w) h = tt
taken_goes goal t k n (wanting spot) h = wanted_goes goal t k n spot h.0 h.1
taken_goes goal t k n opening h = opening_goes goal t k n h.0 h.1.0 h.1.1
taken_goes goal t k n (opened m at) h = opened_goes goal t k n m at h.0 h.1
taken_goes goal t k n (measured r) h = measured_goes goal t k n r h.0 h.1
taken_goes goal t k n (shifted r way) h = shifted_goes goal t k n r way h.0 h.1
taken_goes goal t k n (expressed e) h = expr_goes goal t k n e h.0 h.1.0 h.1.1 h.1.2 h.1.3
taken_goes goal t k n (named f) h = named_goes goal t k n f h.0 h.1.0 h.1.1 h.1.2
taken_goes goal t k n (chained f) h = fun_goes goal t k n f h.0 h.1.0 h.1.1
taken_goes goal t k n (keyed key) h = key_goes goal t k n key h.0 h.1
taken_goes goal t k n set h = setting_goes goal t k n h.0 h.1
taken_goes goal t k n negating h = negating_goes goal t k n h.0 h.1
taken_goes goal t k n (negated m) h = negated_goes goal t k n m h.0 h.1
taken_goes goal t k n (listing shape) h = listing_goes goal t k n shape h.0 h.1
taken_goes goal t k n list_open h = list_goes goal t k n h.0 h.1.0 h.1.1 h.1.2
taken_goes goal t k n timing h = timing_goes goal t k n h.0 h.1
taken_goes goal t k n parts_open h = parts_open_goes goal t k n h.0 h.1.0 h.1.1
taken_goes goal t k n part_wanted h = part_wanted_goes goal t k n h.0 h.1
taken_goes goal t k n part_read h = part_read_goes goal t k n h.0 h.1.0 h.1.1
taken_goes goal t k n weighing h = weighing_goes goal t k n h.0 h.1.0 h.1.1
taken_goes goal t k n (weighted m) h = weighted_goes goal t k n m h.0 h.1.0 h.1.1
taken_goes goal t k n (asking_ratio spot call) h = ratio_goes goal t k n spot call h.0 h.1
taken_goes goal t k n (asking_count spot call) h = count_goes goal t k n spot call h.0 h.1
taken_goes goal t k n (asking_bools spot f) h = bools_goes goal t k n spot f h.0 h.1
taken_goes goal t k n (asking_fun spot call) h = argument_goes goal t k n spot call h.0 h.1
taken_goes goal t k n (asking_bounds spot) h = bounds_goes goal t k n spot h.0 h.1
taken_goes goal t k n (bounding from) h = bound_goes goal t k n from h.0 h.1
taken_goes goal t k n (bounded from p) h = bounded_goes goal t k n from p h.0 h.1
taken_goes goal t k n fraction h = fraction_goes goal t k n h.0 h.1
taken_goes goal t k n negation h = minus_goes goal t k n h.0 h.1
taken_goes goal t k n (above negative m at) h = above_number_goes goal t k n negative m at h.0 h.1
taken_goes goal t k n (slash negative a) h = slash_goes goal t k n negative a h.0 h.1
taken_goes goal t k n (closing p) h = closing_goes goal t k n p h.0 h.1.0 h.1.1

-- ---- several tokens
-- a state that spells some tokens
pub record Spells (goal : Goal) (front : List Tok) (s : State) : Type 0 where
  pub stands : AllZip IsTokenOf (spelled (kept_of s.core) s.stage) front
  pub fit : Fit goal (kept_of s.core) s.stage

AllZip-more : (xs : List Terminal) (ts : List Tok) (x : Terminal) (t : Tok) → AllZip IsTokenOf xs ts → IsTokenOf x t
    → AllZip IsTokenOf (xs ++ x ∷ []) (ts ++ t ∷ [])
AllZip-more [] [] x t h k = (k, tt)
AllZip-more [] (u ∷ ts) x t h k = absurd h
AllZip-more (y ∷ xs) [] x t h k = absurd h
AllZip-more (y ∷ xs) (u ∷ ts) x t h k = (h.0, AllZip-more xs ts x t h.1 k)

spells_more : (goal : Goal) (front : List Tok) (s f : State) (t : Tok) → Spells goal front s → Went goal t (spelled (kept_of s.core) s.stage) f
    → Spells goal (front ++ t ∷ []) f
spells_more goal front s f t h w =
    record {
      stands = subst (λ (xs : List Terminal). AllZip IsTokenOf xs (front ++ t ∷ [])) (sym w.grows.reads)
          (AllZip-more (spelled (kept_of s.core) s.stage) front w.grows.next t h.stands w.grows.stands);
      fit = w.fit;
    }

pub run_spells : (goal : Goal) (tokens front : List Tok) (s : State) → Spells goal front s → Keeps (Spells goal (front ++ tokens)) (run (taken false) s tokens)
run_spells goal [] front s h = subst (λ (ts : List Tok). Spells goal ts s) (sym (append-nil front)) h
run_spells goal (t ∷ tokens) front s h =
    keeps_then (Went goal t (spelled (kept_of s.core) s.stage)) (Spells goal (front ++ t ∷ tokens)) (taken false s t) (λ next. run (taken false) next tokens)
    (taken_goes goal t (kept_of s.core) s.core.read s.stage h.fit)
    (λ f w. rw (append_assoc front (t ∷ []) tokens) at (run_spells goal tokens (front ++ t ∷ []) f (spells_more goal front s f t h w)))

first_spells : (goal : Goal) → Spells goal [] (first_state goal)
first_spells a_line = record { stands = tt; fit = (refl, refl) }
first_spells a_pattern = record { stands = tt; fit = (tt, (refl, tt)) }

pub spells_front : (goal : Goal) (front : List Tok) (s : State) → run (taken false) (first_state goal) front ≡ Ok s → Spells goal front s
spells_front goal front s e =
    kept (Spells goal front) (run (taken false) (first_state goal) front) s e (run_spells goal front [] (first_state goal) (first_spells goal))

pub sound : (goal : Goal) (tokens : List Tok) (s : State) → run (taken false) (first_state goal) tokens ≡ Ok s → IsEnded s → Reads goal tokens (tree_of s)
sound goal tokens s e is =
    let h = spells_front goal tokens s e in
    let ends : Spells goal tokens (record { core = s.core; stage = ended (tree_of s) }) =
    subst (λ (p : Stage). Spells goal tokens (record { core = s.core; stage = p })) is h in
    record { spelled = ends.stands; formed = ends.fit }
