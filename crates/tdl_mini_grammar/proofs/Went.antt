-- A step of the machine adds a terminal that stands at the token: what it does where a step of a text begins
-- or goes on.
--     Went             a state after a token
--     settled_then     of what is read after settling
--     pending_then     of what goes on with a step
use Rattle.std.proofs.Common.{◌≡◌, ℕ, ◌<◌, true, false, nat_lt, None, Ok, Err, List, [], ◌∷◌, ◌++◌, length, refl, sym, ap, ◌∙◌, subst, arith, append_assoc}
use Rattle.std.proofs.Common.{append-nil}
use Rattle.std.proofs.lemmas.Bool.Decides.{nat_tests}
use Rattle.tdl_mini_tree.specs.declared.leaves.Bracket.{Bracket}
use Rattle.tdl_mini_tree.specs.declared.leaves.Bracket.TheVariants.{Brace}
use Rattle.tdl_mini_tree.specs.declared.leaves.Kind.{Kind}
use Rattle.tdl_mini_tree.specs.declared.leaves.Kind.TheVariants.{Count, Ratio}
use Rattle.tdl_mini_machine.specs.declared.marks.Mark.{Mark}
use Rattle.tdl_mini_machine.specs.declared.marks.Mark.TheVariants as mark
use Rattle.tdl_mini_machine.specs.Tokens.{Tok}
use Rattle.tdl_mini_machine.specs.Tokens as token
use Rattle.tdl_mini_grammar.specs.Spelling.{Terminal, sign, IsTokenOf}
use Rattle.tdl_mini_grammar.proofs.Terminals.{spell_step}
use Rattle.tdl_mini_tree.specs.Tree.{kind_after}
use Rattle.tdl_mini_grammar.specs.Grammar.{FormedStep}
use Rattle.tdl_mini_tree.specs.Tree as tree
use Rattle.tdl_mini_machine.specs.Machine.States.{Role, term, faster, slower, Stage, ready, voiced, sampling, numbered, ranging, braced, wanting, stepping}
use Rattle.tdl_mini_machine.specs.Machine.States.{weighing, weighted, repeating, ended, Level, Hole, operand, hits, Frame, State, Taken, and_then, step_by_role}
use Rattle.tdl_mini_machine.specs.Machine.States.{pending, past, begun, begun_at, refused}
use Rattle.tdl_mini_machine.specs.Machine.Settling.{settled, unfit}
use Rattle.tdl_mini_machine.specs.Machine.Brackets.{opened_at, with_open, with_arguments}
use Rattle.tdl_mini_machine.specs.Machine.Marks.{continued, with_colon, with_range, with_percent}
use Rattle.tdl_mini_machine.proofs.Keeping.{state, Keeps, keeps_then, keeps_if}
use Rattle.tdl_mini_grammar.proofs.Spelled.{spell_role, role_kind, spelled, spell_at, spell_level, spell_frames, spell_hole, FitRole, FitStage, FitLayers}
use Rattle.tdl_mini_grammar.proofs.Spelled.{FitHole, hole_kind, Fit, IsWanted}
use Rattle.tdl_mini_grammar.proofs.SettledFits.{Settles, settled_fits, spell-step_by_role, step_by_role_formed, nested_taken}

pub record Went (outer : Kind) (t : Tok) (s f : State) : Type 0 where
  pub next : Terminal
  pub reads : spelled f ≡ spelled s ++ next ∷ []
  pub stands : IsTokenOf next t
  pub fit : Fit outer f

-- ---- after settling
pub went_before : (outer : Kind) (t : Tok) (s f g : State) → spelled f ≡ spelled s → Went outer t f g → Went outer t s g
went_before outer t s f g e w = record { next = w.next; reads = w.reads ∙ ap (λ ts. ts ++ w.next ∷ []) e; stands = w.stands; fit = w.fit }

keeps_before : (outer : Kind) (t : Tok) (s f : State) (r : Taken) → spelled f ≡ spelled s → Keeps (Went outer t f) r → Keeps (Went outer t s) r
keeps_before outer t s f (Ok g) e w = went_before outer t s f g e w
keeps_before outer t s f (Err fault) e w = tt

at_ready : (outer : Kind) (t : Tok) (next : State → Taken) (f : State) → f.stage ≡ ready
    → ((frames : List Frame) (l : Level) (n : ℕ) → Fit outer (state frames l ready n)
    → Keeps (Went outer t (state frames l ready n)) (next (state frames l ready n))) → Fit outer f → Keeps (Went outer t f) (next f)
at_ready outer t next f between each =
    let P : Stage → Type 0 = λ p. Fit outer (state f.frames f.level p f.read)
    → Keeps (Went outer t (state f.frames f.level p f.read)) (next (state f.frames f.level p f.read)) in
    subst P (sym between) (each f.frames f.level f.read)

pub settled_then : (outer : Kind) (t : Tok) (next : State → Taken) (s : State) → Fit outer s
    → ((frames : List Frame) (l : Level) (n : ℕ) → Fit outer (state frames l ready n)
    → Keeps (Went outer t (state frames l ready n)) (next (state frames l ready n))) → Keeps (Went outer t s) (and_then (settled false s t) next)
settled_then outer t next s h each =
    keeps_then (Settles outer s) (Went outer t s) (settled false s t) next
    (settled_fits outer s t h)
    (λ f k. keeps_before outer t s f (next f) k.same (at_ready outer t next f k.between each k.fit))

pub unfit_went : (outer : Kind) (t : Tok) (s : State) → Fit outer s → Keeps (Went outer t s) (unfit false s t)
unfit_went outer t s h = settled_then outer t (λ f. refused f t) s h (λ frames l n k. tt)

-- ---- what goes on with a step
pub pending_then : (outer : Kind) (t : Tok) (frames : List Frame) (l : Level) (n : ℕ) (p : Stage) (next : tree.MiniStep → Taken)
    → Fit outer (state frames l p n)
    → ((s : tree.MiniStep) → spelled (state frames l p n) ≡ spelled (state frames l (stepping s) n) → FormedStep l.kind (length frames) s
    → Keeps (Went outer t (state frames l p n)) (next s)) → Keeps (Went outer t (state frames l p n))
    (continued false (state frames l p n) t (pending p) next)
pending_then outer t frames l n ready next h each = unfit_went outer t (state frames l ready n) h
pending_then outer t frames l n (voiced text) next h each = each (tree.begins (tree.value (tree.sound text None))) refl tt
pending_then outer t frames l n (sampling text) next h each = unfit_went outer t (state frames l (sampling text) n) h
pending_then outer t frames l n (numbered x) next h each = each (tree.begins (tree.value (tree.number x))) refl tt
pending_then outer t frames l n (ranging x) next h each = unfit_went outer t (state frames l (ranging x) n) h
pending_then outer t frames l n (braced role bs ls) next h each =
    each (step_by_role role (tree.nested bs Brace ls))
    (simp (append_assoc, spell-step_by_role))
    (step_by_role_formed l.kind (length frames) role (tree.nested bs Brace ls) h.stage.0 (nested_taken role bs Brace ls)
    (h.stage.1, h.stage.2, h.stage.3, h.stage.4))
pending_then outer t frames l n (wanting role bs) next h each = unfit_went outer t (state frames l (wanting role bs) n) h
pending_then outer t frames l n (stepping s) next h each = each s refl h.stage
pending_then outer t frames l n (weighing s) next h each = unfit_went outer t (state frames l (weighing s) n) h
pending_then outer t frames l n (weighted s x) next h each = unfit_went outer t (state frames l (weighted s x) n) h
pending_then outer t frames l n (repeating b) next h each = unfit_went outer t (state frames l (repeating b) n) h
pending_then outer t frames l n ended next h each = unfit_went outer t (state frames l ended n) h

-- a change begins after a step
wanting_went : (outer : Kind) (frames : List Frame) (l : Level) (n : ℕ) (p : Stage) (role : Role) (m : Mark) (s : tree.MiniStep)
    → Fit outer (state frames l p n) → spelled (state frames l p n) ≡ spelled (state frames l (stepping s) n)
    → spell_role l.kind role ≡ spell_step l.kind s ++ sign m ∷ [] → FitRole l.kind (length frames) role → IsWanted role tree.no_brace
    → Went outer (token.mark m) (state frames l p n) (past (state frames l p n) (wanting role tree.no_brace))
wanting_went outer frames l n p role m s h e spells fit wanted =
    record {
      next = sign m;
      reads = simp (append_assoc, append-nil, e, spells);
      stands = refl;
      fit =
          record { frames = h.frames; level = h.level; stage = (fit, tt, wanted) };
    }

pub star_went : (outer : Kind) (s : State) → Fit outer s → Keeps (Went outer (token.mark mark.Star) s)
    (continued false s (token.mark mark.Star) (pending s.stage) (λ step. Ok (past s (wanting (faster step) tree.no_brace))))
star_went outer s h = pending_then outer (token.mark mark.Star) s.frames s.level s.read s.stage _ h
    (λ step e formed. wanting_went outer s.frames s.level s.read s.stage (faster step) mark.Star step h e refl formed tt)

pub slash_went : (outer : Kind) (s : State) → Fit outer s → Keeps (Went outer (token.mark mark.Slash) s)
    (continued false s (token.mark mark.Slash) (pending s.stage) (λ step. Ok (past s (wanting (slower step) tree.no_brace))))
slash_went outer s h = pending_then outer (token.mark mark.Slash) s.frames s.level s.read s.stage _ h
    (λ step e formed. wanting_went outer s.frames s.level s.read s.stage (slower step) mark.Slash step h e refl formed tt)

pub at_went : (outer : Kind) (s : State) → Fit outer s → Keeps (Went outer (token.mark mark.At) s)
    (continued false s (token.mark mark.At) (pending s.stage) (λ step. Ok (past s (weighing step))))
at_went outer s h = pending_then outer (token.mark mark.At) s.frames s.level s.read s.stage _ h
    (λ step e formed. record {
      next = sign mark.At;
      reads = simp (append_assoc, e);
      stands = refl;
      fit =
          record { frames = h.frames; level = h.level; stage = formed };
    })

-- ---- brackets that open
below : (m n : ℕ) → nat_lt m n ≡ true → m < n
below m n e = grind (arith, nat_tests)

regroup : (a b c d : List Terminal) → b ≡ c ++ d → (a ++ b) ++ [] ≡ (a ++ c) ++ d
regroup a b c d e = rw (append-nil, e) (simp append_assoc)

open_went : (outer : Kind) (t : Tok) (frames : List Frame) (l m : Level) (n : ℕ) (p : Stage) (hole : Hole) (kind : Kind) (x : Terminal)
    → Fit outer (state frames l p n)
    → spell_level m ++ spell_hole m.kind hole ≡ spell_at l p ++ x ∷ []
    → IsTokenOf x t
    → Fit outer (state frames m ready n)
    → kind ≡ hole_kind m.kind hole
    → FitLayers hole tree.no_layer
    → (length frames < 16 → FitHole m.kind (length frames) hole)
    → Keeps (Went outer t (state frames l p n)) (opened_at (state frames l p n) t m hole kind)
open_went outer t frames l m n p hole kind x h spells stands fit same bare each =
    keeps_if (Went outer t (state frames l p n)) (nat_lt (length frames) 16) _ _
    (λ e. record {
      next = x;
      reads = regroup (spell_frames frames) (spell_level m ++ spell_hole m.kind hole) (spell_at l p) (x ∷ []) spells;
      stands = stands;
      fit = record { frames = (same, bare, each (below (length frames) 16 e), fit.level, fit.frames); level = (tt, tt, tt); stage = tt };
    })
    (λ e. tt)

kind-after-wanted : (kind : Kind) (role : Role) (bs : tree.Braces) → IsWanted role bs → Ratio ≡ kind_after (role_kind kind role) bs
kind-after-wanted kind term (tree.brace bs ls) h = refl
kind-after-wanted kind term tree.no_brace h = absurd h
kind-after-wanted kind (faster s) tree.no_brace h = refl
kind-after-wanted kind (faster s) (tree.brace bs ls) h = refl
kind-after-wanted kind (slower s) tree.no_brace h = refl
kind-after-wanted kind (slower s) (tree.brace bs ls) h = refl

open_ready : (outer : Kind) (b : Bracket) (frames : List Frame) (l : Level) (n : ℕ) → Fit outer (state frames l ready n)
    → Keeps (Went outer (token.mark (mark.Open b)) (state frames l ready n))
    (opened_at (state frames l ready n) (token.mark (mark.Open b)) (begun_at l n) (operand term tree.no_brace b) l.kind)
open_ready outer b frames l n h =
    open_went outer (token.mark (mark.Open b)) frames l (begun_at l n) n ready (operand term tree.no_brace b) l.kind (sign (mark.Open b)) h refl refl
    (record { frames = h.frames; level = h.level; stage = tt })
    refl
    tt
    (λ shallow. (tt, tt, shallow))

open_in : (outer : Kind) (b : Bracket) (frames : List Frame) (l : Level) (n : ℕ) (p : Stage) → Fit outer (state frames l p n)
    → Keeps (Went outer (token.mark (mark.Open b)) (state frames l p n)) (with_open false (state frames l p n) (token.mark (mark.Open b)) b p)
open_in outer b frames l n (wanting role bs) h =
    open_went outer (token.mark (mark.Open b)) frames l l n (wanting role bs) (operand role bs b) Ratio (sign (mark.Open b)) h
    (simp append_assoc)
    refl
    (record { frames = h.frames; level = h.level; stage = tt })
    (kind-after-wanted l.kind role bs h.stage.2)
    tt
    (λ shallow. (h.stage.0, h.stage.1, shallow))
open_in outer b frames l n p h = settled_then outer (token.mark (mark.Open b))
    (λ f. opened_at f (token.mark (mark.Open b)) (begun_at f.level f.read) (operand term tree.no_brace b) f.level.kind) (state frames l p n) h
    (open_ready outer b)

pub open_fits : (outer : Kind) (b : Bracket) (s : State) → Fit outer s
    → Keeps (Went outer (token.mark (mark.Open b)) s) (with_open false s (token.mark (mark.Open b)) b s.stage)
open_fits outer b s h = open_in outer b s.frames s.level s.read s.stage h

-- the arguments of a Euclid
pub arguments_fit : (outer : Kind) (s : State) → Fit outer s → Keeps (Went outer (token.mark mark.OpenRound) s)
    (continued false s (token.mark mark.OpenRound) (pending s.stage) (with_arguments false s (token.mark mark.OpenRound)))
arguments_fit outer s h =
    pending_then outer (token.mark mark.OpenRound) s.frames s.level s.read s.stage _ h
    (λ step e formed.
    keeps_if (Went outer (token.mark mark.OpenRound) s) (nat_lt (length s.frames) 16) _ _
    (λ low.
    keeps_before outer (token.mark mark.OpenRound) s (state s.frames s.level (stepping step) s.read)
    (opened_at s (token.mark mark.OpenRound) s.level (hits step) Count) (sym e)
    (open_went outer (token.mark mark.OpenRound) s.frames s.level s.level s.read (stepping step) (hits step) Count (sign mark.OpenRound)
    (record { frames = h.frames; level = h.level; stage = formed })
    (simp append_assoc)
    refl
    (record { frames = h.frames; level = h.level; stage = tt })
    refl
    tt
    (λ shallow. (formed, shallow))))
    (λ high. unfit_went outer (token.mark mark.OpenRound) s h))

-- ---- marks after a term
pub past_went : (outer : Kind) (t : Tok) (frames : List Frame) (l : Level) (n : ℕ) (p q : Stage) (x : Terminal) → Fit outer (state frames l p n)
    → spell_at l q ≡ spell_at l p ++ x ∷ [] → IsTokenOf x t → FitStage frames l q → Went outer t (state frames l p n) (past (state frames l p n) q)
past_went outer t frames l n p q x h spells stands fit =
    record { next = x; reads = simp (append_assoc, spells); stands = stands; fit = record { frames = h.frames; level = h.level; stage = fit } }

colon_in : (outer : Kind) (frames : List Frame) (l : Level) (n : ℕ) (p : Stage) → Fit outer (state frames l p n)
    → Keeps (Went outer (token.mark mark.Colon) (state frames l p n)) (with_colon false (state frames l p n) (token.mark mark.Colon) p)
colon_in outer frames l n (voiced text) h = past_went outer (token.mark mark.Colon) frames l n (voiced text) (sampling text) (sign mark.Colon) h
    (simp append_assoc) refl tt
colon_in outer frames l n p h = unfit_went outer (token.mark mark.Colon) (state frames l p n) h

pub colon_fits : (outer : Kind) (s : State) → Fit outer s → Keeps (Went outer (token.mark mark.Colon) s) (with_colon false s (token.mark mark.Colon) s.stage)
colon_fits outer s h = colon_in outer s.frames s.level s.read s.stage h

range_in : (outer : Kind) (frames : List Frame) (l : Level) (n : ℕ) (p : Stage) → Fit outer (state frames l p n)
    → Keeps (Went outer (token.mark mark.Range) (state frames l p n)) (with_range false (state frames l p n) (token.mark mark.Range) p)
range_in outer frames l n (numbered a) h = past_went outer (token.mark mark.Range) frames l n (numbered a) (ranging a) (sign mark.Range) h
    (simp append_assoc) refl h.stage
range_in outer frames l n p h = unfit_went outer (token.mark mark.Range) (state frames l p n) h

pub range_fits : (outer : Kind) (s : State) → Fit outer s → Keeps (Went outer (token.mark mark.Range) s) (with_range false s (token.mark mark.Range) s.stage)
range_fits outer s h = range_in outer s.frames s.level s.read s.stage h

braces_wanted : (role : Role) (bs : tree.Braces) (ls : tree.Layers) → IsWanted role (tree.brace bs ls)
braces_wanted term bs ls = tt
braces_wanted (faster s) bs ls = tt
braces_wanted (slower s) bs ls = tt

percent_in : (outer : Kind) (frames : List Frame) (l : Level) (n : ℕ) (p : Stage) → Fit outer (state frames l p n)
    → Keeps (Went outer (token.mark mark.Percent) (state frames l p n)) (with_percent false (state frames l p n) (token.mark mark.Percent) p)
percent_in outer frames l n (braced role bs ls) h =
    past_went outer (token.mark mark.Percent) frames l n (braced role bs ls) (wanting role (tree.brace bs ls)) (sign mark.Percent) h
    (simp append_assoc)
    refl
    (h.stage.0, (h.stage.1, h.stage.2, h.stage.3, h.stage.4), braces_wanted role bs ls)
percent_in outer frames l n p h = unfit_went outer (token.mark mark.Percent) (state frames l p n) h

pub percent_fits : (outer : Kind) (s : State) → Fit outer s → Keeps (Went outer (token.mark mark.Percent) s)
    (with_percent false s (token.mark mark.Percent) s.stage)
percent_fits outer s h = percent_in outer s.frames s.level s.read s.stage h

-- ---- elements that are one mark, and rests
pub rest_fits : (outer : Kind) (s : State) → Fit outer s → Keeps (Went outer (token.mark mark.Rest) s)
    (and_then (settled false s (token.mark mark.Rest)) (λ f. Ok (begun f (stepping (tree.begins tree.rest)))))
rest_fits outer s h = settled_then outer (token.mark mark.Rest) (λ f. Ok (begun f (stepping (tree.begins tree.rest)))) s h
    (λ frames l n k. record {
      next = sign mark.Rest;
      reads = simp append_assoc;
      stands = refl;
      fit =
          record { frames = k.frames; level = k.level; stage = tt };
    })
