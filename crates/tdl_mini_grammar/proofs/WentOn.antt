-- A step of the machine adds a terminal that stands at the token: what it does where brackets close, at commas
-- and dots, and at elements of one token.
use Rattle.std.proofs.Common.{◌≡◌, true≢false, ℕ, suc, true, false, Option, Some, None, List, [], ◌∷◌, ◌++◌, length, refl, ap, ◌∙◌, subst, append_assoc}
use Rattle.std.proofs.Common.{append-nil}
use Rattle.tdl_mini_tree.specs.declared.leaves.Number.{Number}
use Rattle.tdl_mini_tree.specs.declared.leaves.Bracket.{Bracket}
use Rattle.tdl_mini_tree.specs.declared.leaves.Bracket.TheVariants.{Square, Angle, Brace}
use Rattle.tdl_mini_tree.specs.declared.leaves.Kind.{Kind}
use Rattle.tdl_mini_tree.specs.declared.leaves.Kind.TheVariants.{Count}
use Rattle.tdl_mini_machine.specs.declared.marks.Mark.TheVariants as mark
use Rattle.tdl_mini_machine.specs.Tokens.{Tok, digits}
use Rattle.tdl_mini_machine.specs.Tokens as token
use Rattle.tdl_mini_grammar.specs.Spelling.{Terminal, sign, count, end, IsTokenOf}
use Rattle.tdl_mini_grammar.proofs.Terminals.{spell_step, spell_layers, spell_braces}
use Rattle.tdl_mini_tree.specs.Tree.{kind_after, is_empty_group}
use Rattle.tdl_mini_grammar.specs.Grammar.{HasElement, IsSingle, Formed, FormedSequence, FormedGroup}
use Rattle.tdl_mini_tree.specs.Tree as tree
use Rattle.tdl_mini_machine.specs.Machine.Settling.{grown, settled}
use Rattle.tdl_mini_machine.specs.Machine.States.{Role, Stage, ready, voiced, numbered, braced, stepping, weighted, repeating, Level, Hole, operand, hits}
use Rattle.tdl_mini_machine.specs.Machine.States.{steps, from, Frame, State, and_then, step_by_role, begun, closed_layers, ends_step}
use Rattle.tdl_mini_machine.specs.Machine.Brackets.{closed, closed_hole, with_close, parted, parted_hole, euclid_closed, euclid_hole}
use Rattle.tdl_mini_machine.specs.Machine.Marks.{with_dot, with_hold, with_repeat}
use Rattle.tdl_mini_machine.specs.Machine.Values.{with_count, with_counting, uncounted}
use Rattle.tdl_mini_machine.specs.Machine.Running.{at_end}
use Rattle.tdl_mini_machine.proofs.Keeping.{state, Keeps, keeps_if}
use Rattle.tdl_mini_grammar.proofs.Spelled.{spell_role, role_kind, spell_at, spell_level, spell_frames, spell_hole, FitStage, HasNoLayer, Fit}
use Rattle.tdl_mini_grammar.proofs.SettledFits.{Settles, settled_in, spell-step_by_role, step_by_role_formed, nested_taken}
use Rattle.tdl_mini_grammar.proofs.Went.{Went, went_before, settled_then, unfit_went}

-- the layers of a level, closed
layers_formed : (kind : Kind) (depth : ℕ) (l : Level) → l.kind ≡ kind → Formed l.kind depth l.layers × FormedSequence l.kind depth l.groups
    × FormedGroup l.kind depth l.group → Formed kind depth (closed_layers l)
layers_formed kind depth l e h = subst (λ k. Formed k depth (closed_layers l)) e (h.0, tt, (h.1, h.2))

layers_spelled : (kind : Kind) (l : Level) → l.kind ≡ kind → spell_layers kind (closed_layers l) ≡ spell_level l
layers_spelled kind l e = subst (λ k. spell_layers k (closed_layers l) ≡ spell_level l) e refl

-- ---- brackets that close
regroup : (a b c : List Terminal) (x : Terminal) (d : List Terminal) → d ≡ (b ++ c) ++ x ∷ [] → a ++ d ≡ ((a ++ b) ++ c) ++ x ∷ []
regroup a b c x d e = rw e (simp append_assoc)

bracket_closed : (outer : Kind) (frames : List Frame) (k l : Level) (n : ℕ) (role : Role) (bs : tree.Braces) (b : Bracket) (p : Stage)
    → Fit outer (state (record { level = k; hole = operand role bs b } ∷ frames) l ready n)
    → spell_at k p ≡ spell_level k ++
    (spell_role k.kind role ++
    (spell_braces (role_kind k.kind role) bs ++ sign (mark.Open b) ∷
    (spell_layers (kind_after (role_kind k.kind role) bs) (closed_layers l) ++ sign (mark.Close b) ∷ [])))
    → FitStage frames k p
    → Went outer (token.mark (mark.Close b)) (state (record { level = k; hole = operand role bs b } ∷ frames) l ready n) (state frames k p (suc n))
bracket_closed outer frames k l n role bs b p h spells fit =
    let within =
    ap (λ ts. spell_level k ++
    (spell_role k.kind role ++ (spell_braces (role_kind k.kind role) bs ++ sign (mark.Open b) ∷ (ts ++ sign (mark.Close b) ∷ []))))
    (layers_spelled (kind_after (role_kind k.kind role) bs) l h.frames.0) in
    record {
      next = sign (mark.Close b);
      reads = regroup (spell_frames frames) (spell_level k ++ spell_hole k.kind (operand role bs b)) (spell_level l) (sign (mark.Close b)) (spell_at k p)
          (spells ∙ within ∙ gathered (spell_level k) (spell_role k.kind role) (spell_braces (role_kind k.kind role) bs) (sign (mark.Open b))
          (spell_level l) (sign (mark.Close b)));
      stands = refl;
      fit = record { frames = h.frames.4; level = h.frames.3; stage = fit };
    }
  where
    gathered : (a b c : List Terminal) (x : Terminal) (d : List Terminal) (y : Terminal)
        → a ++ (b ++ (c ++ x ∷ (d ++ y ∷ []))) ≡ ((a ++ (b ++ (c ++ x ∷ []))) ++ d) ++ y ∷ []
    gathered a b c x d y = simp append_assoc

-- a bracket that no `%` may follow
step_closed : (outer : Kind) (frames : List Frame) (k l : Level) (n : ℕ) (role : Role) (bs : tree.Braces) (b : Bracket)
    → Fit outer (state (record { level = k; hole = operand role bs b } ∷ frames) l ready n)
    → Went outer (token.mark (mark.Close b)) (state (record { level = k; hole = operand role bs b } ∷ frames) l ready n)
    (state frames k (stepping (step_by_role role (tree.nested bs b (closed_layers l)))) (suc n))
step_closed outer frames k l n role bs b h =
    bracket_closed outer frames k l n role bs b (stepping (step_by_role role (tree.nested bs b (closed_layers l)))) h
    (ap (λ ts. spell_level k ++ ts) (spell-step_by_role k.kind role (tree.nested bs b (closed_layers l))))
    (step_by_role_formed k.kind (length frames) role (tree.nested bs b (closed_layers l)) h.frames.2.0 (nested_taken role bs b (closed_layers l))
    (h.frames.2.1, h.frames.2.2, tt, layers_formed (kind_after (role_kind k.kind role) bs) (suc (length frames)) l h.frames.0 h.level))

brace_closed : (outer : Kind) (frames : List Frame) (k l : Level) (n : ℕ) (role : Role) (bs : tree.Braces)
    → Fit outer (state (record { level = k; hole = operand role bs Brace } ∷ frames) l ready n)
    → Went outer (token.mark (mark.Close Brace)) (state (record { level = k; hole = operand role bs Brace } ∷ frames) l ready n)
    (state frames k (braced role bs (closed_layers l)) (suc n))
brace_closed outer frames k l n role bs h =
    bracket_closed outer frames k l n role bs Brace (braced role bs (closed_layers l)) h refl
    (h.frames.2.0, h.frames.2.1, h.frames.2.2, tt, layers_formed (kind_after (role_kind k.kind role) bs) (suc (length frames)) l h.frames.0 h.level)

closed_in : (outer : Kind) (frames : List Frame) (k l : Level) (n : ℕ) (role : Role) (bs : tree.Braces) (b o : Bracket)
    → Fit outer (state (record { level = k; hole = operand role bs o } ∷ frames) l ready n)
    → Keeps (Went outer (token.mark (mark.Close b)) (state (record { level = k; hole = operand role bs o } ∷ frames) l ready n))
    (closed_hole (state (record { level = k; hole = operand role bs o } ∷ frames) l ready n) (token.mark (mark.Close b)) b k frames (operand role bs o))
closed_in outer frames k l n role bs Square Square h = step_closed outer frames k l n role bs Square h
closed_in outer frames k l n role bs Angle Angle h = step_closed outer frames k l n role bs Angle h
closed_in outer frames k l n role bs Brace Brace h = brace_closed outer frames k l n role bs h
closed_in outer frames k l n role bs _ _ h = tt

hole_closed : (outer : Kind) (frames : List Frame) (k l : Level) (n : ℕ) (hole : Hole) (b : Bracket)
    → Fit outer (state (record { level = k; hole = hole } ∷ frames) l ready n)
    → Keeps (Went outer (token.mark (mark.Close b)) (state (record { level = k; hole = hole } ∷ frames) l ready n))
    (closed_hole (state (record { level = k; hole = hole } ∷ frames) l ready n) (token.mark (mark.Close b)) b k frames hole)
hole_closed outer frames k l n (operand role bs o) b h = closed_in outer frames k l n role bs b o h
hole_closed outer frames k l n (hits s) b h = tt
hole_closed outer frames k l n (steps s m) b h = tt
hole_closed outer frames k l n (from s m o) b h = tt

closed_at : (outer : Kind) (b : Bracket) (frames : List Frame) (l : Level) (n : ℕ) → Fit outer (state frames l ready n)
    → Keeps (Went outer (token.mark (mark.Close b)) (state frames l ready n)) (closed (state frames l ready n) (token.mark (mark.Close b)) b frames)
closed_at outer b [] l n h = tt
closed_at outer b (f ∷ frames) l n h = hole_closed outer frames f.level l n f.hole b h

pub close_fits : (outer : Kind) (b : Bracket) (s : State) → Fit outer s
    → Keeps (Went outer (token.mark (mark.Close b)) s) (with_close false s (token.mark (mark.Close b)) b)
close_fits outer b s h = settled_then outer (token.mark (mark.Close b)) (λ f. closed f (token.mark (mark.Close b)) b f.frames) s h (closed_at outer b)

-- ---- commas
single : (l : Level) → HasNoLayer l.layers → IsSingle (closed_layers l)
single l h = bare l.layers (tree.group l.groups l.group) h
  where
    bare : (ls : tree.Layers) (s : tree.Sequence) → HasNoLayer ls → IsSingle (tree.layer ls s)
    bare tree.no_layer s h = tt
    bare (tree.layer ls t) s h = h

module _ (f k s : List Terminal) (x y : Terminal) (a b : List Terminal) (same : a ≡ b) where
  hits_spelled : (f ++ (k ++ (s ++ x ∷ (a ++ y ∷ [])))) ++ [] ≡ ((f ++ (k ++ (s ++ x ∷ []))) ++ b) ++ y ∷ []
  hits_spelled = rw (append-nil, same) (simp append_assoc)

  steps_spelled : (m : List Terminal) → (f ++ (k ++ (s ++ x ∷ (m ++ y ∷ (a ++ y ∷ []))))) ++ [] ≡ ((f ++ (k ++ (s ++ x ∷ (m ++ y ∷ [])))) ++ b) ++ y ∷ []
  steps_spelled m = rw (append-nil, same) (simp append_assoc)

  euclid_spelled : (m : List Terminal) (z : Terminal) → f ++ (k ++ (s ++ x ∷ (m ++ y ∷ (a ++ z ∷ [])))) ≡ ((f ++ (k ++ (s ++ x ∷ (m ++ y ∷ [])))) ++ b)
      ++ z ∷ []
  euclid_spelled m z = rw same (simp append_assoc)

  from_spelled : (m o : List Terminal) (z : Terminal) → f ++ (k ++ (s ++ x ∷ (m ++ y ∷ (o ++ y ∷ (a ++ z ∷ []))))) ≡
      ((f ++ (k ++ (s ++ x ∷ (m ++ y ∷ (o ++ y ∷ []))))) ++ b) ++ z ∷ []
  from_spelled m o z = rw same (simp append_assoc)

hole_parted : (outer : Kind) (frames : List Frame) (k l : Level) (n : ℕ) (hole : Hole)
    → Fit outer (state (record { level = k; hole = hole } ∷ frames) l ready n)
    → Keeps (Went outer (token.mark mark.Comma) (state (record { level = k; hole = hole } ∷ frames) l ready n))
    (parted_hole (state (record { level = k; hole = hole } ∷ frames) l ready n) (token.mark mark.Comma) k frames hole)
hole_parted outer frames k l n (operand role bs b) h =
    record {
      next = sign mark.Comma;
      reads = simp append_assoc;
      stands = refl;
      fit = record { frames = (h.frames.0, tt, h.frames.2, h.frames.3, h.frames.4); level = ((h.level.0, tt, (h.level.1, h.level.2)), tt, tt); stage = tt };
    }
hole_parted outer frames k l n (hits s) h =
    record {
      next = sign mark.Comma;
      reads = hits_spelled (spell_frames frames) (spell_level k) (spell_step k.kind s) (sign mark.OpenRound) (sign mark.Comma)
          (spell_layers Count (closed_layers l)) (spell_level l) (layers_spelled Count l h.frames.0);
      stands = refl;
      fit = record {
        frames = (
          refl,
          tt,
          (h.frames.2.0, h.frames.2.1, single l h.frames.1, layers_formed Count (suc (length frames)) l h.frames.0 h.level),
          h.frames.3,
          h.frames.4,
        );
        level = (tt, tt, tt);
        stage = tt;
      };
    }
hole_parted outer frames k l n (steps s m) h =
    record {
      next = sign mark.Comma;
      reads = steps_spelled (spell_frames frames) (spell_level k) (spell_step k.kind s) (sign mark.OpenRound) (sign mark.Comma)
          (spell_layers Count (closed_layers l)) (spell_level l) (layers_spelled Count l h.frames.0) (spell_layers Count m);
      stands = refl;
      fit = record {
        frames = (
          refl,
          tt,
          (h.frames.2.0, h.frames.2.1, h.frames.2.2, h.frames.2.3, single l h.frames.1, layers_formed Count (suc (length frames)) l h.frames.0 h.level),
          h.frames.3,
          h.frames.4,
        );
        level = (tt, tt, tt);
        stage = tt;
      };
    }
hole_parted outer frames k l n (from s m o) h = tt

parted_at : (outer : Kind) (frames : List Frame) (l : Level) (n : ℕ) → Fit outer (state frames l ready n)
    → Keeps (Went outer (token.mark mark.Comma) (state frames l ready n)) (parted (state frames l ready n) (token.mark mark.Comma) frames)
parted_at outer [] l n h =
    record {
      next = sign mark.Comma;
      reads = simp append_assoc;
      stands = refl;
      fit = record { frames = h.frames; level = ((h.level.0, tt, (h.level.1, h.level.2)), tt, tt); stage = tt };
    }
parted_at outer (f ∷ frames) l n h = hole_parted outer frames f.level l n f.hole h

pub comma_fits : (outer : Kind) (s : State) → Fit outer s → Keeps (Went outer (token.mark mark.Comma) s)
    (and_then (settled false s (token.mark mark.Comma)) (λ f. parted f (token.mark mark.Comma) f.frames))
comma_fits outer s h = settled_then outer (token.mark mark.Comma) (λ f. parted f (token.mark mark.Comma) f.frames) s h (parted_at outer)

-- ---- the end of a Euclid's arguments
euclid_in : (outer : Kind) (frames : List Frame) (k l : Level) (n : ℕ) (hole : Hole) → Fit outer (state (record { level = k; hole = hole } ∷ frames) l ready n)
    → Keeps (Went outer (token.mark mark.CloseRound) (state (record { level = k; hole = hole } ∷ frames) l ready n))
    (euclid_hole false (state (record { level = k; hole = hole } ∷ frames) l ready n) (token.mark mark.CloseRound) k frames hole)
euclid_in outer frames k l n (operand role bs b) h = tt
euclid_in outer frames k l n (hits s) h = tt
euclid_in outer frames k l n (steps s m) h =
    record {
      next = sign mark.CloseRound;
      reads = euclid_spelled (spell_frames frames) (spell_level k) (spell_step k.kind s) (sign mark.OpenRound) (sign mark.Comma)
          (spell_layers Count (closed_layers l)) (spell_level l) (layers_spelled Count l h.frames.0) (spell_layers Count m) (sign mark.CloseRound);
      stands = refl;
      fit = record {
        frames = h.frames.4;
        level = h.frames.3;
        stage =
            (h.frames.2.0, h.frames.2.1, h.frames.2.2, h.frames.2.3, single l h.frames.1, layers_formed Count (suc (length frames)) l h.frames.0 h.level);
      };
    }
euclid_in outer frames k l n (from s m o) h =
    record {
      next = sign mark.CloseRound;
      reads = from_spelled (spell_frames frames) (spell_level k) (spell_step k.kind s) (sign mark.OpenRound) (sign mark.Comma)
          (spell_layers Count (closed_layers l)) (spell_level l) (layers_spelled Count l h.frames.0) (spell_layers Count m) (spell_layers Count o)
          (sign mark.CloseRound);
      stands = refl;
      fit = record {
        frames = h.frames.4;
        level = h.frames.3;
        stage = (
          h.frames.2.0,
          h.frames.2.1,
          h.frames.2.2,
          h.frames.2.3,
          h.frames.2.4,
          h.frames.2.5,
          single l h.frames.1,
          layers_formed Count
              (suc (length frames)) l h.frames.0 h.level,
        );
      };
    }

euclid_at : (outer : Kind) (frames : List Frame) (l : Level) (n : ℕ) → Fit outer (state frames l ready n)
    → Keeps (Went outer (token.mark mark.CloseRound) (state frames l ready n))
    (euclid_closed false (state frames l ready n) (token.mark mark.CloseRound) frames)
euclid_at outer [] l n h = tt
euclid_at outer (f ∷ frames) l n h = euclid_in outer frames f.level l n f.hole h

pub round_fits : (outer : Kind) (s : State) → Fit outer s → Keeps (Went outer (token.mark mark.CloseRound) s)
    (and_then (settled false s (token.mark mark.CloseRound)) (λ f. euclid_closed false f (token.mark mark.CloseRound) f.frames))
round_fits outer s h = settled_then outer (token.mark mark.CloseRound) (λ f. euclid_closed false f (token.mark mark.CloseRound) f.frames) s h (euclid_at outer)

-- ---- dots, holds and repeats
pub dot_fits : (outer : Kind) (s : State) → Fit outer s → Keeps (Went outer (token.mark mark.Dot) s)
    (and_then (settled false s (token.mark mark.Dot)) (with_dot false))
dot_fits outer s h =
    settled_then outer (token.mark mark.Dot) (with_dot false) s h
    (λ frames l n k. record {
      next = sign mark.Dot;
      reads = simp append_assoc;
      stands = refl;
      fit =
          record { frames = k.frames; level = (k.level.0, (k.level.1, k.level.2), tt); stage = tt };
    })

filled : (g : tree.Group) → is_empty_group g ≡ false → HasElement g
filled tree.no_element e = absurd (true≢false e)
filled (tree.element g x) e = tt

hold_at : (outer : Kind) (frames : List Frame) (l : Level) (n : ℕ) → Fit outer (state frames l ready n)
    → Keeps (Went outer (token.mark mark.Hold) (state frames l ready n)) (with_hold false (state frames l ready n) (token.mark mark.Hold))
hold_at outer frames l n h =
    keeps_if (Went outer (token.mark mark.Hold) (state frames l ready n)) (is_empty_group l.group) _ _
    (λ e. tt)
    (λ e. record {
      next = sign mark.Hold;
      reads = simp append_assoc;
      stands = refl;
      fit =
          record { frames = h.frames; level = (h.level.0, h.level.1, (h.level.2, filled l.group e, tt)); stage = tt };
    })

pub hold_fits : (outer : Kind) (s : State) → Fit outer s → Keeps (Went outer (token.mark mark.Hold) s)
    (and_then (settled false s (token.mark mark.Hold)) (λ f. with_hold false f (token.mark mark.Hold)))
hold_fits outer s h = settled_then outer (token.mark mark.Hold) (λ f. with_hold false f (token.mark mark.Hold)) s h (hold_at outer)

-- after another element
repeat_at : (outer : Kind) (frames : List Frame) (l : Level) (n : ℕ) → Fit outer (state frames l ready n)
    → Keeps (Went outer (token.mark mark.Repeat) (state frames l ready n)) (with_repeat (state frames l ready n) (token.mark mark.Repeat) false)
repeat_at outer frames l n h =
    keeps_if (Went outer (token.mark mark.Repeat) (state frames l ready n)) (is_empty_group l.group) _ _
    (λ e. tt)
    (λ e. record {
      next = sign mark.Repeat;
      reads = simp append_assoc;
      stands = refl;
      fit =
          record { frames = h.frames; level = h.level; stage = filled l.group e };
    })

-- after a step without a count
after_step : (outer : Kind) (s : State) (step : tree.MiniStep) (weight : Option Number) → Settles outer s (grown s (tree.played step weight None))
    → Went outer (token.mark mark.Repeat) s (begun (grown s (tree.played step weight None)) (repeating true))
after_step outer s step weight h =
    went_before outer (token.mark mark.Repeat) s (grown s (tree.played step weight None)) (begun (grown s (tree.played step weight None)) (repeating true))
    h.same
    (record { next = sign mark.Repeat; reads = simp append_assoc; stands = refl; fit = record { frames = h.fit.frames; level = h.fit.level; stage = tt } })

repeat_in : (outer : Kind) (frames : List Frame) (l : Level) (n : ℕ) (p : Stage) → Fit outer (state frames l p n)
    → Keeps (Went outer (token.mark mark.Repeat) (state frames l p n))
    (and_then (settled false (state frames l p n) (token.mark mark.Repeat)) (λ f. with_repeat f (token.mark mark.Repeat) (ends_step p)))
repeat_in outer frames l n (weighted s x) h = after_step outer (state frames l (weighted s x) n) s (Some x)
    (settled_in outer frames l n (token.mark mark.Repeat) (weighted s x) h)
repeat_in outer frames l n (voiced text) h = after_step outer (state frames l (voiced text) n) (tree.begins (tree.value (tree.sound text None))) None
    (settled_in outer frames l n (token.mark mark.Repeat) (voiced text) h)
repeat_in outer frames l n (numbered x) h = after_step outer (state frames l (numbered x) n) (tree.begins (tree.value (tree.number x))) None
    (settled_in outer frames l n (token.mark mark.Repeat) (numbered x) h)
repeat_in outer frames l n (braced role bs ls) h = after_step outer (state frames l (braced role bs ls) n) (step_by_role role (tree.nested bs Brace ls)) None
    (settled_in outer frames l n (token.mark mark.Repeat) (braced role bs ls) h)
repeat_in outer frames l n (stepping s) h = after_step outer (state frames l (stepping s) n) s None
    (settled_in outer frames l n (token.mark mark.Repeat) (stepping s) h)
repeat_in outer frames l n p h = settled_then outer (token.mark mark.Repeat) (λ f. with_repeat f (token.mark mark.Repeat) false)
    (state frames l p n) h (repeat_at outer)

pub repeat_fits : (outer : Kind) (s : State) → Fit outer s → Keeps (Went outer (token.mark mark.Repeat) s)
    (and_then (settled false s (token.mark mark.Repeat)) (λ f. with_repeat f (token.mark mark.Repeat) (ends_step s.stage)))
repeat_fits outer s h = repeat_in outer s.frames s.level s.read s.stage h

-- ---- counts
counted : (outer : Kind) (frames : List Frame) (kind : Kind) (layers : tree.Layers) (groups : tree.Sequence) (start n : ℕ) (t : Tok) (x : Number)
    (g : tree.Group) → IsTokenOf (count x) t
    → Fit outer (state frames (record { kind = kind; layers = layers; groups = groups; group = g; start = start }) (repeating true) n)
    → Went outer t (state frames (record { kind = kind; layers = layers; groups = groups; group = g; start = start }) (repeating true) n)
    (state frames (record { kind = kind; layers = layers; groups = groups; group = with_count g x; start = start }) ready (suc n))
counted outer frames kind layers groups start n t x (tree.element g (tree.played s weight None)) stands h =
    record { next = count x; reads = simp (append_assoc, append-nil); stands = stands; fit = record { frames = h.frames; level = h.level; stage = tt } }
counted outer frames kind layers groups start n t x (tree.element g (tree.played s weight (Some y))) stands h = absurd h.stage
counted outer frames kind layers groups start n t x (tree.element g (tree.range a b)) stands h = absurd h.stage
counted outer frames kind layers groups start n t x (tree.element g tree.hold) stands h = absurd h.stage
counted outer frames kind layers groups start n t x (tree.element g tree.repeat) stands h = absurd h.stage
counted outer frames kind layers groups start n t x tree.no_element stands h = absurd h.stage

-- a token that would be one
uncounted_in : (outer : Kind) (t : Tok) (frames : List Frame) (l : Level) (n : ℕ) (p : Stage) → Fit outer (state frames l p n)
    → Keeps (Went outer t (state frames l p n)) (uncounted false (state frames l p n) t p)
uncounted_in outer t frames l n (repeating b) h = tt
uncounted_in outer t frames l n p h = unfit_went outer t (state frames l p n) h

pub uncounted_fits : (outer : Kind) (t : Tok) (s : State) → Fit outer s → Keeps (Went outer t s) (uncounted false s t s.stage)
uncounted_fits outer t s h = uncounted_in outer t s.frames s.level s.read s.stage h

count_in : (outer : Kind) (frames : List Frame) (l : Level) (n : ℕ) (text : List ℕ) (x : Number) (p : Stage) → Fit outer (state frames l p n)
    → Keeps (Went outer (digits x text true) (state frames l p n)) (with_counting false (state frames l p n) (digits x text true) x p)
count_in outer frames l n text x (repeating true) h = counted outer frames l.kind l.layers l.groups l.start n (digits x text true) x l.group (text, refl) h
count_in outer frames l n text x p h = uncounted_in outer (digits x text true) frames l n p h

pub count_fits : (outer : Kind) (s : State) (text : List ℕ) (x : Number) → Fit outer s
    → Keeps (Went outer (digits x text true) s) (with_counting false s (digits x text true) x s.stage)
count_fits outer s text x h = count_in outer s.frames s.level s.read text x s.stage h

-- ---- the end
end_at : (outer : Kind) (frames : List Frame) (l : Level) (n : ℕ) → Fit outer (state frames l ready n)
    → Keeps (Went outer token.end (state frames l ready n)) (at_end (state frames l ready n) token.end frames)
end_at outer [] l n h =
    record {
      next = end;
      reads = refl;
      stands = refl;
      fit =
          record { frames = h.frames; level = ((h.level.0, tt, (h.level.1, h.level.2)), tt, tt); stage = (tt, tt) };
    }
end_at outer (f ∷ frames) l n h = tt

pub end_fits : (outer : Kind) (s : State) → Fit outer s → Keeps (Went outer token.end s)
    (and_then (settled false s token.end) (λ f. at_end f token.end f.frames))
end_fits outer s h = settled_then outer token.end (λ f. at_end f token.end f.frames) s h (end_at outer)
