-- What the reader's steps say of the machine's.
--     frames_more, level_more    one more is open, or pending
--     pushed_is, opened_again    something is opened
--     pended_is                  something is pending
--     none_left                  nothing is left
use Rattle.std.specs.Prelude.{MatchOption}
use Rattle.std.proofs.Common.{◌≡◌, ℕ, ◌+◌, Option, Some, None, Ok, List, [], ◌∷◌, ◌++◌, length, refl, sym, ap, ap₂, ◌∙◌}
use Rattle.std.proofs.Common.{arith}
use Rattle.std.proofs.lemmas.List.Sums.{fold_push}
use Rattle.tdl_line_reader.specs.declared.reader.LineTokenReader.{LineTokenReader}
use Rattle.tdl_line_reader.specs.declared.stages.Frame.{Frame}
use Rattle.tdl_line_reader.specs.declared.stages.Hole.{Hole}
use Rattle.tdl_line_reader.specs.declared.stages.Pending.{Pending}
use Rattle.tdl_line_reader.specs.declared.stages.Stage.{Stage}
use Rattle.tdl_line_machine.specs.Tokens.{Tok}
use Rattle.tdl_line_machine.specs.Machine as machine
use Rattle.tdl_line_machine.specs.Machine.Open.{pushed, reopened}
use Rattle.tdl_line_machine.specs.Machine.States.{Core, going, with_level}
use Rattle.tdl_line_reader.specs.ReaderView.{Agrees, core_of, frame_of, frames_of, front_of, hole_of, level_of}
use Rattle.tdl_line_reader.specs.ReaderView.{pending_of, stage_of}

pub frames_more : (frames : List Frame) (f : Frame) → frames_of (frames ++ f ∷ []) ≡ frame_of f ∷ frames_of frames
frames_more frames f = fold_push (λ outer x. frame_of x ∷ outer) [] frames f

pub level_more : (level : List Pending) (p : Pending) → level_of (level ++ p ∷ []) ≡ pending_of p ∷ level_of level
level_more level p = fold_push (λ before x. pending_of x ∷ before) [] level p

-- ---- what is opened
pub pushed_is : (r : LineTokenReader) (frames : List Frame) (f : Frame) (level : List Pending) → frames ≡ r.frames.items ++ f ∷ []
    → level_of f.level.items ≡ level_of r.level.items → f.depth ≡ r.depth → level ≡ [] → (depth : ℕ)
    → ◌≡◌ {A = Core} (record { frames = frames_of frames; level = level_of level; depth = depth; front = front_of r.front; read = r.read })
    (pushed (core_of r) (hole_of f.hole) depth)
pushed_is r frames f level e same deep none depth =
    let top : frame_of f ≡ record { level = level_of r.level.items; depth = r.depth; hole = hole_of f.hole } =
    ap₂ (λ (l : List machine.Pending) (n : ℕ). record { level = l; depth = n; hole = hole_of f.hole }) same deep in
    let all : frames_of frames ≡ record { level = level_of r.level.items; depth = r.depth; hole = hole_of f.hole } ∷ frames_of r.frames.items =
    ap frames_of e ∙ frames_more r.frames.items f ∙ ap (λ (x : machine.Frame). x ∷ frames_of r.frames.items) top in
    ap₂ (λ (fs : List machine.Frame) (l : List machine.Pending). record { frames = fs; level = l; depth = depth; front = front_of r.front; read = r.read }) all
    (ap level_of none)

-- something is opened, and the machine goes on in it
pub opened_again : (old new : LineTokenReader) (h : Hole) (depth : ℕ) (p : Stage) → core_of new ≡ pushed (core_of old) (hole_of h) depth
    → (t : Tok) → Agrees (reopened depth (core_of old) (hole_of h) (stage_of p)) t new (Ok (Some p))
opened_again old new h depth p e t = record { ok = ap (λ (c : Core). going c (stage_of p)) (sym e); err = tt }

-- something is pending
pub pended_is : (r : LineTokenReader) (level : List Pending) (p : Pending) (stage : machine.Stage) → level ≡ r.level.items ++ p ∷ []
    → going (with_level (core_of r) (pending_of p ∷ level_of r.level.items)) stage ≡ going (with_level (core_of r) (level_of level)) stage
pended_is r level p stage e = ap (λ (l : List machine.Pending). going (with_level (core_of r) l) stage) (sym (ap level_of e ∙ level_more r.level.items p))

-- ---- what is closed
empty_is : {A : Type 0} (xs : List A) → length xs ≡ 0 → xs ≡ []
empty_is [] e = refl
empty_is (x ∷ xs) e = absurd (omega (arith, e))

-- nothing is left where nothing could be taken off
pub none_left : {A : Type 0} (r : Option A) (before after : ℕ) (left : List A) → MatchOption r ((before ≡ 0) × (after ≡ 0)) (λ _. after + 1 ≡ before)
    → after ≡ length left → ((x : A) → r ≡ Some x → ⊥) → left ≡ []
none_left None before after left h same other = empty_is left (sym same ∙ h.1)
none_left (Some x) before after left h same other = absurd (other x refl)
