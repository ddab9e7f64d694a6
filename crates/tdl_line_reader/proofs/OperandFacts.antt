-- An operand that is whole, in what is open.
--     operand_is       by what is joined
--     constant_is      it is the operand of `const`; other_is: it is not
--     never_other      something else is open innermost, and never_none: nothing is, so it is not
use Rattle.std.proofs.Common.{◌≡◌, ℕ, true, false, List, [], ◌∷◌, ◌++◌, length, refl, sym, ap, ◌∙◌, arith}
use Rattle.std.proofs.lemmas.Bool.{false≢true}
use Rattle.std.specs.declared.alloc.Global.{Global}
use Rattle.std.specs.declared.vec.Vec.{Vec}
use Rattle.tdl_line_reader.specs.declared.reader.LineTokenReader.{LineTokenReader}
use Rattle.tdl_line_reader.specs.declared.stages.Front.{Front as FrontValue}
use Rattle.tdl_line_reader.specs.declared.stages.Frame.{Frame}
use Rattle.tdl_line_reader.specs.declared.stages.Hole.{Hole}
use Rattle.tdl_line_reader.specs.declared.stages.Hole.TheVariants as hole
use Rattle.tdl_line_reader.specs.declared.stages.Spot.{Spot}
use Rattle.tdl_command.specs.Tree.{Expr}
use Rattle.tdl_command.specs.Tree as tree
use Rattle.tdl_line_machine.specs.Machine as machine
use Rattle.tdl_line_machine.specs.Machine.Expressions.{WithPending, with_pending, operand, operand_hole, operand_in}
use Rattle.tdl_line_machine.specs.Machine.Calls.{made}
use Rattle.tdl_line_machine.specs.Machine.Open.{popped}
use Rattle.tdl_line_machine.specs.Machine.States.{Core, going, expressed, with_level}
use Rattle.tdl_line_reader.specs.inside.OperandView.{has_constant, is_constant}
use Rattle.tdl_line_reader.specs.ReaderView.{KeepsOpen, core_of, frame_of, frames_of, front_of, hole_of, level_of, spot_of}
use Rattle.tdl_line_reader.proofs.ReaderFacts.{frames_more}

-- what is kept besides what is pending
kept_core : (old new : LineTokenReader) → KeepsOpen old new → with_level (core_of old) (level_of new.level.items) ≡ core_of new
kept_core old new k =
    let level = level_of new.level.items in
    ap {B = Core} (λ (fs : Vec Frame Global).
    record { frames = frames_of fs.items; level = level; depth = old.depth; front = front_of old.front; read = old.read })
    (sym k.frames)
    ∙ ap {B = Core} (λ (d : ℕ). record { frames = frames_of new.frames.items; level = level; depth = d; front = front_of old.front; read = old.read })
    (sym k.depth)
    ∙ ap {B = Core} (λ (f : FrontValue). record { frames = frames_of new.frames.items; level = level; depth = new.depth; front = front_of f; read = old.read })
    (sym k.front)
    ∙ ap {B = Core} (λ (n : ℕ). record { frames = frames_of new.frames.items; level = level; depth = new.depth; front = front_of new.front; read = n })
    (sym k.read)

pub operand_is : (old mid : LineTokenReader) (o e : Expr) → with_pending (level_of old.level.items) o ≡ record { level = level_of mid.level.items; expr = e }
    → KeepsOpen old mid
    → operand (core_of old) o ≡ operand_in (core_of mid) (core_of mid).frames e
operand_is old mid o e j k =
    ap (λ (x : WithPending). operand_in (with_level (core_of old) x.level) (frames_of old.frames.items) x.expr) j
    ∙ ap (λ (fs : Vec Frame Global). operand_in (with_level (core_of old) (level_of mid.level.items)) (frames_of fs.items) e) (sym k.frames)
    ∙ ap (λ (c : Core). operand_in c (frames_of mid.frames.items) e) (kept_core old mid k)

pub constant_is : (r : LineTokenReader) (frames : List Frame) (f : Frame) (spot : Spot) (e : Expr) → r.frames.items ≡ frames ++ f ∷ []
    → f.hole ≡ hole.Constant spot
    → operand_in (core_of r) (core_of r).frames e ≡ made (popped (core_of r) (frame_of f) (frames_of frames)) (spot_of spot) (tree.const e)
constant_is r frames f spot e split is =
    ap (λ (fs : List machine.Frame). operand_in (core_of r) fs e) (ap frames_of split ∙ frames_more frames f)
    ∙ ap (λ (h : machine.Hole). operand_hole (core_of r) (frame_of f) (frames_of frames) e h) (ap hole_of is)

-- by cases on what is open innermost
going_on : (c : Core) (frames : List machine.Frame) (e : Expr) → has_constant frames ≡ false → operand_in c frames e ≡ going c (expressed e)
going_on c [] e none = refl
going_on c (f ∷ frames) e none = by_hole f.hole none
  where
    by_hole : (h : machine.Hole) → is_constant h ≡ false → operand_hole c f frames e h ≡ going c (expressed e)
    by_hole (machine.constant s) is = absurd (false≢true (sym is))
    by_hole _ is = refl

pub other_is : (r : LineTokenReader) (e : Expr) → has_constant (frames_of r.frames.items) ≡ false
    → operand_in (core_of r) (core_of r).frames e ≡ going (core_of r) (expressed e)
other_is r e none = going_on (core_of r) (frames_of r.frames.items) e none

not_constant : (h : Hole) → ((s : Spot) → h ≡ hole.Constant s → ⊥) → is_constant (hole_of h) ≡ false
not_constant (hole.Constant s) other = absurd (other s refl)
not_constant _ other = refl

pub never_other : (items frames : List Frame) (f : Frame) → items ≡ frames ++ f ∷ [] → ((s : Spot) → f.hole ≡ hole.Constant s → ⊥)
    → has_constant (frames_of items) ≡ true → ⊥
never_other items frames f split other is =
    false≢true (sym (not_constant f.hole other) ∙ sym (ap has_constant (ap frames_of split ∙ frames_more frames f)) ∙ is)

pub never_none : (items : List Frame) → length items ≡ 0 → has_constant (frames_of items) ≡ true → ⊥
never_none [] e is = false≢true is
never_none (f ∷ frames) e is = omega (arith, e)
