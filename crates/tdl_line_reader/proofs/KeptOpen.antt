-- What is closed, where only what is pending has changed before.
use Rattle.std.proofs.Common.{◌≡◌, ℕ, Err, List, [], ◌∷◌, Vec, Global, ap, ap₂, sym, ◌∙◌}
use Rattle.tdl_grammar.specs.Machine.{wrong}
use Rattle.tdl_line_reader.specs.declared.reader.LineTokenReader.{LineTokenReader}
use Rattle.tdl_line_reader.specs.declared.stages.Frame.{Frame as FrameValue}
use Rattle.tdl_line_machine.specs.Tokens.{Tok}
use Rattle.tdl_line_machine.specs.WrongTokens.{wrong_token}
use Rattle.tdl_line_machine.specs.Machine.Open.{closed}
use Rattle.tdl_line_machine.specs.Machine.States.{Core, Step, Hole, Frame, Front}
use Rattle.tdl_line_reader.specs.ReaderView.{KeepsOpen, core_of, frames_of, front_of}

closed_same : (fs : List Frame) (c d : Core) (t : Tok) (next : Core → Hole → Step) → c.depth ≡ d.depth → c.front ≡ d.front → c.read ≡ d.read
    → closed fs c t next ≡ closed fs d t next
closed_same [] c d t next depth front read =
    ap₂ (λ (n r : ℕ). let s : Step = Err (wrong (wrong_token n t) (record { token = r; offset = 0 })) in s) depth read
closed_same (f ∷ fs) c d t next depth front read =
    ap₂ (λ (x : Front) (r : ℕ). next (record { frames = fs; level = f.level; depth = f.depth; front = x; read = r }) f.hole) front read

pub kept_open : (old new : LineTokenReader) (t : Tok) (next : Core → Hole → Step) → KeepsOpen old new
    → closed (core_of old).frames (core_of old) t next ≡ closed (core_of new).frames (core_of new) t next
kept_open old new t next k =
    ap (λ (fs : List FrameValue). closed (frames_of fs) (core_of old) t next) (sym (ap (λ (v : Vec FrameValue Global). v.items) k.frames))
    ∙ closed_same (frames_of new.frames.items) (core_of old) (core_of new) t next (sym k.depth) (sym (ap front_of k.front)) (sym k.read)
