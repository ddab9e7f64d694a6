-- Each text is read as one thing in a kind.
--     refused_within   the fault of a refusal stands in the text
--     refused_at       the fault of a refusal, by its place
--     some_reading     each text is something in each kind
--     one_reading      and one thing alone
use Rattle.std.specs.Prelude.{if◌then◌else◌}
use Rattle.std.proofs.Common.{◌≡◌, ℕ, ◌<◌, ◌≤◌, inl, inr, Bool, true, false, Option, Some, None, List, ◌∷◌, length, drop, get_or, refl, sym}
use Rattle.std.proofs.Common.{ap, ap₂, ◌∙◌, subst, arith, length-append}
use Rattle.std.proofs.Math.Seq.{get_or-append_seam}
use Rattle.std.proofs.lemmas.List.{length-drop}
use Rattle.tdl_control.specs.declared.faults.Faulted.{Faulted}
use Rattle.tdl_control.specs.declared.faults.Faulted.TheVariants.{At}
use Rattle.tdl_lexer.specs.declared.signs.LexKind.{LexKind}
use Rattle.tdl_lexer.specs.declared.signs.Token.{Token}
use Rattle.tdl_lexer.specs.declared.lexemes.Flaw.{Flaw}
use Rattle.tdl_lexer.specs.Languages.{at_front}
use Rattle.tdl_lexer.specs.MiniForms.{Form, form_text, mini_notation, mini_flaw, fits, excess}
use Rattle.tdl_lexer.specs.Tokens.{IsFaultAt, Faulty, next_place, byte_before}
use Rattle.tdl_lexer.proofs.MiniRead.{form_filled}
use Rattle.tdl_mini_tree.specs.declared.faults.MiniKind.{MiniKind}
use Rattle.tdl_mini_tree.specs.declared.leaves.Kind.{Kind}
use Rattle.tdl_mini_tree.specs.Reading.{Reading, read, unread}
use Rattle.tdl_mini_grammar.specs.Readings.{IsReading}
use Rattle.tdl_mini_grammar.specs.Texts.{Refuses, Decided}
use Rattle.tdl_mini_grammar.proofs.Pieced.{pieces}
use Rattle.tdl_mini_grammar.proofs.TextsRead.{each_read, IsMini-unique, IsMini-no_fault, Refuses-unique}

-- ---- where faults stand
abbrev past_of : Option Flaw → ℕ
past_of (Some flaw) = flaw.past
past_of None = 0

flaw_here : (form : Form) (after : List ℕ) (flaw : Flaw) → mini_flaw form after ≡ Some flaw → flaw.past ≡ 0
flaw_here form after flaw e = here (fits form) e
  where
    here : (b : Bool) → (if b then None else Some (at_front (excess form))) ≡ Some flaw → flaw.past ≡ 0
    here true same = sym (ap past_of same)
    here false same = sym (ap past_of same)

faulty_here : (text : List ℕ) (flaw : Flaw) (at last : ℕ) → Faulty mini_notation flaw last (drop at text) → (flaw.past ≡ 0) × (at < length text)
faulty_here text flaw at last (inl h) =
    let filled = form_filled h.form last h.after h.stands in
    let long = ap length h.joined in
    (flaw_here h.form h.after flaw h.is, omega (arith, filled, long, length-drop at text, length-append (form_text h.form) h.after))
faulty_here text flaw at last (inr h) = (ap (λ (f : Flaw). f.past) h.1, omega (arith, h.0.filled, length-drop at text))

fault_inside : (text : List ℕ) (cause : LexKind) (at : ℕ) → IsFaultAt mini_notation text cause at → at ≤ length text
fault_inside text cause at h =
    let here = faulty_here text (record { kind = cause; past = h.past }) (next_place mini_notation text h.to)
    (byte_before text (next_place mini_notation text h.to)) h.faulty in
    omega (arith, h.place, here.0, here.1)

pub refused_within : (kind : Kind) (bytes : List ℕ) (k : MiniKind) (at : ℕ) → Refuses kind bytes (At k at) → at ≤ length bytes
refused_within kind bytes k at (inl h) = fault_inside bytes h.cause at h.fault
refused_within kind bytes k at (inr h) =
    let i = length h.before in
    let inside : i < length h.tokens = omega (arith, ap length h.joined, length-append h.before (h.there ∷ h.after)) in
    let is : h.there ≡ get_or h.tokens i h.there =
    sym (ap (λ (ts : List Token). get_or ts i h.there) h.joined ∙ get_or-append_seam h.before h.there h.after h.there) in
    let piece = pieces bytes h.tokens i h.there h.tokenized.cut inside is in
    omega (arith, h.byte, piece.ordered, piece.within)

pub refused_at : (kind : Kind) (bytes : List ℕ) (f : Faulted MiniKind) (k : MiniKind) (at : ℕ) → f ≡ At k at → Refuses kind bytes f
    → Refuses kind bytes (At k at)
refused_at kind bytes f k at e h = subst (Refuses kind bytes) e h

-- ---- readings
decided_reading : (kind : Kind) (bytes : List ℕ) → Decided kind bytes → (reading : Reading) × IsReading kind bytes reading
decided_reading kind bytes (inl h) = (read kind h.0, (refl, h.1))
decided_reading kind bytes (inr h) = (unread h.0 h.1, h.2)

pub some_reading : (kind : Kind) (bytes : List ℕ) → (reading : Reading) × IsReading kind bytes reading
some_reading kind bytes = decided_reading kind bytes (each_read kind bytes)

pub one_reading : (kind : Kind) (bytes : List ℕ) (x y : Reading) → IsReading kind bytes x → IsReading kind bytes y → x ≡ y
one_reading kind bytes (read k ls) (read l ms) h j = ap₂ read (h.0 ∙ sym j.0) (IsMini-unique kind bytes ls ms h.1 j.1)
one_reading kind bytes (read k ls) (unread fault at) h j = absurd (IsMini-no_fault kind bytes ls fault at h.1 j)
one_reading kind bytes (unread fault at) (read k ls) h j = absurd (IsMini-no_fault kind bytes ls fault at j.1 h)
one_reading kind bytes (unread f m) (unread g n) h k = let e = Refuses-unique kind bytes f g m n h k in ap₂ unread e.0 e.1
