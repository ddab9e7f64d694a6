-- What a quoted text is to the reader.
--     unread_as        a text that is refused has this fault in its kind
--     near_offset      that fault's offset fits
--     some_readings    each token's text is something in each kind
use Rattle.std.proofs.Common.{◌≡◌, ℕ, suc, ◌+◌, ◌≤◌, ap, ap₂, ◌∙◌, subst, arith}
use Rattle.tdl_control.specs.declared.faults.Faulted.{Faulted}
use Rattle.tdl_control.specs.declared.faults.Faulted.TheVariants.{At}
use Rattle.tdl_mini_tree.specs.declared.faults.MiniKind.{MiniKind}
use Rattle.tdl_mini_tree.specs.declared.faults.MiniKind.TheVariants.{Unexpected}
use Rattle.tdl_mini_tree.specs.declared.leaves.Kind.{Kind}
use Rattle.tdl_mini_tree.specs.Reading.{Reading, read, unread}
use Rattle.tdl_line_machine.specs.declared.faults.LineKind.TheVariants.{Mini}
use Rattle.tdl_line_machine.specs.Pieces as pieces
use Rattle.tdl_line_reader.specs.declared.faults.Fault.TheVariants as fault
use Rattle.tdl_line_reader.specs.declared.faults.Place.{Place}
use Rattle.tdl_line_reader.specs.declared.tokens.Tok.{Tok}
use Rattle.tdl_line_reader.specs.declared.tokens.Tok.TheVariants as tok
use Rattle.tdl_line_reader.specs.Quoted.{IsNear, IsRefusal}
use Rattle.tdl_line_reader.specs.ReaderView.{AreReadings, IsUnread, Reads}

refusal_as : (place : pieces.Place) (k : MiniKind) (at : ℕ) (p : Place) → p.token ≡ place.token → p.offset ≡ at + 1 → (reading : Reading)
    → IsRefusal reading (At k at) → IsUnread place reading (fault.At (Mini k) p)
refusal_as place k at p same offset (read other ls) h = absurd h
refusal_as place k at p same offset (unread g n) h =
    let further : p.offset ≡ suc n = omega (arith, offset, h.1) in
    (ap Mini h.0, ap₂ (λ (a b : ℕ). record { token = a; offset = b }) same further)

pub unread_as : (place : pieces.Place) (f : Faulted MiniKind) (k : MiniKind) (at : ℕ) (p : Place) → f ≡ At k at → p.token ≡ place.token → p.offset ≡ at + 1
    → (reading : Reading) → IsRefusal reading f → IsUnread place reading (fault.At (Mini k) p)
unread_as place f k at p e same offset reading h = refusal_as place k at p same offset reading (subst (IsRefusal reading) e h)

pub near_offset : (f : Faulted MiniKind) (k : MiniKind) (at : ℕ) → f ≡ At k at → IsNear f → at ≤ 65534
near_offset f k at e h = subst IsNear e h

-- ---- readings
abbrev pub Readings : {Q : Type 0} → Reads Q → Tok Q → Type 0
Readings reads t = (readings : Kind → Reading) × AreReadings reads readings t

-- each text is something in each kind
abbrev pub EachIsRead : {Q : Type 0} → Reads Q → Type 0
EachIsRead {Q} reads = (kind : Kind) (quoted : Q) → (reading : Reading) × reads kind quoted reading

any_reading : Kind → Reading
any_reading kind = unread Unexpected 0

pub some_readings : {Q : Type 0} (reads : Reads Q) → EachIsRead reads → (t : Tok Q) → Readings reads t
some_readings reads some (tok.Number n) = (any_reading, tt)
some_readings reads some (tok.Name n) = (any_reading, tt)
some_readings reads some (tok.Quoted quoted) = (λ kind. (some kind quoted).0, λ kind. (some kind quoted).1)
some_readings reads some (tok.Mark m) = (any_reading, tt)
some_readings reads some tok.End = (any_reading, tt)
