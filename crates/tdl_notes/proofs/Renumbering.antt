-- Ends that are numbered anew: the marks that they make are the same.
--     below-numbered, marks-numbered     numbers, and marks, of those that are numbered from one on
--     notes-remarked, length-remarked    what holds of ends of the same marks
use Rattle.std.proofs.Common.{◌≡◌, ℕ, suc, ◌+◌, List, [], ◌∷◌, map, length, refl, sym, ap, subst, ◌∙◌, arith}
use Rattle.std.proofs.lemmas.List.{length-map}
use Rattle.std.specs.List.{AllByRecursion}
use Rattle.tdl_order.proofs.EachItem.{All-map}
use Rattle.tdl_agenda.specs.declared.items.Item.{Item}
use Rattle.tdl_agenda.specs.Agenda.{numbered}
use Rattle.tdl_midi.specs.Notes.{IsNote}
use Rattle.tdl_notes.specs.Notes.{Mark}
use Rattle.tdl_notes.specs.Waiting.{end_mark}
use Rattle.tdl_notes.proofs.Entering.{AllBelow}
use Rattle.tdl_notes.proofs.Gains.{All-unmapped}

-- ---- from a number on
pub marks-numbered : (n : ℕ) (items : List Item) → map end_mark (numbered n items) ≡ map end_mark items
marks-numbered n [] = refl
marks-numbered n (x ∷ xs) = ap (λ (l : List Mark). end_mark x ∷ l) (marks-numbered (suc n) xs)

below-numbered_to : (n m : ℕ) (items : List Item) → n + length items ≡ m → AllBelow m (numbered n items)
below-numbered_to n m [] e = tt
below-numbered_to n m (x ∷ xs) e = (omega arith, below-numbered_to (suc n) m xs (omega arith))

-- ---- of the same marks
pub length-remarked : (items kept : List Item) → map end_mark kept ≡ map end_mark items → length kept ≡ length items
length-remarked items kept e = sym (length-map kept end_mark) ∙ ap (λ (l : List Mark). length l) e ∙ length-map items end_mark

pub notes-remarked : (items kept : List Item) → map end_mark kept ≡ map end_mark items → AllByRecursion (λ item. IsNote item.note) items
    → AllByRecursion (λ item. IsNote item.note) kept
notes-remarked items kept e h =
    All-unmapped (λ (m : Mark). IsNote m.note) end_mark kept
    (subst (λ (l : List Mark). AllByRecursion (λ m. IsNote m.note) l) (sym e) (All-map (λ m. IsNote m.note) end_mark items h))

pub below-numbered : (m : ℕ) (items kept : List Item) → kept ≡ numbered 0 items → length kept ≡ m → AllBelow m kept
below-numbered m items kept e f =
    let many = sym (length-remarked items (numbered 0 items) (marks-numbered 0 items)) ∙ ap (λ (l : List Item). length l) (sym e) ∙ f in
    subst (AllBelow m) (sym e) (below-numbered_to 0 m items (omega (arith, many)))
