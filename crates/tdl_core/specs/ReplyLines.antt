-- The lines of replies.
--     reply_line      the line of a reply, where this is the frontier after the call
--     refusal_line    the line of a refusal
use Rattle.std.specs.Prelude.{ℕ, ◌≤◌, List, ◌++◌, length, codes}
use Rattle.std.specs.Fmt.{decimal}
use Rattle.tdl_fraction.specs.Units.{last_units}
use Rattle.tdl_core.specs.declared.replies.Reply.{Reply}
use Rattle.tdl_core.specs.declared.replies.Reply.TheVariants.{Swapped, Looked, Ticked, Finished}
use Rattle.tdl_core.specs.declared.replies.Refusal.{Refusal}
use Rattle.tdl_core.specs.declared.replies.Refusal.TheVariants.{NoMemory, Full, Backward, TooLong, PastLast}
use Rattle.tdl_core.specs.Looks.{units_text}

abbrev pub swapped_line : ℕ → ℕ → List ℕ
swapped_line place boundary = codes "at " ++ decimal boundary ++ codes " place " ++ decimal place ++ codes "\n"

abbrev pub looked_line : List ℕ → List ℕ
looked_line text = text ++ codes "\n"

abbrev pub ticked_line : ℕ → ℕ → ℕ → List ℕ
ticked_line packets messages frontier =
    codes "tick " ++ units_text frontier ++ codes " osc " ++ decimal packets ++ codes " midi " ++ decimal messages ++ codes "\n"

abbrev pub finished_line : ℕ → ℕ → List ℕ
finished_line messages frontier = codes "finish " ++ units_text frontier ++ codes " midi " ++ decimal messages ++ codes "\n"

abbrev pub reply_line : ℕ → Reply → List ℕ
reply_line frontier (Swapped place boundary) = swapped_line place boundary
reply_line frontier (Looked place text) = looked_line text
reply_line frontier (Ticked place osc midi) = ticked_line (length osc) (length midi) frontier
reply_line frontier (Finished place midi) = finished_line (length midi) frontier

abbrev pub full_line : ℕ → List ℕ
full_line entries = codes "refused Full " ++ decimal entries ++ codes "\n"

abbrev pub frontier_line : List ℕ → ℕ → List ℕ
frontier_line kind frontier = kind ++ units_text frontier ++ codes "\n"

abbrev pub refusal_line : Refusal → List ℕ
refusal_line NoMemory = codes "no memory\n"
refusal_line (Full entries) = full_line entries
refusal_line (Backward frontier) = frontier_line (codes "refused Backward ") frontier
refusal_line (TooLong frontier) = frontier_line (codes "refused TooLong ") frontier
refusal_line (PastLast frontier) = frontier_line (codes "refused PastLast ") frontier

-- the frontier that a refusal carries is not past the last cycle
abbrev pub HasFrontier : Refusal → Type 0
HasFrontier NoMemory = Unit {0}
HasFrontier (Full entries) = Unit {0}
HasFrontier (Backward frontier) = frontier ≤ last_units
HasFrontier (TooLong frontier) = frontier ≤ last_units
HasFrontier (PastLast frontier) = frontier ≤ last_units
