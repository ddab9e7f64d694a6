-- Which entries the lines of a performer have.
--     SaysAccepted, SaysDeclined    what a reply says of its line
--     IsOfLine                      an entry is that of the call that a line asks for
--     HaveEntries                   these are the entries of lines, in order: one of each line that was accepted, and no other
use Rattle.std.specs.Prelude.{◌≡◌, ℕ, ◌⊎◌, List, [], ◌∷◌, ◌++◌, codes}
use Rattle.tdl_score.specs.declared.histories.Entry.{Entry}
use Rattle.tdl_core.specs.declared.calls.Call.{Call}
use Rattle.tdl_core.specs.Replies.{entry_of}
use Rattle.tdl_answer.specs.Answers.{no_memory_reply}
use Rattle.tdl_answer.specs.Texts.{AsksFor, skip_reply}

-- from when on a change holds, or what a look shows
abbrev pub SaysAccepted : List ℕ → Type 0
SaysAccepted reply = (rest : List ℕ) × ((reply ≡ codes "at " ++ rest) ⊎ (reply ≡ codes "desk " ++ rest))

-- the line was refused, or asks for nothing, or there was no memory for it
abbrev pub SaysDeclined : List ℕ → Type 0
SaysDeclined reply = ((rest : List ℕ) × (reply ≡ codes "refused " ++ rest)) ⊎ ((reply ≡ skip_reply) ⊎ (reply ≡ no_memory_reply))

abbrev pub IsOfLine : ℕ → List ℕ → Entry → Type 0
IsOfLine who line e = (before : List Entry) × (call : Call) × AsksFor line call × (e ≡ entry_of before who call)

abbrev pub HaveEntries : ℕ → List (List ℕ) → List (List ℕ) → List Entry → Type 0
HaveEntries who [] [] entries = entries ≡ []
HaveEntries who (line ∷ lines) (reply ∷ replies) entries =
    (SaysDeclined reply × HaveEntries who lines replies entries)
    ⊎ ((e : Entry) × (rest : List Entry) × (entries ≡ e ∷ rest) × SaysAccepted reply × IsOfLine who line e × HaveEntries who lines replies rest)
HaveEntries who [] (reply ∷ replies) entries = ⊥
HaveEntries who (line ∷ lines) [] entries = ⊥
