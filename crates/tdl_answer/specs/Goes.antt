-- Lines that are answered one after another.
--     Goes     from one history to another by any step, a reply a line
use Rattle.std.specs.Prelude.{◌≡◌, ℕ, List, [], ◌∷◌}
use Rattle.tdl_score.specs.declared.histories.Entry.{Entry}

-- a step goes from a history and a line to a history and a reply
abbrev pub Goes : (List Entry → List ℕ → List Entry → List ℕ → Type 0) → List Entry → List (List ℕ) → List Entry → List (List ℕ) → Type 0
Goes Step old [] new [] = new ≡ old
Goes Step old (line ∷ lines) new (reply ∷ replies) = (next : List Entry) × Step old line next reply × Goes Step next lines new replies
Goes Step old [] new (reply ∷ replies) = ⊥
Goes Step old (line ∷ lines) new [] = ⊥
