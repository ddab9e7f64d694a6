-- Lines that are answered one after another.
--     goes_more       one line more
--     joined_more     one text more
use Rattle.std.proofs.Common.{◌≡◌, ℕ, List, [], ◌∷◌, ◌++◌, refl, ap, subst, ◌∙◌, append-nil}
use Rattle.std.proofs.lemmas.Grind.{flat_map-append}
use Rattle.tdl_score.specs.declared.histories.Entry.{Entry}
use Rattle.tdl_answer.specs.Goes.{Goes}
use Rattle.tdl_answer.specs.EndLine.{one_after_another}

pub goes_more : (Step : List Entry → List ℕ → List Entry → List ℕ → Type 0) (old mid new : List Entry) (lines replies : List (List ℕ))
    (line reply : List ℕ) → Goes Step old lines mid replies → Step mid line new reply → Goes Step old (lines ++ line ∷ []) new (replies ++ reply ∷ [])
goes_more Step old mid new [] [] line reply before step = (new, subst (λ (h : List Entry). Step h line new reply) before step, refl)
goes_more Step old mid new [] (x ∷ xs) line reply before step = absurd before
goes_more Step old mid new (l ∷ ls) [] line reply before step = absurd before
goes_more Step old mid new (l ∷ ls) (x ∷ xs) line reply before step =
    (before.0, before.1, goes_more Step before.0 mid new ls xs line reply before.2 step)

pub joined_more : (replies : List (List ℕ)) (reply : List ℕ) → one_after_another (replies ++ reply ∷ []) ≡ one_after_another replies ++ reply
joined_more replies reply = flat_map-append (λ text. text) replies (reply ∷ []) ∙ ap (λ (xs : List ℕ). one_after_another replies ++ xs) (append-nil reply)
