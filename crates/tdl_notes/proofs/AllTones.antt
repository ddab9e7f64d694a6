-- Ticks one after the other send the messages of their tones, up to the time that they come to.
use Rattle.std.proofs.Common.{◌≡◌, ℕ, List, [], ◌∷◌, ◌++◌, refl, sym, ap, ap₂, ◌∙◌, append_assoc, append-nil}
use Rattle.tdl_fraction.specs.Rational.{Rational}
use Rattle.tdl_notes.specs.declared.tones.Tone.{Tone}
use Rattle.tdl_notes.specs.Notes.{marks, midi}
use Rattle.tdl_notes.specs.Waiting.{Tick, all_tones, last, Sent}

midi-none : (frontier : Rational) → midi frontier [] ≡ []
unfolding midi marks
midi-none frontier = refl

pub sent_after : (frontier : Rational) (score : List Tone) (ticks : List Tick) (sent : List (List ℕ)) → Sent frontier score ticks sent
    → midi (last frontier ticks) (score ++ all_tones ticks) ≡ midi frontier score ++ sent
sent_after frontier score [] sent h =
    ap (midi frontier) (append-nil score) ∙ sym (append-nil (midi frontier score)) ∙ ap (λ (l : List (List ℕ)). midi frontier score ++ l) (sym h)
sent_after frontier score (tick ∷ ticks) sent h =
    let now = h.0 in
    let later = h.1 in
    ap (midi (last tick.to ticks)) (sym (append_assoc score tick.span (all_tones ticks)))
    ∙ sent_after tick.to (score ++ tick.span) ticks later h.4
    ∙ ap (λ (l : List (List ℕ)). l ++ later) h.3
    ∙ append_assoc (midi frontier score) now later
    ∙ ap (λ (l : List (List ℕ)). midi frontier score ++ l) (sym h.2)

pub sent_is : (from : Rational) (ticks : List Tick) (sent : List (List ℕ)) → Sent from [] ticks sent → midi (last from ticks) (all_tones ticks) ≡ sent
sent_is from ticks sent h = sent_after from [] ticks sent h ∙ ap (λ (l : List (List ℕ)). l ++ sent) (midi-none from)

pub same_sent : (from : Rational) (one other : List Tick) → all_tones one ≡ all_tones other → last from one ≡ last from other → (p q : List (List ℕ))
    → Sent from [] one p → Sent from [] other q → p ≡ q
same_sent from one other e f p q h k =
    sym (sent_is from one p h) ∙ ap₂ (λ (t : Rational) (l : List Tone). midi t l) f e ∙ sent_is from other q k
