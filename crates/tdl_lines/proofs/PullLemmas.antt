-- What a call of the reader asks of its source, pull after pull.
use Rattle.std.proofs.Common.{◌≡◌, ℕ, IsTrue, List, [], ◌∷◌, ◌++◌, refl, sym, ap, subst, ◌∙◌, append-nil, append_assoc}
use Rattle.std.specs.List.{concat}
use Rattle.std.proofs.lemmas.List.Folds.{concat-append}
use Rattle.tdl_lines.specs.Lines.{HasNoFeed}
use Rattle.tdl_lines.specs.Pulls.{Pulls, Pulled, PulledThenLost}
use Rattle.tdl_lines.specs.Reading.{Reading}

module _ {S : Type 0} (gave : S → List ℕ → S → Type 0) where
  pulls_on : (pending : List ℕ) (pieces : List (List ℕ)) (piece : List ℕ) (a b c : S) → Pulls gave pending pieces a b
      → HasNoFeed (pending ++ concat pieces) → gave b piece c → Pulls gave pending (pieces ++ piece ∷ []) a c
  pulls_on pending [] piece a b c same plain given =
      (subst HasNoFeed (append-nil pending) plain, (c, subst (λ (s : S). gave s piece c) same given, refl))
  pulls_on pending (p ∷ ps) piece a b c made plain given =
      let rest = made.1 in
      let later : HasNoFeed ((pending ++ p) ++ concat ps) = subst HasNoFeed (sym (append_assoc pending p (concat ps))) plain in
      (made.0, (rest.0, rest.1, pulls_on (pending ++ p) ps piece rest.0 b c rest.2 later given))

  pub pulled_none : (reading : Reading) (s : S) → Pulled gave reading s s []
  pulled_none reading s = record { pieces = []; joined = refl; made = refl; unasked = λ ended. refl }

  pub pulled_on : (reading : Reading) (a b c : S) (waiting more bytes : List ℕ) → HasNoFeed waiting → waiting ≡ reading.pending ++ more
      → (IsTrue reading.ended → ⊥) → Pulled gave reading a b more → gave b bytes c → Pulled gave reading a c (more ++ bytes)
  pulled_on reading a b c waiting more bytes plain waits goes pulled given =
      let all : waiting ≡ reading.pending ++ concat pulled.pieces = waits ∙ ap (λ (xs : List ℕ). reading.pending ++ xs) pulled.joined in record {
        pieces = pulled.pieces ++ bytes ∷ [];
        joined = ap (λ (xs : List ℕ). xs ++ bytes) pulled.joined ∙ sym (concat-append pulled.pieces (bytes ∷ [])
            ∙ ap (λ (xs : List ℕ). concat pulled.pieces ++ xs) (append-nil bytes));
        made = pulls_on reading.pending pulled.pieces bytes a b c pulled.made (subst HasNoFeed all plain) given;
        unasked = λ ended. absurd (goes ended);
      }

  pub pulled_lost : (lost : S → S → Type 0) (reading : Reading) (a b c : S) (waiting more : List ℕ) → HasNoFeed waiting → waiting ≡ reading.pending ++ more
      → (IsTrue reading.ended → ⊥) → Pulled gave reading a b more → lost b c → PulledThenLost gave lost reading a c more
  pulled_lost lost reading a b c waiting more plain waits goes pulled failed = record {
    between = b;
    pulled = pulled;
    none_waits = subst HasNoFeed waits plain;
    goes = goes;
    lost = failed;
  }
