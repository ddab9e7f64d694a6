-- Packets that are sent one after another.
--     more_sent     those up to an index, and that at it
--     sent_until    those up to an index, where the next one failed
--     on_err        what holds in any case holds of an error
use Rattle.std.proofs.Common.{◌≡◌, ℕ, ◌+◌, ◌<◌, inl, inr, List, [], ◌∷◌, ◌++◌, length, take, drop, get_or, Option, Result, Ok, Err, OnErr}
use Rattle.std.proofs.Common.{ap, sym, subst, ◌∙◌}
use Rattle.std.proofs.Math.Seq.{take-suc}
use Rattle.std.proofs.lemmas.List.{take-append-drop}
use native.Mathlib.Numerals.{unary_clauses}
use Rattle.tdl_io.specs.Told.{GainedExactly, AsBeforeOrUntold}
use Rattle.tdl_io.specs.Faults.{CountRose}
use Rattle.tdl_io.proofs.Told.{gained_both, gained_then_before}
use Rattle.tdl_answer.specs.Account.{Account}
use Rattle.tdl_answer.specs.Sent.{SentUpTo}

-- the packets up to index i, and that at it
pub more_sent : {A : Type 0} {old mid new : Option (List A)} (xs : List A) (i : ℕ) (here piece : A) → i < length xs → here ≡ get_or xs i here → piece ≡ here
    → GainedExactly old mid (take i xs) → GainedExactly mid new (piece ∷ []) → GainedExactly old new (take (i + 1) xs)
more_sent {A} {old} {mid} {new} xs i here piece inside is same before one =
    simp unary_clauses (subst (λ (ys : List A). GainedExactly old new ys) (ap (λ (x : A). take i xs ++ x ∷ []) (same ∙ is) ∙ sym (take-suc xs i here inside))
    (gained_both before one))

-- the packets up to index i, and then one that failed
pub sent_until : (packets : List (List ℕ)) (i : ℕ) (mid : Option (List (List ℕ))) (wire : Account (List ℕ))
    → GainedExactly wire.told_before mid (take i packets) → AsBeforeOrUntold mid wire.told_after → CountRose wire.faults_before wire.faults_after
    → SentUpTo packets wire
sent_until packets i mid wire before after rose = record {
  sent = take i packets;
  missing = drop i packets;
  parts = sym (take-append-drop i packets);
  gained = elim (gained_then_before before after) [ inl gained ↦ inl gained | inr none ↦ inr (none, rose) ];
}

-- what holds in any case holds of an error
pub on_err : {T E P : Type 0} (result : Result T E) → P → OnErr result P
on_err (Ok value) p = tt
on_err (Err error) p = p
