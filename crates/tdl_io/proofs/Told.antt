-- Puts, sends and pulls one after another.
use Rattle.std.proofs.Common.{◌≡◌, ◌⊎◌, inl, inr, List, [], ◌++◌, refl, ap, sym, ◌∙◌, append_assoc, append-nil}
use Rattle.std.specs.Prelude.{Option, None, Some}
use Rattle.tdl_io.specs.Told.{with_piece, after_piece, GainedExactly, GainedPrefix, GaveExactly, AsBeforeOrUntold}

-- no piece changes nothing
pub with_piece-nil : {A : Type 0} (told : Option (List A)) → with_piece told [] ≡ told
with_piece-nil None = refl
with_piece-nil (Some xs) = ap Some (append-nil xs)

-- two pieces one after another are one
pub with_piece-append : {A : Type 0} (told : Option (List A)) (p q : List A) → with_piece (with_piece told p) q ≡ with_piece told (p ++ q)
with_piece-append None p q = refl
with_piece-append (Some xs) p q = ap Some (append_assoc xs p q)

-- nothing was gained
pub gained_nothing : {A : Type 0} (told : Option (List A)) → GainedExactly told told []
gained_nothing told = record { is = sym (with_piece-nil told) }

-- a piece, and then another
pub gained_both : {A : Type 0} {old mid new : Option (List A)} {p q : List A} → GainedExactly old mid p → GainedExactly mid new q
    → GainedExactly old new (p ++ q)
gained_both {A} {old} {mid} {new} {p} {q} first second =
    record { is = second.is ∙ ap (λ (told : Option (List A)). with_piece told q) first.is ∙ with_piece-append old p q }

-- nothing is a prefix of each piece
pub prefix_nothing : {A : Type 0} (told : Option (List A)) (p : List A) → GainedPrefix told told p
prefix_nothing told p = record { front = []; back = p; parts = refl; gained = gained_nothing told }

-- a prefix of a piece is one of the piece with more behind it
pub prefix_longer : {A : Type 0} {old new : Option (List A)} {p : List A} (q : List A) → GainedPrefix old new p → GainedPrefix old new (p ++ q)
prefix_longer {A} {old} {new} {p} q first = record {
  front = first.front;
  back = first.back ++ q;
  parts = ap (λ (xs : List A). xs ++ q) first.parts ∙ append_assoc first.front first.back q;
  gained = first.gained;
}

-- a piece, and then a prefix of another
pub prefix_after : {A : Type 0} {old mid new : Option (List A)} {p q : List A} → GainedExactly old mid p → GainedPrefix mid new q
    → GainedPrefix old new (p ++ q)
prefix_after {A} {old} {mid} {new} {p} {q} first second = record {
  front = p ++ second.front;
  back = second.back;
  parts = ap (λ (xs : List A). p ++ xs) second.parts ∙ sym (append_assoc p second.front second.back);
  gained = gained_both first second.gained;
}

-- pieces, and then a call that changed nothing, unless it stopped telling
pub gained_then_before : {A : Type 0} {old mid new : Option (List A)} {p : List A} → GainedExactly old mid p → AsBeforeOrUntold mid new
    → GainedExactly old new p ⊎ (new ≡ None)
gained_then_before {A} {old} {mid} {new} {p} gained after =
    elim after.either [ inl same ↦ inl (record { is = same ∙ gained.is }) | inr untold ↦ inr untold ]

-- no piece changes nothing
pub after_piece-nil : {A : Type 0} (told : Option (List A)) → after_piece [] told ≡ told
after_piece-nil None = refl
after_piece-nil (Some xs) = refl

-- two pieces one after another are one
pub after_piece-append : {A : Type 0} (p q : List A) (told : Option (List A)) → after_piece p (after_piece q told) ≡ after_piece (p ++ q) told
after_piece-append p q None = refl
after_piece-append p q (Some xs) = ap Some (sym (append_assoc p q xs))

-- nothing was given
pub gave_nothing : {A : Type 0} (told : Option (List A)) → GaveExactly told told []
gave_nothing told = record { was = sym (after_piece-nil told) }

-- a piece, and then another
pub gave_both : {A : Type 0} {old mid new : Option (List A)} {p q : List A} → GaveExactly old mid p → GaveExactly mid new q
    → GaveExactly old new (p ++ q)
gave_both {A} {old} {mid} {new} {p} {q} first second =
    record { was = first.was ∙ ap (λ (told : Option (List A)). after_piece p told) second.was ∙ after_piece-append p q new }
