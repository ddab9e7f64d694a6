-- A piece that is written in parts.
use Rattle.std.proofs.Common.{◌≡◌, ℕ, ◌-◌, List, [], ◌++◌, take, drop, refl, ap, sym, ◌∙◌, subst, append_assoc, append-nil, length, length-drop}
use Rattle.std.proofs.Common.{take_all, arith, take-append-drop}
use Rattle.std.specs.Prelude.{Option, None, Some}
use Rattle.std.specs.Io.KnownBytes.{Appends, Keeps}
use Rattle.tdl_io.specs.Standard.{WroteFront, WroteUpTo}

-- nothing was appended yet
pub Appends-nil : (told : Option (List ℕ)) → Appends told told []
Appends-nil None = tt
Appends-nil (Some xs) = sym (append-nil xs)

-- one part and then another
pub Appends-append : (old mid new : Option (List ℕ)) (p q : List ℕ) → Appends old mid p → Appends mid new q → Appends old new (p ++ q)
Appends-append None mid new p q first second = tt
Appends-append (Some xs) None new p q first second = absurd first
Appends-append (Some xs) (Some ys) None p q first second = absurd second
Appends-append (Some xs) (Some ys) (Some zs) p q first second = second ∙ ap (λ (bytes : List ℕ). bytes ++ q) first ∙ append_assoc xs p q

-- what was appended stays
pub Appends-kept : (old mid new : Option (List ℕ)) (p : List ℕ) → Appends old mid p → Keeps mid new → Appends old new p
Appends-kept None mid new p first kept = tt
Appends-kept (Some xs) None new p first kept = absurd first
Appends-kept (Some xs) (Some ys) None p first kept = absurd kept
Appends-kept (Some xs) (Some ys) (Some zs) p first kept = kept ∙ first

-- before the first part
pub wrote_none : (told : Option (List ℕ)) (piece : List ℕ) → WroteUpTo told told piece piece
wrote_none told piece = record { front = []; parts = refl; written = Appends-nil told }

-- nothing of it was written
pub wrote_nothing : (told : Option (List ℕ)) (piece : List ℕ) → WroteFront told told piece
wrote_nothing told piece = (piece, wrote_none told piece)

-- after one more part
pub wrote_more : (old mid new : Option (List ℕ)) (piece rest : List ℕ) (n : ℕ) → WroteUpTo old mid piece rest → Appends mid new (take n rest)
    → WroteUpTo old new piece (take (length rest - n) (drop n rest))
wrote_more old mid new piece rest n so_far part =
    let all : take (length rest - n) (drop n rest) ≡ drop n rest = take_all (length rest - n) (drop n rest) (omega (arith, length-drop n rest)) in
    record {
      front = so_far.front ++ take n rest;
      parts = so_far.parts
          ∙ ap (λ (bytes : List ℕ). so_far.front ++ bytes) (sym (take-append-drop n rest))
          ∙ sym (append_assoc so_far.front (take n rest) (drop n rest))
          ∙ ap (λ (bytes : List ℕ). (so_far.front ++ take n rest) ++ bytes) (sym all);
      written = Appends-append old mid new so_far.front (take n rest) so_far.written part;
    }

-- after a write that failed
pub wrote_same : (old mid new : Option (List ℕ)) (piece rest : List ℕ) → WroteUpTo old mid piece rest → Keeps mid new → WroteUpTo old new piece rest
wrote_same old mid new piece rest so_far kept = record {
  front = so_far.front;
  parts = so_far.parts;
  written = Appends-kept old mid new so_far.front so_far.written kept;
}

-- after the last part
pub wrote_all : (old new : Option (List ℕ)) (piece : List ℕ) → WroteUpTo old new piece [] → Appends old new piece
wrote_all old new piece all = subst (λ (bytes : List ℕ). Appends old new bytes) (sym (all.parts ∙ append-nil all.front)) all.written
