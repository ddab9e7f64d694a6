-- Lists that begin with others.
use Rattle.std.proofs.Common.{List, [], ◌++◌, map, refl, ap, sym, ◌∙◌, append_assoc, append-nil}
use Rattle.std.proofs.lemmas.List.{map-append}
use Rattle.tdl_beats.specs.Fronts.{IsFront}

-- no item
pub front_none : {A : Type 0} (all : List A) → IsFront [] all
front_none all = record { rest = all; parts = refl }

-- all items
pub front_all : {A : Type 0} (all : List A) → IsFront all all
front_all all = record { rest = []; parts = sym (append-nil all) }

-- items, and then others
pub front_of_both : {A : Type 0} (front rest : List A) → IsFront front (front ++ rest)
front_of_both front rest = record { rest = rest; parts = refl }

-- a front of a front
pub front_both : {A : Type 0} {first second all : List A} → IsFront first second → IsFront second all → IsFront first all
front_both {A} {first} {second} {all} one other = record {
  rest = one.rest ++ other.rest;
  parts = other.parts ∙ ap (λ (xs : List A). xs ++ other.rest) one.parts ∙ append_assoc first one.rest other.rest;
}

-- where more items follow
pub front_longer : {A : Type 0} {front all : List A} (more : List A) → IsFront front all → IsFront front (all ++ more)
front_longer {A} {front} {all} more h = front_both h (front_of_both all more)

-- where items stand before both
pub front_after : {A : Type 0} {front all : List A} (before : List A) → IsFront front all → IsFront (before ++ front) (before ++ all)
front_after {A} {front} {all} before h = record {
  rest = h.rest;
  parts = ap (λ (xs : List A). before ++ xs) h.parts ∙ sym (append_assoc before front h.rest);
}

-- where each item is made another
pub front_map : {A B : Type 0} {front all : List A} (f : A → B) → IsFront front all → IsFront (map f front) (map f all)
front_map {A} {B} {front} {all} f h = record { rest = map f h.rest; parts = ap (map f) h.parts ∙ map-append f front h.rest }
