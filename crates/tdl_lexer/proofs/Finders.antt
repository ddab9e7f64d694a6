-- What finds the forms of a language.
use Rattle.std.proofs.Common.{◌≡◌, ℕ, ◌<◌, ◌≤◌, ◌⊎◌, inl, inr, Bool, true, false, cond, Option, Some, None, List, ◌++◌, length, refl}
use Rattle.tdl_lexer.specs.declared.lexemes.Flaw.{Flaw}
use Rattle.tdl_lexer.specs.Languages.{Language}

-- a form stands at the front of a text
abbrev pub Found : (L : Language) → ℕ → List ℕ → L.Form → Type 0
Found L last rest form = (after : List ℕ) × (rest ≡ L.spell form ++ after) × L.Stands form last after

-- it finds the form that stands there, which has a byte and no fault behind it
pub record Finds (L : Language) (find : ℕ → List ℕ → Option L.Form) : Type 0 where
  pub found : (last : ℕ) (rest : List ℕ) (form : L.Form) → find last rest ≡ Some form → Found L last rest form
  pub read : (form : L.Form) (last : ℕ) (after : List ℕ) → L.Stands form last after → find last (L.spell form ++ after) ≡ Some form
  pub filled : (form : L.Form) (last : ℕ) (after : List ℕ) → L.Stands form last after → 0 < length (L.spell form)
  pub within : (form : L.Form) (after : List ℕ) (flaw : Flaw) → L.flaw form after ≡ Some flaw → flaw.past ≤ length (L.spell form)
  pub blank : (text : List ℕ) → length (L.blank text) ≤ length text

-- ---- a choice that finds something
pub cond_some : {A : Type 0} (b : Bool) (x y : Option A) (a : A) → cond b x y ≡ Some a → ((b ≡ true) × (x ≡ Some a)) ⊎ ((b ≡ false) × (y ≡ Some a))
cond_some true x y a e = inl (refl, e)
cond_some false x y a e = inr (refl, e)

pub same_some : {A : Type 0} (a b : A) → Some a ≡ Some b → a ≡ b
same_some a b e = cc

pub none_is_some : {A : Type 0} (a : A) → None ≡ Some a → ⊥
none_is_some a e = cc
