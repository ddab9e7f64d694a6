-- Expressions found for the two sides of an equation, so that a use names its ring and its atoms alone:
--     t : (a b c : ℤ) → (a +ℤ b) *ℤ c ≡ c *ℤ b +ℤ a *ℤ c
--     t a b c = by_ring integers (a ∷ b ∷ c ∷ []) (search ring depth 12) refl
use Rattle.std.proofs.Common.{◌≡◌, ℕ, suc, ◌+◌, ◌*◌, Bool, true, eqb, List, ◌∷◌, ℤ, pos, negsuc, ◌+ℤ◌, ◌*ℤ◌, neg_ℤ, refl, sym, ap, ap₂, ◌∙◌, add-one}
use Rattle.tdl_ring.specs.Ring.{CommutativeRing}
use Rattle.tdl_ring.specs.Expression.{Expression, atom, literal, sum, difference, product, negation, value}
use Rattle.tdl_ring.specs.Normal.{normal}
use Rattle.tdl_ring.proofs.Laws as laws
use Rattle.tdl_ring.proofs.Sound.{solve}

-- an expression whose value is x
pub record Quoted {A : Type 0} (R : CommutativeRing A) (atoms : List A) (x : A) : Type 0 where
  pub expression : Expression
  pub is : value R atoms expression ≡ x

-- both sides of an equation
pub record Sides {A : Type 0} (R : CommutativeRing A) (atoms : List A) (x y : A) : Type 0 where
  pub left : Quoted R atoms x
  pub right : Quoted R atoms y

-- a number that is written out: at an unknown n this does not compute to true
abbrev pub is_numeral : ℤ → Bool
is_numeral (pos n) = eqb n n
is_numeral (negsuc n) = eqb n n

module _ {A : Type 0} {R : CommutativeRing A} where
  abbrev pub sides : {atoms : List A} {x y : A} → Quoted R atoms x → Quoted R atoms y → Sides R atoms x y
  sides p q = record { left = p; right = q }

  -- ---- the atoms, by their place in the list
  abbrev pub first : {x : A} {more : List A} → Quoted R (x ∷ more) x
  first = record { expression = atom 0; is = refl }

  abbrev pub second : {x a : A} {more : List A} → Quoted R (a ∷ x ∷ more) x
  second = record { expression = atom 1; is = refl }

  abbrev pub third : {x a b : A} {more : List A} → Quoted R (a ∷ b ∷ x ∷ more) x
  third = record { expression = atom 2; is = refl }

  abbrev pub fourth : {x a b c : A} {more : List A} → Quoted R (a ∷ b ∷ c ∷ x ∷ more) x
  fourth = record { expression = atom 3; is = refl }

  abbrev pub fifth : {x a b c d : A} {more : List A} → Quoted R (a ∷ b ∷ c ∷ d ∷ x ∷ more) x
  fifth = record { expression = atom 4; is = refl }

  abbrev pub sixth : {x a b c d e : A} {more : List A} → Quoted R (a ∷ b ∷ c ∷ d ∷ e ∷ x ∷ more) x
  sixth = record { expression = atom 5; is = refl }

  abbrev pub seventh : {x a b c d e f : A} {more : List A} → Quoted R (a ∷ b ∷ c ∷ d ∷ e ∷ f ∷ x ∷ more) x
  seventh = record { expression = atom 6; is = refl }

  abbrev pub eighth : {x a b c d e f g : A} {more : List A} → Quoted R (a ∷ b ∷ c ∷ d ∷ e ∷ f ∷ g ∷ x ∷ more) x
  eighth = record { expression = atom 7; is = refl }

  abbrev pub ninth : {x a b c d e f g h : A} {more : List A} → Quoted R (a ∷ b ∷ c ∷ d ∷ e ∷ f ∷ g ∷ h ∷ x ∷ more) x
  ninth = record { expression = atom 8; is = refl }

  abbrev pub tenth : {x a b c d e f g h i : A} {more : List A} → Quoted R (a ∷ b ∷ c ∷ d ∷ e ∷ f ∷ g ∷ h ∷ i ∷ x ∷ more) x
  tenth = record { expression = atom 9; is = refl }

  abbrev pub eleventh : {x a b c d e f g h i j : A} {more : List A} → Quoted R (a ∷ b ∷ c ∷ d ∷ e ∷ f ∷ g ∷ h ∷ i ∷ j ∷ x ∷ more) x
  eleventh = record { expression = atom 10; is = refl }

  abbrev pub twelfth : {x a b c d e f g h i j k : A} {more : List A} → Quoted R (a ∷ b ∷ c ∷ d ∷ e ∷ f ∷ g ∷ h ∷ i ∷ j ∷ k ∷ x ∷ more) x
  twelfth = record { expression = atom 11; is = refl }

  -- ---- numbers
  abbrev pub quoted_zero : {atoms : List A} → Quoted R atoms R.zero
  quoted_zero = record { expression = literal (pos 0); is = R.whole_zero }

  abbrev pub quoted_one : {atoms : List A} → Quoted R atoms R.one
  quoted_one = record { expression = literal (pos 1); is = R.whole_one }

  abbrev pub quoted_whole : {atoms : List A} (n : ℤ) → is_numeral n ≡ true → Quoted R atoms (R.whole n)
  quoted_whole n closed = record { expression = literal n; is = refl }

  -- ---- operations
  abbrev pub quoted_plus : {atoms : List A} {x y : A} → Quoted R atoms x → Quoted R atoms y → Quoted R atoms (R.plus x y)
  quoted_plus p q = record { expression = sum p.expression q.expression; is = ap₂ R.plus p.is q.is }

  abbrev pub quoted_times : {atoms : List A} {x y : A} → Quoted R atoms x → Quoted R atoms y → Quoted R atoms (R.times x y)
  quoted_times p q = record { expression = product p.expression q.expression; is = ap₂ R.times p.is q.is }

  abbrev pub quoted_minus : {atoms : List A} {x y : A} → Quoted R atoms x → Quoted R atoms y → Quoted R atoms (R.minus x y)
  quoted_minus p q = record { expression = difference p.expression q.expression; is = ap₂ R.minus p.is q.is }

  abbrev pub quoted_negate : {atoms : List A} {x : A} → Quoted R atoms x → Quoted R atoms (R.negate x)
  quoted_negate p = record { expression = negation p.expression; is = ap R.negate p.is }

  -- an operation of your own, by what it is in the ring: not in the set, a rule of a crate's own set cites it
  abbrev pub quoted_as : {atoms : List A} {x y : A} → y ≡ x → Quoted R atoms y → Quoted R atoms x
  quoted_as same q = record { expression = q.expression; is = q.is ∙ same }

  -- ---- naturals, whose sums and products compute inside `pos`
  abbrev pub quoted_pos_plus : {atoms : List A} (m n : ℕ) → Quoted R atoms (R.whole (pos m)) → Quoted R atoms (R.whole (pos n))
      → Quoted R atoms (R.whole (pos (m + n)))
  quoted_pos_plus m n p q = record { expression = sum p.expression q.expression; is = ap₂ R.plus p.is q.is ∙ sym (R.whole_plus (pos m) (pos n)) }

  abbrev pub quoted_pos_times : {atoms : List A} (m n : ℕ) → Quoted R atoms (R.whole (pos m)) → Quoted R atoms (R.whole (pos n))
      → Quoted R atoms (R.whole (pos (m * n)))
  quoted_pos_times m n p q = record { expression = product p.expression q.expression; is = ap₂ R.times p.is q.is ∙ sym (R.whole_times (pos m) (pos n)) }

  abbrev pub quoted_pos_suc : {atoms : List A} (n : ℕ) → Quoted R atoms (R.whole (pos n)) → Quoted R atoms (R.whole (pos (suc n)))
  quoted_pos_suc n q =
      record {
        expression = sum q.expression (literal (pos 1));
        is = ap (λ x. R.plus x (R.whole (pos 1))) q.is ∙ sym (R.whole_plus (pos n) (pos 1))
            ∙ ap (λ k. R.whole (pos k)) (add-one n);
      }

  -- ---- whole numbers in another ring, for which the integers themselves have the operations above
  abbrev pub quoted_whole_plus : {atoms : List A} (m n : ℤ) → Quoted R atoms (R.whole m) → Quoted R atoms (R.whole n) → Quoted R atoms (R.whole (m +ℤ n))
  quoted_whole_plus m n p q = record { expression = sum p.expression q.expression; is = ap₂ R.plus p.is q.is ∙ sym (R.whole_plus m n) }

  abbrev pub quoted_whole_times : {atoms : List A} (m n : ℤ) → Quoted R atoms (R.whole m) → Quoted R atoms (R.whole n) → Quoted R atoms (R.whole (m *ℤ n))
  quoted_whole_times m n p q = record { expression = product p.expression q.expression; is = ap₂ R.times p.is q.is ∙ sym (R.whole_times m n) }

  abbrev pub quoted_whole_negate : {atoms : List A} (n : ℤ) → Quoted R atoms (R.whole n) → Quoted R atoms (R.whole (neg_ℤ n))
  quoted_whole_negate n p = record { expression = negation p.expression; is = ap R.negate p.is ∙ sym (laws.whole_negate R n) }

pub ruleset places = (first, second, third, fourth, fifth, sixth, seventh, eighth, ninth, tenth, eleventh, twelfth)

pub ruleset ring = (
  sides,
  places,
  quoted_zero,
  quoted_one,
  quoted_whole,
  quoted_plus,
  quoted_times,
  quoted_minus,
  quoted_negate,
  quoted_pos_plus,
  quoted_pos_times,
  quoted_pos_suc,
)

-- for sums, products and opposites of unknown whole numbers inside `whole`: `search (ring, wholes) depth 12`
pub ruleset wholes = (quoted_whole_plus, quoted_whole_times, quoted_whole_negate)

-- an equation of a ring: both sides found by `search ring depth 12`, and `refl` where they have one normal form
pub by_ring : {A : Type 0} (R : CommutativeRing A) (atoms : List A) {x y : A} (s : Sides R atoms x y)
    → normal s.left.expression ≡ normal s.right.expression → x ≡ y
by_ring R atoms s same = sym s.left.is ∙ solve R atoms s.left.expression s.right.expression same ∙ s.right.is
