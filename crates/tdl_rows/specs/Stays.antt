-- What stays while a table gains rows.
--     rows_after, row_after                    its rows, and how many there are
--     argument_row, argument_after             its arguments
--     first-stays, second-stays, third-stays   what is made with one of three numbers, where those after it are
--                                              arguments
--     rate-stays, hits-stay                    a row at a rate, and at the hits of a rhythm
use Rattle.std.proofs.Common.{◌≡◌, ℕ, ◌+◌, List, [], ◌∷◌, ◌++◌, length, refl, ap, ◌∙◌, arith, length-append}
use Rattle.std.proofs.lemmas.List.{length-map}
use Rattle.std.specs.List.{fold}
use Rattle.tdl_fraction.specs.Rational.{Rational}
use Rattle.tdl_expr.specs.declared.args.Arg.{Arg}
use Rattle.tdl_expr.specs.declared.args.Arg.TheVariants.{Plain, Chosen}
use Rattle.tdl_expr.specs.declared.ids.NodeId.{NodeId}
use Rattle.tdl_expr.specs.declared.nodes.Node.{Node}
use Rattle.tdl_expr.specs.Tree.{Tree}
use Rattle.tdl_expr.specs.Rows.{links_of, IsRow, tree_at}
use Rattle.tdl_rows.specs.Arguments.{argument_at, IsArgument}
use Rattle.tdl_rows.specs.Built.{Built, kept, ◌▸◌, and_next}
use Rattle.tdl_rows.specs.Chosen.{StaysMade, StaysAmong}
use Rattle.tdl_rows.specs.Joined.{Argument, plain, picked, choose, pick_of, euclid_of}
use Rattle.tdl_rows.specs.Lowers.{Gains}

module _ {old mid : List Node} {links : List ℕ} (gains : Gains old mid links) where
  pub rows_after : length mid ≡ length old + length links
  rows_after = omega (arith, ap length gains.nodes, length-append old gains.added, length-map gains.added links_of, ap length gains.rows)

  pub row_after : (id : NodeId) → IsRow old id → IsRow mid id
  row_after id h = omega (arith, rows_after)

  pub argument_row : (argument : Arg) → IsArgument old argument → IsArgument mid argument
  argument_row (Plain number) h = h
  argument_row (Chosen selector values) h = (row_after selector h.0, h.1)

  pub argument_after : (argument : Arg) → IsArgument old argument → argument_at mid argument ≡ argument_at old argument
  argument_after (Plain number) h = refl
  argument_after (Chosen selector values) h = ap (λ (t : Tree). picked t values) (gains.older selector h.0)

each-from : {A B : Type 0} (f g : A → Built B) → ((x : A) → f x ≡ g x) → (b : Built (List B)) (xs : List A) → fold (and_next f) b xs ≡ fold (and_next g) b xs
each-from f g same b [] = refl
each-from f g same b (x ∷ xs) =
    each-from f g same (and_next f b x) xs
    ∙ ap (λ y. fold (and_next g) (b ▸ λ ys. y ▸ λ z. kept (ys ++ z ∷ [])) xs) (same x)

-- choices of what is the same with each number are the same
pub choose-same : (a : Argument) (f g : Rational → Built Tree) → ((x : Rational) → f x ≡ g x) → choose a f ≡ choose a g
choose-same (plain x) f g same = same x
choose-same (picked t values) f g same = ap (λ (b : Built (List Tree)). b ▸ λ ts. pick_of t ts) (each-from f g same (kept []) values)

-- what is made with the third number after the others
pub third-stays : {P : Type 0} (before after : Rational → Rational → Rational → Built Tree) (a b : Rational) → StaysAmong P before after
    → StaysMade P (before a b) (after a b)
third-stays before after a b made = record { stands = made.stands; same = made.same a b }

module _ {old new : List Node} {links : List ℕ} (gains : Gains old new links) where
  choice-stays : {P : Type 0} (argument : Arg) (before after : Rational → Built Tree) → IsArgument old argument → StaysMade P before after
      → choose (argument_at new argument) after ≡ choose (argument_at old argument) before
  choice-stays argument before after is stays =
      choose-same (argument_at new argument) after before stays.same ∙ ap (λ (a : Argument). choose a before) (argument_after gains argument is)

  -- with the second, where the third is an argument
  pub second-stays : {P : Type 0} (third : Arg) (before after : Rational → Rational → Rational → Built Tree) (a : Rational)
      → StaysAmong P before after → IsArgument old third → StaysMade (P × IsArgument new third) (λ b. choose (argument_at old third) (before a b))
      (λ b. choose (argument_at new third) (after a b))
  second-stays third before after a made is = record {
    stands = (made.stands, argument_row gains third is);
    same = λ b. choice-stays third (before a b) (after a b) is (third-stays before after a b made);
  }

  -- with the first, where both others are
  pub first-stays : {P : Type 0} (second third : Arg) (before after : Rational → Rational → Rational → Built Tree) → StaysAmong P before after
      → IsArgument old second × IsArgument old third → StaysMade (P × (IsArgument new second × IsArgument new third))
      (λ a. choose (argument_at old second) (λ b. choose (argument_at old third) (before a b)))
      (λ a. choose (argument_at new second) (λ b. choose (argument_at new third) (after a b)))
  first-stays second third before after made are = record {
    stands = (made.stands, (argument_row gains second are.0, argument_row gains third are.1));
    same = λ a. choice-stays second _ _ are.0 (second-stays third before after a made are.1);
  }

  -- a row at a rate
  pub rate-stays : (id : NodeId) (f : Rational → Tree → Built Tree) → IsRow old id
      → StaysMade (IsRow new id) (λ rate. f rate (tree_at old id)) (λ rate. f rate (tree_at new id))
  rate-stays id f row = record { stands = row_after gains id row; same = λ rate. ap (f rate) (gains.older id row) }

  -- a row at hits
  pub hits-stay : (id : NodeId) → IsRow old id → StaysAmong (IsRow new id) (euclid_of (tree_at old id)) (euclid_of (tree_at new id))
  hits-stay id row = record { stands = row_after gains id row; same = λ k n r. ap (λ (t : Tree). euclid_of t k n r) (gains.older id row) }
