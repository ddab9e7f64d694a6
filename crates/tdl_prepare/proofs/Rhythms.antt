-- The numbers that counts may be, and the rhythms of a Euclid with such counts.
use Rattle.std.proofs.Common.{◌≡◌, ◌<◌, pos, Bool, IsTrue, false, List, [], ◌∷◌, length, get_or, refl}
use Rattle.std.proofs.Common.{sym, ap, ◌∙◌, subst, arith}
use Rattle.std.specs.List.{All, list_all}
use Rattle.std.proofs.lemmas.Bool.{and_parts, and_from}
use Rattle.std.proofs.lemmas.List.Sums.{AllPass-from_list_all}
use Rattle.tdl_euclid.specs.Refusal.{has_rhythm}
use Rattle.tdl_fraction.specs.Rational.{Rational}
use Rattle.tdl_fraction.specs.Rational as rational
use Rattle.tdl_expr.specs.declared.args.Arg.{Arg}
use Rattle.tdl_expr.specs.declared.args.Arg.TheVariants.{Plain}
use Rattle.tdl_expr.specs.declared.nodes.Node.{Node}
use Rattle.tdl_mini_tree.specs.Tree.{no_layer}
use Rattle.tdl_mini_tree.specs.Values.{is_accepted, is_accepted_from}
use Rattle.tdl_rows.specs.Arguments.{argument_at, numbers_of, HasBoundedParts}
use Rattle.tdl_rows.specs.Built.{Built}
use Rattle.tdl_rows.specs.Chosen.{AllAmong}
use Rattle.tdl_rows.specs.Joined.{Argument}
use Rattle.tdl_rows.specs.Joined as argument
use Rattle.tdl_rows.proofs.Gained.{Gains-none, Gains-append}
use Rattle.tdl_mini_rows.specs.inside.Bounds.{argument_values}
use Rattle.tdl_mini_rows.proofs.Accepted.{numbers_in}
use Rattle.tdl_mini_rows.proofs.BuiltArguments.{argument_all}
use Rattle.tdl_combinator.specs.declared.funs.Fun.TheVariants.{Euclid}
use Rattle.tdl_combinator.specs.Funs.{IsRhythm}
use Rattle.tdl_combinator.specs.TreeFun as made
use Rattle.tdl_combinator.proofs.FunRows.{number_row, number_after, unused_number}
use Rattle.tdl_command.specs.Tree.{Count, whole, counted, euclid, euclid_off}
use Rattle.tdl_mini_tree.specs.Reading.{read, unread}
use Rattle.tdl_command.specs.Rules.{count_values, has_rhythms, has_rhythms_from}
use Rattle.tdl_prepare.specs.Numbers.{count_built}
use Rattle.tdl_prepare.specs.Built.{fun_built}
use Rattle.tdl_prepare.specs.inside.Views.{LowersNumber, LowersFun}
use Rattle.tdl_prepare.proofs.Sequences.{kept_rows}

abbrev numbers : Count → List Rational
numbers n = argument_values (count_built n).value

-- what all values of a count pass, its numbers pass
count_all : (p : Rational → Bool) (n : Count) → IsTrue (list_all p (count_values n)) → IsTrue (list_all p (numbers n))
count_all p (whole n) h = h
count_all p (counted (read k ls)) h = argument_all p ls h
count_all p (counted (unread kind at)) h = argument_all p no_layer refl

all_more : (p q : Rational → Bool) (xs : List Rational) → ((x : Rational) → IsTrue (p x) → IsTrue (q x)) → IsTrue (list_all p xs) → IsTrue (list_all q xs)
all_more p q [] f h = refl
all_more p q (x ∷ xs) f h =
    let (first, rest) = and_parts (p x) (list_all p xs) h in
    and_from (q x) (list_all q xs) (f x first) (all_more p q xs f rest)

accepted : (k n : Count) → IsTrue (has_rhythms k n) → IsTrue (is_accepted (numbers k) (numbers n))
accepted k n h =
    let some : List Rational → Rational → Bool = λ ns x. list_all (λ y. has_rhythm x.num y.num) ns in
    count_all (some (numbers n)) k
    (all_more (some (count_values n)) (some (numbers n)) (count_values k) (λ x v. count_all (λ y. has_rhythm x.num y.num) n v) h)

-- each rhythm that is accepted, from each number of bounded parts
among : (hits steps from : List Rational) → (0 < length from → IsTrue (is_accepted hits steps)) → All HasBoundedParts from → AllAmong IsRhythm hits steps from
among hits steps from all bounded = λ i k h j n g l r f.
    let row = AllPass-from_list_all (λ (k : Rational). list_all (λ n. has_rhythm k.num n.num) steps) hits (all (omega arith)) i k h in
    let one = AllPass-from_list_all (λ (n : Rational). has_rhythm (get_or hits i k).num n.num) steps row j n g in
    (one, (bounded l r f).near)

no_values : (xs : List Rational) → IsTrue (list_all (λ x. false) xs) → xs ≡ []
no_values [] h = refl
no_values (x ∷ xs) h = (cc)

-- without a value where to begin there is no number
some_values : (r : Count) (hits steps : List Rational) → IsTrue (is_accepted_from hits steps (count_values r)) → 0 < length (numbers r)
    → IsTrue (is_accepted hits steps)
some_values r hits steps h lt = by (count_values r) refl h
  where
    by : (from : List Rational) → count_values r ≡ from → IsTrue (is_accepted_from hits steps from) → IsTrue (is_accepted hits steps)
    by [] e all =
        let P : List Rational → Type 0 = λ xs. IsTrue (list_all (λ x. false) xs) in
        let none : numbers r ≡ [] = no_values (numbers r) (count_all (λ x. false) r (subst P (sym e) refl)) in
        absurd (omega (arith, ap (λ (xs : List Rational). length xs) none))
    by (x ∷ from) e all = all

values_of_number : {old mid : List Node} {b : Built Argument} (a : Arg) → LowersNumber old mid b a → argument_values b.value ≡ numbers_of a
values_of_number {mid = mid} a made = ap argument_values (sym made.is) ∙ numbers_in mid a

module _ {old one two new : List Node} (k n r : Arg) (hits steps from : Count) (rhythms : IsTrue (has_rhythms_from hits steps from))
    (first : LowersNumber old one (count_built hits) k) (second : LowersNumber one two (count_built steps) n)
    (third : LowersNumber two new (count_built from) r) where
  each_rhythm : AllAmong IsRhythm (numbers_of k) (numbers_of n) (numbers_of r)
  each_rhythm =
      let P : List Rational → Type 0 = λ ks. AllAmong IsRhythm ks (numbers_of n) (numbers_of r) in
      let Q : List Rational → Type 0 = λ ns. AllAmong IsRhythm (numbers hits) ns (numbers_of r) in
      let R : List Rational → Type 0 = λ rs. 0 < length rs → IsTrue (is_accepted (numbers hits) (numbers steps)) in
      let begins : 0 < length (numbers from) → IsTrue (is_accepted (numbers hits) (numbers steps)) =
      λ lt. accepted hits steps (some_values from (count_values hits) (count_values steps) rhythms lt) in
      let each = among (numbers hits) (numbers steps) (numbers_of r) (subst R (values_of_number r third) begins) third.number.bounded in
      subst P (values_of_number k first) (subst Q (values_of_number n second) each)

  pub rhythm_from : LowersFun old new (fun_built (euclid_off hits steps from)) (Euclid k n r)
  rhythm_from =
      let later = Gains-append second.gains third.gains in
      let at_k = number_after later k first.number ∙ first.is in
      let at_n = number_after third.gains n second.number ∙ second.is in
      record {
        of_rows = record {
          hits = (number_row later k first.number).is;
          steps = (number_row third.gains n second.number).is;
          from = third.number.is;
          each = each_rhythm;
        };
        is = ap (λ (a : Argument). made.Euclid a (argument_at new n) (argument_at new r)) at_k
            ∙ (ap (λ (a : Argument). made.Euclid (count_built hits).value a (argument_at new r)) at_n
            ∙ ap (λ (a : Argument). made.Euclid (count_built hits).value (count_built steps).value a) third.is);
        gains = Gains-append first.gains (Gains-append second.gains (kept_rows (count_built from).rows third.gains));
      }

-- a rhythm that begins at its first step
pub rhythm_is : {old one two : List Node} (k n : Arg) (zero_is : Rational) (hits steps : Count) → IsTrue (has_rhythms hits steps)
    → zero_is ≡ rational.whole (pos 0)
    → LowersNumber old one (count_built hits) k → LowersNumber one two (count_built steps) n
    → LowersFun old two (fun_built (euclid hits steps)) (Euclid k n (Plain zero_is))
rhythm_is {two = two} k n zero_is hits steps rhythms e first second =
    rhythm_from k n (Plain zero_is) hits steps (whole 0) rhythms first second
    (record { number = unused_number two zero_is e; is = ap argument.plain e; gains = Gains-none two })
