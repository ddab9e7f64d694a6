-- Parts of valid trees: the changes of a step, the braces and the last part of an operand, and arguments in
-- either of their kinds.
use Rattle.std.proofs.Common.{◌≡◌, Bool, true, ◌&&◌, Some, None, List, [], ◌∷◌, ◌++◌, IsTrue, refl, sym, ◌∙◌, subst}
use Rattle.std.specs.List.{All, fold, list_all}
use Rattle.std.proofs.lemmas.Bool.{and_parts, and_from}
use Rattle.std.proofs.lemmas.List.Folds.{list_all-append}
use Rattle.tdl_mini_tree.specs.declared.leaves.Kind.{Kind}
use Rattle.tdl_mini_tree.specs.declared.leaves.Kind.TheVariants.{Sound, Note, Int, Word, Bool as Truths, Count, Ratio}
use Rattle.tdl_mini_tree.specs.declared.leaves.Bracket.{Bracket}
use Rattle.tdl_mini_tree.specs.declared.leaves.Number.{Number as Numeral}
use Rattle.tdl_mini_tree.specs.declared.tree.NestId.{NestId}
use Rattle.tdl_mini_tree.specs.declared.tree.Last.{Last}
use Rattle.tdl_mini_tree.specs.declared.tree.Last.TheVariants.{Number, Nest}
use Rattle.tdl_mini_tree.specs.declared.tree.StepChange.{StepChange}
use Rattle.tdl_mini_tree.specs.declared.tree.StepChange.TheVariants.{Fast, Slow, Euclid}
use Rattle.tdl_mini_tree.specs.declared.tree.MiniStep.{MiniStep}
use Rattle.tdl_mini_tree.specs.Tree as tree
use Rattle.tdl_mini_tree.specs.Tree.{kind_after}
use Rattle.tdl_mini_tree.specs.Values.{values_of, is_accepted, is_accepted_from}
use Rattle.tdl_mini_tree.specs.Valid.{is_valid, is_valid_step, is_valid_operand, is_valid_braces, is_factor}
use Rattle.tdl_mini_tree.specs.View.{named, step_of, term_of, operand_of, operand_with, braces_of, changed}
use Rattle.tdl_mini_tree.proofs.CountRatio.{valid_ratio}
use Rattle.tdl_mini_rows.specs.Arguments.{is_argument}
use Rattle.tdl_mini_rows.specs.inside.Bounds.{is_change}
use Rattle.tdl_mini_tree.proofs.ValidParts.{and_four, fold_item, step_before, braces_valid}

pub from_three : (a b c : Bool) → IsTrue a → IsTrue b → IsTrue c → IsTrue (a && b && c)
from_three a b c p q r = and_from (a && b) c (and_from a b p q) r

-- a text of either kind of arguments is one of kind Ratio
pub argument_valid : (kind : Kind) (ls : tree.Layers) → IsTrue (is_argument kind) → IsTrue (is_valid kind ls) → IsTrue (is_valid Ratio ls)
argument_valid Sound ls e h = (cc)
argument_valid (Note key) ls e h = (cc)
argument_valid (Int key) ls e h = (cc)
argument_valid (Word key) ls e h = (cc)
argument_valid Truths ls e h = (cc)
argument_valid Count ls e h = valid_ratio ls h
argument_valid Ratio ls e h = h

-- the kind of a factor's brackets
pub after-ratio : (bs : tree.Braces) → kind_after Ratio bs ≡ Ratio
after-ratio tree.no_brace = refl
after-ratio (tree.brace bs ls) = refl

pub after_valid : (bs : tree.Braces) (ls : tree.Layers) → IsTrue (is_valid (kind_after Ratio bs) ls) → IsTrue (is_valid Ratio ls)
after_valid bs ls h = let P : Kind → Type 0 = λ kind. IsTrue (is_valid kind ls) in subst P (after-ratio bs) h

valid_after : (bs : tree.Braces) (ls : tree.Layers) → IsTrue (is_valid Ratio ls) → IsTrue (is_valid (kind_after Ratio bs) ls)
valid_after bs ls h = let P : Kind → Type 0 = λ kind. IsTrue (is_valid kind ls) in subst P (sym (after-ratio bs)) h

module _ (kind : Kind) (trees : List tree.Layers) where
  one_change : (s : tree.MiniStep) (c : StepChange) → IsTrue (is_valid_step kind (changed trees s c)) → IsTrue (is_change trees c)
  one_change s (Fast o) h = (and_parts (is_valid_step kind s) (is_valid_operand Ratio (operand_of trees o)) h).1
  one_change s (Slow o) h = (and_parts (is_valid_step kind s) (is_valid_operand Ratio (operand_of trees o)) h).1
  one_change s (Euclid k n None) h =
      let accepted = is_accepted (values_of (named trees k)) (values_of (named trees n)) in
      let (before, hits, steps, last) = and_four (is_valid_step kind s) (is_valid Count (named trees k)) (is_valid Count (named trees n)) accepted h in
      and_from (is_valid Ratio (named trees k) && is_valid Ratio (named trees n) && true) accepted
      (from_three (is_valid Ratio (named trees k)) (is_valid Ratio (named trees n)) true (valid_ratio (named trees k) hits)
      (valid_ratio (named trees n) steps) refl)
      last
  one_change s (Euclid k n (Some r)) h =
      let accepted = is_accepted_from (values_of (named trees k)) (values_of (named trees n)) (values_of (named trees r)) in
      let (all, last) =
      and_parts (is_valid_step kind s && is_valid Count (named trees k) && is_valid Count (named trees n) && is_valid Count (named trees r)) accepted h
      in
      let (before, hits, steps, from) = and_four (is_valid_step kind s) (is_valid Count (named trees k)) (is_valid Count (named trees n))
      (is_valid Count (named trees r)) all in
      and_from (is_valid Ratio (named trees k) && is_valid Ratio (named trees n) && is_valid Ratio (named trees r)) accepted
      (from_three (is_valid Ratio (named trees k)) (is_valid Ratio (named trees n)) (is_valid Ratio (named trees r)) (valid_ratio (named trees k) hits)
      (valid_ratio (named trees n) steps) (valid_ratio (named trees r) from))
      last

  -- each change of a valid step
  pub changes_valid : (s : MiniStep) → IsTrue (is_valid_step kind (step_of trees s)) → All (λ c. IsTrue (is_change trees c)) s.changes.items
  changes_valid s v = fold_item (changed trees) (λ s. IsTrue (is_valid_step kind s)) (λ c. IsTrue (is_change trees c)) (step_before kind trees) one_change
      (tree.begins (term_of trees s.term)) s.changes.items v

  abbrev and_brace : tree.Braces → NestId → tree.Braces
  and_brace bs id = tree.brace bs (named trees id)

  -- after a brace the kind is that of factors
  later_kind : (bs : tree.Braces) (ids : List NestId) → kind_after kind bs ≡ Ratio → kind_after kind (fold and_brace bs ids) ≡ Ratio
  later_kind bs [] e = e
  later_kind bs (id ∷ ids) e = later_kind (and_brace bs id) ids refl

  braces_on : (a b : tree.Braces) (ids : List NestId) → kind_after kind a ≡ Ratio → (IsTrue (is_valid_braces kind a) → IsTrue (is_valid_braces Ratio b))
      → IsTrue (is_valid_braces kind (fold and_brace a ids)) → IsTrue (is_valid_braces Ratio (fold and_brace b ids))
  braces_on a b [] e f h = f h
  braces_on a b (id ∷ ids) e f h =
      let l = named trees id in
      let P : Kind → Type 0 = λ k. IsTrue (is_valid k l) in
      braces_on (tree.brace a l) (tree.brace b l) ids refl
      (λ v. let (before, item) = and_parts (is_valid_braces kind a) (is_valid (kind_after kind a) l) v in
      and_from (is_valid_braces Ratio b) (is_valid (kind_after Ratio b) l) (f before) (valid_after b l (subst P e item)))
      h

  braces_after : (id : NestId) (ids : List NestId) → IsTrue (is_valid_braces kind (braces_of trees (id ∷ ids)))
      → IsTrue (is_valid_braces Ratio (braces_of trees ids))
  braces_after id ids h = braces_on (tree.brace tree.no_brace (named trees id)) tree.no_brace ids refl (λ v. refl) h

  -- what follows the first brace of a valid operand, as a factor
  pub others_valid : (id : NestId) (ids : List NestId) (last : Last) → IsTrue (is_valid_operand kind (operand_with trees (braces_of trees (id ∷ ids)) last))
      → IsTrue (is_valid_operand Ratio (operand_with trees (braces_of trees ids) last))
  others_valid id ids (Number n) h =
      let (braces, factor) = and_parts (is_valid_braces kind (braces_of trees (id ∷ ids))) (is_factor n) h in
      and_from (is_valid_braces Ratio (braces_of trees ids)) (is_factor n) (braces_after id ids braces) factor
  others_valid id ids (Nest shape nest) h =
      let l = named trees nest in
      let P : Kind → Type 0 = λ k. IsTrue (is_valid k l) in
      let (braces, inner) = and_parts (is_valid_braces kind (braces_of trees (id ∷ ids))) (is_valid (kind_after kind (braces_of trees (id ∷ ids))) l) h in
      and_from (is_valid_braces Ratio (braces_of trees ids)) (is_valid (kind_after Ratio (braces_of trees ids)) l)
      (braces_after id ids braces)
      (valid_after (braces_of trees ids) l (subst P (later_kind (tree.brace tree.no_brace (named trees id)) ids refl) inner))

  -- the number at the end of a valid operand
  pub number_valid : (ids : List NestId) (last : Last) (n : Numeral) → last ≡ Number n
      → IsTrue (is_valid_operand kind (operand_with trees (braces_of trees ids) last)) → IsTrue (is_factor n)
  number_valid ids last n e h =
      let P : Last → Type 0 = λ l. IsTrue (is_valid_operand kind (operand_with trees (braces_of trees ids) l)) in
      (and_parts (is_valid_braces kind (braces_of trees ids)) (is_factor n) (subst P e h)).1

module _ (trees : List tree.Layers) where
  abbrev pub are_valid : List NestId → Bool
  are_valid ids = list_all (λ id. is_valid Ratio (named trees id)) ids

  factors_on : (bs : tree.Braces) (ids : List NestId) → IsTrue (is_valid_braces Ratio (fold (λ bs id. tree.brace bs (named trees id)) bs ids))
      → IsTrue (is_valid_braces Ratio bs) × IsTrue (are_valid ids)
  factors_on bs [] h = (h, refl)
  factors_on bs (id ∷ ids) h =
      let l = named trees id in
      let (first, rest) = factors_on (tree.brace bs l) ids h in
      let (before, item) = and_parts (is_valid_braces Ratio bs) (is_valid (kind_after Ratio bs) l) first in
      (before, and_from (is_valid Ratio l) (are_valid ids) (after_valid bs l item) rest)

  -- the braces of a factor
  pub factors_valid : (ids : List NestId) (last : Last) → IsTrue (is_valid_operand Ratio (operand_with trees (braces_of trees ids) last))
      → IsTrue (are_valid ids)
  factors_valid ids last h = (factors_on tree.no_brace ids (braces_valid Ratio trees ids last h)).1

  -- the bracket at the end of a factor
  pub nested_valid : (ids : List NestId) (last : Last) (shape : Bracket) (nest : NestId) → last ≡ Nest shape nest
      → IsTrue (is_valid_operand Ratio (operand_with trees (braces_of trees ids) last)) → IsTrue (is_valid Ratio (named trees nest))
  nested_valid ids last shape nest e h =
      let P : Last → Type 0 = λ l. IsTrue (is_valid_operand Ratio (operand_with trees (braces_of trees ids) l)) in
      let (braces, inner) = and_parts (is_valid_braces Ratio (braces_of trees ids)) (is_valid (kind_after Ratio (braces_of trees ids)) (named trees nest))
      (subst P e h) in
      after_valid (braces_of trees ids) (named trees nest) inner

  -- the last of valid braces, and those before it
  pub ends_valid : (ids before : List NestId) (id : NestId) → ids ≡ before ++ id ∷ [] → IsTrue (are_valid ids) → IsTrue (are_valid before)
      × IsTrue (is_valid Ratio (named trees id))
  ends_valid ids before id e h =
      let P : List NestId → Type 0 = λ xs. IsTrue (are_valid xs) in
      let split = sym (list_all-append (λ (x : NestId). is_valid Ratio (named trees x)) before (id ∷ [])) ∙ subst P e h in
      let (first, last) = and_parts (are_valid before) (are_valid (id ∷ [])) split in
      (first, (and_parts (is_valid Ratio (named trees id)) true last).0)
