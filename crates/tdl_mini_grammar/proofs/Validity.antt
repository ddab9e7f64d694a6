-- The tree of a text of the grammar whose tokens are small is valid.
--     valid_of_text    from the tokens of a text
--     valid_of_mini    from a text
use Rattle.std.proofs.Common.{◌≡◌, ℕ, suc, ◌+◌, true, ◌&&◌, nat_le, Option, Some, None, List, IsTrue, refl, sym, subst, arith}
use Rattle.std.specs.List.{list_all}
use Rattle.std.proofs.lemmas.Bool.Decides.{nat_tests}
use Rattle.std.proofs.lemmas.Bool.{and_from, and_parts}
use Rattle.tdl_mini_tree.specs.declared.leaves.Number.{Number}
use Rattle.tdl_mini_tree.specs.declared.leaves.Kind.{Kind}
use Rattle.tdl_mini_tree.specs.declared.leaves.Kind.TheVariants.{Count, Ratio}
use Rattle.tdl_mini_tree.specs.Numbers.{is_ratio, is_count, is_weight}
use Rattle.tdl_mini_tree.specs.Sizes.{size_of, steps_of, groups_of, is_within}
use Rattle.tdl_mini_tree.specs.Values.{values_of, is_accepted, is_accepted_from}
use Rattle.tdl_mini_machine.specs.Tokens.{Tok}
use Rattle.tdl_mini_grammar.specs.Spelling.{dot_after, weight_pieces, count_pieces, layers_pieces, sequence_pieces, group_pieces, element_pieces}
use Rattle.tdl_mini_grammar.specs.Spelling.{step_pieces, term_pieces, operand_pieces, braces_pieces, spell, terminals}
use Rattle.tdl_mini_tree.specs.Tree.{kind_after}
use Rattle.tdl_mini_grammar.specs.Faults.{IsText}
use Rattle.tdl_mini_grammar.specs.Texts.{IsMini}
use Rattle.tdl_mini_tree.specs.Tree as tree
use Rattle.tdl_mini_tree.specs.Limits.{max_steps, max_groups}
use Rattle.tdl_mini_grammar.specs.Grammar.{Formed, FormedSequence, FormedGroup, FormedElement, FormedStep, FormedTerm, FormedOperand, FormedBraces}
use Rattle.tdl_mini_tree.specs.Valid.{fits_key, is_small, is_numeral, is_small_sequence, is_light, is_shallow, is_weight_or_none, is_count_or_none}
use Rattle.tdl_mini_tree.specs.Valid.{is_valid, is_valid_sequence, is_valid_group, is_valid_element, is_valid_step, is_valid_term, is_valid_operand}
use Rattle.tdl_mini_tree.specs.Valid.{is_valid_braces}
use Rattle.tdl_mini_grammar.proofs.DepthLemmas.{formed_shallow}
use Rattle.tdl_mini_grammar.proofs.TextsRead.{toks_are}
use Rattle.tdl_mini_grammar.proofs.SmallTokens.{is_small_tok, small_tokens}
use Rattle.tdl_mini_grammar.proofs.KindValues.{Fine, fine_pieces, all_good, good_number, value_valid, first_valid, last_valid, after_key}

-- ---- sizes
few_groups : (s : tree.Sequence) (g : tree.Group) → Fine (dot_after s) → nat_le (groups_of (tree.group s g)) max_groups ≡ true
few_groups tree.no_group g fine = refl
few_groups (tree.group s h) g fine = (and_parts (nat_le (groups_of (tree.group (tree.group s h) g)) max_groups) true fine.1).0

weight_valid : (weight : Option Number) → Fine (weight_pieces weight) → is_weight_or_none weight ≡ true
weight_valid None fine = refl
weight_valid (Some n) fine = and_from (is_weight n) (is_small n) (and_parts (is_weight n) true fine.1.1).0 (good_number n fine.1.0)

count_valid : (s : tree.Sequence) (g : tree.Group) (times : Option Number) → Fine (count_pieces s g times) → is_count_or_none times ≡ true
count_valid s g None fine = refl
count_valid s g (Some n) fine = (and_parts (is_count n) true fine.0.1.1).0

-- the rules on an element end with that on the size of the group that it ends
element_within : (kind : Kind) (s : tree.Sequence) (g : tree.Group) (e : tree.Element) → Fine (element_pieces kind s g e)
    → is_within (steps_of s) (size_of (tree.element g e)) ≡ true
element_within kind s g (tree.played step weight None) fine = (and_parts _ true fine.0.1).0
element_within kind s g (tree.played step weight (Some n)) fine = (and_parts _ true fine.1.1).0
element_within kind s g (tree.range a b) fine = (and_parts _ true fine.1).0
element_within kind s g tree.hold fine = (and_parts _ true fine.1).0
element_within kind s g tree.repeat fine = (and_parts _ true fine.1).0

-- the steps of a sequence are as few as they may be, by the rule on its last element
steps_before : (kind : Kind) (s : tree.Sequence) → IsTrue (is_valid_sequence kind s) → nat_le (steps_of s + 0) max_steps ≡ true
steps_before kind tree.no_group valid = refl
steps_before kind (tree.group s g) valid =
    let small = (and_parts (is_valid_sequence kind s && is_valid_group kind g) (is_small_sequence (tree.group s g)) valid).1 in
    let few = (and_parts (nat_le (steps_of (tree.group s g)) max_steps) (nat_le (groups_of (tree.group s g)) max_groups) small).0 in
    grind (arith, nat_tests)

few_steps : (kind : Kind) (s : tree.Sequence) (g : tree.Group) → IsTrue (is_valid_sequence kind s) → Fine (group_pieces kind s g)
    → nat_le (steps_of (tree.group s g)) max_steps ≡ true
few_steps kind s tree.no_element valid fine = steps_before kind s valid
few_steps kind s (tree.element g e) valid fine =
    (and_parts (nat_le (steps_of s + (size_of (tree.element g e)).steps) max_steps) _ (element_within kind s g e fine.1)).0

-- ---- trees
mutual
  layers_valid : (kind : Kind) (depth : ℕ) (ls : tree.Layers) → IsTrue (fits_key kind) → Formed kind depth ls → Fine (layers_pieces kind ls)
      → IsTrue (is_valid kind ls)
  layers_valid kind depth tree.no_layer key formed fine = refl
  layers_valid kind depth (tree.layer ls s) key formed fine =
      and_from (is_valid kind ls && is_valid_sequence kind s) (is_shallow (tree.layer ls s))
      (and_from (is_valid kind ls) (is_valid_sequence kind s) (layers_valid kind depth ls key formed.0 fine.0)
      (sequence_valid kind depth s key formed.2 fine.1.1))
      (formed_shallow kind depth (tree.layer ls s) formed)

  sequence_valid : (kind : Kind) (depth : ℕ) (s : tree.Sequence) → IsTrue (fits_key kind) → FormedSequence kind depth s
      → Fine (sequence_pieces kind s) → IsTrue (is_valid_sequence kind s)
  sequence_valid kind depth tree.no_group key formed fine = refl
  sequence_valid kind depth (tree.group s g) key formed fine =
      let before = sequence_valid kind depth s key formed.0 fine.0 in
      and_from (is_valid_sequence kind s && is_valid_group kind g) (is_small_sequence (tree.group s g))
      (and_from (is_valid_sequence kind s) (is_valid_group kind g) before (group_valid kind depth s g key formed.1 fine.1.1))
      (and_from (nat_le (steps_of (tree.group s g)) max_steps) (nat_le (groups_of (tree.group s g)) max_groups) (few_steps kind s g before fine.1.1)
      (few_groups s g fine.1.0))

  group_valid : (kind : Kind) (depth : ℕ) (s : tree.Sequence) (g : tree.Group) → IsTrue (fits_key kind) → FormedGroup kind depth g
      → Fine (group_pieces kind s g) → IsTrue (is_valid_group kind g)
  group_valid kind depth s tree.no_element key formed fine = refl
  group_valid kind depth s (tree.element g e) key formed fine =
      and_from (is_valid_group kind g && is_valid_element kind e) (is_light (tree.element g e))
      (and_from (is_valid_group kind g) (is_valid_element kind e) (group_valid kind depth s g key formed.0 fine.0)
      (element_valid kind depth s g e key formed.2 fine.1))
      (and_parts (nat_le (steps_of s + (size_of (tree.element g e)).steps) max_steps) (is_light (tree.element g e)) (element_within kind s g e fine.1)).1

  element_valid : (kind : Kind) (depth : ℕ) (s : tree.Sequence) (g : tree.Group) (e : tree.Element) → IsTrue (fits_key kind) → FormedElement kind depth e
      → Fine (element_pieces kind s g e) → IsTrue (is_valid_element kind e)
  element_valid kind depth s g (tree.played step weight times) key formed fine =
      and_from (is_valid_step kind step && is_weight_or_none weight) _
      (and_from (is_valid_step kind step) (is_weight_or_none weight) (step_valid kind depth step key formed fine.0.0.0) (weight_valid weight fine.0.0.1))
      (count_valid s (tree.element g (tree.played step weight times)) times fine.1)
  element_valid kind depth s g (tree.range a b) key formed fine =
      let first = first_valid kind a key fine.0.0.0 fine.0.0.1 in
      and_from (is_numeral kind a) (is_numeral kind b) first (last_valid kind a b first fine.0.1.1.0 fine.0.1.1.1)
  element_valid kind depth s g tree.hold key formed fine = refl
  element_valid kind depth s g tree.repeat key formed fine = refl

  step_valid : (kind : Kind) (depth : ℕ) (s : tree.MiniStep) → IsTrue (fits_key kind) → FormedStep kind depth s → Fine (step_pieces kind s)
      → IsTrue (is_valid_step kind s)
  step_valid kind depth (tree.begins t) key formed fine = term_valid kind depth t key formed fine
  step_valid kind depth (tree.fast s o) key formed fine =
      and_from (is_valid_step kind s) (is_valid_operand Ratio o) (step_valid kind depth s key formed.0 fine.0)
      (operand_valid Ratio depth o refl formed.1 fine.1.1)
  step_valid kind depth (tree.slow s o) key formed fine =
      and_from (is_valid_step kind s) (is_valid_operand Ratio o) (step_valid kind depth s key formed.0 fine.0)
      (operand_valid Ratio depth o refl formed.1 fine.1.1)
  step_valid kind depth (tree.euclid s k n) key formed fine =
      and_from (is_valid_step kind s && is_valid Count k && is_valid Count n) _
      (and_from (is_valid_step kind s && is_valid Count k) _
      (and_from (is_valid_step kind s) (is_valid Count k) (step_valid kind depth s key formed.0 fine.0)
      (layers_valid Count (suc depth) k refl formed.3 fine.1.1.0))
      (layers_valid Count (suc depth) n refl formed.5 fine.1.1.1.1.0))
      (and_parts (is_accepted (values_of k) (values_of n)) true fine.1.1.1.1.1.1).0
  step_valid kind depth (tree.euclid_from s k n r) key formed fine =
      and_from (is_valid_step kind s && is_valid Count k && is_valid Count n && is_valid Count r) _
      (and_from (is_valid_step kind s && is_valid Count k && is_valid Count n) _
      (and_from (is_valid_step kind s && is_valid Count k) _
      (and_from (is_valid_step kind s) (is_valid Count k) (step_valid kind depth s key formed.0 fine.0)
      (layers_valid Count (suc depth) k refl formed.3 fine.1.1.0))
      (layers_valid Count (suc depth) n refl formed.5 fine.1.1.1.1.0))
      (layers_valid Count (suc depth) r refl formed.7 fine.1.1.1.1.1.1.0))
      (and_parts (is_accepted_from (values_of k) (values_of n) (values_of r)) true fine.1.1.1.1.1.1.1.1).0

  term_valid : (kind : Kind) (depth : ℕ) (t : tree.Term) → IsTrue (fits_key kind) → FormedTerm kind depth t → Fine (term_pieces kind t)
      → IsTrue (is_valid_term kind t)
  term_valid kind depth (tree.value v) key formed fine = value_valid kind v key fine
  term_valid kind depth tree.rest key formed fine = refl
  term_valid kind depth (tree.bracketed o) key formed fine = operand_valid kind depth o key formed.1 fine

  operand_valid : (kind : Kind) (depth : ℕ) (o : tree.Operand) → IsTrue (fits_key kind) → FormedOperand kind depth o → Fine (operand_pieces kind o)
      → IsTrue (is_valid_operand kind o)
  operand_valid kind depth (tree.scaled bs n) key formed fine =
      and_from (is_valid_braces kind bs) _ (braces_valid kind depth bs key formed fine.0)
      (and_from (is_ratio n) (is_small n) (and_parts (is_ratio n) true fine.1.1).0 (good_number n fine.1.0))
  operand_valid kind depth (tree.nested bs shape ls) key formed fine =
      and_from (is_valid_braces kind bs) _ (braces_valid kind depth bs key formed.0 fine.0)
      (layers_valid (kind_after kind bs) (suc depth) ls (after_key kind bs key) formed.3 fine.1.1.0)

  braces_valid : (kind : Kind) (depth : ℕ) (bs : tree.Braces) → IsTrue (fits_key kind) → FormedBraces kind depth bs → Fine (braces_pieces kind bs)
      → IsTrue (is_valid_braces kind bs)
  braces_valid kind depth tree.no_brace key formed fine = refl
  braces_valid kind depth (tree.brace bs ls) key formed fine =
      and_from (is_valid_braces kind bs) _ (braces_valid kind depth bs key formed.0 fine.0)
      (layers_valid (kind_after kind bs) (suc depth) ls (after_key kind bs key) formed.3 fine.1.1.0)

-- ---- texts
pub valid_of_text : (kind : Kind) (toks : List Tok) (ls : tree.Layers) → IsTrue (fits_key kind) → IsTrue (list_all is_small_tok toks) → IsText kind toks ls
    → IsTrue (is_valid kind ls)
valid_of_text kind toks ls key small is =
    let good = all_good (terminals (spell kind ls)) toks is.reads.spelled small in
    layers_valid kind 0 ls key is.reads.formed (fine_pieces 0 (spell kind ls) good is.held).0

pub valid_of_mini : (kind : Kind) (text : List ℕ) (ls : tree.Layers) → IsTrue (fits_key kind) → IsMini kind text ls → IsTrue (is_valid kind ls)
valid_of_mini kind text ls key h =
    let small = subst (λ (ts : List Tok). IsTrue (list_all is_small_tok ts)) (sym (toks_are text h.tokens h.toks h.tokenized.are))
    (small_tokens text h.tokens h.tokenized.cut) in
    valid_of_text kind h.toks ls key small h.is
