-- What is known of the parts of a valid tree, and of what they were lowered to, at the calls that come next.
use Rattle.std.proofs.Common.{◌≡◌, ℕ, ◌<◌, ◌≤◌, ◌^◌, arith, Bool, Option, List, ◌∷◌, length, take, get_or, IsTrue, sym, ap, ◌∙◌, subst}
use Rattle.std.specs.List.{list_all}
use Rattle.std.proofs.lemmas.List.{length-map}
use Rattle.tdl_fraction.specs.Rational.{Rational}
use Rattle.tdl_expr.specs.declared.args.Arg.{Arg}
use Rattle.tdl_expr.specs.declared.nodes.Node.{Node}
use Rattle.tdl_mini_tree.specs.declared.leaves.Kind.{Kind}
use Rattle.tdl_mini_tree.specs.declared.leaves.Kind.TheVariants.{Ratio}
use Rattle.tdl_mini_tree.specs.declared.tree.NestId.{NestId}
use Rattle.tdl_mini_tree.specs.declared.tree.Layers.{Layers}
use Rattle.tdl_mini_tree.specs.declared.tree.Sequence.{Sequence}
use Rattle.tdl_mini_tree.specs.declared.tree.Element.{Element}
use Rattle.tdl_mini_tree.specs.declared.tree.MiniStep.{MiniStep}
use Rattle.tdl_mini_tree.specs.declared.tree.Operand.{Operand}
use Rattle.tdl_mini_tree.specs.declared.tree.Last.{Last}
use Rattle.tdl_mini_tree.specs.declared.tree.StepChange.{StepChange}
use Rattle.tdl_mini_tree.specs.declared.tree.StepChange.TheVariants.{Slow, Euclid}
use Rattle.tdl_mini_tree.specs.Tree as tree
use Rattle.tdl_mini_tree.specs.Valid.{is_valid, is_valid_sequence, is_valid_group, is_valid_step, is_valid_operand}
use Rattle.tdl_mini_tree.specs.Values.{values_of, is_accepted_from}
use Rattle.tdl_mini_tree.specs.View.{trees_of, named, sequence_of, group_of, step_of, operand_with, braces_of}
use Rattle.tdl_mini_rows.specs.declared.joins.WeightedRow.{WeightedRow as Placed}
use Rattle.tdl_mini_rows.specs.declared.paces.Finish.{Finish as Way}
use Rattle.tdl_mini_rows.specs.declared.paces.Finish.TheVariants.{InTurn, AtPace, CycleEach}
use Rattle.tdl_rows.specs.Built.{Built}
use Rattle.tdl_rows.specs.Joined.{Weighted, Argument}
use Rattle.tdl_mini_rows.specs.Leaves.{Play, distinct}
use Rattle.tdl_mini_rows.specs.Lowered.{Finish, layers_built, sequence_built, group_built, factor_built, argument_of}
use Rattle.tdl_rows.specs.Chosen.{AllAmong}
use Rattle.tdl_rows.specs.Arguments.{argument_at, LowersArg}
use Rattle.tdl_mini_rows.specs.inside.Views.{finish_with, step_at, steps_at, LowersSteps}
use Rattle.tdl_mini_rows.specs.inside.Changes.{from_built}
use Rattle.std.proofs.Common.{nat_abs, ◌^◌}
use Rattle.tdl_euclid.specs.Refusal.{has_rhythm}
use Rattle.tdl_rows.specs.Arguments.{numbers_of}
use Rattle.tdl_mini_rows.proofs.Accepted.{numbers_in, rhythms_taken}
use Rattle.tdl_mini_rows.specs.inside.Bounds.{are_rates, is_rate, argument_values, AreShares, AreShort, AreSequences, is_change, is_from, is_accepted_at}
use Rattle.tdl_rows.proofs.Gained.{Gains-append}
use Rattle.tdl_rows.specs.Stays.{argument_after}
use Rattle.tdl_mini_tree.proofs.ValidParts.{and_four, sequence_at, elements_prefix}
use Rattle.tdl_mini_tree.proofs.Named.{named_valid}
use Rattle.tdl_mini_rows.proofs.ValidSteps.{changes_valid, others_valid}
use Rattle.tdl_mini_rows.proofs.BuiltBounds.{group-shares, sequence-shares, layers-little, shares-at, short-at, sequences-short}
use Rattle.tdl_mini_rows.proofs.BuiltCounts.{Fills, layers-cover, fills-in_turn, fills-at_pace, fills-a_cycle_each}
use Rattle.tdl_mini_rows.proofs.DistinctValues.{length-distinct}
use Rattle.tdl_mini_rows.proofs.RowCounts.{rows-few}
use Rattle.tdl_mini_rows.proofs.BuiltArguments.{factor_rates, from_rates, accepted_built}

-- each sequence of valid layers that are named
pub nest_sequence : (kind : Kind) (nests : List Layers) (id : NestId) (item : Layers) (read : List Sequence) (i : ℕ) (s : Sequence)
    → id.index < length nests → item ≡ get_or nests id.index item → read ≡ (get_or nests id.index item).sequences.items → i < length read
    → s ≡ get_or read i s → IsTrue (is_valid kind (named (trees_of nests) id))
    → IsTrue (is_valid_sequence kind (sequence_of (trees_of (take id.index nests)) s.groups.items))
nest_sequence kind nests id item read i s within is read_is at here v =
    sequence_at kind (trees_of (take id.index nests)) item.sequences.items read i s
    (read_is ∙ ap (λ (ls : Layers). ls.sequences.items) (sym is)) at here
    (named_valid nests id item within is kind v)

module _ {old new : List Node} (kind : Kind) (play : Play) where
  -- the steps of a valid sequence are shares
  pub sequence_lowered : (s : tree.Sequence) (items others : List Placed) → others ≡ items → LowersSteps old new (sequence_built play s) items
      → IsTrue (is_valid_sequence kind s) → AreShares others
  sequence_lowered s items others e made v = shares-at new others (sequence_built play s).value (ap (steps_at new) e ∙ made.are) (sequence-shares kind play s v)

  -- those of a valid group too
  pub group_lowered : (g : tree.Group) (items others : List Placed) → others ≡ items → LowersSteps old new (group_built play g) items
      → IsTrue (is_valid_group kind g) → AreShares others
  group_lowered g items others e made v = shares-at new others (group_built play g).value (ap (steps_at new) e ∙ made.are) (group-shares kind play g v)

  -- the steps so far of a valid group are short
  pub group_so_far : (trees : List tree.Layers) (elements read : List Element) (i : ℕ) (items : List Placed) → read ≡ elements
      → LowersSteps old new (group_built play (group_of trees (take i read))) items → IsTrue (is_valid_group kind (group_of trees elements))
      → AreShort items
  group_so_far trees elements read i items e made v =
      let P : List Element → Type 0 = λ es. IsTrue (is_valid_group kind (group_of trees es)) in
      let g = group_of trees (take i read) in
      short-at new items (group_built play g).value made.are (group-shares kind play g (elements_prefix kind trees read i (subst P (sym e) v)))

  -- the sequences of valid layers are short, and no more than the rows of a table
  pub layers_lowered : (finish : Finish) → Fills finish → (ls : tree.Layers) (items : List Placed) → LowersSteps old new (layers_built play finish ls) items
      → IsTrue (is_valid kind ls) → AreSequences items
  layers_lowered finish fills ls items made v = record {
    short = sequences-short new items (layers_built play finish ls).value made.are (layers-little kind play finish ls v);
    few = omega (
      arith,
      (layers-cover play finish fills ls).sequences,
      rows-few made.gains,
      ap
          (λ (ss : List Weighted). length ss) made.are,
      length-map items (step_at new),
    );
  }

-- sequences as they are read
pub sequences-few : {old new : List Node} (play : Play) (finish : Finish) → Fills finish → (ls : tree.Layers) (items read : List Placed) → read ≡ items
    → LowersSteps old new (layers_built play finish ls) items → length read ≤ 2 ^ 31
sequences-few {new = new} play finish fills ls items read e made =
    omega (
      arith,
      ap (λ (ss : List Placed). length ss) e,
      (layers-cover play finish fills ls).sequences,
      rows-few made.gains,
      ap
          (λ (ss : List Weighted). length ss) made.are,
      length-map items (step_at new),
    )

-- an argument that is selected has no more numbers than a table has rows
pub values_lowered : {old new : List Node} (ls : tree.Layers) (finish : Finish) → Fills finish → (play : Play) (items : List Placed)
    → LowersSteps old new (layers_built play finish ls) items → length (distinct (values_of ls)) ≤ 2048
values_lowered ls finish fills play items made = omega (arith, (layers-cover play finish fills ls).each, rows-few made.gains, length-distinct (values_of ls))

pub fills-way : (way : Way) → Fills (finish_with way)
fills-way InTurn = fills-in_turn
fills-way (AtPace rate) = fills-at_pace rate
fills-way CycleEach = fills-a_cycle_each

-- what holds of the numbers of an argument that is built holds of those of the argument that it was lowered to
pub lowered_all : {old new : List Node} (p : Rational → Bool) (built : Built Argument) (argument : Arg) → LowersArg old new built argument
    → IsTrue (list_all p (argument_values built.value)) → IsTrue (list_all p (argument_values (argument_at new argument)))
lowered_all p built argument made h =
    let P : Argument → Type 0 = λ a. IsTrue (list_all p (argument_values a)) in
    subst P (sym made.is) h

-- each change of a valid step
pub change_at : (kind : Kind) (trees : List tree.Layers) (s : MiniStep) (read : List StepChange) (i : ℕ) (c : StepChange) → read ≡ s.changes.items
    → i < length read
    → c ≡ get_or read i c → IsTrue (is_valid_step kind (step_of trees s)) → IsTrue (is_change trees c)
change_at kind trees s read i c e at is v =
    let P : List StepChange → Type 0 = λ cs. IsTrue (is_change trees (get_or cs i c)) in
    let Q : StepChange → Type 0 = λ x. IsTrue (is_change trees x) in
    let within : i < length s.changes.items = subst (λ (cs : List StepChange). i < length cs) e at in
    subst Q (sym is) (subst P (sym e) (changes_valid kind trees s v i c within))

module _ (trees : List tree.Layers) (change : StepChange) (valid : IsTrue (is_change trees change)) where
  -- the numbers of the factor after `/`
  pub slow_rates : {old new : List Node} (o : Operand) (braces : List NestId) (factor : Arg) → change ≡ Slow o → braces ≡ o.braces.items
      → LowersArg old new (factor_built (operand_with trees (braces_of trees braces) o.last)) factor
      → IsTrue (are_rates (argument_values (argument_at new factor)))
  slow_rates o braces factor e b made =
      let P : StepChange → Type 0 = λ c. IsTrue (is_change trees c) in
      let Q : List NestId → Type 0 = λ bs. IsTrue (is_valid_operand Ratio (operand_with trees (braces_of trees bs) o.last)) in
      let operand = operand_with trees (braces_of trees braces) o.last in
      lowered_all is_rate (factor_built operand) factor made (factor_rates operand (subst Q (sym b) (subst P e valid)))

  module _ (k n : NestId) (from : Option NestId) (e : change ≡ Euclid k n from) where
    euclid_valid : IsTrue (is_valid Ratio (named trees k)) × IsTrue (is_valid Ratio (named trees n)) × IsTrue (is_from trees from)
        × IsTrue (is_accepted_at trees k n from)
    euclid_valid =
        let P : StepChange → Type 0 = λ c. IsTrue (is_change trees c) in
        and_four (is_valid Ratio (named trees k)) (is_valid Ratio (named trees n)) (is_from trees from) (is_accepted_at trees k n from) (subst P e valid)

    -- where a rhythm begins
    pub euclid_from : IsTrue (is_from trees from)
    euclid_from = euclid_valid.2

    euclid_rates : {old new : List Node} (argument : Arg) → LowersArg old new (from_built trees from) argument
        → IsTrue (are_rates (argument_values (argument_at new argument)))
    euclid_rates argument made = lowered_all is_rate (from_built trees from) argument made (from_rates trees from euclid_from)

    euclid_accepted : {old one two three : List Node} (a b c : Arg) → LowersArg old one (argument_of (named trees k)) a
        → LowersArg one two (argument_of (named trees n)) b → LowersArg two three (from_built trees from) c
        → IsTrue (is_accepted_from (argument_values (argument_at three a)) (argument_values (argument_at three b)) (argument_values (argument_at three c)))
    euclid_accepted {three = three} a b c first second third =
        let at_a = argument_after (Gains-append second.gains third.gains) a first.row ∙ first.is in
        let at_b = argument_after third.gains b second.row ∙ second.is in
        let P : Argument → Type 0 =
        λ x. IsTrue (is_accepted_from (argument_values x) (argument_values (argument_of (named trees n)).value)
        (argument_values (from_built trees from).value)) in
        let Q : Argument → Type 0 =
        λ x. IsTrue (is_accepted_from (argument_values (argument_at three a)) (argument_values x) (argument_values (from_built trees from).value)) in
        let R : Argument → Type 0 =
        λ x. IsTrue (is_accepted_from (argument_values (argument_at three a)) (argument_values (argument_at three b)) (argument_values x)) in
        subst R (sym third.is) (subst Q (sym at_b) (subst P (sym at_a) (accepted_built trees k n from euclid_valid.3)))

    -- there is a rhythm for each choice
    pub euclid_taken : {old one two three : List Node} (a b c : Arg) → LowersArg old one (argument_of (named trees k)) a
        → LowersArg one two (argument_of (named trees n)) b → LowersArg two three (from_built trees from) c
        → AllAmong (λ k n r. IsTrue (has_rhythm k.num n.num) × (nat_abs r.num ≤ 2 ^ 30)) (numbers_of a) (numbers_of b) (numbers_of c)
    euclid_taken {three = three} a b c first second third =
        let P : List Rational → List Rational → List Rational → Type 0 = λ ks ns rs. IsTrue (is_accepted_from ks ns rs) in
        let Q : List Rational → Type 0 = λ rs. IsTrue (are_rates rs) in
        let steps = argument_values (argument_at three b) in
        let from = argument_values (argument_at three c) in
        let by_hits = subst (λ ks. P ks steps from) (numbers_in three a) (euclid_accepted a b c first second third) in
        let by_steps = subst (λ ns. P (numbers_of a) ns from) (numbers_in three b) by_hits in
        rhythms_taken (numbers_of a) (numbers_of b) (numbers_of c) (subst (λ rs. P (numbers_of a) (numbers_of b) rs) (numbers_in three c) by_steps)
        (subst Q (numbers_in three c) (euclid_rates c third))

-- what follows the first brace of a valid operand, as a factor
pub factor_after : (kind : Kind) (trees : List tree.Layers) (braces : List NestId) (first : NestId) (others : List NestId) (last : Last)
    → braces ≡ first ∷ others → IsTrue (is_valid_operand kind (operand_with trees (braces_of trees braces) last))
    → IsTrue (is_valid_operand Ratio (operand_with trees (braces_of trees others) last))
factor_after kind trees braces first others last e v =
    let P : List NestId → Type 0 = λ bs. IsTrue (is_valid_operand kind (operand_with trees (braces_of trees bs) last)) in
    others_valid kind trees first others last (subst P e v)
