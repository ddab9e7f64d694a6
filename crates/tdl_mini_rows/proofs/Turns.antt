-- The numbers of a text that become their indices come in turn, each in a row of its own at least.
use Rattle.std.proofs.Common.{◌≡◌, ℕ, suc, ◌+◌, ◌<◌, ◌≤◌, Bool, List, [], ◌∷◌, ◌++◌, length, take, get_or, map, ℤ, pos, negsuc}
use Rattle.std.proofs.Common.{refl, sym, ap, ◌∙◌, subst, arith}
use Rattle.std.specs.List.{fold}
use Rattle.std.proofs.lemmas.Bool.{ltb-true}
use Rattle.std.proofs.lemmas.List.{map-append, length-map}
use Rattle.std.proofs.lemmas.List.Sums.{fold_more}
use Rattle.tdl_fraction.specs.Rational.{Rational, whole}
use Rattle.tdl_expr.specs.declared.nodes.Node.{Node}
use Rattle.tdl_mini_tree.specs.declared.tree.NestId.{NestId}
use Rattle.tdl_mini_tree.specs.declared.tree.Last.{Last}
use Rattle.tdl_mini_tree.specs.declared.tree.Layers.{Layers}
use Rattle.tdl_mini_tree.specs.declared.tree.Sequence.{Sequence}
use Rattle.tdl_mini_tree.specs.declared.tree.Group.{Group}
use Rattle.tdl_mini_tree.specs.declared.tree.Element.{Element}
use Rattle.tdl_mini_tree.specs.Tree as tree
use Rattle.tdl_mini_tree.specs.Values.{counted, value_number, values_of, sequence_values, group_values, element_values, operand_values}
use Rattle.tdl_mini_tree.specs.View.{trees_of, named, layers_of, sequence_of, group_of, element_of, operand_with, braces_of}
use Rattle.tdl_mini_tree.proofs.FirstBracket.{operand_values_of}
use Rattle.tdl_mini_tree.proofs.ValidParts.{fold_prefix}
use Rattle.tdl_mini_rows.specs.declared.joins.WeightedRow.{WeightedRow}
use Rattle.tdl_mini_rows.specs.declared.play.Play.{Play as Played}
use Rattle.tdl_rows.specs.Built.{kept}
use Rattle.tdl_rows.specs.Joined.{Weighted}
use Rattle.tdl_mini_rows.specs.Leaves.{and_distinct, distinct, index_in, integer_value}
use Rattle.tdl_mini_rows.specs.Lowered.{Finish, layers_built, groups_built, group_built, range_built}
use Rattle.tdl_mini_rows.specs.inside.SizeViews.{number_at}
use Rattle.tdl_mini_rows.specs.inside.Turns.{choices_of, AreInTurn, ComeInTurn}
use Rattle.tdl_mini_rows.specs.inside.Views.{play_of, LowersSteps}
use Rattle.tdl_mini_rows.proofs.BuiltCounts.{Fills, layers-cover, groups-each, group-holds, numbers-rows}
use Rattle.tdl_mini_rows.proofs.DistinctValues.{next-few, index-next, comes_among}
use Rattle.tdl_rows.specs.Stays.{rows_after}
use Rattle.tdl_mini_tree.proofs.Named.{named-at}
use Rattle.tdl_mini_rows.proofs.RangeRows.{counted_more, counted_rest}

module _ (choices : List Rational) where
  -- after more of them
  pub turn-later : (n m : ℕ) (values : List Rational) → n ≤ m → AreInTurn choices n values → AreInTurn choices m values
  turn-later n m [] h turn = tt
  turn-later n m (x ∷ values) h turn = (omega (arith, turn.0), turn-later (suc n) (suc m) values (omega arith) turn.1)

  turn-first : (n : ℕ) (values more : List Rational) → AreInTurn choices n (values ++ more) → AreInTurn choices n values
  turn-first n [] more turn = tt
  turn-first n (x ∷ values) more turn = (turn.0, turn-first (suc n) values more turn.1)

  turn-rest : (n m : ℕ) (values more : List Rational) → n + length values ≤ m → AreInTurn choices n (values ++ more) → AreInTurn choices m more
  turn-rest n m [] more h turn = turn-later n m more (omega arith) turn
  turn-rest n m (x ∷ values) more h turn = turn-rest (suc n) m values more (omega arith) turn.1

  -- the numbers of an item, after those of the items before it
  turn-item : {X T : Type 0} (f : T → X → T) (values : T → List Rational) (item : X → List Rational)
      → ((t : T) (x : X) → values (f t x) ≡ values t ++ item x) → (n m : ℕ) (t : T) (xs : List X) (i : ℕ) (x : X) → i < length xs → x ≡ get_or xs i x
      → n + length (values (fold f t (take i xs))) ≤ m → AreInTurn choices n (values (fold f t xs)) → AreInTurn choices m (item x)
  turn-item {X = X} {T = T} f values item more n m t xs i x h is few turn =
      let P : List Rational → Type 0 = λ vs. AreInTurn choices n vs in
      let V : T → Type 0 = λ s. AreInTurn choices n (values s) in
      let prefix : V (fold f t (take (i + 1) xs)) =
      fold_prefix f V (λ (x : X). Unit {0}) (λ s y v. turn-first n (values s) (item y) (subst P (more s y) v)) (λ s y v. tt) t xs (i + 1) turn in
      let split : values (fold f t (take (i + 1) xs)) ≡ values (fold f t (take i xs)) ++ item x =
      ap values (fold_more f t xs i x h)
      ∙ (more (fold f t (take i xs)) (get_or xs i x) ∙ ap (λ (y : X). values (fold f t (take i xs)) ++ item y) (sym is)) in
      turn-rest n m (values (fold f t (take i xs))) (item x) few (subst P split prefix)

-- without choices each index is 0
pub none-turn : (n : ℕ) (values : List Rational) → AreInTurn [] n values
none-turn n [] = tt
none-turn n (x ∷ values) = (omega arith, none-turn (suc n) values)

fold-turn : (seen more : List Rational) (n : ℕ) → length seen ≤ n → AreInTurn (fold and_distinct seen more) n more
fold-turn seen [] n h = tt
fold-turn seen (x ∷ more) n h =
    let next = and_distinct seen x in
    let here : index_in next x < length next = ltb-true _ _ (comes_among seen x) in
    let few = next-few seen x in
    (omega (arith, index-next next more x (comes_among seen x)), fold-turn next more (suc n) (omega arith))

-- distinct numbers, in the order in which they first appear
pub distinct-turn : (choices values : List Rational) (n : ℕ) → choices ≡ distinct values → AreInTurn choices n values
distinct-turn choices values n is =
    let P : List Rational → Type 0 = λ ns. AreInTurn ns n values in
    subst P (sym is) (fold-turn [] values n (omega arith))

integer-number : (n : ℤ) → value_number (integer_value n) ≡ whole n ∷ []
unfolding whole
integer-number (pos n) = refl
integer-number (negsuc n) = refl

-- the first bracket of an operand has all its numbers
pub operand-turn : (play : Played) (nodes : List Node) (trees : List tree.Layers) (braces : List NestId) (first : NestId) (others : List NestId)
    (last : Last) → braces ≡ first ∷ others → ComeInTurn play nodes (operand_values (operand_with trees (braces_of trees braces) last))
    → ComeInTurn play nodes (values_of (named trees first))
operand-turn play nodes trees braces first others last e turn =
    subst (ComeInTurn play nodes)
    (ap (λ (ids : List NestId). operand_values (operand_with trees (braces_of trees ids) last)) e ∙ operand_values_of trees first others last) turn

-- ---- the parts of a text, where those before them are lowered
module _ {old mid : List Node} (play : Played) (items : List WeightedRow) where
  pub sequence-turn : (finish : Finish) → Fills finish → (nests : List Layers) (id : NestId) (item : Layers) (read : List Sequence) (i : ℕ) (s : Sequence)
      → id.index < length nests → item ≡ get_or nests id.index item → read ≡ (get_or nests id.index item).sequences.items → i < length read
      → s ≡ get_or read i s → LowersSteps old mid (layers_built (play_of play) finish (layers_of (trees_of (take id.index nests)) (take i read))) items
      → ComeInTurn play old (values_of (named (trees_of nests) id))
      → ComeInTurn play mid (sequence_values (sequence_of (trees_of (take id.index nests)) s.groups.items))
  sequence-turn finish fills nests id item read i s within is read_is h here made turn =
      let trees = trees_of (take id.index nests) in
      let P : List Rational → Type 0 = λ vs. ComeInTurn play old vs in
      let whole : named (trees_of nests) id ≡ layers_of trees read =
      named-at nests id item within is ∙ ap (layers_of trees) (ap (λ (ls : Layers). ls.sequences.items) is ∙ sym read_is) in
      let covers = layers-cover (play_of play) finish fills (layers_of trees (take i read)) in
      turn-item (choices_of play) (λ (ls : tree.Layers) (x : Sequence). tree.layer ls (sequence_of trees x.groups.items)) values_of
      (λ x. sequence_values (sequence_of trees x.groups.items)) (λ ls x. refl) (length old) (length mid) tree.no_layer read i s h here
      (omega (arith, covers.each, rows_after made.gains)) (subst P (ap values_of whole) turn)

  pub group-turn : (trees : List tree.Layers) (groups read : List Group) (i : ℕ) (g : Group) → read ≡ groups → i < length read → g ≡ get_or read i g
      → LowersSteps old mid (groups_built (play_of play) (sequence_of trees (take i read))) items
      → ComeInTurn play old (sequence_values (sequence_of trees groups)) → ComeInTurn play mid (group_values (group_of trees g.elements.items))
  group-turn trees groups read i g e h is made turn =
      let P : List Group → Type 0 = λ gs. ComeInTurn play old (sequence_values (sequence_of trees gs)) in
      let each = groups-each (play_of play) (sequence_of trees (take i read)) in
      turn-item (choices_of play) (λ (s : tree.Sequence) (x : Group). tree.group s (group_of trees x.elements.items)) sequence_values
      (λ x. group_values (group_of trees x.elements.items)) (λ s x. refl) (length old) (length mid) tree.no_group read i g h is
      (omega (arith, each, rows_after made.gains)) (subst P (sym e) turn)

  pub element-turn : (trees : List tree.Layers) (elements read : List Element) (i : ℕ) (x : Element) → read ≡ elements → i < length read
      → x ≡ get_or read i x → LowersSteps old mid (group_built (play_of play) (group_of trees (take i read))) items
      → ComeInTurn play old (group_values (group_of trees elements)) → ComeInTurn play mid (element_values (element_of trees x))
  element-turn trees elements read i x e h is made turn =
      let P : List Element → Type 0 = λ es. ComeInTurn play old (group_values (group_of trees es)) in
      let holds = group-holds (play_of play) (group_of trees (take i read)) in
      turn-item (choices_of play) (λ (g : tree.Group) (y : Element). tree.element g (element_of trees y)) group_values
      (λ y. element_values (element_of trees y)) (λ g y. refl) (length old) (length mid) tree.no_element read i x h is
      (omega (arith, holds.each, rows_after made.gains)) (subst P (sym e) turn)

  -- a number of a range, after those before it
  pub number-turn : (steps : List Weighted) (rising : Bool) (i n : ℕ) (from : ℤ) (v : tree.Value) → i < n → v ≡ integer_value (number_at rising from i)
      → LowersSteps old mid (range_built (play_of play) steps (counted rising i from)) items
      → ComeInTurn play old (map whole (counted rising n from)) → ComeInTurn play mid (value_number v)
  number-turn steps rising i n from v h is made turn =
      let (rest, all) = counted_rest rising i n from h in
      let next : suc i ≡ i + 1 = omega arith in
      let here = number_at rising from i in
      let before = counted rising i from in
      let P : List Rational → Type 0 = λ vs. ComeInTurn play old vs in
      let Q : List Rational → Type 0 = λ vs. ComeInTurn play mid vs in
      let upto : counted rising (suc i) from ≡ before ++ here ∷ [] = ap (λ (k : ℕ). counted rising k from) next ∙ counted_more rising i from in
      let first = turn-first (choices_of play) (length old) (map whole (counted rising (suc i) from)) (map whole rest)
      (subst P (ap (map whole) all ∙ map-append whole (counted rising (suc i) from) rest) turn) in
      let last : ComeInTurn play mid (whole here ∷ []) =
      turn-rest (choices_of play) (length old) (length mid) (map whole before) (whole here ∷ [])
      (omega (arith, length-map before whole, numbers-rows (play_of play) (kept steps) before, rows_after made.gains))
      (subst P (ap (map whole) upto ∙ map-append whole before (here ∷ [])) first) in
      subst Q (sym (ap value_number is ∙ integer-number here)) last
