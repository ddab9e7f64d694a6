-- The whole numbers of ranges, and steps at the end of a group.
use Rattle.std.proofs.Common.{◌≡◌, ℕ, zero, suc, ◌+◌, ◌<◌, Bool, true, false, List, [], ◌∷◌, ◌++◌, map, ℤ, pos, ◌+ℤ◌, ◌-ℤ◌, if◌then◌else◌, refl, sym, ap}
use Rattle.std.proofs.Common.{◌∙◌, subst, arith, append_assoc}
use Rattle.std.specs.List.{All, fold}
use Rattle.std.proofs.lemmas.Int.{ints}
use Rattle.std.proofs.lemmas.List.{map-append}
use Rattle.std.proofs.lemmas.List.Elements.{All-head, All-tail, All-cons}
use Rattle.std.proofs.lemmas.List.Sums.{fold-append}
use Rattle.tdl_fraction.specs.Rational.{Rational, whole}
use Rattle.tdl_expr.specs.declared.nodes.Node.{Node}
use Rattle.tdl_expr.specs.Rows.{IsRow}
use Rattle.tdl_mini_tree.specs.Values.{counted}
use Rattle.tdl_mini_tree.specs.Sizes.{unit}
use Rattle.tdl_mini_rows.specs.declared.joins.WeightedRow.{WeightedRow}
use Rattle.tdl_rows.specs.Joined.{Weighted}
use Rattle.tdl_mini_rows.specs.Leaves.{and_distinct}
use Rattle.tdl_mini_rows.specs.Lowered.{longer_last, and_last}
use Rattle.tdl_mini_rows.specs.inside.SizeViews.{number_at}
use Rattle.tdl_mini_rows.specs.inside.Views.{step_at, steps_at, AreRows, AreSteps}
use Rattle.tdl_expr.specs.declared.ids.NodeId.{NodeId}
use Rattle.tdl_expr.specs.declared.tables.PushFault.{PushFault}
use Rattle.tdl_expr.specs.Tree.{Tree, Pure}
use Rattle.tdl_mini_tree.specs.Tree.{Value}
use Rattle.tdl_rows.specs.Built.{Built, kept, one_row, ◌▸◌}
use Rattle.tdl_mini_rows.specs.Leaves.{Play, integer_value}
use Rattle.tdl_mini_rows.specs.Lowered.{laid, range_built, and_number}
use Rattle.tdl_rows.specs.Lowers.{Refused, Lowers}
use Rattle.tdl_mini_rows.specs.inside.Views.{LowersSteps}
use Rattle.tdl_rows.proofs.Gained.{Gains-append, Refused-append, Refused-first}
use Rattle.tdl_mini_rows.proofs.Runs.{and_step}
use Rattle.tdl_mini_rows.proofs.Parts.{first_refused}
use Rattle.tdl_rows.proofs.Loops.{All-one_more}

pub counted_more : (rising : Bool) (i : ℕ) (from : ℤ) → counted rising (i + 1) from ≡ counted rising i from ++ number_at rising from i ∷ []
counted_more true zero from =
    let same : from ≡ from +ℤ pos 0 = omega (arith, ints) in ap (λ (n : ℤ). n ∷ []) same
counted_more false zero from =
    let same : from ≡ from -ℤ pos 0 = omega (arith, ints) in ap (λ (n : ℤ). n ∷ []) same
counted_more true (suc i) from =
    let n : suc i + 1 ≡ suc (i + 1) = omega arith in
    let same : (from +ℤ pos 1) +ℤ pos i ≡ from +ℤ pos (suc i) = omega (arith, ints) in
    ap (λ (k : ℕ). counted true k from) n ∙ ap (λ (ns : List ℤ). from ∷ ns)
    (counted_more true i (from +ℤ pos 1) ∙ ap (λ (k : ℤ). counted true i (from +ℤ pos 1) ++ k ∷ []) same)
counted_more false (suc i) from =
    let n : suc i + 1 ≡ suc (i + 1) = omega arith in
    let same : (from -ℤ pos 1) -ℤ pos i ≡ from -ℤ pos (suc i) = omega (arith, ints) in
    ap (λ (k : ℕ). counted false k from) n ∙ ap (λ (ns : List ℤ). from ∷ ns)
    (counted_more false i (from -ℤ pos 1) ∙ ap (λ (k : ℤ). counted false i (from -ℤ pos 1) ++ k ∷ []) same)

pub distinct_more : (rising : Bool) (i : ℕ) (from n r : ℤ) (old numbers more : List Rational) (x : Rational) → n ≡ r → r ≡ number_at rising from i
    → x ≡ whole n → numbers ≡ fold and_distinct old (map whole (counted rising i from)) → more ≡ and_distinct numbers x
    → more ≡ fold and_distinct old (map whole (counted rising (i + 1) from))
distinct_more rising i from n r old numbers more x same here is before e =
    let at : n ≡ number_at rising from i = same ∙ here in
    e ∙ (ap (λ (ns : List Rational). and_distinct ns x) before
    ∙ (ap (and_distinct (fold and_distinct old (map whole (counted rising i from)))) (is ∙ ap whole at)
    ∙ sym (ap (λ (ns : List ℤ). fold and_distinct old (map whole ns)) (counted_more rising i from)
    ∙ (ap (fold and_distinct old) (map-append whole (counted rising i from) (number_at rising from i ∷ []))
    ∙ fold-append and_distinct old (map whole (counted rising i from)) (whole (number_at rising from i) ∷ [])))))

longer-end : (xs : List Weighted) (y : Weighted) → longer_last (xs ++ y ∷ []) ≡ xs ++ record { parts = y.parts + unit; tree = y.tree } ∷ []
longer-end [] y = refl
longer-end (x ∷ []) y = refl
longer-end (x ∷ z ∷ xs) y = ap (λ (ws : List Weighted). x ∷ ws) (longer-end (z ∷ xs) y)

twice-end : (xs : List Weighted) (y : Weighted) → and_last (xs ++ y ∷ []) ≡ xs ++ y ∷ y ∷ []
twice-end [] y = refl
twice-end (x ∷ []) y = refl
twice-end (x ∷ z ∷ xs) y = ap (λ (ws : List Weighted). x ∷ ws) (twice-end (z ∷ xs) y)

front_all : {X : Type 0} (P : X → Type 0) (xs : List X) (y : X) → All P (xs ++ y ∷ []) → All P xs
front_all P [] y all = λ k d h. absurd (omega arith)
front_all P (x ∷ xs) y all = All-cons P x xs (All-head P x (xs ++ y ∷ []) all) (front_all P xs y (All-tail P x (xs ++ y ∷ []) all))

last_all : {X : Type 0} (P : X → Type 0) (xs : List X) (y : X) → All P (xs ++ y ∷ []) → P y
last_all P [] y all = All-head P y [] all
last_all P (x ∷ xs) y all = last_all P xs y (All-tail P x (xs ++ y ∷ []) all)

module _ (nodes : List Node) (old rest : List WeightedRow) (last : WeightedRow) (split : old ≡ rest ++ last ∷ []) (rows : AreRows nodes old) where
  ends : steps_at nodes old ≡ steps_at nodes rest ++ step_at nodes last ∷ []
  ends = ap (steps_at nodes) split ∙ map-append (step_at nodes) rest (last ∷ [])

  parts_rows : AreRows nodes (rest ++ last ∷ [])
  parts_rows = subst (AreRows nodes) split rows

  pub longer_steps : (new : List WeightedRow) (n : ℕ) → n ≡ last.parts + unit → new ≡ rest ++ record { parts = n; id = last.id } ∷ []
      → AreSteps nodes (longer_last (steps_at nodes old)) new
  longer_steps new n e more =
      let s : WeightedRow = record { parts = n; id = last.id } in
      record {
        rows = subst (AreRows nodes) (sym more)
            (All-one_more (λ r. IsRow nodes r.id) rest s (front_all (λ r. IsRow nodes r.id) rest last parts_rows)
            (last_all (λ r. IsRow nodes r.id) rest last parts_rows));
        are = ap (steps_at nodes) more ∙ (map-append (step_at nodes) rest (s ∷ [])
            ∙ (ap (λ (k : ℕ). steps_at nodes rest ++ (let w : Weighted = record { parts = k; tree = (step_at nodes last).tree } in w) ∷ []) e
            ∙ sym (ap longer_last ends ∙ longer-end (steps_at nodes rest) (step_at nodes last))));
      }

  pub twice_steps : (new : List WeightedRow) → new ≡ (rest ++ last ∷ []) ++ last ∷ [] → AreSteps nodes (and_last (steps_at nodes old)) new
  twice_steps new more =
      record {
        rows = subst (AreRows nodes) (sym more)
            (All-one_more (λ r. IsRow nodes r.id) (rest ++ last ∷ []) last parts_rows (last_all (λ r. IsRow nodes r.id) rest last parts_rows));
        are = ap (steps_at nodes) more ∙ (map-append (step_at nodes) (rest ++ last ∷ []) (last ∷ [])
            ∙ (ap (λ (ws : List Weighted). ws ++ step_at nodes last ∷ []) (map-append (step_at nodes) rest (last ∷ []))
            ∙ (append_assoc (steps_at nodes rest) (step_at nodes last ∷ []) (step_at nodes last ∷ [])
            ∙ sym (ap and_last ends ∙ twice-end (steps_at nodes rest) (step_at nodes last)))));
      }

pub counted_rest : (rising : Bool) (i n : ℕ) (from : ℤ) → i < n → (rest : List ℤ) × (counted rising n from ≡ counted rising (suc i) from ++ rest)
counted_rest rising i zero from h = absurd (omega arith)
counted_rest rising zero (suc n) from h = (counted rising n (if rising then from +ℤ pos 1 else from -ℤ pos 1), refl)
counted_rest rising (suc i) (suc n) from h =
    let more = counted_rest rising i n (if rising then from +ℤ pos 1 else from -ℤ pos 1) (omega arith) in
    (more.0, ap (λ (ns : List ℤ). from ∷ ns) more.1)

module _ (play : Play) (old mid : List Node) (steps : List Weighted) (rising : Bool) (i : ℕ) (from : ℤ) (items : List WeightedRow)
    (before : LowersSteps old mid (range_built play steps (counted rising i from)) items) (v : Value)
    (at : v ≡ integer_value (number_at rising from i)) where
  one_more : range_built play steps (counted rising (i + 1) from) ≡ and_number play (range_built play steps (counted rising i from)) (number_at rising from i)
  one_more = ap (range_built play steps) (counted_more rising i from)
      ∙ fold-append (and_number play) (kept steps) (counted rising i from) (number_at rising from i ∷ [])

  played : one_row 0 (Pure (play v)) ≡ one_row 0 (Pure (play (integer_value (number_at rising from i))))
  played = ap (λ (w : Value). one_row 0 (Pure (play w))) at

  pub range_more : (new : List Node) (id : NodeId) (more : List WeightedRow) → Lowers mid new (one_row 0 (Pure (play v))) id
      → more ≡ items ++ record { parts = unit; id = id } ∷ [] → LowersSteps old new (range_built play steps (counted rising (i + 1) from)) more
  range_more new id more made e =
      let P : Built Tree → Type 0 = λ b. Lowers mid new b id in
      let here = and_step items (one_row 0 (Pure (play (integer_value (number_at rising from i))))) unit more before.rows (subst P played made) e in
      let Q : Built (List Weighted) → Type 0 = λ b. LowersSteps old new b more in
      subst Q (sym one_more) (record {
        rows = here.rows;
        are = here.are ∙ ap (λ (ws : List Weighted). ws ++ laid unit (Pure (play (integer_value (number_at rising from i)))) ∷ []) before.are;
        gains = Gains-append before.gains here.gains;
      })

  pub range_refused : (new : List Node) (fault : PushFault) (n : ℕ) → i < n → Refused mid new (one_row 0 (Pure (play v))).rows fault
      → Refused old new (range_built play steps (counted rising n from)).rows fault
  range_refused new fault n h refused =
      let here = Refused-append before.gains (Refused-first [] refused) in
      let rest = counted_rest rising i n from h in
      let next : suc i ≡ i + 1 = omega arith in
      let whole : range_built play steps (counted rising n from) ≡ fold (and_number play) (range_built play steps (counted rising (i + 1) from)) rest.0 =
      ap (range_built play steps) (rest.1 ∙ ap (λ (k : ℕ). counted rising k from ++ rest.0) next)
      ∙ fold-append (and_number play) (kept steps) (counted rising (i + 1) from) rest.0 in
      let G : List Weighted → ℤ → Built (List Weighted) = λ ss k. one_row 0 (Pure (play (integer_value k))) ▸ λ t. kept (ss ++ laid unit t ∷ []) in
      let Q : Built (List Weighted) → Type 0 = λ b. Refused old new b.rows fault in
      subst Q (sym whole) (first_refused G (range_built play steps (counted rising (i + 1) from)) rest.0 old new fault (subst Q (sym one_more) here))

pub value_at : (v : Value) (n r m : ℤ) → v ≡ integer_value n → n ≡ r → r ≡ m → v ≡ integer_value m
value_at v n r m is same at = is ∙ ap integer_value (same ∙ at)
