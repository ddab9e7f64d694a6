-- Rows that are pushed for the items of a list, one after another.
use Rattle.std.proofs.Common.{◌≡◌, ℕ, ◌+◌, ◌<◌, List, [], ◌∷◌, ◌++◌, map, length, take, drop, get_or, refl, sym, ap, ◌∙◌, subst, arith, length-append}
use Rattle.std.proofs.Common.{append-nil, append_assoc}
use Rattle.std.specs.List.{All, fold}
use Rattle.std.proofs.lemmas.List.{length-map, map-append, take-append-drop}
use Rattle.std.proofs.lemmas.List.Elements.{All-append, All-cons, All-head, All-tail}
use Rattle.std.proofs.lemmas.List.Sums.{fold-append, fold_more}
use Rattle.std.proofs.lemmas.List.Folds.{fold-map}
use Rattle.tdl_expr.specs.declared.ids.NodeId.{NodeId}
use Rattle.tdl_expr.specs.declared.nodes.Node.{Node}
use Rattle.tdl_expr.specs.declared.tables.PushFault.{PushFault}
use Rattle.tdl_expr.specs.Tree.{Tree}
use Rattle.tdl_expr.specs.Rows.{IsRow, tree_at}
use Rattle.tdl_rows.specs.Built.{Built, kept, ◌▸◌, and_next, each}
use Rattle.tdl_rows.specs.Lowers.{Gains, Refused, Lowers, trees_at}
use Rattle.tdl_rows.specs.inside.Views.{LowersIds}
use Rattle.tdl_rows.specs.Stays.{row_after}
use Rattle.tdl_rows.proofs.Gained.{Gains-append, Refused-first}

abbrev pub after : {V X : Type 0} → (V → X → Built V) → Built V → X → Built V
after g b x = b ▸ λ v. g v x

abbrev pub run : {V X : Type 0} → (V → X → Built V) → Built V → List X → Built V
run g b xs = fold (after g) b xs

-- the rows of some items begin those of all
pub run_rows : {V X : Type 0} (g : V → X → Built V) (b : Built V) (xs : List X) → (rest : List ℕ) × ((run g b xs).rows ≡ b.rows ++ rest)
run_rows g b [] = ([], sym (append-nil b.rows))
run_rows g b (x ∷ xs) =
    let more = run_rows g (after g b x) xs in
    ((g b.value x).rows ++ more.0, more.1 ∙ append_assoc b.rows (g b.value x).rows more.0)

pub refused_along : (old new : List Node) (a b : List ℕ) (fault : PushFault) → a ≡ b → Refused old new a fault → Refused old new b fault
refused_along old new a b fault e h = let P : List ℕ → Type 0 = λ links. Refused old new links fault in subst P e h

module _ {V X : Type 0} (g : V → X → Built V) (b : Built V) (xs : List X) (i : ℕ) (d : X) (h : i < length xs) where
  pub run_more : run g b (take (i + 1) xs) ≡ after g (run g b (take i xs)) (get_or xs i d)
  run_more = fold_more (after g) b xs i d h

  parts : run g b xs ≡ run g (run g b (take (i + 1) xs)) (drop (i + 1) xs)
  parts = ap (λ (ys : List X). run g b ys) (sym (take-append-drop (i + 1) xs)) ∙ fold-append (after g) b (take (i + 1) xs) (drop (i + 1) xs)

  -- what is refused at an item is refused of all
  pub run_refused : (old new : List Node) (fault : PushFault) → Refused old new (after g (run g b (take i xs)) (get_or xs i d)).rows fault
      → Refused old new (run g b xs).rows fault
  run_refused old new fault refused =
      let at : Refused old new (run g b (take (i + 1) xs)).rows fault = refused_along old new _ _ fault (ap (λ (y : Built V). y.rows) (sym run_more)) refused in
      let rest = run_rows g (run g b (take (i + 1) xs)) (drop (i + 1) xs) in
      refused_along old new _ _ fault (sym (ap (λ (y : Built V). y.rows) parts ∙ rest.1)) (Refused-first rest.0 at)

pub each-map : {A B X : Type 0} (f : A → Built B) (g : X → A) (xs : List X) → each f (map g xs) ≡ each (λ x. f (g x)) xs
each-map f g xs = fold-map (and_next f) g (kept []) xs

length-from : {A B : Type 0} (f : A → Built B) (b : Built (List B)) (xs : List A) → length (fold (and_next f) b xs).value ≡ length b.value + length xs
length-from f b [] = omega arith
length-from f b (x ∷ xs) = omega (arith, length-from f (and_next f b x) xs, length-append b.value ((f x).value ∷ []))

-- as many rows as items
pub length-ids : {old new : List Node} {X : Type 0} (f : X → Built Tree) (xs : List X) (ids : List NodeId) → LowersIds old new (each f xs) ids
    → length ids ≡ length xs
length-ids {new = new} f xs ids made = sym (length-map ids (tree_at new))
    ∙ (ap (λ (ts : List Tree). length ts) made.are ∙ (length-from f (kept []) xs ∙ omega arith))

module _ {old mid : List Node} {links : List ℕ} (gains : Gains old mid links) where
  pub ids_after : (ids : List NodeId) → All (IsRow old) ids → All (IsRow mid) ids
  ids_after ids all = λ k d h. row_after gains (get_or ids k d) (all k d h)

  pub trees_after : (ids : List NodeId) → All (IsRow old) ids → trees_at mid ids ≡ trees_at old ids
  trees_after [] all = refl
  trees_after (id ∷ ids) all =
      let first : tree_at mid id ≡ tree_at old id = gains.older id (All-head (IsRow old) id ids all) in
      let rest : trees_at mid ids ≡ trees_at old ids = trees_after ids (All-tail (IsRow old) id ids all) in
      cc

pub All-one_more : {X : Type 0} (P : X → Type 0) (xs : List X) (x : X) → All P xs → P x → All P (xs ++ x ∷ [])
All-one_more P xs x all p = All-append P xs (x ∷ []) all (All-cons P x [] p (λ k d h. absurd (omega arith)))

-- one more item, and its row
pub LowersIds-more : {X : Type 0} {old mid new : List Node} {ids : List NodeId} {id : NodeId} (f : X → Built Tree) (xs : List X) (i : ℕ) (d : X)
    (more : List NodeId) → i < length xs → more ≡ ids ++ id ∷ [] → LowersIds old mid (each f (take i xs)) ids → Lowers mid new (f (get_or xs i d)) id
    → LowersIds old new (each f (take (i + 1) xs)) more
LowersIds-more {old = old} {mid = mid} {new = new} {ids = ids} {id = id} f xs i d more h e before made =
    let G : List Tree → _ → Built (List Tree) = λ ys x. f x ▸ λ y. kept (ys ++ y ∷ []) in
    let step = run_more G (kept []) xs i d h in
    let P : Built (List Tree) → Type 0 = λ built. LowersIds old new built more in
    subst P (sym step) (record {
      rows = subst (All (IsRow new)) (sym e) (All-one_more (IsRow new) ids id (ids_after made.gains ids before.rows) made.row);
      are = ap (trees_at new) e
          ∙ (map-append (tree_at new) ids (id ∷ [])
          ∙ (ap (λ (ts : List Tree). ts ++ tree_at new id ∷ []) (trees_after made.gains ids before.rows ∙ before.are)
          ∙ ap (λ (t : Tree). (each f (take i xs)).value ++ t ∷ []) made.is));
      gains = Gains-append before.gains (subst (Gains mid new) (sym (append-nil _)) made.gains);
    })
