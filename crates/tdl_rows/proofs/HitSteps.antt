-- Rows at the hits of rhythms.
use Rattle.std.proofs.Common.{◌≡◌, ℕ, zero, suc, ◌+◌, Bool, true, false, cond, List, [], ◌∷◌, ◌++◌, map, take, slice_get, Some, Result, refl}
use Rattle.std.proofs.Common.{sym, ap, ◌∙◌, subst, arith, ◌≤◌, ℤ, pos, negsuc, nat_abs, Option, None, IsTrue}
use Rattle.std.specs.Prelude.{is_none}
use Rattle.std.proofs.lemmas.Bool.Decides.{nat_tests}
use Rattle.std.proofs.lemmas.Bool.{false≢true}
use Rattle.tdl_euclid.specs.declared.rhythms.EuclidFault.{EuclidFault}
use Rattle.tdl_euclid.specs.Refusal.{refusal, has_rhythm}
use Rattle.std.specs.List.{list_all, All}
use Rattle.std.proofs.lemmas.List.{map-append, take_more}
use Rattle.std.proofs.lemmas.List.Elements.{All-cons}
use Rattle.std.proofs.lemmas.List.Folds.{list_all-append}
use Rattle.std.proofs.lemmas.Option.{get_or_from_slice_get, slice_get_within}
use Rattle.tdl_expr.specs.declared.ids.NodeId.{NodeId}
use Rattle.tdl_expr.specs.declared.nodes.Node.{Node}
use Rattle.tdl_expr.specs.declared.tables.PushFault.{PushFault}
use Rattle.tdl_expr.specs.Tree.{Tree}
use Rattle.tdl_expr.specs.Rows.{IsRow, tree_at}
use Rattle.tdl_rows.specs.Joined.{fastcat_of, rest_of, rhythm_of}
use Rattle.tdl_rows.specs.Lowers.{Lowers, LowersTo, trees_at}
use Rattle.tdl_rows.proofs.Gained.{LowersTo-after}

-- a rhythm that is there is taken
none_is : (o : Option EuclidFault) → IsTrue (is_none o) → o ≡ None
none_is None h = refl
none_is (Some fault) h = absurd (false≢true h)

pub rhythm_taken : (k n : ℤ) → IsTrue (has_rhythm k n) → refusal k (nat_abs n) ≡ None
rhythm_taken k (pos n) h = none_is (refusal k n) h
rhythm_taken k (negsuc n) h = absurd (false≢true h)

-- and has few hits
pub few_hits : (k : ℤ) (n : ℕ) → refusal k n ≡ None → nat_abs k ≤ 128
few_hits k n h = grind (arith, nat_tests)

pub got_more : {X : Type 0} (xs : List X) (i : ℕ) (x : X) → slice_get xs i ≡ Some x → take (i + 1) xs ≡ take i xs ++ x ∷ []
got_more xs i x e = take_more xs i x (slice_get_within xs i x e) ∙ ap (λ y. take i xs ++ y ∷ []) (get_or_from_slice_get xs i x x e)

pub all_more : (xs : List Bool) (i : ℕ) (x : Bool) → slice_get xs i ≡ Some x → x ≡ true → list_all (λ hit. hit) (take i xs) ≡ true
    → list_all (λ hit. hit) (take (i + 1) xs) ≡ true
all_more xs i x e t before = ap (list_all (λ hit. hit)) (got_more xs i x e) ∙ (list_all-append (λ hit. hit) (take i xs) (x ∷ []) ∙ rw (before, t) refl)

pub not_all : (xs : List Bool) (i : ℕ) (x : Bool) → slice_get xs i ≡ Some x → x ≡ false → false ≡ list_all (λ hit. hit) xs
not_all [] i x e f = cc
not_all (true ∷ xs) zero x e f = cc
not_all (true ∷ xs) (suc i) x e f = not_all xs i x e f
not_all (false ∷ xs) i x e f = refl

pub hits_more : (xs : List Bool) (i : ℕ) (x : Bool) (hit rest id : NodeId) (ids more : List NodeId) → slice_get xs i ≡ Some x → id ≡ cond x hit rest
    → ids ≡ map (λ b. cond b hit rest) (take i xs) → more ≡ ids ++ id ∷ [] → more ≡ map (λ b. cond b hit rest) (take (i + 1) xs)
hits_more xs i x hit rest id ids more e d f g =
    g ∙ (ap (λ (n : NodeId). ids ++ n ∷ []) d ∙ (ap (λ (is : List NodeId). is ++ cond x hit rest ∷ []) f
    ∙ (sym (map-append (λ (b : Bool). cond b hit rest) (take i xs) (x ∷ [])) ∙ ap (map (λ (b : Bool). cond b hit rest)) (sym (got_more xs i x e)))))

trees-hits : (nodes : List Node) (hit rest : NodeId) (bits : List Bool)
    → trees_at nodes (map (λ b. cond b hit rest) bits) ≡ map (λ b. cond b (tree_at nodes hit) (tree_at nodes rest)) bits
trees-hits nodes hit rest [] = refl
trees-hits nodes hit rest (true ∷ bits) = ap (λ (ts : List Tree). tree_at nodes hit ∷ ts) (trees-hits nodes hit rest bits)
trees-hits nodes hit rest (false ∷ bits) = ap (λ (ts : List Tree). tree_at nodes rest ∷ ts) (trees-hits nodes hit rest bits)

pub rows-hits : (nodes : List Node) (hit rest : NodeId) (bits : List Bool) → IsRow nodes hit → IsRow nodes rest
    → All (IsRow nodes) (map (λ b. cond b hit rest) bits)
rows-hits nodes hit rest [] h r = λ k d lt. absurd (omega arith)
rows-hits nodes hit rest (true ∷ bits) h r = All-cons (IsRow nodes) hit (map (λ b. cond b hit rest) bits) h (rows-hits nodes hit rest bits h r)
rows-hits nodes hit rest (false ∷ bits) h r = All-cons (IsRow nodes) rest (map (λ b. cond b hit rest) bits) r (rows-hits nodes hit rest bits h r)

-- the row of a rhythm
pub rhythm_row : {old mid : List Node} {rest : NodeId} (new : List Node) (id : NodeId) (bits : List Bool) (ids : List NodeId)
    (result : Result NodeId PushFault) → IsRow old id → Lowers old mid (rest_of (tree_at old id) bits) rest → ids ≡ map (λ b. cond b id rest) bits
    → LowersTo mid new (fastcat_of (trees_at mid ids)) result → LowersTo old new (rhythm_of (tree_at old id) bits) result
rhythm_row {old = old} {mid = mid} {rest = rest} new id bits ids result row first are second =
    let same : trees_at mid ids ≡ map (λ b. cond b (tree_at old id) (tree_at mid rest)) bits =
    ap (trees_at mid) are
    ∙ (trees-hits mid id rest bits ∙ ap (λ (t : Tree). map (λ b. cond b t (tree_at mid rest)) bits) (first.gains.older id row)) in
    let P : List Tree → Type 0 = λ ts. LowersTo mid new (fastcat_of ts) result in
    LowersTo-after new (rest_of (tree_at old id) bits) (λ r. fastcat_of (map (λ hit. cond hit (tree_at old id) r) bits)) first result (subst P same second)
