-- How gains of rows follow one another.
use Rattle.std.proofs.Common.{◌≡◌, ℕ, ◌+◌, List, [], ◌∷◌, ◌++◌, map, length, Option, None, Some, Result, Ok, Err, MatchResult, IsErrAnd, inl, inr, refl}
use Rattle.std.proofs.Common.{sym, ap, ◌∙◌, subst, arith, append_assoc, append-nil}
use Rattle.std.specs.List.{sum_by}
use Rattle.std.proofs.lemmas.List.{map-append}
use Rattle.std.proofs.lemmas.List.Sums.{sum_by-append, sum_by-cons}
use Rattle.tdl_expr.specs.declared.ids.NodeId.{NodeId}
use Rattle.tdl_expr.specs.declared.nodes.Node.{Node}
use Rattle.tdl_expr.specs.declared.tables.PushFault.{PushFault}
use Rattle.tdl_expr.specs.declared.tables.PushFault.TheVariants.{NoMemory}
use Rattle.tdl_expr.specs.Tree.{Tree}
use Rattle.tdl_expr.specs.Rows.{links_of, sum_links, tree_at}
use Rattle.tdl_expr.specs.Pushed.{overflow}
use Rattle.tdl_rows.specs.Built.{Built, ◌▸◌}
use Rattle.tdl_rows.specs.Lowers.{overflow_or, first_overflow, overflow_in, Gains, Refused, Lowers, LowersTo}
use Rattle.tdl_rows.specs.Stays.{rows_after, row_after}

overflow_or-or : (a b c : Option PushFault) → overflow_or (overflow_or a b) c ≡ overflow_or a (overflow_or b c)
overflow_or-or (Some fault) b c = refl
overflow_or-or None b c = refl

same_overflow : (rows links rows' links' : ℕ) (b : List ℕ) → rows ≡ rows' → links ≡ links' → first_overflow rows links b ≡ first_overflow rows' links' b
same_overflow rows links rows' links' b r l = ap (λ (n : ℕ). first_overflow n links b) r ∙ ap (λ (n : ℕ). first_overflow rows' n b) l

total : List ℕ → ℕ
total links = sum_by (λ (n : ℕ). n) links

first_overflow-append : (rows links : ℕ) (a b : List ℕ) → first_overflow rows links (a ++ b) ≡ overflow_or (first_overflow rows links a)
    (first_overflow (rows + length a) (links + total a) b)
unfolding total
first_overflow-append rows links [] b = same_overflow _ _ _ _ b (omega arith) (omega arith)
first_overflow-append rows links (x ∷ a) b =
    let rest = first_overflow-append (rows + 1) (links + x) a b in
    let same = same_overflow ((rows + 1) + length a) ((links + x) + total a) (rows + length (x ∷ a)) (links + total (x ∷ a)) b (omega arith)
    (omega (arith, sum_by-cons (λ (n : ℕ). n) x a)) in
    ap (λ (o : Option PushFault). overflow_or (overflow (rows + 1) (links + x)) o)
    (rest ∙ ap (λ (o : Option PushFault). overflow_or (first_overflow (rows + 1) (links + x) a) o) same)
    ∙ sym (overflow_or-or (overflow (rows + 1) (links + x)) (first_overflow (rows + 1) (links + x) a)
    (first_overflow (rows + length (x ∷ a)) (links + total (x ∷ a)) b))

total-links : (added : List Node) → total (map links_of added) ≡ sum_links added
unfolding total
total-links [] = refl
total-links (node ∷ added) =
    omega (arith, sum_by-cons (λ (n : ℕ). n) (links_of node) (map links_of added), sum_by-cons links_of node added, total-links added)

module _ {old mid : List Node} {a : List ℕ} (gains : Gains old mid a) where
  links_after : sum_links mid ≡ sum_links old + total a
  links_after = ap sum_links gains.nodes
      ∙ (sum_by-append links_of old gains.added ∙ ap (λ (n : ℕ). sum_links old + n) (sym (total-links gains.added) ∙ ap total gains.rows))

  -- what is refused after them is what is refused of all
  overflow_after : (b : List ℕ) → overflow_in old (a ++ b) ≡ overflow_in mid b
  overflow_after b =
      first_overflow-append (length old) (sum_links old) a b
      ∙ (ap (λ (o : Option PushFault). overflow_or o (first_overflow (length old + length a) (sum_links old + total a) b)) gains.fits
      ∙ same_overflow _ _ _ _ b (sym (rows_after gains)) (sym links_after))

pub Gains-none : (nodes : List Node) → Gains nodes nodes []
Gains-none nodes = record {
  added = [];
  nodes = sym (append-nil nodes);
  rows = refl;
  older = λ other h. refl;
  fits = refl;
}

pub Gains-append : {old mid new : List Node} {a b : List ℕ} → Gains old mid a → Gains mid new b → Gains old new (a ++ b)
Gains-append {old = old} {mid = mid} {new = new} {a = a} {b = b} first second = record {
  added = first.added ++ second.added;
  nodes = second.nodes ∙ (ap (λ (ns : List Node). ns ++ second.added) first.nodes ∙ append_assoc old first.added second.added);
  rows = map-append links_of first.added second.added
      ∙ (ap (λ (ns : List ℕ). ns ++ map links_of second.added) first.rows ∙ ap (λ (ns : List ℕ). a ++ ns) second.rows);
  older = λ other h. second.older other (row_after first other h) ∙ first.older other h;
  fits = overflow_after first b ∙ second.fits;
}

pub Refused-append : {old mid new : List Node} {a b : List ℕ} {fault : PushFault} → Gains old mid a → Refused mid new b fault → Refused old new (a ++ b) fault
Refused-append {old = old} {mid = mid} {new = new} {a = a} {b = b} {fault = fault} first second = record {
  reason = elim second.reason [ inl e ↦ inl (overflow_after first b ∙ e) | inr e ↦ inr e ];
  added = first.added ++ second.added;
  nodes = second.nodes ∙ (ap (λ (ns : List Node). ns ++ second.added) first.nodes ∙ append_assoc old first.added second.added);
}

refused_or : (o later : Option PushFault) (fault : PushFault) → o ≡ Some fault → overflow_or o later ≡ Some fault
refused_or (Some other) later fault e = e
refused_or None later fault e = (cc)

-- what is refused is refused whatever comes after
pub Refused-first : {old new : List Node} {a : List ℕ} {fault : PushFault} (b : List ℕ) → Refused old new a fault → Refused old new (a ++ b) fault
Refused-first {old = old} {new = new} {a = a} {fault = fault} b first = record {
  reason = elim first.reason [
    | inl e ↦ inl (first_overflow-append (length old) (sum_links old) a b ∙ refused_or _ _ fault e)
    | inr e ↦ inr e
  ];
  added = first.added;
  nodes = first.nodes;
}

pub Lowers-then : {A : Type 0} {old mid new : List Node} {id : NodeId} (x : Built A) (f : A → Built Tree) → Gains old mid x.rows
    → Lowers mid new (f x.value) id → Lowers old new (x ▸ f) id
Lowers-then x f gains made = record { row = made.row; is = made.is; gains = Gains-append gains made.gains }

pub Lowers-after : {old mid new : List Node} {id other : NodeId} (built : Built Tree) (f : Tree → Built Tree) → Lowers old mid built id
    → Lowers mid new (f (tree_at mid id)) other → Lowers old new (built ▸ f) other
Lowers-after {mid = mid} {new = new} {other = other} built f first second =
    let P : Tree → Type 0 = λ t. Lowers mid new (f t) other in
    Lowers-then built f first.gains (subst P first.is second)

pub result_then : {X : Type 0} {old mid : List Node} {a : List ℕ} (new : List Node) (b : List ℕ) (P Q : X → Type 0) → Gains old mid a
    → ((x : X) → P x → Q x) → (result : Result X PushFault) → MatchResult result P (Refused mid new b) → MatchResult result Q (Refused old new (a ++ b))
result_then new b P Q gains follows (Ok x) made = follows x made
result_then new b P Q gains follows (Err fault) made = Refused-append gains made

pub LowersTo-then : {A : Type 0} {old mid : List Node} (new : List Node) (x : Built A) (f : A → Built Tree) → Gains old mid x.rows
    → (result : Result NodeId PushFault) → LowersTo mid new (f x.value) result → LowersTo old new (x ▸ f) result
LowersTo-then {old = old} {mid = mid} new x f gains result made =
    result_then new (f x.value).rows (Lowers mid new (f x.value)) (Lowers old new (x ▸ f)) gains (λ id lowers. Lowers-then x f gains lowers) result made

-- a row for a tree that is made of another's
pub LowersTo-after : {old mid : List Node} {id : NodeId} (new : List Node) (built : Built Tree) (f : Tree → Built Tree) → Lowers old mid built id
    → (result : Result NodeId PushFault) → LowersTo mid new (f (tree_at mid id)) result → LowersTo old new (built ▸ f) result
LowersTo-after {mid = mid} new built f first result second =
    let P : Tree → Type 0 = λ t. LowersTo mid new (f t) result in
    LowersTo-then new built f first.gains result (subst P first.is second)

-- out of memory, nothing is said of the rows that were to come
pub Refused-want : {old mid : List Node} {a : List ℕ} {fault : PushFault} (links : List ℕ) → Gains old mid a → fault ≡ NoMemory → Refused old mid links fault
Refused-want links gains e = record { reason = inr e; added = gains.added; nodes = gains.nodes }

-- what a `?` returns of a refusal
pub exit_refused : {X : Type 0} {old new : List Node} {links : List ℕ} (P : X → Type 0) (e : PushFault) (result : Result X PushFault)
    → IsErrAnd result (λ y. y ≡ e) → Refused old new links e → MatchResult result P (Refused old new links)
exit_refused P e (Ok x) h refused = absurd h
exit_refused {old = old} {new = new} {links = links} P e (Err y) h refused = subst (Refused old new links) (sym h) refused

-- what a `?` returns that ran out of memory
pub exit_want : {X : Type 0} {old mid : List Node} {a : List ℕ} (P : X → Type 0) (links : List ℕ) (result : Result X PushFault)
    → IsErrAnd result (λ y. y ≡ NoMemory) → Gains old mid a → MatchResult result P (Refused old mid links)
exit_want P links (Ok x) h gains = absurd h
exit_want P links (Err y) h gains = Refused-want links gains h

pub LowersTo-same : (old new : List Node) (built other : Built Tree) (result : Result NodeId PushFault) → built ≡ other → LowersTo old new built result
    → LowersTo old new other result
LowersTo-same old new built other result e h = let P : Built Tree → Type 0 = λ b. LowersTo old new b result in subst P e h

pub Refused-same : (old new : List Node) (built other : Built Tree) (fault : PushFault) → built ≡ other → Refused old new built.rows fault
    → Refused old new other.rows fault
Refused-same old new built other fault e h = let P : Built Tree → Type 0 = λ b. Refused old new b.rows fault in subst P e h

pub Lowers-same : (old new : List Node) (built other : Built Tree) (id : NodeId) → built ≡ other → Lowers old new built id → Lowers old new other id
Lowers-same old new built other id e h = let P : Built Tree → Type 0 = λ b. Lowers old new b id in subst P e h
