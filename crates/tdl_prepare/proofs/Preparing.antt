-- Programs of expressions, and why there are none.
use Rattle.std.proofs.Common.{◌≡◌, ◌⊎◌, inl, inr, Option, Some, None, Result, Ok, Err, IfSome, IsErrAnd, ℕ, List, [], ◌++◌, map, refl, sym, ap, ◌∙◌, subst}
use Rattle.tdl_expr.specs.declared.ids.NodeId.{NodeId}
use Rattle.tdl_expr.specs.declared.nodes.Node.{Node}
use Rattle.tdl_expr.specs.declared.tables.PushFault.{PushFault}
use Rattle.tdl_expr.specs.declared.tables.PushFault.TheVariants as push
use Rattle.tdl_expr.specs.Rows.{links_of, tree_at}
use Rattle.tdl_expr.specs.Tree.{Tree}
use Rattle.tdl_expr.specs.Valid.{IsValid, IsWithinLimits}
use Rattle.tdl_compile.specs.declared.faults.CompileFault.{CompileFault}
use Rattle.tdl_compile.specs.declared.faults.CompileFault.TheVariants as compile
use Rattle.tdl_compile.specs.Compiled.{Compiled, bounds_fault}
use Rattle.tdl_rows.specs.Built.{Built}
use Rattle.tdl_rows.specs.Lowers.{first_overflow, overflow_in, Gains, Refused, Lowers}
use Rattle.tdl_prepare.specs.declared.faults.PrepareFault.{PrepareFault}
use Rattle.tdl_prepare.specs.declared.faults.PrepareFault.TheVariants.{NoMemory}
use Rattle.tdl_prepare.specs.Prepared.{pushed, compiled, fault_of, prepare_fault, PreparesTo}

no_memory : {X : Type 0} (o : Option PrepareFault) (result : Result X PrepareFault) → result ≡ Err NoMemory
    → IfSome o (λ fault. (result ≡ Err fault) ⊎ (result ≡ Err NoMemory))
no_memory None result e = tt
no_memory (Some fault) result e = inr e

this_fault : {X : Type 0} (o : Option PrepareFault) (fault : PrepareFault) (result : Result X PrepareFault) → o ≡ Some fault → result ≡ Err fault
    → IfSome o (λ fault. (result ≡ Err fault) ⊎ (result ≡ Err NoMemory))
this_fault None fault result e f = tt
this_fault (Some other) fault result e f = let same : other ≡ fault = (cc) in inl (f ∙ ap Err (sym same))

-- a fault that is the first, or want of memory
refused_by : (b : Built Tree) (fault : PrepareFault) → (prepare_fault b ≡ Some fault) ⊎ (fault ≡ NoMemory) → (result : Result Compiled PrepareFault)
    → result ≡ Err fault → PreparesTo b result
refused_by b fault (inl e) (Ok program) r = (cc)
refused_by b fault (inr e) (Ok program) r = (cc)
refused_by b fault (inl e) (Err other) r =
    let same : other ≡ fault = (cc) in
    record { ok = tt; refused = this_fault (prepare_fault b) fault (Err other) e r; only = inl (e ∙ ap Some (sym same)) }
refused_by b fault (inr e) (Err other) r =
    let same : other ≡ fault = (cc) in
    record { ok = tt; refused = no_memory (prepare_fault b) (Err other) (r ∙ ap Err e); only = inr (same ∙ e) }

push_fault : (b : Built Tree) (fault : PushFault) → (first_overflow 0 0 b.rows ≡ Some fault) ⊎ (fault ≡ push.NoMemory)
    → (prepare_fault b ≡ Some (pushed fault)) ⊎ (pushed fault ≡ NoMemory)
push_fault b fault (inl e) = inl (ap (λ (o : Option PushFault). fault_of o (bounds_fault b.value)) e)
push_fault b fault (inr e) = inr (ap pushed e)

pub push_refused : {old new : List Node} (b : Built Tree) (fault : PushFault) (result : Result Compiled PrepareFault) → old ≡ []
    → Refused old new b.rows fault
    → result ≡ Err (pushed fault) → PreparesTo b result
push_refused {old = old} b fault result e refused r =
    let P : List Node → Type 0 = λ ns. (overflow_in ns b.rows ≡ Some fault) ⊎ (fault ≡ push.NoMemory) in
    refused_by b (pushed fault) (push_fault b fault (subst P e refused.reason)) result r

compile_fault : (b : Built Tree) (fault : CompileFault) → first_overflow 0 0 b.rows ≡ None → (bounds_fault b.value ≡ Some fault) ⊎ (fault ≡ compile.NoMemory)
    → (prepare_fault b ≡ Some (compiled fault)) ⊎ (compiled fault ≡ NoMemory)
compile_fault b fault fits (inl e) = inl (ap (λ (o : Option PushFault). fault_of o (bounds_fault b.value)) fits
    ∙ ap (λ (o : Option CompileFault). fault_of None o) e)
compile_fault b fault fits (inr e) = inr (ap compiled e)

fits_at_first : {old new : List Node} (b : Built Tree) → old ≡ [] → Gains old new b.rows → first_overflow 0 0 b.rows ≡ None
fits_at_first b e gains = let P : List Node → Type 0 = λ ns. overflow_in ns b.rows ≡ None in subst P e gains.fits

pub compile_refused : {old new : List Node} {id : NodeId} (b : Built Tree) (fault : CompileFault) (result : Result Compiled PrepareFault) → old ≡ []
    → Lowers old new b id → (bounds_fault (tree_at new id) ≡ Some fault) ⊎ (fault ≡ compile.NoMemory) → result ≡ Err (compiled fault) → PreparesTo b result
compile_refused b fault result e made reason r =
    let P : Tree → Type 0 = λ t. (bounds_fault t ≡ Some fault) ⊎ (fault ≡ compile.NoMemory) in
    refused_by b (compiled fault) (compile_fault b fault (fits_at_first b e made.gains) (subst P made.is reason)) result r

no_fault : {X : Type 0} (o : Option CompileFault) (x : X) (r : Result X CompileFault) → r ≡ Ok x
    → IfSome o (λ fault. (r ≡ Err fault) ⊎ (r ≡ Err compile.NoMemory)) → o ≡ None
no_fault None x r e h = refl
no_fault (Some fault) x r e h = elim h [ inl f ↦ cc | inr f ↦ cc ]

fault_none : (b : Built Tree) → first_overflow 0 0 b.rows ≡ None → bounds_fault b.value ≡ None → prepare_fault b ≡ None
fault_none b e f = ap (λ (o : Option PushFault). fault_of o (bounds_fault b.value)) e ∙ ap (λ (o : Option CompileFault). fault_of None o) f

no_refusal : (o : Option PrepareFault) (result : Result Compiled PrepareFault) → o ≡ None → IfSome o (λ fault. (result ≡ Err fault) ⊎ (result ≡ Err NoMemory))
no_refusal None result e = tt
no_refusal (Some fault) result e = (cc)

nodes_are : {old new : List Node} {links : List ℕ} → old ≡ [] → Gains old new links → map links_of new ≡ links
nodes_are {old = old} {new = new} e gains = ap (map links_of) (gains.nodes ∙ ap (λ (ns : List Node). ns ++ gains.added) e) ∙ gains.rows

pub prepared_ok : {old new : List Node} {id : NodeId} (b : Built Tree) (program : Compiled) (r : Result Compiled CompileFault) → old ≡ []
    → Lowers old new b id
    → r ≡ Ok program → program ≡ record { nodes = new; root = id } → IsValid (tree_at program.nodes program.root)
    → IsWithinLimits (tree_at program.nodes program.root)
    → IfSome (bounds_fault (tree_at new id)) (λ fault. (r ≡ Err fault) ⊎ (r ≡ Err compile.NoMemory)) → PreparesTo b (Ok program)
prepared_ok {new = new} {id = id} b program r e made ok is valid limits refused =
    let tree : tree_at program.nodes program.root ≡ tree_at new id = ap (λ (p : Compiled). tree_at p.nodes p.root) is in
    let bounds : bounds_fault b.value ≡ None = ap bounds_fault (sym made.is) ∙ no_fault (bounds_fault (tree_at new id)) program r ok refused in
    record {
      ok = record {
        tree = tree ∙ made.is;
        rows = ap (λ (p : Compiled). map links_of p.nodes) is ∙ nodes_are e made.gains;
        valid = valid;
        limits = limits;
      };
      refused = no_refusal (prepare_fault b) (Ok program) (fault_none b (fits_at_first b e made.gains) bounds);
      only = tt;
    }

-- what a `?` returns
pub err_is : {X E : Type 0} (result : Result X E) (e : E) → IsErrAnd result (λ y. y ≡ e) → result ≡ Err e
err_is (Ok x) e h = absurd h
err_is (Err y) e h = ap Err h
