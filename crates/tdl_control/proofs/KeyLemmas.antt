-- Lemmas on keys and their names.
use Rattle.std.proofs.Common.{◌≡◌, ℕ, ◌<◌, ◌≤◌, Bool, true, false, List, [], ◌∷◌, length, Some, IfSome, cond, zero, suc, ◌==◌, nat_lt, nat_le, sym, ap, subst}
use Rattle.std.proofs.Common.{◌∙◌, arith, refl}
use Rattle.std.specs.List.{find, list_all, slice_get}
use Rattle.std.specs.Cmp.Lexicographic.{slice_cmp}
use Rattle.std.specs.Ordering.{nat_cmp, ordering_index}
use Rattle.std.specs.declared.cmp.Ordering.{Ordering}
use Rattle.std.specs.declared.cmp.Ordering.TheVariants.{Less, Equal, Greater}
use Rattle.std.specs.Cmp.{nat_cmp_is}
use Rattle.std.proofs.lemmas.Cmp.{ranked}
use Rattle.std.proofs.lemmas.Bool.{and_parts}
use Rattle.std.proofs.lemmas.Bool.Decides.{nat_tests}
use Rattle.tdl_control.specs.declared.keys.Key.{Key}
use Rattle.tdl_control.specs.declared.keys.Key.TheVariants.{Accelerate, Attack, Bandf, Begin, Channel, Crush, Cut, Cutoff, Delay}
use Rattle.tdl_control.specs.declared.keys.Key.TheVariants.{End, Gain, Hold, Legato, Midichan, N, Note, Pan, Release, Room, S, Speed}
use Rattle.tdl_control.specs.declared.keys.Key.TheVariants.{Unit as UnitKey, Velocity, Vowel}
use Rattle.tdl_control.specs.declared.keys.TheConstants.{ALL_KEYS}
use Rattle.tdl_control.specs.Key.{name_of, key_count, rank}

-- what a search finds has what its test says
pub IfSome-find : {X : Type 0} (p : X → Bool) (P : X → Type 0) → ((x : X) → p x ≡ true → P x) → (xs : List X) → IfSome (find p xs) P
IfSome-find p P says [] = tt
IfSome-find p P says (x ∷ xs) =
    elim (p x) as (λ b. p x ≡ b → IfSome (cond b (Some x) (find p xs)) P) [ true ↦ λ e. says x e | false ↦ λ e. IfSome-find p P says xs ] refl

-- the key of a rank stands there among all keys
all_keys_at : (k : Key) → slice_get ALL_KEYS (rank k) ≡ Some k
all_keys_at Accelerate = refl
all_keys_at Attack = refl
all_keys_at Bandf = refl
all_keys_at Begin = refl
all_keys_at Channel = refl
all_keys_at Crush = refl
all_keys_at Cut = refl
all_keys_at Cutoff = refl
all_keys_at Delay = refl
all_keys_at End = refl
all_keys_at Gain = refl
all_keys_at Hold = refl
all_keys_at Legato = refl
all_keys_at Midichan = refl
all_keys_at N = refl
all_keys_at Note = refl
all_keys_at Pan = refl
all_keys_at Release = refl
all_keys_at Room = refl
all_keys_at S = refl
all_keys_at Speed = refl
all_keys_at UnitKey = refl
all_keys_at Velocity = refl
all_keys_at Vowel = refl

-- keys of the same rank are the same
pub key_from_rank : (j k : Key) → rank j ≡ rank k → j ≡ k
key_from_rank j k same = let found = sym (all_keys_at j) ∙ ap (slice_get ALL_KEYS) same ∙ all_keys_at k in cc

-- what a test says of each element, it says of the one at index i
list_all-at : {X : Type 0} (p : X → Bool) (xs : List X) (i : ℕ) (x : X) → list_all p xs ≡ true → slice_get xs i ≡ Some x → p x ≡ true
list_all-at p [] i x each here = cc
list_all-at p (y ∷ ys) zero x each here = let same : y ≡ x = cc in subst (λ z. p z ≡ true) same (and_parts (p y) (list_all p ys) each).0
list_all-at p (y ∷ ys) (suc i) x each here = list_all-at p ys i x (and_parts (p y) (list_all p ys) each).1 here

-- what a test says of all keys, it says of each
pub each_key : (p : Key → Bool) → list_all p ALL_KEYS ≡ true → (k : Key) → p k ≡ true
each_key p each k = list_all-at p ALL_KEYS (rank k) k each (all_keys_at k)

-- a rank is below how many keys there are
pub rank_below : (k : Key) → rank k < key_count
rank_below k = let tested : nat_lt (rank k) key_count ≡ true = each_key (λ k. nat_lt (rank k) key_count) refl k in grind (arith, nat_tests, tested)

-- a name is short
pub name_short : (k : Key) → length (name_of k) ≤ 10
name_short k = let tested : nat_le (length (name_of k)) 10 ≡ true = each_key (λ k. nat_le (length (name_of k)) 10) refl k in grind (arith, nat_tests, tested)

-- an ordering is told by where it stands
ordering_from_index : (o p : Ordering) → ordering_index o ≡ ordering_index p → o ≡ p
ordering_from_index Less Less same = refl
ordering_from_index Less Equal same = absurd (omega arith)
ordering_from_index Less Greater same = absurd (omega arith)
ordering_from_index Equal Less same = absurd (omega arith)
ordering_from_index Equal Equal same = refl
ordering_from_index Equal Greater same = absurd (omega arith)
ordering_from_index Greater Less same = absurd (omega arith)
ordering_from_index Greater Equal same = absurd (omega arith)
ordering_from_index Greater Greater same = refl

-- whether two names compare as their ranks do
abbrev is_in_order : Key → Key → Bool
is_in_order j k = ordering_index (slice_cmp nat_cmp (name_of j) (name_of k)) == ordering_index (nat_cmp (rank j) (rank k))

-- two names compare as their ranks do
pub names_ordered : (j k : Key) → slice_cmp nat_cmp (name_of j) (name_of k) ≡ nat_cmp (rank j) (rank k)
names_ordered j k =
    let all_pairs : list_all (λ j. list_all (is_in_order j) ALL_KEYS) ALL_KEYS ≡ true = refl in
    let tested : is_in_order j k ≡ true = each_key (is_in_order j) (each_key (λ j. list_all (is_in_order j) ALL_KEYS) all_pairs j) k in
    ordering_from_index _ _ (grind (arith, nat_tests, tested))

-- keys of the same name are the same
pub key_from_name : (j k : Key) → name_of j ≡ name_of k → j ≡ k
key_from_name j k same =
    let ordered = names_ordered j k in
    let equal : nat_cmp (rank j) (rank k) ≡ Equal = sym ordered ∙ ap (λ name. slice_cmp nat_cmp name (name_of k)) same ∙ names_ordered k k
    ∙ sym (nat_cmp_is (rank k) (rank k) Equal refl) in
    key_from_rank j k (ranked (rank j) (rank k) Equal (sym equal))
