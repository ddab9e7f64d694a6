-- Bytes are one bundle at most: what stands at their front determines what it says and what is left.
use Rattle.std.proofs.Common.{◌≡◌, ℕ, zero, suc, ◌+◌, ◌%◌, ◌≤◌, ℤ, pos, nat_abs, List, [], ◌∷◌, ◌++◌, length, get_or, take, drop, replicate, codes, refl}
use Rattle.std.proofs.Common.{sym, ap, ◌∙◌, subst, arith}
use Rattle.std.specs.List.{All}
use Rattle.std.proofs.lemmas.List.{length-replicate}
use Rattle.std.proofs.lemmas.List.Elements.{All-head, All-tail}
use Rattle.std.proofs.Math.Seq.{drop-append_seam, drop-append-add}
use Rattle.tdl_osc.specs.Message.{Argument, Int, Word}
use Rattle.tdl_osc.specs.OscBundle.{IsTextByte, IsString, IsInt, IsTime, IsArgument, AreArguments, OscMessage, IsMessage, IsElement, AreElements, IsBundle}

-- texts without zeros that end at a zero are one
ended : (s t x y : List ℕ) → All IsTextByte s → All IsTextByte t → s ++ 0 ∷ x ≡ t ++ 0 ∷ y → s ≡ t
ended [] [] x y ps pt e = refl
ended [] (b ∷ t) x y ps pt e =
    let some = All-head IsTextByte b t pt in
    let same : 0 ≡ b = ap (λ bytes. get_or bytes 0 0) e in
    absurd (omega (arith, some.0, same))
ended (a ∷ s) [] x y ps pt e =
    let some = All-head IsTextByte a s ps in
    let same : a ≡ 0 = ap (λ bytes. get_or bytes 0 0) e in
    absurd (omega (arith, some.0, same))
ended (a ∷ s) (b ∷ t) x y ps pt e =
    let same : a ≡ b = ap (λ bytes. get_or bytes 0 0) e in
    let rest = ended s t x y (All-tail IsTextByte a s ps) (All-tail IsTextByte b t pt) (ap (drop 1) e) in
    ap (λ c. c ∷ s) same ∙ ap (λ u. b ∷ u) rest

-- one zero or more begin with one
pub first_zero : (zeros : ℕ) (left : List ℕ) → 1 ≤ zeros → (more : List ℕ) × (replicate zeros 0 ++ left ≡ 0 ∷ more)
first_zero zero left h = absurd (omega arith)
first_zero (suc zeros) left h = (replicate zeros 0 ++ left, refl)

string_text : (bytes s t l r : List ℕ) → IsString bytes s l → IsString bytes t r → s ≡ t
string_text bytes s t l r a b =
    let x = first_zero a.zeros l a.ended in
    let y = first_zero b.zeros r b.ended in
    ended s t x.0 y.0 a.ascii b.ascii (ap (λ more. s ++ more) (sym x.1) ∙ sym a.parts ∙ b.parts ∙ ap (λ more. t ++ more) y.1)

-- what a string leaves begins where its zeros end
string_left : (bytes text left : List ℕ) → (a : IsString bytes text left) → drop (length text + a.zeros) bytes ≡ left
string_left bytes text left a =
    let length_is : length (replicate a.zeros 0) ≡ a.zeros = length-replicate a.zeros 0 in
    ap (drop (length text + a.zeros)) a.parts
    ∙ drop-append-add text (replicate a.zeros 0 ++ left) a.zeros
    ∙ ap (λ n. drop n (replicate a.zeros 0 ++ left)) (sym length_is)
    ∙ drop-append_seam (replicate a.zeros 0) left

pub one_padding : (n k m : ℕ) → 1 ≤ k → k ≤ 4 → (n + k) % 4 ≡ 0 → 1 ≤ m → m ≤ 4 → (n + m) % 4 ≡ 0 → k ≡ m
one_padding n k m a b c d e f = omega arith

pub one_string : (bytes s t l r : List ℕ) → IsString bytes s l → IsString bytes t r → (s ≡ t) × (l ≡ r)
one_string bytes s t l r a b =
    let text = string_text bytes s t l r a b in
    let size = ap length text in
    let aligned : (length s + b.zeros) % 4 ≡ 0 = rw text b.aligned in
    let zeros = one_padding (length s) a.zeros b.zeros a.ended a.shortest a.aligned b.ended b.shortest aligned in
    let offset : length s + a.zeros ≡ length t + b.zeros = omega (arith, size, zeros) in
    (text, sym (string_left bytes s l a) ∙ ap (λ n. drop n bytes) offset ∙ string_left bytes t r b)

one_int : (bytes l r : List ℕ) (m n : ℤ) → IsInt bytes m l → IsInt bytes n r → (m ≡ n) × (l ≡ r)
one_int bytes l r m n a b = (a.value ∙ sym b.value, a.after ∙ sym b.after)

one_time : (bytes l r : List ℕ) (m n : ℤ) → IsTime bytes m l → IsTime bytes n r → (m ≡ n) × (l ≡ r)
one_time bytes l r m n a b = (a.value ∙ sym b.value, a.after ∙ sym b.after)

-- a tag is not both that of a number and that of a string
tags_differ : (tag : ℕ) → tag ∷ [] ≡ codes "i" → tag ∷ [] ≡ codes "s" → ⊥
tags_differ tag i s =
    let number : tag ≡ 105 = ap (λ bytes. get_or bytes 0 0) i in
    let string : tag ≡ 115 = ap (λ bytes. get_or bytes 0 0) s in
    omega arith

one_argument : (tag : ℕ) (bytes l r : List ℕ) (a b : Argument) → IsArgument tag bytes a l → IsArgument tag bytes b r → (a ≡ b) × (l ≡ r)
one_argument tag bytes l r (Int m) (Int n) p q = let one = one_int bytes l r m n p.1 q.1 in (ap Int one.0, one.1)
one_argument tag bytes l r (Int m) (Word t) p q = absurd (tags_differ tag p.0 q.0)
one_argument tag bytes l r (Word s) (Int n) p q = absurd (tags_differ tag q.0 p.0)
one_argument tag bytes l r (Word s) (Word t) p q = let one = one_string bytes s t l r p.1 q.1 in (ap Word one.0, one.1)

one_list : (tags bytes : List ℕ) (cs bs : List Argument) → AreArguments tags bytes cs → AreArguments tags bytes bs → cs ≡ bs
one_list [] bytes [] [] p q = refl
one_list [] bytes [] (b ∷ bs) p q = absurd q
one_list [] bytes (a ∷ cs) bs p q = absurd p
one_list (tag ∷ tags) bytes [] bs p q = absurd p
one_list (tag ∷ tags) bytes (a ∷ cs) [] p q = absurd q
one_list (tag ∷ tags) bytes (a ∷ cs) (b ∷ bs) p q =
    let first = one_argument tag bytes p.0 q.0 a b p.1 q.1 in
    let rest = one_list tags q.0 cs bs (subst (λ left. AreArguments tags left cs) first.1 p.2) q.2 in
    ap (λ c. c ∷ cs) first.0 ∙ ap (λ others. b ∷ others) rest

abbrev message : List ℕ → List Argument → OscMessage
message address arguments = record { address = address; arguments = arguments }

one_message : (bytes : List ℕ) (m n : OscMessage) → IsMessage bytes m → IsMessage bytes n → m ≡ n
one_message bytes m n p q =
    let address = one_string bytes m.address n.address p.after_address q.after_address p.addressed q.addressed in
    let tagged = subst (λ left. IsString left (codes "," ++ p.tags) p.after_tags) address.1 p.tagged in
    let both = one_string q.after_address (codes "," ++ p.tags) (codes "," ++ q.tags) p.after_tags q.after_tags tagged q.tagged in
    let tags : p.tags ≡ q.tags = ap (drop 1) both.0 in
    let told = subst (λ left. AreArguments q.tags left m.arguments) both.1 (subst (λ tags. AreArguments tags p.after_tags m.arguments) tags p.told) in
    let arguments = one_list q.tags q.after_tags m.arguments n.arguments told q.told in
    ap (λ a. message a m.arguments) address.0 ∙ ap (λ cs. message n.address cs) arguments

same_size : (m n : ℕ) → pos m ≡ pos n → m ≡ n
same_size m n e = ap nat_abs e

one_element : (bytes l r : List ℕ) (m n : OscMessage) → IsElement bytes m l → IsElement bytes n r → (m ≡ n) × (l ≡ r)
one_element bytes l r m n p q =
    let sized = one_int bytes p.after_size q.after_size (pos p.size) (pos q.size) p.sized q.sized in
    let size = same_size p.size q.size sized.0 in
    let contents : take p.size p.after_size ≡ take q.size q.after_size = ap (λ k. take k p.after_size) size ∙ ap (take q.size) sized.1 in
    let left : drop p.size p.after_size ≡ drop q.size q.after_size = ap (λ k. drop k p.after_size) size ∙ ap (drop q.size) sized.1 in
    (one_message (take q.size q.after_size) m n (subst (λ part. IsMessage part m) contents p.told) q.told, p.after ∙ left ∙ sym q.after)

no_element : (bytes left : List ℕ) (m : OscMessage) → bytes ≡ [] → IsElement bytes m left → ⊥
no_element bytes left m e p = omega (arith, ap length e, p.sized.within)

one_elements : (bytes : List ℕ) (ms ns : List OscMessage) → AreElements bytes ms → AreElements bytes ns → ms ≡ ns
one_elements bytes [] [] p q = refl
one_elements bytes [] (n ∷ ns) p q = absurd (no_element bytes q.0 n p q.1)
one_elements bytes (m ∷ ms) [] p q = absurd (no_element bytes p.0 m q p.1)
one_elements bytes (m ∷ ms) (n ∷ ns) p q =
    let first = one_element bytes p.0 q.0 m n p.1 q.1 in
    let rest = one_elements q.0 ms ns (subst (λ left. AreElements left ms) first.1 p.2) q.2 in
    ap (λ k. k ∷ ms) first.0 ∙ ap (λ ks. n ∷ ks) rest

pub one_bundle : (bytes : List ℕ) (s t : ℤ) (ms ns : List OscMessage) → IsBundle bytes s ms → IsBundle bytes t ns → (s ≡ t) × (ms ≡ ns)
one_bundle bytes s t ms ns p q =
    let head = one_string bytes (codes "#bundle") (codes "#bundle") p.after_head q.after_head p.head q.head in
    let timed = one_time q.after_head p.after_tag q.after_tag s t (subst (λ left. IsTime left s p.after_tag) head.1 p.timed) q.timed in
    (timed.0, one_elements q.after_tag ms ns (subst (λ left. AreElements left ms) timed.1 p.told) q.told)
