-- Words ask for one thing at most.
use Rattle.std.proofs.Common.{◌≡◌, ℕ, refl, List, [], ◌∷◌, Some, sym, ap, subst, ◌∙◌, codes}
use Rattle.std.specs.Str.Parse.{digits_value}
use Rattle.tdl_fraction.proofs.Spelling.{Reads-unique}
use Rattle.tdl_tempo.specs.Tempo.{Pace}
use Rattle.tdl_words.proofs.FirstWord.{other_mode}
use Rattle.tdl_words.specs.Words.{AreOptions, IsGivenAs, IsGivenOnce, given, positional}
use Rattle.tdl_words.specs.Modes.{AskDrill, AskPlay, AskQuery, AskServe, Asked, Asks, AsksDrill, AsksPlay, AsksQuery, AsksServe, IsCpsText, IsOriginText, IsWholeText, Query}
use Rattle.tdl_words.specs.Modes.{SayPace, SayServe, cps_option, cycles_option, max_cycles, max_performers}
use Rattle.tdl_words.specs.Modes.{origin_option, performers_option, play_options, serve_options, usual_pace}

says_one_value : {X : Type 0} (IsTextOf : List ℕ → X → Type 0) → ((text : List ℕ) (x y : X) → IsTextOf text x → IsTextOf text y → x ≡ y)
    → (usual : X) (texts : List (List ℕ)) (x y : X) → IsGivenAs IsTextOf usual texts x → IsGivenAs IsTextOf usual texts y → x ≡ y
says_one_value IsTextOf one usual [] x y says says_too = says ∙ sym says_too
says_one_value IsTextOf one usual (text ∷ []) x y says says_too = one text x y says says_too
says_one_value IsTextOf one usual (first ∷ second ∷ rest) x y says says_too = absurd says

one_query : (words : List (List ℕ)) (p q : Query) → AsksQuery words p → AsksQuery words q → p ≡ q
one_query words p q a b =
    let found : Some a.found ≡ Some b.found = sym a.come_to ∙ b.come_to in
    let same : a.found ≡ b.found = cc in
    let first : p.pattern ≡ q.pattern = cc in
    let second : p.from ≡ q.from = cc in
    let third : p.to ≡ q.to = cc in
    λ i. record { pattern = first i; from = second i; to = third i }

once_one_value : (least most : ℕ) (texts : List (List ℕ)) (m n : ℕ)
    → IsGivenOnce (IsWholeText least most) texts m → IsGivenOnce (IsWholeText least most) texts n → m ≡ n
once_one_value least most texts m n h k =
    let lists : h.text ∷ [] ≡ k.text ∷ [] = sym h.once ∙ k.once in
    let same : h.text ≡ k.text = cc in
    h.says.value ∙ ap (digits_value 10) same ∙ sym k.says.value

one_pace : (texts : List ℕ → List (List ℕ)) (p q : Pace) → SayPace texts p → SayPace texts q → p ≡ q
one_pace texts p q h k =
    let cps : p.cps ≡ q.cps =
    says_one_value IsCpsText (λ text x y a b. Reads-unique text x y a.reads b.reads) usual_pace.cps (texts cps_option) p.cps q.cps h.cps k.cps in
    let origin : p.origin ≡ q.origin =
    says_one_value IsOriginText (λ text x y a b. a.value ∙ sym b.value) usual_pace.origin (texts origin_option) p.origin q.origin h.origin k.origin in
    λ i. record { cps = cps i; origin = origin i }

-- what options say of the same pieces
one_found : (names words : List (List ℕ)) (Say Says : (List ℕ → List (List ℕ)) → Type 0) (a : AreOptions names Say words) (b : AreOptions names Says words)
    → Says (λ name. given name a.found)
one_found names words Say Says a b =
    let found : Some b.found ≡ Some a.found = sym b.come_to ∙ a.come_to in
    let same : b.found ≡ a.found = cc in
    subst (λ f. Says (λ name. given name f)) same b.say

one_play : (words : List (List ℕ)) (p q : Pace) → AsksPlay words p → AsksPlay words q → p ≡ q
one_play words p q a b =
    one_pace (λ name. given name a.found) p q a.say (one_found play_options words (λ texts. SayPace texts p) (λ texts. SayPace texts q) a b)

one_serve : (words : List (List ℕ)) (p q : Pace) (k l m n : ℕ) → AsksServe words p k m → AsksServe words q l n → AskServe p k m ≡ AskServe q l n
one_serve words p q k l m n a b =
    let texts : List ℕ → List (List ℕ) = λ name. given name a.found in
    let say : SayServe texts q l n = one_found serve_options words (λ ts. SayServe ts p k m) (λ ts. SayServe ts q l n) a b in
    let tempo : p ≡ q = one_pace texts p q a.say.tempo_is say.tempo_is in
    let performers : k ≡ l = once_one_value 1 max_performers (texts performers_option) k l a.say.performers_are say.performers_are in
    let cycles : m ≡ n = once_one_value 1 max_cycles (texts cycles_option) m n a.say.cycles_are say.cycles_are in
    λ i. AskServe (tempo i) (performers i) (cycles i)

one_drill : (words : List (List ℕ)) (k l m n : ℕ) → AsksDrill words k m → AsksDrill words l n → AskDrill k m ≡ AskDrill l n
one_drill words k l m n a b =
    let found : Some a.found ≡ Some b.found = sym a.come_to ∙ b.come_to in
    let same : a.found ≡ b.found = cc in
    let texts : a.start_text ∷ a.lines_text ∷ [] ≡ b.start_text ∷ b.lines_text ∷ [] = sym a.are_two ∙ ap positional same ∙ b.are_two in
    let first : a.start_text ≡ b.start_text = cc in
    let second : a.lines_text ≡ b.lines_text = cc in
    let start : k ≡ l = a.start_is.value ∙ ap (digits_value 10) first ∙ sym b.start_is.value in
    let lines : m ≡ n = a.lines_are.value ∙ ap (digits_value 10) second ∙ sym b.lines_are.value in
    λ i. AskDrill (start i) (lines i)

pub asks_for_one : (words : List (List ℕ)) (a b : Asked) → Asks words a → Asks words b → a ≡ b
asks_for_one [] a b h k = absurd h
asks_for_one (mode ∷ rest) (AskQuery p) (AskQuery q) h k = ap (λ x. AskQuery x) (one_query rest p q h.1 k.1)
asks_for_one (mode ∷ rest) (AskPlay p) (AskPlay q) h k = ap (λ x. AskPlay x) (one_play rest p q h.1 k.1)
asks_for_one (mode ∷ rest) (AskServe p i m) (AskServe q j n) h k = one_serve rest p q i j m n h.1 k.1
asks_for_one (mode ∷ rest) (AskQuery p) (AskPlay q) h k = absurd (other_mode mode (codes "query") (codes "play") refl h.0 k.0)
asks_for_one (mode ∷ rest) (AskPlay p) (AskQuery q) h k = absurd (other_mode mode (codes "query") (codes "play") refl k.0 h.0)
asks_for_one (mode ∷ rest) (AskQuery p) (AskServe q j n) h k = absurd (other_mode mode (codes "query") (codes "serve") refl h.0 k.0)
asks_for_one (mode ∷ rest) (AskServe p i m) (AskQuery q) h k = absurd (other_mode mode (codes "query") (codes "serve") refl k.0 h.0)
asks_for_one (mode ∷ rest) (AskPlay p) (AskServe q j n) h k = absurd (other_mode mode (codes "play") (codes "serve") refl h.0 k.0)
asks_for_one (mode ∷ rest) (AskServe p i m) (AskPlay q) h k = absurd (other_mode mode (codes "play") (codes "serve") refl k.0 h.0)
asks_for_one (mode ∷ rest) (AskDrill i m) (AskDrill j n) h k = one_drill rest i j m n h.1 k.1
asks_for_one (mode ∷ rest) (AskQuery p) (AskDrill j n) h k = absurd (other_mode mode (codes "query") (codes "drill") refl h.0 k.0)
asks_for_one (mode ∷ rest) (AskDrill i m) (AskQuery q) h k = absurd (other_mode mode (codes "query") (codes "drill") refl k.0 h.0)
asks_for_one (mode ∷ rest) (AskPlay p) (AskDrill j n) h k = absurd (other_mode mode (codes "play") (codes "drill") refl h.0 k.0)
asks_for_one (mode ∷ rest) (AskDrill i m) (AskPlay q) h k = absurd (other_mode mode (codes "play") (codes "drill") refl k.0 h.0)
asks_for_one (mode ∷ rest) (AskServe p i m) (AskDrill j n) h k = absurd (other_mode mode (codes "serve") (codes "drill") refl h.0 k.0)
asks_for_one (mode ∷ rest) (AskDrill i m) (AskServe q j n) h k = absurd (other_mode mode (codes "serve") (codes "drill") refl k.0 h.0)
