-- A step of the machine adds a terminal that stands at the token: what it does at values and at numbers, and
-- at any token.
use Rattle.std.proofs.Common.{◌≡◌, ℕ, Bool, true, false, if◌then◌else◌, not, ◌&&◌, nat_le, Option, Some, None, Ok, List, [], ◌∷◌, ◌++◌, length, ℤ, codes}
use Rattle.std.proofs.Common.{option_map, refl, append_assoc}
use Rattle.tdl_mini_tree.specs.declared.leaves.Number.{Number}
use Rattle.tdl_mini_tree.specs.declared.leaves.Kind.{Kind}
use Rattle.tdl_mini_tree.specs.declared.leaves.Kind.TheVariants.{Sound, Note, Int, Word, Bool as Truths, Count, Ratio}
use Rattle.tdl_mini_machine.specs.declared.marks.Mark.{Mark}
use Rattle.tdl_mini_machine.specs.declared.marks.Mark.TheVariants as mark
use Rattle.tdl_mini_tree.specs.Numbers.{is_whole}
use Rattle.tdl_mini_machine.specs.Notes.{note_of}
use Rattle.tdl_mini_machine.specs.Tokens.{Tok, digits, letters, same_text, has_sharp, truth_of, word_value, whole_value, value_of}
use Rattle.tdl_mini_machine.specs.Tokens as token
use Rattle.tdl_mini_machine.specs.Rules.{Test, number_tests, token_tests}
use Rattle.tdl_mini_grammar.specs.Spelling.{Terminal, value, numeral}
use Rattle.tdl_mini_machine.specs.NumberForms.{is_end, is_sample}
use Rattle.tdl_mini_tree.specs.Tree as tree
use Rattle.tdl_mini_machine.specs.Machine.States.{Role, term, faster, slower, Stage, ready, voiced, sampling, numbered, ranging, wanting, stepping}
use Rattle.tdl_mini_machine.specs.Machine.States.{weighing, weighted, Level, Frame, State, Taken, all_checked, step_by_role, past, begun}
use Rattle.tdl_mini_machine.specs.Machine.Settling.{grown}
use Rattle.tdl_mini_machine.specs.Machine.Values.{valued, value_stage, with_value, with_number}
use Rattle.tdl_mini_machine.specs.Machine.Running.{taken}
use Rattle.tdl_mini_machine.specs.Machine.Marks.{taken_mark}
use Rattle.tdl_mini_machine.proofs.Keeping.{state, Keeps, keeps_if}
use Rattle.tdl_mini_grammar.proofs.Spelled.{spell_frames, spell_at, spell_level, FitStage, Fit, IsWanted}
use Rattle.tdl_mini_grammar.proofs.SettledFits.{IsTaken, spell-step_by_role, step_by_role_formed}
use Rattle.tdl_mini_grammar.proofs.Went.{Went, settled_then, unfit_went, past_went, star_went, slash_went, at_went, open_fits, arguments_fit, colon_fits}
use Rattle.tdl_mini_grammar.proofs.Went.{range_fits, percent_fits, rest_fits}
use Rattle.tdl_mini_grammar.proofs.WentOn.{close_fits, comma_fits, round_fits, dot_fits, hold_fits, repeat_fits, count_fits, uncounted_fits, end_fits}

-- nothing is tested
pub untested : (P : State → Type 0) (tests : List Test) (next : Taken) → Keeps P next → Keeps P (all_checked false tests next)
untested P [] next h = h
untested P (test ∷ tests) next h = untested P tests next h

-- ---- a token is no word with a number after it
abbrev IsPlain : tree.Value → Type 0
IsPlain (tree.sound text None) = Unit {0}
IsPlain (tree.sound text (Some n)) = ⊥
IsPlain (tree.name text) = Unit {0}
IsPlain (tree.note n) = Unit {0}
IsPlain (tree.truth b) = Unit {0}
IsPlain (tree.number n) = Unit {0}

abbrev Plainly : Option tree.Value → Type 0
Plainly None = Unit {0}
Plainly (Some v) = IsPlain v

plainly_if : (b : Bool) (x y : Option tree.Value) → Plainly x → Plainly y → Plainly (if b then x else y)
plainly_if true x y h k = h
plainly_if false x y h k = k

plain_truth : (text : List ℕ) → Plainly (truth_of text)
plain_truth text =
    plainly_if (same_text text (codes "t")) _ _ tt
    (plainly_if (same_text text (codes "true")) _ _ tt
    (plainly_if (same_text text (codes "f")) _ _ tt
    (plainly_if (same_text text (codes "false")) _ _ tt tt)))

plain_note : (o : Option ℤ) → Plainly (option_map tree.note o)
plain_note None = tt
plain_note (Some n) = tt

plain_word : (kind : Kind) (text : List ℕ) → Plainly (word_value kind text)
plain_word Sound text = plainly_if (has_sharp text) _ _ tt tt
plain_word (Note key) text = plain_note (note_of text)
plain_word (Int key) text = tt
plain_word (Word key) text = plainly_if (has_sharp text) _ _ tt tt
plain_word Truths text = plain_truth text
plain_word Count text = tt
plain_word Ratio text = tt

plain_whole : (kind : Kind) (n : Number) (text : List ℕ) → Plainly (whole_value kind n text)
plain_whole Sound n text = plainly_if (not n.is_negative && nat_le (length text) 32) _ _ tt tt
plain_whole (Note key) n text = tt
plain_whole (Int key) n text = tt
plain_whole (Word key) n text = tt
plain_whole Truths n text = plainly_if (same_text text (codes "1")) _ _ tt (plainly_if (same_text text (codes "0")) _ _ tt tt)
plain_whole Count n text = tt
plain_whole Ratio n text = tt

plain : (kind : Kind) (t : Tok) → Plainly (value_of kind t)
plain kind (digits n text true) = tt
plain kind (digits n text false) = plainly_if (is_whole n) _ _ (plain_whole kind n text) tt
plain kind (letters text true) = tt
plain kind (letters text false) = plain_word kind text
plain kind (token.mark m) = tt
plain kind token.end = tt

-- ---- values
begun_went : (outer : Kind) (t : Tok) (frames : List Frame) (l : Level) (n : ℕ) (p : Stage) (v : tree.Value) → Fit outer (state frames l ready n)
    → value_of l.kind t ≡ Some v → spell_at l p ≡ spell_level l ++ value l.kind v ∷ [] → FitStage frames l p
    → Went outer t (state frames l ready n) (begun (state frames l ready n) p)
begun_went outer t frames l n p v h stands spells fit =
    record {
      next = value l.kind v;
      reads = begins (spell_frames frames) (spell_level l) (value l.kind v ∷ []) (spell_at l p) spells;
      stands = stands;
      fit =
          record { frames = h.frames; level = h.level; stage = fit };
    }
  where
    begins : (a b c d : List Terminal) → d ≡ b ++ c → a ++ d ≡ (a ++ b) ++ c
    begins a b c d e = rw e (simp append_assoc)

number_begun : (outer : Kind) (t : Tok) (frames : List Frame) (l : Level) (n : ℕ) (x : Number) (b : Bool) → is_end l.kind x ≡ b
    → Fit outer (state frames l ready n) → value_of l.kind t ≡ Some (tree.number x)
    → Went outer t (state frames l ready n) (begun (state frames l ready n) (if b then numbered x else stepping (tree.begins (tree.value (tree.number x)))))
number_begun outer t frames l n x true e h stands = begun_went outer t frames l n (numbered x) (tree.number x) h stands refl e
number_begun outer t frames l n x false e h stands = begun_went outer t frames l n (stepping (tree.begins (tree.value (tree.number x))))
    (tree.number x) h stands refl tt

value_begun : (outer : Kind) (t : Tok) (frames : List Frame) (l : Level) (n : ℕ) (v : tree.Value) → IsPlain v → Fit outer (state frames l ready n)
    → value_of l.kind t ≡ Some v → Went outer t (state frames l ready n) (begun (state frames l ready n) (value_stage l.kind v))
value_begun outer t frames l n (tree.sound text None) is h stands = begun_went outer t frames l n (voiced text) (tree.sound text None) h stands refl tt
value_begun outer t frames l n (tree.sound text (Some x)) is h stands = absurd is
value_begun outer t frames l n (tree.name text) is h stands =
    begun_went outer t frames l n (stepping (tree.begins (tree.value (tree.name text)))) (tree.name text) h stands refl tt
value_begun outer t frames l n (tree.note x) is h stands = begun_went outer t frames l n (stepping (tree.begins (tree.value (tree.note x))))
    (tree.note x) h stands refl tt
value_begun outer t frames l n (tree.truth b) is h stands = begun_went outer t frames l n (stepping (tree.begins (tree.value (tree.truth b))))
    (tree.truth b) h stands refl tt
value_begun outer t frames l n (tree.number x) is h stands = number_begun outer t frames l n x (is_end l.kind x) refl h stands

valued_fits : (outer : Kind) (t : Tok) (frames : List Frame) (l : Level) (n : ℕ) (o : Option tree.Value) → value_of l.kind t ≡ o → Plainly o
    → Fit outer (state frames l ready n) → Keeps (Went outer t (state frames l ready n)) (valued false (state frames l ready n) t o)
valued_fits outer t frames l n None e is h = tt
valued_fits outer t frames l n (Some v) e is h = untested (Went outer t (state frames l ready n)) (token_tests l.kind n v) _
    (value_begun outer t frames l n v is h e)

value_fits : (outer : Kind) (t : Tok) (s : State) → Fit outer s → Keeps (Went outer t s) (with_value false s t)
value_fits outer t s h = settled_then outer t (λ f. valued false f t (value_of f.level.kind t)) s h
    (λ frames l n k. valued_fits outer t frames l n (value_of l.kind t) refl (plain l.kind t) k)

-- ---- numbers
scaled_taken : (role : Role) (bs : tree.Braces) (n : Number) → IsWanted role bs → IsTaken role (tree.scaled bs n)
scaled_taken term bs n h = h
scaled_taken (faster s) bs n h = tt
scaled_taken (slower s) bs n h = tt

number_in : (outer : Kind) (frames : List Frame) (l : Level) (n : ℕ) (text : List ℕ) (x : Number) (p : Stage) → Fit outer (state frames l p n)
    → Keeps (Went outer (digits x text false) (state frames l p n)) (with_number false (state frames l p n) (digits x text false) x p)
number_in outer frames l n text x (sampling word) h =
    keeps_if (Went outer (digits x text false) (state frames l (sampling word) n)) (is_sample x) _ _
    (λ e. past_went outer (digits x text false) frames l n (sampling word) (stepping (tree.begins (tree.value (tree.sound word (Some x))))) (numeral x) h
    (simp append_assoc) (text, refl) e)
    (λ e. tt)
number_in outer frames l n text x (ranging a) h =
    keeps_if (Went outer (digits x text false) (state frames l (ranging a) n)) (is_end l.kind x) _ _
    (λ e. untested (Went outer (digits x text false) (state frames l (ranging a) n)) (number_tests l.kind n x)
    (Ok (past (grown (state frames l (ranging a) n) (tree.range a x)) ready))
    (record {
      next = numeral x;
      reads = simp append_assoc;
      stands = (text, refl);
      fit =
          record { frames = h.frames; level = (h.level.0, h.level.1, (h.level.2, tt, (h.stage, e))); stage = tt };
    }))
    (λ e. tt)
number_in outer frames l n text x (wanting role bs) h =
    past_went outer (digits x text false) frames l n (wanting role bs) (stepping (step_by_role role (tree.scaled bs x))) (numeral x) h
    (simp (append_assoc, spell-step_by_role))
    (text, refl)
    (step_by_role_formed l.kind (length frames) role (tree.scaled bs x) h.stage.0 (scaled_taken role bs x h.stage.2) h.stage.1)
number_in outer frames l n text x (weighing s) h = past_went outer (digits x text false) frames l n (weighing s) (weighted s x) (numeral x) h
    (simp append_assoc) (text, refl) h.stage
number_in outer frames l n text x p h = value_fits outer (digits x text false) (state frames l p n) h

number_fits : (outer : Kind) (s : State) (text : List ℕ) (x : Number) → Fit outer s
    → Keeps (Went outer (digits x text false) s) (with_number false s (digits x text false) x s.stage)
number_fits outer s text x h = number_in outer s.frames s.level s.read text x s.stage h

-- ---- any token
mark_fits : (outer : Kind) (s : State) (m : Mark) → Fit outer s → Keeps (Went outer (token.mark m) s) (taken_mark false s (token.mark m) m)
mark_fits outer s mark.Rest h = rest_fits outer s h
mark_fits outer s (mark.Open b) h = open_fits outer b s h
mark_fits outer s (mark.Close b) h = close_fits outer b s h
mark_fits outer s mark.OpenRound h = arguments_fit outer s h
mark_fits outer s mark.CloseRound h = round_fits outer s h
mark_fits outer s mark.Comma h = comma_fits outer s h
mark_fits outer s mark.Repeat h = repeat_fits outer s h
mark_fits outer s mark.Star h = star_went outer s h
mark_fits outer s mark.Slash h = slash_went outer s h
mark_fits outer s mark.At h = at_went outer s h
mark_fits outer s mark.Colon h = colon_fits outer s h
mark_fits outer s mark.Percent h = percent_fits outer s h
mark_fits outer s mark.Question h = unfit_went outer (token.mark mark.Question) s h
mark_fits outer s mark.Bar h = unfit_went outer (token.mark mark.Bar) s h
mark_fits outer s mark.Caret h = unfit_went outer (token.mark mark.Caret) s h
mark_fits outer s mark.Hold h = hold_fits outer s h
mark_fits outer s mark.Dot h = dot_fits outer s h
mark_fits outer s mark.Range h = range_fits outer s h

pub taken_fits : (outer : Kind) (s : State) (t : Tok) → Fit outer s → Keeps (Went outer t s) (taken false s t)
taken_fits outer s (digits x text true) h = count_fits outer s text x h
taken_fits outer s (digits x text false) h = number_fits outer s text x h
taken_fits outer s (letters text true) h = uncounted_fits outer (letters text true) s h
taken_fits outer s (letters text false) h = value_fits outer (letters text false) s h
taken_fits outer s (token.mark m) h = mark_fits outer s m h
taken_fits outer s token.end h = end_fits outer s h
