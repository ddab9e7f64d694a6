-- A line without the blanks round it is the same line.
--     front_gone     without the blanks before it
--     end_gone       without the blanks after it
--     outer_gone     without both
use Rattle.std.specs.Prelude.{slice_range}
use Rattle.std.specs.List.{AllZip}
use Rattle.std.proofs.Common.{◌≡◌, ℕ, ◌+◌, ◌-◌, ◌<◌, ◌≤◌, min, ⊎_elim, None, List, [], ◌∷◌, ◌++◌, length, get_or, take, drop, map}
use Rattle.std.proofs.Common.{refl, ap, sym, ◌∙◌, subst, arith, length-append, length-take, length-take-le}
use Rattle.std.proofs.lemmas.Bool.{cases_lt}
use Rattle.std.proofs.lemmas.List.{length-drop, drop-drop, drop-append-le, take-append-le, get_or-take, get_or-drop, get_or-append_right}
use Rattle.std.proofs.Math.Seq.{drop-append_seam}
use Rattle.tdl_lexer.specs.declared.signs.Token.{Token}
use Rattle.tdl_lexer.specs.LineForms.{spelling, StandsBefore, line_flaw, blank_of, line_notation}
use Rattle.tdl_lexer.specs.Tokens.{next_place, NextToken, Front, end_token}
use Rattle.tdl_lexer.proofs.LineFound.{line_form_filled}
use Rattle.tdl_command.specs.Tree.{Line, line, Whole}
use Rattle.tdl_line_machine.specs.declared.goals.Goal.{Goal}
use Rattle.tdl_line_machine.specs.declared.goals.Goal.TheVariants.{Line as a_line}
use Rattle.tdl_line_texts.specs.Texts.{IsSigned, IsTok, IsWhole, IsLine, IsTrimmed}
use Rattle.tdl_line_machine.specs.Tokens.{Tok}
use Rattle.tdl_lexer.proofs.BlanksBehind.{AreBlank, blank_byte, form_last, stands_cut, blank_min, blank_more}

-- a token has a byte
token_filled : (text : List ℕ) (from : ℕ) (t : Token) → NextToken line_notation text from t → t.at < t.end
token_filled text from t h =
    let filled = line_form_filled h.form (drop t.end text) h.stands in
    let size : length (slice_range text t.at t.end) ≡ length (spelling h.form) = ap length h.is in
    omega (arith, filled, size, length-take {A = ℕ})

-- ---- without the blanks after it
module _ (kept after : List ℕ) (blank : AreBlank after) where
  token_inside : (from : ℕ) (t : Token) → NextToken line_notation (kept ++ after) from t → t.end ≤ length kept
  token_inside from t h = ⊎_elim outside (λ inside. inside) (cases_lt (length kept) t.end)
    where
      outside : length kept < t.end → t.end ≤ length kept
      outside past =
          let text = kept ++ after in
          let filled = token_filled text from t h in
          let within : t.end ≤ length text = h.within in
          let all = length-append kept after in
          let size : length (spelling h.form) ≡ t.end - t.at =
          sym (ap length h.is) ∙ length-take-le (t.end - t.at) (drop t.at text) (omega (arith, length-drop t.at text)) in
          let last : t.at + (t.end - t.at - 1) ≡ t.end - 1 = omega (arith, filled) in
          let byte : get_or (spelling h.form) (length (spelling h.form) - 1) 0 ≡ 32 =
          ap (λ (n : ℕ). get_or (spelling h.form) (n - 1) 0) size
          ∙ ap (λ (bytes : List ℕ). get_or bytes (t.end - t.at - 1) 0) (sym h.is)
          ∙ get_or-take (t.end - t.at) (drop t.at text) (t.end - t.at - 1) 0 (omega (arith, filled))
          ∙ get_or-drop t.at text (t.end - t.at - 1) 0
          ∙ ap (λ (n : ℕ). get_or text n 0) last
          ∙ get_or-append_right kept after (length kept) (t.end - 1) 0 refl (omega (arith, past))
          ∙ blank_byte after (t.end - 1 - length kept) blank (omega (arith, past, within, all)) in
          absurd (form_last h.form (drop t.end text) h.stands h.flawless byte)

  place_min : (from : ℕ) → from ≤ length kept → next_place line_notation kept from ≡ min (next_place line_notation (kept ++ after) from) (length kept)
  place_min from inside =
      let size : length (blank_of (drop from (kept ++ after))) ≡ length (blank_of (drop from kept ++ after)) =
      ap (λ (t : List ℕ). length (blank_of t)) (drop-append-le from kept after inside) in
      omega (arith, blank_min (drop from kept) after blank, length-drop from kept, size)

  same_slice : (at end : ℕ) → at ≤ end → end ≤ length kept → slice_range (kept ++ after) at end ≡ slice_range kept at end
  same_slice at end ordered inside =
      ap (take (end - at)) (drop-append-le at kept after (omega arith))
      ∙ take-append-le (end - at) (drop at kept) after (omega (arith, length-drop at kept))

  next_kept : (from : ℕ) (t : Token) → from ≤ length kept → NextToken line_notation (kept ++ after) from t → NextToken line_notation kept from t
  next_kept from t inside h =
      let filled = token_filled (kept ++ after) from t h in
      let within = token_inside from t h in
      let left : drop t.end (kept ++ after) ≡ drop t.end kept ++ after = drop-append-le t.end kept after within in
      let P : List ℕ → Type 0 = λ rest. StandsBefore h.form rest × (line_flaw h.form rest ≡ None) in
      let there = subst P left (h.stands, h.flawless) in
      let stands = stands_cut h.form (drop t.end kept) after blank there.0 there.1 in
      record {
        form = h.form;
        place = omega (arith, h.place, place_min from inside, filled, within);
        within = within;
        is = sym (same_slice t.at t.end (omega (arith, filled)) within) ∙ h.is;
        stands = stands.0;
        flawless = stands.1;
        sign = h.sign;
      }

  front_kept : (ts : List Token) (from to : ℕ) → from ≤ length kept → Front line_notation (kept ++ after) ts from to
      → Front line_notation kept ts from to × (to ≤ length kept)
  front_kept [] from to inside h = (h, omega (arith, inside, h))
  front_kept (t ∷ ts) from to inside h =
      let more = front_kept ts t.end to (token_inside from t h.0) h.1 in
      ((next_kept from t inside h.0, more.0), more.1)

  toks_kept : (ts : List Token) (toks : List Tok) (from to : ℕ) → Front line_notation (kept ++ after) ts from to
      → AllZip (IsTok (kept ++ after)) (ts ++ end_token (length (kept ++ after)) ∷ []) toks → AllZip (IsTok kept) (ts ++ end_token (length kept) ∷ []) toks
  toks_kept [] [] from to h are = are
  toks_kept [] (u ∷ []) from to h are = are
  toks_kept [] (u ∷ v ∷ toks) from to h are = absurd are.1
  toks_kept (t ∷ ts) [] from to h are = absurd are
  toks_kept (t ∷ ts) (u ∷ toks) from to h are =
      let filled = token_filled (kept ++ after) from t h.0 in
      let same = same_slice t.at t.end (omega (arith, filled)) (token_inside from t h.0) in
      (token same are.0, toks_kept ts toks t.end to h.1 are.1)
    where
      token : slice_range (kept ++ after) t.at t.end ≡ slice_range kept t.at t.end → IsTok (kept ++ after) t u → IsTok kept t u
      token same is = subst (λ (bytes : List ℕ). IsSigned t.sign bytes u) same is

  pub end_gone : (goal : Goal) (w : Whole) → IsWhole goal (kept ++ after) w → IsWhole goal kept w
  end_gone goal w h =
      let r = h.written in
      let cut = r.tokenized.cut in
      let front = front_kept cut.before 0 cut.to (omega arith) cut.front in
      let are = subst (λ (ts : List Token). AllZip (IsTok (kept ++ after)) ts r.toks) cut.ends r.tokenized.are in
      record {
        short = omega (arith, h.short, length-append kept after);
        written = record {
          tokens = cut.before ++ end_token (length kept) ∷ [];
          toks = r.toks;
          tokenized = record {
            cut = record {
              before = cut.before;
              to = cut.to;
              front = front.0;
              whole = omega (arith, cut.whole, place_min cut.to front.1, length-append kept after);
              ends = refl;
            };
            are = toks_kept cut.before r.toks 0 cut.to cut.front are;
          };
          is = r.is;
        };
      }

-- ---- without the blanks before it
abbrev moved : ℕ → Token → Token
moved by t = record { sign = t.sign; at = t.at - by; end = t.end - by }

module _ (before rest : List ℕ) (blank : AreBlank before) where
  drop_past : (n : ℕ) → drop (length before + n) (before ++ rest) ≡ drop n rest
  drop_past n = sym (drop-drop n (length before) (before ++ rest)) ∙ ap (drop n) (drop-append_seam before rest)

  drop_moved : (n : ℕ) → length before ≤ n → drop n (before ++ rest) ≡ drop (n - length before) rest
  drop_moved n past =
      let same : n ≡ length before + (n - length before) = omega (arith, past) in
      ap (λ (k : ℕ). drop k (before ++ rest)) same ∙ drop_past (n - length before)

  place_moved : (n : ℕ) → length before ≤ n
      → next_place line_notation (before ++ rest) n ≡ length before + next_place line_notation rest (n - length before)
  place_moved n past =
      let size = ap (λ (t : List ℕ). length (blank_of t)) (drop_moved n past) in
      omega (arith, size, past)

  -- the blanks are passed over at once
  place_first : next_place line_notation (before ++ rest) 0 ≡ next_place line_notation (before ++ rest) (length before)
  place_first =
      let size = ap (λ (t : List ℕ). length (blank_of t)) (drop-append_seam before rest) in
      omega (arith, size, blank_more before rest blank)

  slice_moved : (at end : ℕ) → length before ≤ at → at ≤ end
      → slice_range (before ++ rest) at end ≡ slice_range rest (at - length before) (end - length before)
  slice_moved at end past ordered =
      let size : end - at ≡ (end - length before) - (at - length before) = omega (arith, past, ordered) in
      ap (λ (n : ℕ). take n (drop at (before ++ rest))) size ∙ ap (take ((end - length before) - (at - length before))) (drop_moved at past)

  token_past : (n : ℕ) (t : Token) → length before ≤ n → NextToken line_notation (before ++ rest) n t → (length before ≤ t.at) × (t.at < t.end)
  token_past n t past h = (omega (arith, past, h.place), token_filled (before ++ rest) n t h)

  next_moved : (n : ℕ) (t : Token) → length before ≤ n → NextToken line_notation (before ++ rest) n t
      → NextToken line_notation rest (n - length before) (moved (length before) t)
  next_moved n t past h =
      let there = token_past n t past h in
      let left = drop_moved t.end (omega (arith, there.0, there.1)) in
      let P : List ℕ → Type 0 = λ bytes. StandsBefore h.form bytes × (line_flaw h.form bytes ≡ None) in
      let stands = subst P left (h.stands, h.flawless) in
      record {
        form = h.form;
        place = omega (arith, h.place, place_moved n past);
        within = omega (arith, h.within, length-append before rest);
        is = sym (slice_moved t.at t.end there.0 (omega (arith, there.1))) ∙ h.is;
        stands = stands.0;
        flawless = stands.1;
        sign = h.sign;
      }

  front_moved : (ts : List Token) (n to : ℕ) → length before ≤ n → Front line_notation (before ++ rest) ts n to
      → Front line_notation rest (map (moved (length before)) ts) (n - length before) (to - length before) × (length before ≤ to)
  front_moved [] n to past h = (ap (λ (k : ℕ). k - length before) h, omega (arith, past, h))
  front_moved (t ∷ ts) n to past h =
      let there = token_past n t past h.0 in
      let more = front_moved ts t.end to (omega (arith, there.0, there.1)) h.1 in
      ((next_moved n t past h.0, more.0), more.1)

  toks_moved : (ts : List Token) (toks : List Tok) (n to : ℕ) → length before ≤ n → Front line_notation (before ++ rest) ts n to
      → AllZip (IsTok (before ++ rest)) (ts ++ end_token (length (before ++ rest)) ∷ []) toks
      → AllZip (IsTok rest) (map (moved (length before)) ts ++ end_token (length rest) ∷ []) toks
  toks_moved [] [] n to past h are = are
  toks_moved [] (u ∷ []) n to past h are = are
  toks_moved [] (u ∷ v ∷ toks) n to past h are = absurd are.1
  toks_moved (t ∷ ts) [] n to past h are = absurd are
  toks_moved (t ∷ ts) (u ∷ toks) n to past h are =
      let there = token_past n t past h.0 in
      let same = slice_moved t.at t.end there.0 (omega (arith, there.1)) in
      (token same are.0, toks_moved ts toks t.end to (omega (arith, there.0, there.1)) h.1 are.1)
    where
      token : slice_range (before ++ rest) t.at t.end ≡ slice_range rest (t.at - length before) (t.end - length before) → IsTok (before ++ rest) t u
          → IsTok rest (moved (length before) t) u
      token same is = subst (λ (bytes : List ℕ). IsSigned t.sign bytes u) same is

  -- the tokens from behind the blanks on
  record Behind (ts : List Token) : Type 0 where
    to : ℕ
    front : Front line_notation (before ++ rest) ts (length before) to
    whole : length (before ++ rest) ≡ next_place line_notation (before ++ rest) to

  behind : (ts : List Token) (to : ℕ) → Front line_notation (before ++ rest) ts 0 to
      → length (before ++ rest) ≡ next_place line_notation (before ++ rest) to → Behind ts
  behind [] to h whole =
      record { to = length before; front = refl; whole = whole ∙ ap (next_place line_notation (before ++ rest)) (sym h) ∙ place_first }
  behind (t ∷ ts) to h whole =
      let first : NextToken line_notation (before ++ rest) (length before) t = record {
        form = h.0.form;
        place = h.0.place ∙ place_first;
        within = h.0.within;
        is = h.0.is;
        stands = h.0.stands;
        flawless = h.0.flawless;
        sign = h.0.sign;
      } in
      record { to = to; front = (first, h.1); whole = whole }

  pub front_gone : (goal : Goal) (w : Whole) → IsWhole goal (before ++ rest) w → IsWhole goal rest w
  front_gone goal w h =
      let r = h.written in
      let cut = r.tokenized.cut in
      let from = behind cut.before cut.to cut.front cut.whole in
      let least : length before ≤ length before = omega arith in
      let none : length before - length before ≡ 0 = omega arith in
      let front = front_moved cut.before (length before) from.to least from.front in
      let are = subst (λ (ts : List Token). AllZip (IsTok (before ++ rest)) ts r.toks) cut.ends r.tokenized.are in
      let ts = map (moved (length before)) cut.before in
      record {
        short = omega (arith, h.short, length-append before rest);
        written = record {
          tokens = ts ++ end_token (length rest) ∷ [];
          toks = r.toks;
          tokenized = record {
            cut = record {
              before = ts;
              to = from.to - length before;
              front = subst (λ (k : ℕ). Front line_notation rest ts k (from.to - length before)) none front.0;
              whole = omega (arith, from.whole, place_moved from.to front.1, length-append before rest);
              ends = refl;
            };
            are = toks_moved cut.before r.toks (length before) from.to least from.front are;
          };
          is = r.is;
        };
      }

-- ---- without both
pub outer_gone : (goal : Goal) (text kept : List ℕ) (w : Whole) → IsTrimmed text kept → IsWhole goal text w → IsWhole goal kept w
outer_gone goal text kept w h is =
    let whole = subst (λ (t : List ℕ). IsWhole goal t w) h.joined is in
    end_gone kept h.after h.blank_after goal w (front_gone h.before (kept ++ h.after) h.blank_before goal w whole)

pub outer_blanks : (text kept : List ℕ) (l : Line) → IsTrimmed text kept → IsLine text l → IsLine kept l
outer_blanks text kept l h is = outer_gone a_line text kept (line l) h is
