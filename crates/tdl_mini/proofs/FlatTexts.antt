-- Texts of names and rests alone.
use Rattle.std.proofs.Common.{◌≡◌, ℕ, None, List, [], ◌∷◌, ◌++◌, map, refl, sym, ap, ap₂, ◌∙◌, subst, append-nil, append_assoc}
use Rattle.std.specs.List.{AllZip, fold}
use Rattle.tdl_lexer.specs.declared.signs.Token.{Token}
use Rattle.tdl_lexer.specs.declared.signs.Mode.TheVariants.{Mini}
use Rattle.tdl_lexer.proofs.ModeCuts.{IsCut-unique}
use Rattle.tdl_mini_machine.specs.declared.marks.Mark.TheVariants as marks
use Rattle.tdl_mini_grammar.specs.Grammar.{FormedGroup, Reads}
use Rattle.tdl_mini_grammar.specs.Spelling.{Terminal, sign, value, end, IsTokenOf}
use Rattle.tdl_mini_grammar.specs.Texts.{tok_of, IsMini}
use Rattle.tdl_mini_machine.specs.Tokens.{Tok}
use Rattle.tdl_mini_machine.specs.Tokens as token
use Rattle.tdl_mini_grammar.proofs.FirstFaults.{one_reading}
use Rattle.tdl_mini_grammar.proofs.Terminals.{spell_group}
use Rattle.tdl_mini_grammar.proofs.TextsRead.{toks_are}
use Rattle.tdl_expr.specs.Tree.{Tree}
use Rattle.tdl_mini_tree.specs.declared.leaves.Kind.TheVariants.{Sound}
use Rattle.tdl_mini_tree.specs.Tree as tree
use Rattle.tdl_mini_rows.specs.Lowered.{layers_built}
use Rattle.tdl_expr.specs.EqualShares.{in_equal_shares}
use Rattle.tdl_mini.specs.Laws.{Beat, Rest, Named, beat_step, beat_tree, flat, once, alone, tree_of, text, beat_token, ArePlain, AreTokensOf}
use Rattle.tdl_mini.proofs.TextLaws.{each_alone, steps_share}

elements-flat : (beats : List Beat) → map once (map beat_step beats) ≡ flat beats
elements-flat [] = refl
elements-flat (b ∷ beats) = ap (λ (es : List tree.Element). once (beat_step b) ∷ es) (elements-flat beats)

beat-alone : (b : Beat) → tree_of Sound (alone (beat_step b)) ≡ beat_tree b
unfolding layers_built
beat-alone Rest = refl
beat-alone (Named name) = refl

beats-alone : (beats : List Beat) → each_alone Sound (map beat_step beats) ≡ map beat_tree beats
beats-alone [] = refl
beats-alone (b ∷ beats) = ap₂ (λ (t : Tree) (ts : List Tree). t ∷ ts) (beat-alone b) (beats-alone beats)

pub flat_tree : (beats : List Beat) → tree_of Sound (flat beats) ≡ in_equal_shares (map beat_tree beats)
flat_tree beats =
    ap (tree_of Sound) (sym (elements-flat beats)) ∙ (steps_share Sound (map beat_step beats) ∙ ap in_equal_shares (beats-alone beats))

-- ---- its reading
abbrev terminal : Beat → Terminal
terminal Rest = sign marks.Rest
terminal (Named name) = value Sound (tree.sound name None)

abbrev spelled : tree.Group → List Terminal
spelled g = spell_group Sound tree.no_group g

spell-beats : (g : tree.Group) (beats : List Beat) → spelled (fold tree.element g (flat beats)) ≡ spelled g ++ map terminal beats
spell-beats g [] = sym (append-nil (spelled g))
spell-beats g (Rest ∷ beats) =
    spell-beats (tree.element g (once (beat_step Rest))) beats ∙ append_assoc (spelled g) (terminal Rest ∷ []) (map terminal beats)
spell-beats g (Named name ∷ beats) =
    spell-beats (tree.element g (once (beat_step (Named name)))) beats ∙ append_assoc (spelled g) (terminal (Named name) ∷ []) (map terminal beats)

stand-beats : (beats : List Beat) → ArePlain beats → AllZip IsTokenOf (map terminal beats ++ end ∷ []) (map beat_token beats ++ token.end ∷ [])
stand-beats [] h = (refl, tt)
stand-beats (Rest ∷ beats) h = (refl, stand-beats beats h)
stand-beats (Named name ∷ beats) h = (rw h.0 refl, stand-beats beats h.1)

formed-beats : (g : tree.Group) (beats : List Beat) → FormedGroup Sound 0 g → FormedGroup Sound 0 (fold tree.element g (flat beats))
formed-beats g [] h = h
formed-beats g (Rest ∷ beats) h = formed-beats (tree.element g (once (beat_step Rest))) beats (h, tt, tt)
formed-beats g (Named name ∷ beats) h = formed-beats (tree.element g (once (beat_step (Named name)))) beats (h, tt, tt)

reads-beats : (beats : List Beat) → ArePlain beats → Reads Sound (map beat_token beats ++ token.end ∷ []) (text (flat beats))
reads-beats beats h =
    let P : List Terminal → Type 0 = λ ts. AllZip IsTokenOf (ts ++ end ∷ []) (map beat_token beats ++ token.end ∷ []) in
    record {
      spelled = subst P (sym (spell-beats tree.no_element beats)) (stand-beats beats h);
      filled = tt;
      formed = (tt, tt, (tt, formed-beats tree.no_element beats tt));
    }

-- a text that has the tokens of beats is read as these
pub flat_reading : (bytes : List ℕ) (ls : tree.Layers) (beats : List Beat) → AreTokensOf bytes beats → IsMini Sound bytes ls → ls ≡ text (flat beats)
flat_reading bytes ls beats h read =
    let toks = toks_are bytes read.tokens read.toks read.tokenized.are in
    let same = toks ∙ ap (λ (ts : List Token). map (tok_of bytes) ts) (IsCut-unique Mini bytes read.tokens h.tokens read.tokenized.cut h.cut) ∙ h.are in
    let P : List Tok → Type 0 = λ ts. Reads Sound ts ls in
    one_reading Sound (map beat_token beats ++ token.end ∷ []) ls (text (flat beats)) (subst P same read.is.reads) (reads-beats beats h.plain)
