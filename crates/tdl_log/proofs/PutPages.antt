-- Texts that are written a page at a time.
--     written_as, cut_as                    the same text in other words
--     written_parts, cut_parts, cut_part    a text in two parts: both written, the first and a front of the second, a front of the first
--     written_out, cut_behind               what waited went out: the text too, or a front of it
--     all_written, all_but_cut              of a text that was begun with an empty page: what waited at last went out, or a front of it
--     cut_from_empty                        the same of a text that broke off before
use Rattle.std.proofs.Common.{◌≡◌, ℕ, List, [], ◌++◌, Option, sym, ap, subst, ◌∙◌, append_assoc, append-nil}
use Rattle.tdl_io.specs.Told.{GainedExactly, GainedPrefix}
use Rattle.tdl_io.proofs.Told.{gained_both, prefix_after, prefix_longer}
use Rattle.tdl_log.specs.inside.Pages.{Cut, Written}

-- ---- the same text
pub written_as : {old new : Option (List ℕ)} {waited waits text whole : List ℕ} → text ≡ whole → Written old new waited waits text
    → Written old new waited waits whole
written_as {old} {new} {waited} {waits} is first = subst (λ (bytes : List ℕ). Written old new waited waits bytes) is first

pub cut_as : {old new : Option (List ℕ)} {waited text whole : List ℕ} → text ≡ whole → Cut old new waited text → Cut old new waited whole
cut_as {old} {new} {waited} is first = subst (λ (bytes : List ℕ). Cut old new waited bytes) is first

-- ---- a text in two parts
pub written_parts : {old mid new : Option (List ℕ)} {waited among waits p q whole : List ℕ} → whole ≡ p ++ q
    → Written old mid waited among p → Written mid new among waits q → Written old new waited waits whole
written_parts {old} {mid} {new} {waited} {among} {waits} {p} {q} is first second = record {
  put = first.put ++ second.put;
  parts = ap (λ text. waited ++ text) is
      ∙ sym (append_assoc waited p q)
      ∙ ap (λ text. text ++ q) first.parts
      ∙ append_assoc first.put among q
      ∙ ap (λ text. first.put ++ text) second.parts
      ∙ sym (append_assoc first.put second.put waits);
  gained = gained_both first.gained second.gained;
}

pub cut_parts : {old mid new : Option (List ℕ)} {waited among p q whole : List ℕ} → whole ≡ p ++ q → Written old mid waited among p
    → Cut mid new among q → Cut old new waited whole
cut_parts {old} {mid} {new} {waited} {among} {p} {q} is first second = record {
  gained = subst (λ (text : List ℕ). GainedPrefix old new text)
      (sym (append_assoc first.put among q)
      ∙ ap (λ text. text ++ q) (sym first.parts)
      ∙ append_assoc waited p q
      ∙ ap (λ text. waited ++ text) (sym is))
      (prefix_after first.gained second.gained);
}

pub cut_part : {old new : Option (List ℕ)} {waited p whole : List ℕ} (q : List ℕ) → whole ≡ p ++ q → Cut old new waited p → Cut old new waited whole
cut_part {old} {new} {waited} {p} q is first = record {
  gained = subst (λ (text : List ℕ). GainedPrefix old new text)
      (append_assoc waited p q ∙ ap (λ text. waited ++ text) (sym is))
      (prefix_longer q first.gained);
}

-- ---- behind what waited, which went out
pub written_out : {old mid new : Option (List ℕ)} {waited page waits text : List ℕ} → page ≡ waited → waits ≡ [] → GainedExactly old mid page
    → GainedExactly mid new text → Written old new waited waits text
written_out {old} {mid} {new} {waited} {page} {waits} {text} is none first second = record {
  put = page ++ text;
  parts = ap (λ bytes. bytes ++ text) (sym is) ∙ sym (append-nil (page ++ text)) ∙ ap (λ rest. (page ++ text) ++ rest) (sym none);
  gained = gained_both first second;
}

pub cut_behind : {old mid new : Option (List ℕ)} {waited page text : List ℕ} → page ≡ waited → GainedExactly old mid page → GainedPrefix mid new text
    → Cut old new waited text
cut_behind {old} {mid} {new} {waited} {page} {text} is first broke = record {
  gained = subst (λ (bytes : List ℕ). GainedPrefix old new (bytes ++ text)) is (prefix_after first broke);
}

-- ---- a text that was begun with an empty page
pub all_written : {old mid new : Option (List ℕ)} {waited waits text : List ℕ} → waited ≡ [] → Written old mid waited waits text
    → GainedExactly mid new waits → GainedExactly old new text
all_written {old} {mid} {new} {waited} {waits} {text} empty written out =
    subst (λ (bytes : List ℕ). GainedExactly old new bytes) (sym written.parts ∙ ap (λ bytes. bytes ++ text) empty) (gained_both written.gained out)

pub all_but_cut : {old mid new : Option (List ℕ)} {waited waits text : List ℕ} → waited ≡ [] → Written old mid waited waits text
    → GainedPrefix mid new waits → GainedPrefix old new text
all_but_cut {old} {mid} {new} {waited} {waits} {text} empty written broke =
    subst (λ (bytes : List ℕ). GainedPrefix old new bytes) (sym written.parts ∙ ap (λ bytes. bytes ++ text) empty) (prefix_after written.gained broke)

pub cut_from_empty : {old new : Option (List ℕ)} {waited text : List ℕ} → waited ≡ [] → Cut old new waited text → GainedPrefix old new text
cut_from_empty {old} {new} {waited} {text} empty broke =
    subst (λ (bytes : List ℕ). GainedPrefix old new bytes) (ap (λ bytes. bytes ++ text) empty) broke.gained
