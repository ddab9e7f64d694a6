-- Work with the pairs of both halves of two lists is work with all pairs.
use Rattle.std.proofs.Common.{◌≡◌, List, [], ◌∷◌, ◌++◌, length, suc, refl, ap, arith}
use Rattle.tdl_session.specs.inside.Beside.{AllMay, EachDid}

module _ {A B : Type 0} where
  pub did_append : (Did : A → A → B → B → Type 0) (xs ys : List A) (ps qs : List B) (xs' ys' : List A) (ps' qs' : List B)
      → EachDid Did xs ys ps qs → EachDid Did xs' ys' ps' qs' → EachDid Did (xs ++ xs') (ys ++ ys') (ps ++ ps') (qs ++ qs')
  did_append Did [] [] [] [] xs' ys' ps' qs' h k = k
  did_append Did [] [] [] (q ∷ qs) xs' ys' ps' qs' h k = elim h [ ]
  did_append Did [] [] (p ∷ ps) qs xs' ys' ps' qs' h k = elim h [ ]
  did_append Did [] (y ∷ ys) ps qs xs' ys' ps' qs' h k = elim h [ ]
  did_append Did (x ∷ xs) [] ps qs xs' ys' ps' qs' h k = elim h [ ]
  did_append Did (x ∷ xs) (y ∷ ys) [] qs xs' ys' ps' qs' h k = elim h [ ]
  did_append Did (x ∷ xs) (y ∷ ys) (p ∷ ps) [] xs' ys' ps' qs' h k = elim h [ ]
  did_append Did (x ∷ xs) (y ∷ ys) (p ∷ ps) (q ∷ qs) xs' ys' ps' qs' h k = (h.0, did_append Did xs ys ps qs xs' ys' ps' qs' h.1 k)

  pub may_same : (May : A → B → Type 0) (xs : List A) (ys : List B) → AllMay May xs ys → length xs ≡ length ys
  may_same May [] [] h = refl
  may_same May [] (y ∷ ys) h = elim h [ ]
  may_same May (x ∷ xs) [] h = elim h [ ]
  may_same May (x ∷ xs) (y ∷ ys) h = ap suc (may_same May xs ys h.1)

  pub may_halves : (May : A → B → Type 0) (xs xs' : List A) (ys ys' : List B) → length xs ≡ length ys → AllMay May (xs ++ xs') (ys ++ ys')
      → AllMay May xs ys × AllMay May xs' ys'
  may_halves May [] xs' [] ys' same h = (tt, h)
  may_halves May [] xs' (y ∷ ys) ys' same h = absurd (omega arith)
  may_halves May (x ∷ xs) xs' [] ys' same h = absurd (omega arith)
  may_halves May (x ∷ xs) xs' (y ∷ ys) ys' same h = let rest = may_halves May xs xs' ys ys' (omega arith) h.1 in ((h.0, rest.0), rest.1)
