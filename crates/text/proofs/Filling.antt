-- Fields that are filled one by one. Assumes nothing.
use Rattle.std.proofs.Common.{◌≡◌, ℕ, suc, ◌+◌, ◌-◌, ◌<◌, List, [], ◌∷◌, ◌++◌, length, take, set, Some, None, Option, sym, refl, ap, ◌∙◌, arith}
use Rattle.std.proofs.lemmas.List.{append_assoc, take_more_set}
use Rattle.text.specs.Numbers.{fields_of, number_of, paired}

-- numbers in front of those that are still to come
abbrev pub after : List ℕ → Option (List ℕ) → Option (List ℕ)
after ns None = None
after ns (Some ms) = Some (ns ++ ms)

after_push : (ns : List ℕ) (n : ℕ) (r : Option (List ℕ)) → after (ns ++ n ∷ []) r ≡ after ns (paired (Some n) r)
after_push ns n None = refl
after_push ns n (Some ms) = ap Some (append_assoc ns (n ∷ []) ms)

fields_more : (k i : ℕ) (w : List ℕ) (ws : List (List ℕ)) → i < k → fields_of (k - i) (w ∷ ws) ≡ paired (number_of w) (fields_of (k - (i + 1)) ws)
fields_more k i w ws h = let e : k - i ≡ suc (k - (i + 1)) = omega arith in ap (λ j. fields_of j (w ∷ ws)) e

-- the words that are left, ws, begin with w
module _ (k i : ℕ) (h : i < k) (ws behind : List (List ℕ)) where
  -- a word that is a number fills the next field
  pub filled_more : (n : ℕ) (fields w : List ℕ) → k ≡ length fields → ws ≡ w ∷ behind → number_of w ≡ Some n → after (take (i + 1) (set fields i n)) (fields_of (k - (i + 1)) behind) ≡ after (take i fields) (fields_of (k - i) ws)
  filled_more n fields w l is e =
      ap (λ ns. after ns (fields_of (k - (i + 1)) behind)) (take_more_set fields i n (omega arith))
      ∙ after_push (take i fields) n (fields_of (k - (i + 1)) behind)
      ∙ ap (λ r. after (take i fields) (paired r (fields_of (k - (i + 1)) behind))) (sym e)
      ∙ ap (after (take i fields)) (sym (ap (fields_of (k - i)) is ∙ fields_more k i w behind h))
