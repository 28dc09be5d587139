-- Where a stretch of bytes is cut: before the first stop. Assumes nothing.
use Rattle.std.proofs.Common.{◌≡◌, ◌≢◌, ℕ, ◌+◌, ◌<◌, ◌≤◌, true, false, cond, eqb, List, [], ◌∷◌, ◌++◌, length, get_or, take, drop, sym, refl, ap, subst, ◌∙◌, arith, All}
use Rattle.std.proofs.lemmas.Bool.{eq-eqb, ne_eqb}
use Rattle.std.proofs.lemmas.List.{drop_more, get_or-take, length-take-le, take-append-drop}
use Rattle.std.proofs.lemmas.List.Elements.{All-from_get_or}
use Rattle.std.proofs.lemmas.List.Splits.{slice_split_at, slice_split_none}
use Rattle.std.specs.List.{onto_first}
use Rattle.text.specs.Splitting.{closed, lines_in, lines_of, pieces}

module _ (stop : ℕ) (xs : List ℕ) where
  before : (i : ℕ) → i ≤ length xs → ((k : ℕ) → k < i → get_or xs k 0 ≢ stop) → All (λ x. eqb x stop ≡ false) (take i xs)
  before i h f =
      All-from_get_or (λ x. eqb x stop ≡ false) (take i xs) 0
      (λ k inside. let below : k < i = omega (arith, length-take-le i xs h) in ne_eqb _ _ (subst (λ x. x ≢ stop) (sym (get_or-take i xs k 0 below)) (f k below)))

  -- the first piece ends at the first stop
  pub pieces_at : (i : ℕ) → i < length xs → get_or xs i 0 ≡ stop → ((k : ℕ) → k < i → get_or xs k 0 ≢ stop) → pieces stop xs ≡ take i xs ∷ pieces stop (drop (i + 1) xs)
  pieces_at i h e f =
      ap (pieces stop) (sym (take-append-drop i xs) ∙ ap (λ l. take i xs ++ l) (drop_more xs i 0 h ∙ ap (λ b. b ∷ drop (i + 1) xs) e))
      ∙ slice_split_at _ (take i xs) stop (drop (i + 1) xs) (before i (omega arith) f) (eq-eqb stop stop refl)

  -- without a stop there is one piece
  pub pieces-last : ((k : ℕ) → k < length xs → get_or xs k 0 ≢ stop) → pieces stop xs ≡ xs ∷ []
  pieces-last f = slice_split_none _ xs (All-from_get_or (λ x. eqb x stop ≡ false) xs 0 (λ k h. ne_eqb _ _ (f k h)))

-- there is always a first piece
first_some : (x : ℕ) (ps : List (List ℕ)) → (q : List ℕ) × ((qs : List (List ℕ)) × (onto_first x ps ≡ q ∷ qs))
first_some x [] = (x ∷ [], ([], refl))
first_some x (p ∷ ps) = (x ∷ p, (ps, refl))

pub pieces_some : (stop : ℕ) (xs : List ℕ) → (q : List ℕ) × ((qs : List (List ℕ)) × (pieces stop xs ≡ q ∷ qs))
pieces_some stop [] = ([], ([], refl))
pieces_some stop (x ∷ xs) =
    elim (eqb x stop) as (λ b. (q : List ℕ) × ((qs : List (List ℕ)) × (cond b ([] ∷ pieces stop xs) (onto_first x (pieces stop xs)) ≡ q ∷ qs))) [
      | true ↦ ([], (pieces stop xs, refl))
      | false ↦ first_some x (pieces stop xs)
    ]

pub lines_cons : (l xs : List ℕ) → lines_in (l ∷ pieces 10 xs) ≡ closed l ∷ lines_of xs
lines_cons l xs = let s = pieces_some 10 xs in ap (λ ps. lines_in (l ∷ ps)) s.1.1 ∙ ap (λ ps. closed l ∷ lines_in ps) (sym s.1.1)
