-- Ladders that rise from 0, when what stands above one of their steps changes. Assumes nothing.
use Rattle.std.proofs.Common.{◌≡◌, ℕ, true, leb, List, [], ◌∷◌, ◌++◌, map, get_or, refl, ap}
use Rattle.std.proofs.lemmas.Bool.{and_from, and_parts}
use Rattle.machine.specs.Sound.{climbs, ladder}
use Rattle.machine.specs.declared.frame.Frame.{Frame}

abbrev pub Rises : List ℕ → Type 0
Rises xs = (climbs xs ≡ true) × (get_or xs 0 0 ≡ 0)

abbrev pub floors : List Frame → List ℕ
floors fs = map (λ (f : Frame). f.floor) fs

module _ (step : ℕ) (old : List ℕ) where
  pub above : (xs : List ℕ) → climbs (xs ++ step ∷ old) ≡ true → climbs (step ∷ old) ≡ true
  above [] e = e
  above (x ∷ []) e = (and_parts (leb x step) _ e).1
  above (x ∷ y ∷ xs) e = above (y ∷ xs) (and_parts (leb x y) _ e).1

  module _ (new : List ℕ) (n : climbs (step ∷ new) ≡ true) where
    climbs_on : (xs : List ℕ) → climbs (xs ++ step ∷ old) ≡ true → climbs (xs ++ step ∷ new) ≡ true
    climbs_on [] e = n
    climbs_on (x ∷ []) e = and_from (leb x step) _ (and_parts (leb x step) _ e).0 n
    climbs_on (x ∷ y ∷ xs) e =
        let p = and_parts (leb x y) _ e in
        and_from (leb x y) _ p.0 (climbs_on (y ∷ xs) p.1)

    pub rises_on : (xs : List ℕ) → Rises (xs ++ step ∷ old) → Rises (xs ++ step ∷ new)
    rises_on [] (e, b) = (n, b)
    rises_on (x ∷ xs) (e, b) = (climbs_on (x ∷ xs) e, b)

pub newest_step : (fs : List Frame) (x : Frame) (floor height : ℕ) → ladder (fs ++ x ∷ []) floor height ≡ floors fs ++ x.floor ∷ floor ∷ height ∷ []
newest_step [] x floor height = refl
newest_step (y ∷ fs) x floor height = ap (◌∷◌ y.floor) (newest_step fs x floor height)
