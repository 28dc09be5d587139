-- What holds of each element of a list, with its place, after one is changed. Assumes nothing.
use Rattle.std.proofs.Common.{ℕ, zero, suc, List, [], ◌∷◌, get_or, set, replicate}

pub each_set : {X : Type 0} (P : ℕ → X → Type 0) (d : X) (xs : List X) (n : ℕ) (x : X) → ((k : ℕ) → P k (get_or xs k d)) → P n x → (k : ℕ) → P k (get_or (set xs n x) k d)
each_set P d [] n x h p k = h k
each_set P d (y ∷ ys) zero x h p zero = p
each_set P d (y ∷ ys) zero x h p (suc k) = h (suc k)
each_set P d (y ∷ ys) (suc n) x h p zero = h zero
each_set P d (y ∷ ys) (suc n) x h p (suc k) = each_set (λ j. P (suc j)) d ys n x (λ j. h (suc j)) p k

pub each_same : {X : Type 0} (P : X → Type 0) (d x : X) → P d → P x → (n k : ℕ) → P (get_or (replicate n x) k d)
each_same P d x pd px zero k = pd
each_same P d x pd px (suc n) zero = px
each_same P d x pd px (suc n) (suc k) = each_same P d x pd px n k
