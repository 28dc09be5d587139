-- What holds of each element of a list, after a push, a cut and a map. Assumes nothing.
use Rattle.std.proofs.Common.{ℕ, zero, suc, ◌<◌, List, [], ◌∷◌, ◌++◌, map, length, get_or, take, not-suc-le-zero, arith}

module _ {X : Type 0} (P : X → Type 0) (d : X) where
  pub each_push : (xs : List X) (x : X) → ((k : ℕ) → P (get_or xs k d)) → P x → (k : ℕ) → P (get_or (xs ++ x ∷ []) k d)
  each_push [] x h p zero = p
  each_push [] x h p (suc k) = h zero
  each_push (y ∷ ys) x h p zero = h zero
  each_push (y ∷ ys) x h p (suc k) = each_push ys x (λ j. h (suc j)) p k

  pub each_take : (n : ℕ) (xs : List X) → P d → ((k : ℕ) → P (get_or xs k d)) → (k : ℕ) → P (get_or (take n xs) k d)
  each_take zero xs e h k = e
  each_take (suc n) [] e h k = h k
  each_take (suc n) (y ∷ ys) e h zero = h zero
  each_take (suc n) (y ∷ ys) e h (suc k) = each_take n ys e (λ j. h (suc j)) k

  pub each_map : (f : X → X) → ((x : X) → P x → P (f x)) → P d → (xs : List X) → ((k : ℕ) → P (get_or xs k d)) → (k : ℕ) → P (get_or (map f xs) k d)
  each_map f g e [] h k = e
  each_map f g e (y ∷ ys) h zero = g y (h zero)
  each_map f g e (y ∷ ys) h (suc k) = each_map f g e ys (λ j. h (suc j)) k

  -- the same of those within the list alone
  pub within_push : (xs : List X) (x : X) → ((k : ℕ) → k < length xs → P (get_or xs k d)) → P x → (k : ℕ) → k < length (xs ++ x ∷ []) → P (get_or (xs ++ x ∷ []) k d)
  within_push [] x h p zero l = p
  within_push [] x h p (suc k) l = absurd (omega arith)
  within_push (y ∷ ys) x h p zero l = h zero (omega arith)
  within_push (y ∷ ys) x h p (suc k) l = within_push ys x (λ j m. h (suc j) (omega arith)) p k (omega arith)

  pub within_take : (n : ℕ) (xs : List X) → ((k : ℕ) → k < length xs → P (get_or xs k d)) → (k : ℕ) → k < length (take n xs) → P (get_or (take n xs) k d)
  within_take zero xs h k l = absurd (not-suc-le-zero l)
  within_take (suc n) [] h k l = absurd (not-suc-le-zero l)
  within_take (suc n) (y ∷ ys) h zero l = h zero (omega arith)
  within_take (suc n) (y ∷ ys) h (suc k) l = within_take n ys (λ j m. h (suc j) (omega arith)) k (omega arith)
