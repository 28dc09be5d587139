-- Bytes in halves. Assumes nothing.
use Rattle.std.proofs.Common.{◌≡◌, ℕ, zero, suc, ◌+◌, ◌*◌, ◌/◌, ◌%◌, ◌<◌, min, List, [], ◌∷◌, length, get_or, set, refl, sym, ap, ◌∙◌, not-suc-le-zero, arith}
use Rattle.memory.specs.Meaning.{join_halves}

pub halves-length : (n : ℕ) (xs : List ℕ) → length (join_halves n xs) ≡ min n (length xs / 2)
halves-length zero xs = omega arith
halves-length (suc n) [] = omega arith
halves-length (suc n) (x ∷ []) = omega arith
halves-length (suc n) (x ∷ y ∷ ys) = omega (arith, halves-length n ys)

-- twice a number, by steps of two
abbrev twice : ℕ → ℕ
twice zero = zero
twice (suc a) = suc (suc (twice a))

twice-is : (a : ℕ) → twice a ≡ 2 * a
twice-is zero = refl
twice-is (suc a) = omega (arith, twice-is a)

at : (n : ℕ) (xs : List ℕ) (a : ℕ) → a < length (join_halves n xs) → get_or (join_halves n xs) a 0 ≡ get_or xs (twice a) 0 % 16 + 16 * (get_or xs (suc (twice a)) 0 % 16)
at zero xs a h = absurd (not-suc-le-zero h)
at (suc n) [] a h = absurd (not-suc-le-zero h)
at (suc n) (x ∷ []) a h = absurd (not-suc-le-zero h)
at (suc n) (x ∷ y ∷ ys) zero h = refl
at (suc n) (x ∷ y ∷ ys) (suc a) h = at n ys a (omega arith)

put : (n : ℕ) (xs : List ℕ) (a l u : ℕ) → join_halves n (set (set xs (twice a) l) (suc (twice a)) u) ≡ set (join_halves n xs) a (l % 16 + 16 * (u % 16))
put zero xs a l u = refl
put (suc n) [] a l u = refl
put (suc n) (x ∷ []) zero l u = refl
put (suc n) (x ∷ []) (suc a) l u = refl
put (suc n) (x ∷ y ∷ ys) zero l u = refl
put (suc n) (x ∷ y ∷ ys) (suc a) l u = ap (λ r. (x % 16 + 16 * (y % 16)) ∷ r) (put n ys a l u)

pub halves-get : (n : ℕ) (xs : List ℕ) (a : ℕ) → a < length (join_halves n xs) → get_or xs (2 * a) 0 % 16 + 16 * (get_or xs (2 * a + 1) 0 % 16) ≡ get_or (join_halves n xs) a 0
halves-get n xs a h =
    let e : 2 * a + 1 ≡ suc (twice a) = omega (arith, twice-is a) in
    rw (e, ← twice-is a) (sym (at n xs a h))

pub halves-put : (n : ℕ) (xs : List ℕ) (a v : ℕ) → v < 256 → join_halves n (set (set xs (2 * a) (v % 16)) (2 * a + 1) (v / 16)) ≡ set (join_halves n xs) a v
halves-put n xs a v h =
    let e : 2 * a + 1 ≡ suc (twice a) = omega (arith, twice-is a) in
    let b : (v % 16) % 16 + 16 * ((v / 16) % 16) ≡ v = omega arith in
    rw (e, ← twice-is a) (put n xs a (v % 16) (v / 16) ∙ ap (set (join_halves n xs) a) b)
