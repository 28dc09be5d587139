-- Bounds on numbers, for places where much else is known. Assumes nothing.
use Rattle.std.proofs.Common.{◌≡◌, ℕ, ◌≤◌, arith}

pub past : (n m r : ℕ) → n ≡ m → m ≤ r → n ≤ r
past n m r e l = omega arith
