-- From two equations that do not agree anything follows. Assumes nothing.
use Rattle.std.proofs.Common.{◌≡◌, ℕ, arith}

pub never : {X : Type 0} → ◌≡◌ {A = ℕ} 0 1 → X
never e = let n : ⊥ = omega arith in absurd n
