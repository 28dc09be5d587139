use Rattle.std.proofs.Common.{◌≡◌, ℕ, ◌^◌, ◌<◌, ℤ, pos, negsuc, nat_abs, Some, Ok, Err, OkIff, Result, refl, ap, ◌∙◌, arith}
use Rattle.std.proofs.lemmas.Int.{ints}
use Rattle.std.specs.Int.{FitsUnsignedBits}
use Rattle.std.specs.Result.{result_ok}
use Rattle.machine.specs.Rules.{natural, target}
use Rattle.machine.proofs.machine.flow.displaced.Goals as goal

-- a conversion that fits answers the number, and below 0 there is none
converted : {E : Type 0} (r : Result ℕ E) (z : ℤ) → OkIff r (FitsUnsignedBits 64 z) (nat_abs z) → nat_abs z < 2 ^ 64 → result_ok r ≡ natural z
converted (Ok x) (pos n) h l = ap (λ (k : ℕ). Some k) h.1
converted (Err e) (pos n) h l = absurd (h l)
converted (Ok x) (negsuc n) h l = absurd h.0
converted (Err e) (negsuc n) h l = refl

pub returns : goal.returns
unfolding target
returns c =
    c.ok.ensures.value ∙ converted c.try_from.result _ c.try_from.ensures (omega (arith, ints)) ∙ ap natural (omega (arith, ints))
