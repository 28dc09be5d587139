-- The numbers that words write. Assumes nothing.
use Rattle.std.specs.Prelude.{◌≡◌, ℕ, zero, suc, ◌+◌, ◌-◌, ◌*◌, ◌^◌, ◌<◌, Bool, if◌then◌else◌, ◌&&◌, List, [], ◌∷◌, length, Some, None, decimal, Option, ◌==◌, ◌≢◌, nat_le, nat_lt, slice_index}

-- the digits 0 to 9 are the bytes 48 to 57
abbrev pub is_digit : ℕ → Bool
is_digit c = nat_le 48 c && nat_le c 57

-- reads on after a number, while it stays below 4,294,967,296
abbrev pub number_on : ℕ → List ℕ → Option ℕ
number_on n [] = Some n
number_on n (c ∷ cs) =
    if is_digit c && nat_lt (10 * n + (c - 48)) 4294967296 then number_on (10 * n + (c - 48)) cs else None

-- a row of digits without a needless leading zero
abbrev pub number_of : List ℕ → Option ℕ
number_of w = if length w == 0 then None else (if nat_lt 1 (length w) && slice_index w 0 == 48 then None else number_on 0 w)

-- the law of numbers: a word writes a number just where it is that number in base ten
abbrev pub Writes : List ℕ → Option ℕ → Type 0
Writes w None = (n : ℕ) → n < 2 ^ 32 → w ≢ decimal n
Writes w (Some n) = (n < 2 ^ 32) × (w ≡ decimal n)

abbrev pub paired : Option ℕ → Option (List ℕ) → Option (List ℕ)
paired None ns = None
paired (Some n) None = None
paired (Some n) (Some ns) = Some (n ∷ ns)

-- words that are just so many numbers
abbrev pub fields_of : ℕ → List (List ℕ) → Option (List ℕ)
fields_of zero [] = Some []
fields_of zero (w ∷ ws) = None
fields_of (suc k) [] = None
fields_of (suc k) (w ∷ ws) = paired (number_of w) (fields_of k ws)
