-- How a text falls into lines, and a line into words. Assumes nothing.
use Rattle.std.specs.Prelude.{ℕ, List, [], ◌∷◌, ◌++◌, ◌==◌}
use Rattle.std.specs.List.{join_with_byte, slice_split}

-- the pieces that the stops part: one more than there are stops
abbrev pub pieces : ℕ → List ℕ → List (List ℕ)
pieces stop text = slice_split (λ x. x == stop) text

-- a line that a line feed closes, without it, or what stands after the last line feed
pub data Line : Type 0 where
  closed : List ℕ → Line
  unclosed : List ℕ → Line

abbrev pub last_line : List ℕ → List Line
last_line [] = []
last_line (x ∷ xs) = unclosed (x ∷ xs) ∷ []

abbrev pub lines_in : List (List ℕ) → List Line
lines_in [] = []
lines_in (p ∷ []) = last_line p
lines_in (p ∷ (q ∷ ps)) = closed p ∷ lines_in (q ∷ ps)

abbrev pub lines_of : List ℕ → List Line
lines_of text = lines_in (pieces 10 text)

-- pieces with one stop between two
abbrev pub glued : ℕ → List (List ℕ) → List ℕ
glued stop ps = join_with_byte stop ps

-- lines, each with its line feed
abbrev pub ended : List (List ℕ) → List ℕ
ended [] = []
ended (l ∷ ls) = l ++ 10 ∷ ended ls
