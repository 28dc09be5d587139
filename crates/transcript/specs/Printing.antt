-- The lines that are printed. Assumes nothing.
use Rattle.std.specs.Prelude.{◌≡◌, ℕ, List, ◌++◌, String, codes, decimal, string_bytes}

-- one line for each record: its number, 0 or the refusal's number, the place and the value
abbrev pub printed_row : ℕ → ℕ → ℕ → ℕ → List ℕ
printed_row line answer place value =
    decimal line ++ (codes " " ++ (decimal answer ++ (codes " " ++ (decimal place ++ (codes " " ++ (decimal value ++ codes "\n"))))))

-- two lines for a refused text: the refusal's number and the line's
abbrev pub printed_refusal : ℕ → ℕ → List ℕ
printed_refusal number line = codes "refused line\n" ++ (decimal number ++ (codes " " ++ (decimal line ++ codes "\n")))

-- above the rows
abbrev pub printed_names : List ℕ
printed_names = codes "line answer place value\n"

-- a text is left with these bytes behind those that it had
abbrev pub Appends : {Z : Type 0} → String Z → String Z → List ℕ → Type 0
Appends old new bytes = string_bytes new ≡ string_bytes old ++ bytes
