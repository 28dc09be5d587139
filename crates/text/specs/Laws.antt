-- The laws of reading. Assumes nothing.
use Rattle.std.specs.Prelude.{◌≡◌, ℕ, ◌-◌, ◌<◌, ◌≤◌, true, ◌↔◌, List, length, take, is_ok, Ok, Err}
use Rattle.fault.specs.declared.refusal.Refusal.TheVariants.{BadText}
use Rattle.text.specs.Reading.{judge, read_of, refused_at}
use Rattle.text.specs.Sheets.{Task}
use Rattle.text.specs.Splitting.{lines_of}
use Rattle.text.specs.Writing.{Content, Regular, meaning, written}
use Rattle.text.specs.declared.job.Refused.{Refused}

-- a text says a content that means a task
pub record Says (text : List ℕ) (task : Task) (c : Content) : Type 0 where
  pub text_is : text ≡ written c
  pub regular : Regular c
  pub means : meaning c ≡ Ok task
  pub short : length text ≤ 32768

-- a text is accepted just where it is the writing of its plan and trace
abbrev pub Exact : Type 0
Exact = (text : List ℕ) (task : Task) → (read_of text ≡ Ok task) ↔ ((c : Content) × Says text task c)

-- and no two contents are written alike
abbrev pub Once : Type 0
Once = (c d : Content) → Regular c → Regular d → written c ≡ written d → c ≡ d

-- line 0 is told of the texts that are too long, and of no others
abbrev pub Long : Type 0
Long = (text : List ℕ) → (32768 < length text) ↔ (read_of text ≡ Err (refused_at BadText 0))

-- a refused text is refused at its first wrong line: every text with the same lines up to that one, line feeds and all, is
-- refused alike, and some text of any length with the same lines before it is accepted
pub record FirstWrong (text : List ℕ) (r : Refused) : Type 0 where
  pub wrong : (u : List ℕ) → take r.line (lines_of u) ≡ take r.line (lines_of text) → judge u ≡ Err r
  pub saved : List ℕ
  pub same : take (r.line - 1) (lines_of saved) ≡ take (r.line - 1) (lines_of text)
  pub right : is_ok (judge saved) ≡ true

abbrev pub Earliest : Type 0
Earliest = (text : List ℕ) (r : Refused) → read_of text ≡ Err r → 1 ≤ r.line → FirstWrong text r
