-- What a token shows of the text, and what is left behind it. Assumes nothing.
use Rattle.std.specs.Prelude.{◌≡◌, ℕ, ◌+◌, ◌≤◌, List, [], ◌∷◌, length, Some, None, Option}
use Rattle.std.specs.Borrow.{Bor}
use Rattle.text.specs.Splitting.{Line, closed, unclosed, pieces}
use Rattle.text.specs.declared.token.Part.{Part}
use Rattle.text.specs.declared.token.Token.{Token}
use Rattle.text.specs.declared.token.Token.TheVariants.{Line as OfLine, Open as OfOpen, End as OfEnd}

-- a token with the bytes of its part, its place and its line
pub data Seen : Type 0 where
  line_at : List ℕ → ℕ → ℕ → Seen
  open_at : List ℕ → ℕ → ℕ → Seen
  end_at : ℕ → ℕ → Seen

abbrev pub seen : Token → Seen
seen (OfLine p) = line_at p.bytes.now p.place p.line
seen (OfOpen p) = open_at p.bytes.now p.place p.line
seen (OfEnd place line) = end_at place line

-- the lines from a token on, where those behind it are known
abbrev pub lines_from : Seen → List Line → List Line
lines_from (line_at bytes place line) behind = closed bytes ∷ behind
lines_from (open_at bytes place line) behind = unclosed bytes ∷ behind
lines_from (end_at place line) behind = []

-- a token stands at this place and on this line, within the longest text
abbrev pub Stands : Seen → ℕ → ℕ → Type 0
Stands (line_at bytes p l) place line = (p ≡ place) × (l ≡ line) × (p + length bytes ≤ 32768)
Stands (open_at bytes p l) place line = (p ≡ place) × (l ≡ line) × (p + length bytes ≤ 32768)
Stands (end_at p l) place line = (p ≡ place) × (l ≡ line)

-- a line feed begins a new line
abbrev pub line_after : Seen → ℕ → ℕ
line_after (line_at bytes place l) line = line + 1
line_after (open_at bytes place l) line = line
line_after (end_at place l) line = line

-- a line feed is a byte too
abbrev pub place_after : Seen → ℕ → ℕ
place_after (line_at bytes p line) place = place + length bytes + 1
place_after (open_at bytes p line) place = place + length bytes
place_after (end_at p line) place = place

-- what stands behind a stop: its pieces, its bytes, and its bytes with the stop; nothing where there is no stop
abbrev pub pieces_left : ℕ → Option (Bor (List ℕ)) → List (List ℕ)
pieces_left stop None = []
pieces_left stop (Some rest) = pieces stop rest.now

abbrev pub bytes_left : Option (Bor (List ℕ)) → ℕ
bytes_left None = 0
bytes_left (Some rest) = length rest.now

abbrev pub bytes_behind : Option (Bor (List ℕ)) → ℕ
bytes_behind None = 0
bytes_behind (Some rest) = length rest.now + 1

-- the words of a line that are left, none once the last was taken, and those from a word on
abbrev pub words_left : Option (Bor (List ℕ)) → List (List ℕ)
words_left rest = pieces_left 32 rest

abbrev pub words_from : Option Part → List (List ℕ) → List (List ℕ)
words_from None behind = []
words_from (Some w) behind = w.bytes.now ∷ behind
