-- No two contents are written alike. Assumes nothing.
use Rattle.std.proofs.Common.{◌≡◌, ℕ, ◌^◌, ◌<◌, true, false, List, [], ◌∷◌, ◌++◌, map, get_or, drop, Some, sym, refl, ap, ◌∙◌, arith}
use Rattle.std.proofs.lemmas.Fmt.{decimal_injective}
use Rattle.std.specs.List.{AllByRecursion}
use Rattle.text.specs.Laws.{Once}
use Rattle.text.specs.Numbers.{fields_of}
use Rattle.text.specs.Reading.{is_blank}
use Rattle.text.specs.Sections.{width_of}
use Rattle.text.specs.Splitting.{Line, closed, unclosed, lines_of, pieces}
use Rattle.text.specs.Writing.{Content, Fits, Regular, lines_by, memory_row, row, written}
use Rattle.text.specs.declared.job.Make.{Make}
use Rattle.text.specs.declared.job.Make.TheVariants.{Flat, Nibble}
use Rattle.text.specs.declared.sections.Section.{Section}
use Rattle.text.specs.declared.sections.Section.TheVariants.{Pages, Entries, Counters, Trace}
use Rattle.text.proofs.Contrary.{never}
use Rattle.text.proofs.Exactly.{free-written}
use Rattle.text.proofs.MemoryText.{small_size}
use Rattle.text.proofs.Pieces.{lines_ended}
use Rattle.text.proofs.RowText.{fields-row, row_some}

abbrev bytes_of : List Line → List (List ℕ)
bytes_of [] = []
bytes_of (closed l ∷ ls) = l ∷ bytes_of ls
bytes_of (unclosed l ∷ ls) = l ∷ bytes_of ls

bytes-closed : (ls : List (List ℕ)) → bytes_of (map closed ls) ≡ ls
bytes-closed [] = refl
bytes-closed (l ∷ ls) = ap (λ x. l ∷ x) (bytes-closed ls)

lines_of_lem : (c : Content) → Regular c → bytes_of (lines_of (written c)) ≡ lines_by c
lines_of_lem c g = ap bytes_of (lines_ended (lines_by c) (free-written c g)) ∙ bytes-closed (lines_by c)

module _ (s : Section) (some : 0 < width_of s) where
  same_row : (ms ns : List ℕ) → Fits s ms → Fits s ns → row ms ≡ row ns → ms ≡ ns
  same_row ms ns f g e =
      let a : fields_of (width_of s) (pieces 32 (row ms)) ≡ Some ms = fields-row s ms some f in
      let b : fields_of (width_of s) (pieces 32 (row ns)) ≡ Some ns = fields-row s ns some g in
      let h : Some ms ≡ Some ns = sym a ∙ ap (λ r. fields_of (width_of s) (pieces 32 r)) e ∙ b in cc

  blank_row : (ns : List ℕ) → Fits s ns → [] ≡ row ns → ⊥
  blank_row ns f e =
      let a : is_blank (row ns) ≡ false = row_some s ns some f in
      let b : is_blank (row ns) ≡ true = ap is_blank (sym e) in
      let z : ◌≡◌ {A = ℕ} 0 1 = cc in omega arith

  -- rows up to a blank line
  same_rows : (rs qs xs ys : List (List ℕ)) → AllByRecursion (Fits s) rs → AllByRecursion (Fits s) qs → map row rs ++ [] ∷ xs ≡ map row qs ++ [] ∷ ys → (rs ≡ qs) × (xs ≡ ys)
  same_rows [] [] xs ys f g e = (refl, ap (drop 1) e)
  same_rows [] (q ∷ qs) xs ys f g e = absurd (blank_row q g.0 (ap (λ l. get_or l 0 []) e))
  same_rows (r ∷ rs) [] xs ys f g e = absurd (blank_row r f.0 (sym (ap (λ l. get_or l 0 []) e)))
  same_rows (r ∷ rs) (q ∷ qs) xs ys f g e =
      let h : r ≡ q = same_row r q f.0 g.0 (ap (λ l. get_or l 0 []) e) in
      let k = same_rows rs qs xs ys f.1 g.1 (ap (drop 1) e) in
      (ap (λ x. x ∷ rs) h ∙ ap (λ x. q ∷ x) k.0, k.1)

  same_last : (rs qs : List (List ℕ)) → AllByRecursion (Fits s) rs → AllByRecursion (Fits s) qs → map row rs ≡ map row qs → rs ≡ qs
  same_last [] [] f g e = refl
  same_last [] (q ∷ qs) f g e = never (cc)
  same_last (r ∷ rs) [] f g e = never (cc)
  same_last (r ∷ rs) (q ∷ qs) f g e =
      let h : r ≡ q = same_row r q f.0 g.0 (ap (λ l. get_or l 0 []) e) in
      ap (λ x. x ∷ rs) h ∙ ap (λ x. q ∷ x) (same_last rs qs f.1 g.1 (ap (drop 1) e))

same_memory : (make other : Make) (m n : ℕ) → m < 2 ^ 32 → n < 2 ^ 32 → memory_row make m ≡ memory_row other n → (make ≡ other) × (m ≡ n)
same_memory Flat Flat m n f g e = (refl, decimal_injective m n (omega arith) (omega arith) (ap (drop 2) e))
same_memory Flat Nibble m n f g e = let z : ◌≡◌ {A = ℕ} 70 78 = ap (λ l. get_or l 0 0) e in let y : ⊥ = omega arith in absurd y
same_memory Nibble Flat m n f g e = let z : ◌≡◌ {A = ℕ} 78 70 = ap (λ l. get_or l 0 0) e in let y : ⊥ = omega arith in absurd y
same_memory Nibble Nibble m n f g e = (refl, decimal_injective m n (omega arith) (omega arith) (ap (drop 2) e))

abbrev content : Make → ℕ → List (List ℕ) → List (List ℕ) → List (List ℕ) → List (List ℕ) → Content
content make size pages entries counters trace =
    record { make = make; size = size; pages = pages; entries = entries; counters = counters; trace = trace }

same-content : (c d : Content) → c.make ≡ d.make → c.size ≡ d.size → c.pages ≡ d.pages → c.entries ≡ d.entries → c.counters ≡ d.counters → c.trace ≡ d.trace → c ≡ d
same-content c d make size pages entries counters trace =
    ap (λ x. content x c.size c.pages c.entries c.counters c.trace) make
    ∙ ap (λ x. content d.make x c.pages c.entries c.counters c.trace) size
    ∙ ap (λ x. content d.make d.size x c.entries c.counters c.trace) pages
    ∙ ap (λ x. content d.make d.size d.pages x c.counters c.trace) entries
    ∙ ap (λ x. content d.make d.size d.pages d.entries x c.trace) counters
    ∙ ap (λ x. content d.make d.size d.pages d.entries d.counters x) trace

pub once : Once
once c d f g e =
    let l : lines_by c ≡ lines_by d = sym (lines_of_lem c f) ∙ ap (λ t. bytes_of (lines_of t)) e ∙ lines_of_lem d g in
    let m = same_memory c.make d.make c.size d.size (small_size c.make c.size f.memory) (small_size d.make d.size g.memory) (ap (λ x. get_or x 1 []) l) in
    let p = same_rows Pages (omega arith) c.pages d.pages _ _ f.pages g.pages (ap (drop 4) l) in
    let q = same_rows Entries (omega arith) c.entries d.entries _ _ f.entries g.entries (ap (drop 1) p.1) in
    let r = same_rows Counters (omega arith) c.counters d.counters _ _ f.counters g.counters (ap (drop 1) q.1) in
    let t : c.trace ≡ d.trace = same_last Trace (omega arith) c.trace d.trace f.trace g.trace (ap (drop 1) r.1) in
    same-content c d m.0 m.1 p.0 q.0 r.0 t
