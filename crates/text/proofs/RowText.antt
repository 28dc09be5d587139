-- A row of numbers is read from its writing, and from nothing else. Assumes nothing.
use Rattle.std.proofs.Common.{◌≡◌, ℕ, zero, suc, ◌^◌, ◌<◌, ◌≤◌, true, false, not, eqb, leb, List, [], ◌∷◌, map, length, Some, None, Ok, decimal, Option, sym, refl, ap, ◌∙◌, arith, length-append}
use Rattle.std.proofs.lemmas.Fmt.{decimal_nonempty, digits_decimal}
use Rattle.std.proofs.ByRecursion.{All-map, All-weaker}
use Rattle.std.proofs.lemmas.Str.Parse.{numerals_by_value, tells_all_ascii_digits}
use Rattle.std.proofs.lemmas.Bool.{and_from, and_parts, leb-true, ne_eqb}
use Rattle.std.proofs.lemmas.List.Splits.{join_with_byte-slice_split}
use Rattle.std.specs.List.{AllByRecursion}
use Rattle.std.specs.Str.{all_ascii_digits}
use Rattle.text.specs.Numbers.{fields_of, is_digit, number_of, paired}
use Rattle.text.specs.Reading.{is_blank}
use Rattle.text.specs.Sections.{width_of}
use Rattle.text.specs.Sheets.{Task, row_of, take_fields, take_row}
use Rattle.text.specs.Splitting.{glued, pieces}
use Rattle.text.specs.Writing.{Fits, row}
use Rattle.text.specs.declared.sections.Section.{Section}
use Rattle.text.proofs.Contrary.{never}
use Rattle.text.proofs.Numbering.{number_decimal, number-written}
use Rattle.text.proofs.Pieces.{Free, free, free-append, pieces-glued}

abbrev Small : ℕ → Type 0
Small n = n < 2 ^ 32

-- a digit is no space and no line feed
free_digits : (stop : ℕ) (w : List ℕ) → stop < 48 → all_ascii_digits w ≡ true → Free stop w
free_digits stop [] h d = refl
free_digits stop (x ∷ w) h d =
    let p = and_parts (is_digit x) (all_ascii_digits w) d in
    let q = and_parts (leb 48 x) (leb x 57) p.0 in
    let l : 48 ≤ x = leb-true 48 x q.0 in
    and_from (not (eqb x stop)) (free stop w) (ap not (ne_eqb x stop (λ e. omega arith))) (free_digits stop w h p.1)

pub free_decimal : (stop n : ℕ) → stop < 48 → Small n → Free stop (decimal n)
free_decimal stop n h k = free_digits stop (decimal n) h (digits_decimal (numerals_by_value _ tells_all_ascii_digits) n (omega arith))

free_decimals : (stop : ℕ) → stop < 48 → (ns : List ℕ) → AllByRecursion Small ns → AllByRecursion (Free stop) (map decimal ns)
free_decimals stop h ns f = All-map (Free stop) decimal ns (All-weaker Small (λ n. Free stop (decimal n)) (λ n k. free_decimal stop n h k) ns f)

free-glued : (ws : List (List ℕ)) → AllByRecursion (Free 10) ws → Free 10 (glued 32 ws)
free-glued [] f = refl
free-glued (w ∷ []) f = f.0
free-glued (w ∷ (v ∷ ws)) f = free-append 10 w (32 ∷ glued 32 (v ∷ ws)) f.0 (free-glued (v ∷ ws) f.1)

pub free-row : (s : Section) (ns : List ℕ) → Fits s ns → Free 10 (row ns)
free-row s ns f = free-glued (map decimal ns) (free_decimals 10 (omega arith) ns f.1)

-- the words of a row
pairs : (o : Option ℕ) (p : Option (List ℕ)) (ns : List ℕ) → paired o p ≡ Some ns → (m : ℕ) × ((ms : List ℕ) × ((o ≡ Some m) × (p ≡ Some ms) × (ns ≡ m ∷ ms)))
pairs None p ns e = never (cc)
pairs (Some m) None ns e = never (cc)
pairs (Some m) (Some ms) ns e = (m, (ms, (refl, refl, cc)))

pub fields_words : (k : ℕ) (ws : List (List ℕ)) (ns : List ℕ) → fields_of k ws ≡ Some ns → (ws ≡ map decimal ns) × (length ns ≡ k) × AllByRecursion Small ns
fields_words zero [] [] e = (refl, refl, tt)
fields_words zero [] (n ∷ ns) e = never (cc)
fields_words zero (w ∷ ws) ns e = never (cc)
fields_words (suc k) [] ns e = never (cc)
fields_words (suc k) (w ∷ ws) [] e =
    let p = pairs (number_of w) (fields_of k ws) [] e in
    let q = p.1.1.2 in
    never (cc)
fields_words (suc k) (w ∷ ws) (n ∷ ns) e =
    let p = pairs (number_of w) (fields_of k ws) (n ∷ ns) e in
    let q = p.1.1.2 in
    let head : number_of w ≡ Some n = p.1.1.0 ∙ cc in
    let rest : fields_of k ws ≡ Some ns = p.1.1.1 ∙ cc in
    let a = number-written w n head in
    let b = fields_words k ws ns rest in
    (ap (λ x. x ∷ ws) a.1 ∙ ap (λ x. decimal n ∷ x) b.0, ap suc b.1, (a.0, b.2))

pub words_fields : (ns : List ℕ) → AllByRecursion Small ns → fields_of (length ns) (map decimal ns) ≡ Some ns
words_fields [] f = refl
words_fields (n ∷ ns) f =
    ap (λ o. paired o (fields_of (length ns) (map decimal ns))) (number_decimal n f.0) ∙ ap (paired (Some n)) (words_fields ns f.1)

pieces-row : (ns : List ℕ) → 0 < length ns → AllByRecursion Small ns → pieces 32 (row ns) ≡ map decimal ns
pieces-row [] h f = let y : ⊥ = omega arith in absurd y
pieces-row (n ∷ ns) h f = pieces-glued 32 (decimal n) (map decimal ns) (free_decimals 32 (omega arith) (n ∷ ns) f)

-- a line of a section is a row of it
takes : (s : Section) (t u : Task) (o : Option (List ℕ)) → take_fields s t o ≡ Ok u → (ns : List ℕ) × ((o ≡ Some ns) × (take_row s t ns ≡ Ok u))
takes s t u None e = never (cc)
takes s t u (Some ns) e = (ns, (refl, e))

pub line_row : (s : Section) (t u : Task) (line : List ℕ) → row_of s t line ≡ Ok u → (ns : List ℕ) × ((line ≡ row ns) × Fits s ns × (take_row s t ns ≡ Ok u))
line_row s t u line e =
    let p = takes s t u (fields_of (width_of s) (pieces 32 line)) e in
    let f = fields_words (width_of s) (pieces 32 line) p.0 p.1.0 in
    (p.0, (sym (join_with_byte-slice_split 32 line) ∙ ap (glued 32) f.0, (f.1, f.2), p.1.1))

pub fields-row : (s : Section) (ns : List ℕ) → 0 < width_of s → Fits s ns → fields_of (width_of s) (pieces 32 (row ns)) ≡ Some ns
fields-row s ns h f =
    let e : length ns ≡ width_of s = f.0 in
    ap (fields_of (width_of s)) (pieces-row ns (omega arith) f.1) ∙ ap (λ k. fields_of k (map decimal ns)) (sym e) ∙ words_fields ns f.1

pub row_line : (s : Section) (t : Task) (ns : List ℕ) → 0 < width_of s → Fits s ns → row_of s t (row ns) ≡ take_row s t ns
row_line s t ns h f = ap (take_fields s t) (fields-row s ns h f)

-- a row is never blank
long-glued : (w : List ℕ) (ws : List (List ℕ)) → 0 < length w → 0 < length (glued 32 (w ∷ ws))
long-glued w [] h = h
long-glued w (v ∷ ws) h = simp length-append (omega arith)

long-row : (ns : List ℕ) → 0 < length ns → AllByRecursion Small ns → 0 < length (row ns)
long-row [] h f = h
long-row (n ∷ ns) h f = let k : n < 2 ^ 32 = f.0 in long-glued (decimal n) (map decimal ns) (decimal_nonempty n (omega arith))

pub row_some : (s : Section) (ns : List ℕ) → 0 < width_of s → Fits s ns → is_blank (row ns) ≡ false
row_some s ns h f =
    let e : length ns ≡ width_of s = f.0 in
    let l : 0 < length (row ns) = long-row ns (omega arith) f.1 in
    ne_eqb (length (row ns)) 0 (λ z. omega arith)
