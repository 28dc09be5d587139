-- The memory's row is read from its writing, and from nothing else. Assumes nothing.
use Rattle.std.proofs.Common.{◌≡◌, ℕ, ◌^◌, ◌<◌, ◌≤◌, true, false, cond, leb, List, [], ◌∷◌, map, length, get_or, Some, None, Ok, Err, decimal, Option, sym, refl, ap, ◌∙◌, arith}
use Rattle.fault.specs.declared.refusal.Refusal.TheVariants.{BadText}
use Rattle.std.proofs.lemmas.Slice.Eq.{bytes_eq-Decides}
use Rattle.std.proofs.lemmas.Bool.{cond-true, le-leb, leb-true}
use Rattle.std.proofs.lemmas.List.Splits.{join_with_byte-slice_split}
use Rattle.std.specs.Str.{bytes_eq}
use Rattle.text.specs.Numbers.{fields_of}
use Rattle.text.specs.Sheets.{Task, letter_of, longest_of, made_task, make_named, memory_of, memory_words, sized_task, with_memory}
use Rattle.text.specs.Splitting.{glued, pieces}
use Rattle.text.specs.Writing.{memory_row}
use Rattle.text.specs.declared.job.Make.{Make}
use Rattle.text.specs.declared.job.Make.TheVariants.{Flat, Nibble}
use Rattle.text.proofs.Contrary.{never}
use Rattle.text.proofs.Pieces.{Free, free-append, pieces-glued}
use Rattle.text.proofs.RowText.{fields_words, free_decimal, words_fields}

pub small_size : (make : Make) (size : ℕ) → size ≤ longest_of make → size < 2 ^ 32
small_size Flat size h = omega arith
small_size Nibble size h = omega arith

free_letter : (make : Make) → Free 32 (letter_of make)
free_letter Flat = refl
free_letter Nibble = refl

free_letter_10 : (make : Make) → Free 10 (letter_of make)
free_letter_10 Flat = refl
free_letter_10 Nibble = refl

pub free-memory : (make : Make) (size : ℕ) → size ≤ longest_of make → Free 10 (memory_row make size)
free-memory make size h =
    free-append 10 (letter_of make) (32 ∷ decimal size) (free_letter_10 make) (free_decimal 10 size (omega arith) (small_size make size h))

name_letter : (make : Make) → make_named (letter_of make) ≡ Some make
name_letter Flat = refl
name_letter Nibble = refl

letter_named : (w : List ℕ) (make : Make) → make_named w ≡ Some make → w ≡ letter_of make
letter_named w make e =
    elim (bytes_eq w (letter_of Flat)) as (λ b. bytes_eq w (letter_of Flat) ≡ b → cond b (Some Flat) (cond (bytes_eq w (letter_of Nibble)) (Some Nibble) None) ≡ Some make → w ≡ letter_of make) [
      | true ↦ λ f h. let m : Flat ≡ make = cc in (bytes_eq-Decides w (letter_of Flat)).0 f ∙ ap letter_of m
      | false ↦ λ f h. elim (bytes_eq w (letter_of Nibble)) as (λ b. bytes_eq w (letter_of Nibble) ≡ b → cond b (Some Nibble) None ≡ Some make → w ≡ letter_of make) [
        | true ↦ λ g k. let m : Nibble ≡ make = cc in (bytes_eq-Decides w (letter_of Nibble)).0 g ∙ ap letter_of m
        | false ↦ λ g k. never (cc)
      ] refl h
    ] refl e

-- what an accepted row of the memory says
pub record MemoryIs (t u : Task) (line : List ℕ) : Type 0 where
  pub make : Make
  pub size : ℕ
  pub line_is : line ≡ memory_row make size
  pub fits : size ≤ longest_of make
  pub is : with_memory make size t ≡ u

sized : (t u : Task) (make : Make) (size : ℕ) → sized_task t make size ≡ Ok u → (size ≤ longest_of make) × (with_memory make size t ≡ u)
sized t u make size e =
    elim (leb size (longest_of make)) as (λ b. leb size (longest_of make) ≡ b → cond b (Ok (with_memory make size t)) (Err BadText) ≡ Ok u → (size ≤ longest_of make) × (with_memory make size t ≡ u)) [
      | true ↦ λ f h. (leb-true size (longest_of make) f, cc)
      | false ↦ λ f h. never (cc)
    ] refl e

lone : (ns : List ℕ) → length ns ≡ 1 → ns ≡ get_or ns 0 0 ∷ []
lone [] e = let y : ⊥ = omega arith in absurd y
lone (n ∷ []) e = refl
lone (n ∷ (m ∷ ns)) e = let y : ⊥ = omega arith in absurd y

made-is : (t u : Task) (line w : List ℕ) (ws : List (List ℕ)) → line ≡ glued 32 (w ∷ ws) → (o : Option Make) (p : Option (List ℕ)) → make_named w ≡ o → fields_of 1 ws ≡ p → made_task t o p ≡ Ok u → MemoryIs t u line
made-is t u line w ws l None p f g e = never (cc)
made-is t u line w ws l (Some make) None f g e = never (cc)
made-is t u line w ws l (Some make) (Some ns) f g e =
    let size = get_or ns 0 0 in
    let q = sized t u make size e in
    let r = fields_words 1 ws ns g in
    let words : ws ≡ decimal size ∷ [] = r.0 ∙ ap (map decimal) (lone ns r.1) in
    record {
      make = make;
      size = size;
      line_is = l ∙ ap (λ v. glued 32 (v ∷ ws)) (letter_named w make f) ∙ ap (λ vs. glued 32 (letter_of make ∷ vs)) words;
      fits = q.0;
      is = q.1;
    }

words_is : (t u : Task) (line : List ℕ) (ws : List (List ℕ)) → line ≡ glued 32 ws → memory_words t ws ≡ Ok u → MemoryIs t u line
words_is t u line [] l e = never (cc)
words_is t u line (w ∷ ws) l e = made-is t u line w ws l (make_named w) (fields_of 1 ws) refl refl e

pub memory_line : (t u : Task) (line : List ℕ) → memory_of t line ≡ Ok u → MemoryIs t u line
memory_line t u line e = words_is t u line (pieces 32 line) (sym (join_with_byte-slice_split 32 line)) e

pub line_memory : (t : Task) (make : Make) (size : ℕ) → size ≤ longest_of make → memory_of t (memory_row make size) ≡ Ok (with_memory make size t)
line_memory t make size h =
    let k : size < 2 ^ 32 = small_size make size h in
    ap (memory_words t) (pieces-glued 32 (letter_of make) (decimal size ∷ []) (free_letter make, (free_decimal 32 size (omega arith) k, tt)))
    ∙ ap (λ o. made_task t o (fields_of 1 (decimal size ∷ []))) (name_letter make)
    ∙ ap (made_task t (Some make)) (words_fields (size ∷ []) (k, tt))
    ∙ cond-true (leb size (longest_of make)) _ _ (le-leb size (longest_of make) h)
