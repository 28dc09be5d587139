-- Pieces are glued and parted without loss. Assumes nothing.
use Rattle.std.proofs.Common.{◌≡◌, ℕ, Bool, true, false, cond, not, ◌&&◌, eqb, List, [], ◌∷◌, ◌++◌, map, sym, refl, ap, ◌∙◌}
use Rattle.std.proofs.lemmas.Bool.{and_from, and_parts, cond-false, cond-true, eq-eqb, not-true}
use Rattle.std.specs.List.{AllByRecursion}
use Rattle.text.specs.Splitting.{Line, closed, unclosed, ended, glued, last_line, lines_in, lines_of, pieces}
use Rattle.std.proofs.lemmas.List.Splits.{join_with_byte-slice_split}
use Rattle.std.specs.List.{onto_first}
use Rattle.text.proofs.Cutting.{lines_cons, pieces_some}

-- a stretch without the stop
abbrev pub free : ℕ → List ℕ → Bool
free stop [] = true
free stop (x ∷ xs) = not (eqb x stop) && free stop xs

abbrev pub Free : ℕ → List ℕ → Type 0
Free stop w = free stop w ≡ true

pub free-append : (stop : ℕ) (v w : List ℕ) → Free stop v → Free stop w → Free stop (v ++ w)
free-append stop [] w f g = g
free-append stop (x ∷ v) w f g =
    let p = and_parts (not (eqb x stop)) (free stop v) f in
    and_from (not (eqb x stop)) (free stop (v ++ w)) p.0 (free-append stop v w p.1 g)

pub pieces-free : (stop : ℕ) (w : List ℕ) → Free stop w → pieces stop w ≡ w ∷ []
pieces-free stop [] f = refl
pieces-free stop (x ∷ w) f =
    let p = and_parts (not (eqb x stop)) (free stop w) f in
    cond-false (eqb x stop) _ _ (not-true (eqb x stop) p.0) ∙ ap (onto_first x) (pieces-free stop w p.1)

pub pieces-cut : (stop : ℕ) (w xs : List ℕ) → Free stop w → pieces stop (w ++ stop ∷ xs) ≡ w ∷ pieces stop xs
pieces-cut stop [] xs f = cond-true (eqb stop stop) _ _ (eq-eqb stop stop refl)
pieces-cut stop (x ∷ w) xs f =
    let p = and_parts (not (eqb x stop)) (free stop w) f in
    cond-false (eqb x stop) _ _ (not-true (eqb x stop) p.0) ∙ ap (onto_first x) (pieces-cut stop w xs p.1)

-- what was glued is parted
pub pieces-glued : (stop : ℕ) (w : List ℕ) (ws : List (List ℕ)) → AllByRecursion (Free stop) (w ∷ ws) → pieces stop (glued stop (w ∷ ws)) ≡ w ∷ ws
pieces-glued stop w [] f = pieces-free stop w f.0
pieces-glued stop w (v ∷ ws) f = pieces-cut stop w (glued stop (v ∷ ws)) f.0 ∙ ap (λ ps. w ∷ ps) (pieces-glued stop v ws f.1)

-- no piece has a stop
first_free : (stop x : ℕ) (ps : List (List ℕ)) → eqb x stop ≡ false → AllByRecursion (Free stop) ps → AllByRecursion (Free stop) (onto_first x ps)
first_free stop x [] e f = (and_from (not (eqb x stop)) true (ap not e) refl, tt)
first_free stop x (p ∷ ps) e f = (and_from (not (eqb x stop)) (free stop p) (ap not e) f.0, f.1)

pub free-pieces : (stop : ℕ) (xs : List ℕ) → AllByRecursion (Free stop) (pieces stop xs)
free-pieces stop [] = (refl, tt)
free-pieces stop (x ∷ xs) =
    elim (eqb x stop) as (λ b. eqb x stop ≡ b → AllByRecursion (Free stop) (cond b ([] ∷ pieces stop xs) (onto_first x (pieces stop xs)))) [
      | true ↦ λ t. (refl, free-pieces stop xs)
      | false ↦ λ t. first_free stop x (pieces stop xs) t (free-pieces stop xs)
    ] refl

-- lines, each with its line feed
pub lines_ended : (ls : List (List ℕ)) → AllByRecursion (Free 10) ls → lines_of (ended ls) ≡ map closed ls
lines_ended [] f = refl
lines_ended (l ∷ ls) f =
    ap lines_in (pieces-cut 10 l (ended ls) f.0) ∙ lines_cons l (ended ls) ∙ ap (λ k. closed l ∷ k) (lines_ended ls f.1)

-- the text of its lines
abbrev pub text_of : List Line → List ℕ
text_of [] = []
text_of (closed l ∷ ls) = l ++ 10 ∷ text_of ls
text_of (unclosed l ∷ ls) = l

text_last : (p : List ℕ) → text_of (last_line p) ≡ p
text_last [] = refl
text_last (x ∷ xs) = refl

text_in : (p : List ℕ) (ps : List (List ℕ)) → text_of (lines_in (p ∷ ps)) ≡ glued 10 (p ∷ ps)
text_in p [] = text_last p
text_in p (q ∷ ps) = ap (λ ys. p ++ 10 ∷ ys) (text_in q ps)

pub text_lines : (xs : List ℕ) → text_of (lines_of xs) ≡ xs
text_lines xs =
    let s = pieces_some 10 xs in
    ap (λ ps. text_of (lines_in ps)) s.1.1 ∙ text_in s.0 s.1.0 ∙ ap (glued 10) (sym s.1.1) ∙ join_with_byte-slice_split 10 xs

pub text_closed : (ls : List (List ℕ)) → text_of (map closed ls) ≡ ended ls
text_closed [] = refl
text_closed (l ∷ ls) = ap (λ ys. l ++ 10 ∷ ys) (text_closed ls)

-- no closed line has a line feed
abbrev pub FreeLine : Line → Type 0
FreeLine (closed l) = Free 10 l
FreeLine (unclosed l) = Unit {0}

free-last : (p : List ℕ) → AllByRecursion FreeLine (last_line p)
free-last [] = tt
free-last (x ∷ xs) = (tt, tt)

free_in : (ps : List (List ℕ)) → AllByRecursion (Free 10) ps → AllByRecursion FreeLine (lines_in ps)
free_in [] f = tt
free_in (p ∷ []) f = free-last p
free_in (p ∷ (q ∷ ps)) f = (f.0, free_in (q ∷ ps) f.1)

pub free_lines : (xs : List ℕ) → AllByRecursion FreeLine (lines_of xs)
free_lines xs = free_in (pieces 10 xs) (free-pieces 10 xs)
