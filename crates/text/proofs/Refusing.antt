-- A refused text is refused at its first wrong line. Assumes nothing.
use Rattle.std.proofs.Common.{◌≡◌, ℕ, zero, suc, ◌+◌, ◌-◌, ◌<◌, ◌≤◌, true, false, cond, leb, List, [], ◌∷◌, map, length, take, is_ok, Ok, Err, codes, Result, sym, refl, ap, ◌∙◌, arith}
use Rattle.fault.specs.declared.refusal.Refusal.{Refusal}
use Rattle.fault.specs.declared.refusal.Refusal.TheVariants.{BadText}
use Rattle.std.proofs.lemmas.Bool.{cond-false, leb-false, lt-leb}
use Rattle.std.specs.List.{AllByRecursion}
use Rattle.text.specs.Laws.{Earliest, FirstWrong, Long}
use Rattle.text.specs.Reading.{State, at, ending, judge, may_end, onward, read_from, read_of, refused_at, start, step_line}
use Rattle.text.specs.Sections.{names_of, next_of}
use Rattle.text.specs.Sheets.{Task}
use Rattle.text.specs.Splitting.{Line, closed, unclosed, ended, lines_of}
use Rattle.text.specs.declared.job.Refused.{Refused}
use Rattle.text.specs.declared.sections.Section.{Section}
use Rattle.text.specs.declared.sections.Section.TheVariants.{Memory, Pages, Entries, Counters, Trace}
use Rattle.text.specs.declared.sections.Stage.{Stage}
use Rattle.text.specs.declared.sections.Stage.TheVariants.{Names, Rows, Closed}
use Rattle.text.proofs.Contrary.{never}
use Rattle.text.proofs.Pieces.{Free, FreeLine, free_lines, lines_ended}

-- the line that is told
err_line : (f : Refusal) (n : ℕ) (r : Refused) → ◌≡◌ {A = Result Task Refused} (Err (refused_at f n)) (Err r) → r.line ≡ n
err_line f n r e = let h : refused_at f n ≡ r = cc in sym (ap (λ x. x.line) h)

ending_line : (s : State) (n : ℕ) (r : Refused) → ending s n ≡ Err r → r.line ≡ n
ending_line s n r e =
    elim (may_end s.stage) as (λ b. cond b (Ok s.task) (Err (refused_at BadText n)) ≡ Err r → r.line ≡ n) [
      | true ↦ λ h. never (cc)
      | false ↦ λ h. err_line BadText n r h
    ] e

-- it is not before the lines that are left
onward_line : (n : ℕ) (r : Refused) (x : Result State Refusal) (f : State → Result Task Refused) → onward n x f ≡ Err r → ((u : State) → f u ≡ Err r → n + 1 ≤ r.line) → n ≤ r.line
onward_line n r (Ok u) f e h = let k : n + 1 ≤ r.line = h u e in omega arith
onward_line n r (Err g) f e h = omega (arith, err_line g n r e)

told_line : (ls : List Line) (s : State) (n : ℕ) (r : Refused) → read_from s n ls ≡ Err r → n ≤ r.line
told_line [] s n r e = omega (arith, ending_line s n r e)
told_line (closed l ∷ ls) s n r e = onward_line n r (step_line s l) (λ t. read_from t (n + 1) ls) e (λ u h. told_line ls u (n + 1) r h)
told_line (unclosed l ∷ ls) s n r e = omega (arith, err_line BadText n r e)

-- the lines up to the refused one decide
onward-same : (n : ℕ) (r : Refused) (x : Result State Refusal) (f g : State → Result Task Refused) → onward n x f ≡ Err r → ((u : State) → f u ≡ Err r → g u ≡ Err r) → onward n x g ≡ Err r
onward-same n r (Ok u) f g e h = h u e
onward-same n r (Err refusal) f g e h = e

heads : (k : ℕ) (l m : Line) (ls ms : List Line) → take (suc k) (m ∷ ms) ≡ take (suc k) (l ∷ ls) → (m ≡ l) × (take k ms ≡ take k ls)
heads k l m ls ms e = (cc, cc)

same-wrong : (k : ℕ) (ls ms : List Line) (s : State) (n : ℕ) (r : Refused) → read_from s n ls ≡ Err r → r.line < n + k → take k ms ≡ take k ls → read_from s n ms ≡ Err r
same-wrong zero ls ms s n r e h t = let k : n ≤ r.line = told_line ls s n r e in let y : ⊥ = omega arith in absurd y
same-wrong (suc k) [] [] s n r e h t = e
same-wrong (suc k) [] (m ∷ ms) s n r e h t = never (cc)
same-wrong (suc k) (l ∷ ls) [] s n r e h t = never (cc)
same-wrong (suc k) (closed l ∷ ls) (m ∷ ms) s n r e h t =
    let p = heads k (closed l) m ls ms t in
    ap (λ x. read_from s n (x ∷ ms)) p.0
    ∙ onward-same n r (step_line s l) (λ u. read_from u (n + 1) ls) (λ u. read_from u (n + 1) ms) e (λ u g. same-wrong k ls ms u (n + 1) r g (omega arith) p.1)
same-wrong (suc k) (unclosed l ∷ ls) (m ∷ ms) s n r e h t = ap (λ x. read_from s n (x ∷ ms)) (heads k (unclosed l) m ls ms t).0 ∙ e

-- at every stage some lines complete the text
abbrev from_names : Section → List (List ℕ)
from_names Trace = names_of Trace ∷ []
from_names Counters = names_of Counters ∷ [] ∷ names_of Trace ∷ []
from_names Entries = names_of Entries ∷ [] ∷ names_of Counters ∷ [] ∷ names_of Trace ∷ []
from_names Pages = names_of Pages ∷ [] ∷ names_of Entries ∷ [] ∷ names_of Counters ∷ [] ∷ names_of Trace ∷ []
from_names Memory = names_of Memory ∷ codes "F 0" ∷ [] ∷ names_of Pages ∷ [] ∷ names_of Entries ∷ [] ∷ names_of Counters ∷ [] ∷ names_of Trace ∷ []

abbrev from_rows_on : Section → List (List ℕ)
from_rows_on Memory = codes "F 0" ∷ [] ∷ from_names Pages
from_rows_on Pages = [] ∷ from_names Entries
from_rows_on Entries = [] ∷ from_names Counters
from_rows_on Counters = [] ∷ from_names Trace
from_rows_on Trace = []

abbrev finish : Stage → List (List ℕ)
finish (Names s) = from_names s
finish (Rows s) = from_rows_on s
finish (Closed s) = [] ∷ from_names (next_of s)

abbrev Finishes : Stage → Type 0
Finishes stage = AllByRecursion (Free 10) (finish stage) × ((t : Task) (n : ℕ) → is_ok (read_from (at stage t) n (map closed (finish stage))) ≡ true)

finishes : (stage : Stage) → Finishes stage
finishes (Names Trace) = ((refl, tt), λ t n. refl)
finishes (Names Counters) = ((refl, (refl, (refl, tt))), λ t n. refl)
finishes (Names Entries) = ((refl, (refl, (refl, (refl, (refl, tt))))), λ t n. refl)
finishes (Names Pages) = ((refl, (refl, (refl, (refl, (refl, (refl, (refl, tt))))))), λ t n. refl)
finishes (Names Memory) = ((refl, (refl, (refl, (refl, (refl, (refl, (refl, (refl, (refl, (refl, tt)))))))))), λ t n. refl)
finishes (Rows Memory) = ((refl, (refl, (refl, (refl, (refl, (refl, (refl, (refl, (refl, tt))))))))), λ t n. refl)
finishes (Rows Pages) = ((refl, (refl, (refl, (refl, (refl, (refl, tt)))))), λ t n. refl)
finishes (Rows Entries) = ((refl, (refl, (refl, (refl, tt)))), λ t n. refl)
finishes (Rows Counters) = ((refl, (refl, tt)), λ t n. refl)
finishes (Rows Trace) = (tt, λ t n. refl)
finishes (Closed Memory) = ((refl, (refl, (refl, (refl, (refl, (refl, (refl, (refl, tt)))))))), λ t n. refl)
finishes (Closed Pages) = ((refl, (refl, (refl, (refl, (refl, (refl, tt)))))), λ t n. refl)
finishes (Closed Entries) = ((refl, (refl, (refl, (refl, tt)))), λ t n. refl)
finishes (Closed Counters) = ((refl, (refl, tt)), λ t n. refl)
finishes (Closed Trace) = ((refl, (refl, tt)), λ t n. refl)

-- lines that are accepted, and are the same before the refused line
record Completed (ls : List Line) (s : State) (n : ℕ) (r : Refused) : Type 0 where
  good : List (List ℕ)
  free : AllByRecursion (Free 10) good
  same : take (r.line - n) (map closed good) ≡ take (r.line - n) ls
  right : is_ok (read_from s n (map closed good)) ≡ true

here : (ls : List Line) (s : State) (n : ℕ) (r : Refused) → r.line ≡ n → Completed ls s n r
here ls s n r e =
    let z : r.line - n ≡ 0 = omega arith in
    let f = finishes s.stage in
    record { good = finish s.stage; free = f.0; same = ap (λ k. take k (map closed (finish s.stage))) z ∙ sym (ap (λ k. take k ls) z); right = f.1 s.task n }

one_more : (l : List ℕ) (ls : List Line) (s u : State) (n : ℕ) (r : Refused) → Free 10 l → step_line s l ≡ Ok u → n + 1 ≤ r.line → Completed ls u (n + 1) r → Completed (closed l ∷ ls) s n r
one_more l ls s u n r f e h c =
    let z : r.line - n ≡ suc (r.line - (n + 1)) = omega arith in
    record {
      good = l ∷ c.good;
      free = (f, c.free);
      same = ap (λ k. take k (map closed (l ∷ c.good))) z ∙ ap (λ x. closed l ∷ x) c.same ∙ sym (ap (λ k. take k (closed l ∷ ls)) z);
      right = ap (λ x. is_ok (onward n x (λ t. read_from t (n + 1) (map closed c.good)))) e ∙ c.right;
    }

complete : (ls : List Line) (s : State) (n : ℕ) (r : Refused) → AllByRecursion FreeLine ls → read_from s n ls ≡ Err r → Completed ls s n r
complete [] s n r f e = here [] s n r (ending_line s n r e)
complete (closed l ∷ ls) s n r f e =
    elim (step_line s l) as (λ x. step_line s l ≡ x → onward n x (λ t. read_from t (n + 1) ls) ≡ Err r → Completed (closed l ∷ ls) s n r) [
      | Ok u ↦ λ k h. one_more l ls s u n r f.0 k (told_line ls u (n + 1) r h) (complete ls u (n + 1) r f.1 h)
      | Err g ↦ λ k h. here (closed l ∷ ls) s n r (err_line g n r h)
    ] refl e
complete (unclosed l ∷ ls) s n r f e = here (unclosed l ∷ ls) s n r (err_line BadText n r e)

judged : (text : List ℕ) (r : Refused) → read_of text ≡ Err r → 1 ≤ r.line → judge text ≡ Err r
judged text r e h =
    elim (leb (length text) 32768) as (λ b. cond b (judge text) (Err (refused_at BadText 0)) ≡ Err r → judge text ≡ Err r) [
      | true ↦ λ k. k
      | false ↦ λ k. let l : r.line ≡ 0 = err_line BadText 0 r k in let y : ⊥ = omega arith in absurd y
    ] e

first_wrong : (text : List ℕ) (r : Refused) → judge text ≡ Err r → Completed (lines_of text) start 1 r → FirstWrong text r
first_wrong text r e c =
    let lines : lines_of (ended c.good) ≡ map closed c.good = lines_ended c.good c.free in
    record {
      wrong = λ u k. same-wrong r.line (lines_of text) (lines_of u) start 1 r e (omega arith) k;
      saved = ended c.good;
      same = ap (take (r.line - 1)) lines ∙ c.same;
      right = ap (λ ls. is_ok (read_from start 1 ls)) lines ∙ c.right;
    }

pub earliest : Earliest
earliest text r e h =
    let j = judged text r e h in
    first_wrong text r j (complete (lines_of text) start 1 r (free_lines text) j)

-- a text that is not too long is refused at line 1 or behind it
too_long : (text : List ℕ) → read_of text ≡ Err (refused_at BadText 0) → 32768 < length text
too_long text e =
    elim (leb (length text) 32768) as (λ b. leb (length text) 32768 ≡ b → cond b (judge text) (Err (refused_at BadText 0)) ≡ Err (refused_at BadText 0) → 32768 < length text) [
      | true ↦ λ k h. let l : 1 ≤ 0 = told_line (lines_of text) start 1 (refused_at BadText 0) h in let y : ⊥ = omega arith in absurd y
      | false ↦ λ k h. leb-false (length text) 32768 k
    ] refl e

pub long : Long
long text = (λ h. cond-false (leb (length text) 32768) _ _ (lt-leb (length text) 32768 h), too_long text)
