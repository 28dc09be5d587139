-- The end of a trace, and memories of zeros. Assumes nothing.
use Rattle.std.proofs.Common.{◌≡◌, ℕ, zero, suc, ◌+◌, ◌*◌, ◌≤◌, List, [], ◌∷◌, ◌++◌, length, take, replicate, OnOk, Result, sym, refl, ap, ◌∙◌, subst, append-nil, arith}
use Rattle.instruction.specs.declared.record.Record.{Record}
use Rattle.machine.specs.State.{State, started}
use Rattle.memory.specs.Meaning.{join_halves}
use Rattle.std.proofs.lemmas.List.{length-replicate, take_all}
use Rattle.text.specs.Sheets.{Task}
use Rattle.transcript.specs.Printed.{rows_from, start_of}

-- with no record left, all is printed
pub rows_none : (s : State) (n : ℕ) (rs : List Record) (out all : List ℕ) → length rs ≡ 0 → out ++ rows_from s n rs ≡ all → out ≡ all
rows_none s n [] out all h e = sym (append-nil out) ∙ e
rows_none s n (r ∷ rs) out all h e = let y : ⊥ = omega arith in absurd y

pub flat_zeros : (n : ℕ) → n ≤ 32768 → take {A = ℕ} 32768 (replicate n 0) ≡ replicate n 0
flat_zeros n h = take_all {A = ℕ} 32768 (replicate n 0) (omega (arith, length-replicate {A = ℕ} n 0))

halves : (m n : ℕ) → n ≤ m → join_halves m (replicate (n + n) 0) ≡ replicate n 0
halves zero zero h = refl
halves zero (suc n) h = absurd (omega arith)
halves (suc m) zero h = refl
halves (suc m) (suc n) h =
    let e : suc n + suc n ≡ suc (suc (n + n)) = omega arith in
    ap (λ k. join_halves (suc m) (replicate k 0)) e ∙ ap (λ ys. 0 ∷ ys) (halves m n (omega arith))

pub nibble_zeros : (n : ℕ) → n ≤ 16384 → join_halves 16384 (replicate (2 * n) 0) ≡ replicate n 0
nibble_zeros n h =
    let e : 2 * n ≡ n + n = omega arith in
    ap (λ k. join_halves 16384 (replicate k 0)) e ∙ halves 16384 n h

-- what is printed of a run over a memory of zeros
pub zeros_run : {E : Type 0} (task : Task) (bytes : List ℕ) (rs : List Record) (r : Result Unit E) (old new : List ℕ) → bytes ≡ replicate task.size 0 → rs ≡ task.records → OnOk r (new ≡ old ++ rows_from (record { plan = task.draft.plan; core = started; bytes = bytes }) 1 rs) → OnOk r (new ≡ old ++ rows_from (start_of task) 1 task.records)
zeros_run task bytes rs r old new e f h =
    subst (λ (ys : List Record). OnOk r (new ≡ old ++ rows_from (start_of task) 1 ys)) f
    (subst (λ (ys : List ℕ). OnOk r (new ≡ old ++ rows_from (record { plan = task.draft.plan; core = started; bytes = ys }) 1 rs)) e h)
