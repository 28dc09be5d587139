-- A word is read as a number just where it is that number in base ten. Assumes nothing.
use Rattle.std.proofs.Common.{◌≡◌, ℕ, zero, suc, ◌+◌, ◌-◌, ◌*◌, ◌^◌, ◌<◌, ◌≤◌, Bool, true, false, cond, ◌&&◌, eqb, ltb, List, [], ◌∷◌, length, get_or, Some, None, decimal, Option, sym, refl, ap, ◌∙◌, arith, rules}
use Rattle.std.proofs.lemmas.Fmt.{decimal_digit, decimal_nonempty, decimal-digits_value, digits_decimal, first_decimal, digits_value-decimal}
use Rattle.std.proofs.lemmas.Str.Parse.{IsNumeralModel, numerals_by_fold}
use Rattle.std.proofs.lemmas.Bool.{and_from, and_parts, cond-false, cond-true, eqb-false, lt-ltb, ltb-true, ne_eqb}
use Rattle.std.proofs.lemmas.Bool.Decides.{nat_tests}
use Rattle.std.specs.Str.{all_ascii_digits}
use Rattle.text.specs.Numbers.{Writes, is_digit, number_of, number_on}
use Rattle.text.proofs.Contrary.{never}

abbrev read_on : ℕ → List ℕ → ℕ
read_on n [] = n
read_on n (c ∷ cs) = read_on (10 * n + (c - 48)) cs

own : IsNumeralModel (λ ds. all_ascii_digits ds ≡ true) (read_on 0)
own = numerals_by_fold _ (search rules) read_on (search rules)

cond_some : (b : Bool) (x y : Option ℕ) (m : ℕ) → x ≡ None → cond b x y ≡ Some m → (b ≡ false) × (y ≡ Some m)
cond_some true x y m e f = never (cc)
cond_some false x y m e f = (refl, f)

cond_none : (b : Bool) (x y : Option ℕ) (m : ℕ) → y ≡ None → cond b x y ≡ Some m → (b ≡ true) × (x ≡ Some m)
cond_none true x y m e f = (refl, f)
cond_none false x y m e f = never (cc)

read_on_le : (n : ℕ) (w : List ℕ) → n ≤ read_on n w
read_on_le n [] = omega arith
read_on_le n (c ∷ cs) = let h : 10 * n + (c - 48) ≤ read_on (10 * n + (c - 48)) cs = read_on_le (10 * n + (c - 48)) cs in omega arith

some_reads : (n : ℕ) (w : List ℕ) (m : ℕ) → n < 4294967296 → number_on n w ≡ Some m → (all_ascii_digits w ≡ true) × (read_on n w ≡ m) × (m < 4294967296)
some_reads n [] m h e = (refl, cc, let k : n ≡ m = cc in omega arith)
some_reads n (c ∷ cs) m h e =
    let p = cond_none (is_digit c && ltb (10 * n + (c - 48)) 4294967296) (number_on (10 * n + (c - 48)) cs) None m refl e in
    let t = and_parts (is_digit c) (ltb (10 * n + (c - 48)) 4294967296) p.0 in
    let r = some_reads (10 * n + (c - 48)) cs m (ltb-true _ _ t.1) p.1 in
    (and_from (is_digit c) (all_ascii_digits cs) t.0 r.0, r.1, r.2)

reads_some : (n : ℕ) (w : List ℕ) → all_ascii_digits w ≡ true → read_on n w < 4294967296 → number_on n w ≡ Some (read_on n w)
reads_some n [] d h = refl
reads_some n (c ∷ cs) d h =
    let t = and_parts (is_digit c) (all_ascii_digits cs) d in
    let l : 10 * n + (c - 48) ≤ read_on (10 * n + (c - 48)) cs = read_on_le (10 * n + (c - 48)) cs in
    let k : 10 * n + (c - 48) < 4294967296 = omega arith in
    cond-true (is_digit c && ltb (10 * n + (c - 48)) 4294967296) _ _ (and_from (is_digit c) _ t.0 (lt-ltb _ _ k)) ∙ reads_some (10 * n + (c - 48)) cs t.1 h

-- what is read as a number is written so
pub number-written : (w : List ℕ) (m : ℕ) → number_of w ≡ Some m → (m < 4294967296) × (w ≡ decimal m)
number-written w m e =
    let p = cond_some (eqb (length w) 0) None _ m refl e in
    let q = cond_some (ltb 1 (length w) && eqb (get_or w 0 0) 48) None _ m refl p.1 in
    let r = some_reads 0 w m (omega arith) q.1 in
    let some : length w ≡ 0 → ⊥ = eqb-false (length w) 0 p.0 in
    let lone : get_or w 0 0 ≡ 48 → length w ≡ 1 = λ z. grind (arith, nat_tests) in
    let small : read_on 0 w < 2 ^ 64 = omega (arith, r.1, r.2) in
    (r.2, sym (decimal-digits_value own w r.0 (omega arith) lone small) ∙ ap decimal r.1)

-- a number has no needless leading zero
plain : (k : ℕ) → k < 2 ^ 64 → (ltb 1 (length (decimal k)) && eqb (get_or (decimal k) 0 0) 48) ≡ false
plain zero g = ap (λ w. ltb 1 (length w) && eqb (get_or w 0 0) 48) (decimal_digit 0 (omega arith))
plain (suc k) g = let f : 48 < get_or (decimal (suc k)) 0 0 = first_decimal (suc k) (omega arith) g in grind (arith, nat_tests)

-- what is written in base ten is read
pub number_decimal : (n : ℕ) → n < 4294967296 → number_of (decimal n) ≡ Some n
number_decimal n h =
    let big : n < 2 ^ 64 = omega arith in
    let some : 0 < length (decimal n) = decimal_nonempty n big in
    let v : read_on 0 (decimal n) ≡ n = digits_value-decimal own n big in
    cond-false (eqb (length (decimal n)) 0) _ _ (ne_eqb _ _ (omega arith))
    ∙ cond-false _ _ _ (plain n big)
    ∙ reads_some 0 (decimal n) (digits_decimal own n big) (omega arith)
    ∙ ap Some v

-- the law of numbers
by : (w : List ℕ) (r : Option ℕ) → number_of w ≡ r → Writes w r
by w None e = λ n h f. let d : number_of (decimal n) ≡ Some n = number_decimal n h in let z : ◌≡◌ {A = ℕ} 0 1 = cc in omega arith
by w (Some m) e = number-written w m e

pub writes : (w : List ℕ) (r : Option ℕ) → r ≡ number_of w → Writes w r
writes w r e = by w r (sym e)
