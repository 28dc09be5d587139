-- Two lists end to end, cut at n. Assumes nothing.
use Rattle.std.proofs.Common.{◌≡◌, ℕ, ◌+◌, ◌-◌, ◌<◌, ◌≤◌, min, List, ◌++◌, length, take, Ok, Result, sym, ap, ◌∙◌, arith, length-append, length-take, get_or-take}
use Rattle.std.proofs.Math.Seq.{take-set-lt}
use Rattle.std.proofs.lemmas.Bool.{cond_below}
use Rattle.std.proofs.lemmas.List.{get_or_append_left, get_or-append_right, set-append_left, set-append_right}
use Rattle.memory.specs.Meaning.{checked, read_of, write_of, wrote}
use Rattle.fault.specs.declared.report.Fault.{Fault}

-- what `checked` answers within the list
pub checked_in : {X : Type 0} (xs : List ℕ) (a : ℕ) (x : X) → a < length xs → checked xs a x ≡ Ok x
checked_in xs a x h = sym (cond_below a (length xs) (Ok x) _ h)

module _ (n : ℕ) (xs ys : List ℕ) where
  abbrev pub cut : List ℕ
  cut = take n (xs ++ ys)

  pub cut_length : length cut ≡ min n (length xs + length ys)
  cut_length = length-take n (xs ++ ys) ∙ ap (min n) (length-append xs ys)

  pub read_low : (a : ℕ) → a < length cut → a < length xs → read_of xs a ≡ read_of cut a
  read_low a h l =
      let w : a < n = omega (arith, cut_length) in
      let e = get_or-take n (xs ++ ys) a 0 w ∙ get_or_append_left xs ys 0 a l in
      checked_in xs a _ l ∙ ap Ok (sym e) ∙ sym (checked_in cut a _ h)

  pub read_high : (a m : ℕ) → m ≡ length xs → a < length cut → m ≤ a → read_of ys (a - m) ≡ read_of cut a
  read_high a m q h l =
      let w : a < n = omega (arith, cut_length) in
      let e = get_or-take n (xs ++ ys) a 0 w ∙ get_or-append_right xs ys m a 0 (sym q) l in
      checked_in ys (a - m) _ (omega (arith, cut_length)) ∙ ap Ok (sym e) ∙ sym (checked_in cut a _ h)

  pub write_low : (a v : ℕ) (r : Result Unit Fault) (zs : List ℕ) → a < length cut → a < length xs → r ≡ write_of xs a → zs ≡ wrote r xs a v → (r ≡ write_of cut a) × (take n (zs ++ ys) ≡ wrote r cut a v)
  write_low a v r zs h l e f =
      let o = e ∙ checked_in xs a tt l in
      let s = f ∙ ap (λ q. wrote q xs a v) o in
      let t = ap (take n) (sym (set-append_left xs ys a v l)) ∙ take-set-lt n (xs ++ ys) a v (omega (arith, cut_length)) in
      (o ∙ sym (checked_in cut a tt h), ap (λ q. take n (q ++ ys)) s ∙ t ∙ sym (ap (λ q. wrote q cut a v) o))

  pub write_high : (a v m : ℕ) (r : Result Unit Fault) (zs : List ℕ) → m ≡ length xs → a < length cut → m ≤ a → r ≡ write_of ys (a - m) → zs ≡ wrote r ys (a - m) v → (r ≡ write_of cut a) × (take n (xs ++ zs) ≡ wrote r cut a v)
  write_high a v m r zs q h l e f =
      let o = e ∙ checked_in ys (a - m) tt (omega (arith, cut_length)) in
      let s = f ∙ ap (λ p. wrote p ys (a - m) v) o in
      let t = ap (take n) (sym (set-append_right xs ys m a v (sym q) l)) ∙ take-set-lt n (xs ++ ys) a v (omega (arith, cut_length)) in
      (o ∙ sym (checked_in cut a tt h), ap (λ p. take n (xs ++ p)) s ∙ t ∙ sym (ap (λ p. wrote p cut a v) o))
