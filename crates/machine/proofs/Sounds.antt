-- What every state keeps is kept by each change that a call makes. Assumes nothing.
use Rattle.std.proofs.Common.{◌≡◌, ℕ, ◌+◌, ◌-◌, ◌/◌, ◌%◌, ◌<◌, ◌≤◌, true, false, cond, ltb, leb, List, [], ◌∷◌, ◌++◌, get_or, take, set, replicate, refl, ap, ◌∙◌, ⊎_elim, arith}
use Rattle.capability.specs.Holdings.{after, empty, fresh, reading_of}
use Rattle.capability.specs.declared.counter.Counter.{Counter}
use Rattle.capability.specs.declared.holding.Event.{Event}
use Rattle.capability.specs.declared.holding.Event.TheVariants.{Returned, Dropped, Took}
use Rattle.capability.specs.declared.holding.Holding.{Holding}
use Rattle.capability.specs.declared.holding.Holding.TheVariants.{Empty, Short, Counted}
use Rattle.machine.specs.Checks.{is_short}
use Rattle.machine.specs.Rules.{called_engine, frame_now, returned_engine}
use Rattle.machine.specs.Sound.{Grounded, Sound, fine, formed, settled}
use Rattle.machine.specs.State.{Core, counted, depth, holding, moved, no_frame, place_of, run, slotted, stacked, started, told}
use Rattle.machine.specs.declared.frame.Frame.{Frame}
use Rattle.plan.proofs.Each.{each_same, each_set}
use Rattle.plan.specs.Chart.{has_bit}
use Rattle.plan.specs.Tables.{Planned, owner_of, page_at}
use Rattle.std.proofs.lemmas.Bool.{and_from, and_parts, leb-true, le-leb, cases_eq}
use Rattle.machine.proofs.Within.{each_map, each_push, each_take, within_push, within_take}

pub took : (h x : Holding) → after h (Took x) ≡ x
took Empty x = refl
took (Short g d) x = refl
took (Counted g k n) x = refl

dropped : (h : Holding) → after h Dropped ≡ Empty
dropped Empty = refl
dropped (Short g d) = refl
dropped (Counted g k n) = refl

-- readings only rise, so what was fine stays so
fine_rise : (ks js : List Counter) → ((k : ℕ) → reading_of ks k ≤ reading_of js k) → (h : Holding) → fine ks h ≡ true → fine js h ≡ true
fine_rise ks js r Empty e = refl
fine_rise ks js r (Short g d) e = e
fine_rise ks js r (Counted g k n) e =
    let p = and_parts (formed g) _ e in
    let q = and_parts (leb n (reading_of ks k)) _ p.1 in
    and_from (formed g) _ p.0 (and_from (leb n (reading_of js k)) _ (le-leb n (reading_of js k) (omega (arith, leb-true n (reading_of ks k) q.0, r k))) q.1)

pub rises : (ks : List Counter) (k : ℕ) (x : Counter) → reading_of ks k ≤ x.reading → (j : ℕ) → reading_of ks j ≤ reading_of (set ks k x) j
rises ks k x l j = each_set (λ i (y : Counter). reading_of ks i ≤ y.reading) fresh ks k x (λ i. omega arith) l j

pub fine-kept : (ks : List Counter) (k : ℕ) (x : Counter) → reading_of ks k ≤ x.reading → (h : Holding) → fine ks h ≡ true → fine (set ks k x) h ≡ true
fine-kept ks k x l h e = fine_rise ks (set ks k x) (rises ks k x l) h e

fine_return : (ks : List Counter) (to : ℕ) (h : Holding) → fine ks h ≡ true → fine ks (after h (Returned to)) ≡ true
fine_return ks to Empty e = refl
fine_return ks to (Short g d) e = elim (ltb to d) as (λ b. fine ks (cond b Empty (Short g d)) ≡ true) [ true ↦ refl | false ↦ e ]
fine_return ks to (Counted g k n) e = e

pub sound_start : (p : Planned) → has_bit 4 (page_at p 0).bits ≡ true → Sound p started
sound_start p e = (
  (refl, omega arith, e),
  (λ k l. absurd (omega arith)),
  each_same (λ (h : Holding). fine (replicate 17 fresh) h ≡ true) empty empty refl refl 8,
  (λ r. refl),
  each_same (λ (h : Holding). fine (replicate 17 fresh) h ≡ true) empty empty refl refl 64,
  each_same (λ (h : Holding). is_short h ≡ false) empty empty refl refl 64,
  λ k. each_same (λ (x : Counter). settled (owner_of p k) x ≡ true) fresh fresh refl refl 17 k,
)

pub same_page : (p : Planned) (a : ℕ) → a % 4 ≡ 0 → (a % 256 ≡ 252 → ⊥) → page_at p (a + 4) ≡ page_at p a
same_page p a m l =
    let e : (a + 4) / 256 ≡ a / 256 = ⊎_elim (λ z. absurd (l z)) (λ z. omega arith) (cases_eq (a % 256) 252) in
    ap (λ (n : ℕ). get_or p.pages n (record { tag = 0; bits = 0 })) e

pub ground_on : (p : Planned) (a : ℕ) → Grounded p a → (a % 256 ≡ 252 → ⊥) → Grounded p (a + 4)
ground_on p a g l =
    let h : a + 4 < 32768 = ⊎_elim (λ z. absurd (l z)) (λ z. omega arith) (cases_eq (a % 256) 252) in
    (omega arith, h, ap (λ x. has_bit 4 x.bits) (same_page p a g.0 l) ∙ g.2)

module _ (p : Planned) (c : Core) (s : Sound p c) where
  pub sound_moved : (to : ℕ) → Grounded p to → Sound p (moved to c)
  sound_moved to g = (g, s.1, s.2, s.3, s.4, s.5, s.6)

  pub sound_told : (r : ℕ) (e : Event) → fine c.counters (after (holding c r) e) ≡ true → Sound p (told r e c)
  sound_told r e f =
      (s.0, s.1, each_set (λ k (h : Holding). fine c.counters h ≡ true) empty c.engine.registers r (after (holding c r) e) s.2 f, s.3, s.4, s.5, s.6)

  pub sound_took : (r : ℕ) (x : Holding) → fine c.counters x ≡ true → Sound p (told r (Took x) c)
  sound_took r x f = sound_told r (Took x) (ap (fine c.counters) (took (holding c r) x) ∙ f)

  pub sound_dropped : (r : ℕ) → Sound p (told r Dropped c)
  sound_dropped r = sound_told r Dropped (ap (fine c.counters) (dropped (holding c r)))

  pub sound_called : (to : ℕ) → Grounded p to → (place_of c % 256 ≡ 252 → ⊥) → Sound p (run (called_engine to c.engine) c)
  sound_called to g l =
      (g, within_push (λ (f : Frame). Grounded p f.place) no_frame c.engine.frames (frame_now c.engine) s.1 (ground_on p (place_of c) s.0 l), s.2, s.3, s.4, s.5, s.6)

  pub sound_returned : 0 < depth c → Sound p (run (returned_engine c.engine) c)
  sound_returned l = (
    s.1 (depth c - 1) (omega arith),
    within_take (λ (f : Frame). Grounded p f.place) no_frame (depth c - 1) c.engine.frames s.1,
    each_map (λ (h : Holding). fine c.counters h ≡ true) empty (λ h. after h (Returned (depth c - 1))) (fine_return c.counters (depth c - 1)) refl c.engine.registers s.2,
    each_take (λ (h : Holding). fine c.counters h ≡ true) empty c.engine.floor c.engine.stack refl s.3,
    s.4,
    s.5,
    s.6,
  )

  pub sound_pushed : (h : Holding) → fine c.counters h ≡ true → Sound p (stacked (c.engine.stack ++ h ∷ []) c)
  sound_pushed h f = (s.0, s.1, s.2, each_push (λ (x : Holding). fine c.counters x ≡ true) empty c.engine.stack h s.3 f, s.4, s.5, s.6)

  pub sound_popped : (n : ℕ) → Sound p (stacked (take n c.engine.stack) c)
  sound_popped n = (s.0, s.1, s.2, each_take (λ (x : Holding). fine c.counters x ≡ true) empty n c.engine.stack refl s.3, s.4, s.5, s.6)

  pub sound_slotted : (i : ℕ) (h : Holding) → fine c.counters h ≡ true → is_short h ≡ false → Sound p (slotted i h c)
  sound_slotted i h f e = (
    s.0,
    s.1,
    s.2,
    s.3,
    each_set (λ k (x : Holding). fine c.counters x ≡ true) empty c.slots i h s.4 f,
    each_set (λ k (x : Holding). is_short x ≡ false) empty c.slots i h s.5 e,
    s.6,
  )

  pub sound_counted : (k : ℕ) (x : Counter) → reading_of c.counters k ≤ x.reading → settled (owner_of p k) x ≡ true → Sound p (counted k x c)
  sound_counted k x l e =
      let r = rises c.counters k x l in (
        s.0,
        s.1,
        (λ j. fine_rise c.counters (set c.counters k x) r (get_or c.engine.registers j empty) (s.2 j)),
        (λ j. fine_rise c.counters (set c.counters k x) r (get_or c.engine.stack j empty) (s.3 j)),
        (λ j. fine_rise c.counters (set c.counters k x) r (get_or c.slots j empty) (s.4 j)),
        s.5,
        each_set (λ i (y : Counter). settled (owner_of p i) y ≡ true) fresh c.counters k x s.6 e,
      )
