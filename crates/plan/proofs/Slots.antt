-- Every S page has slots of its own. Assumes nothing.
use Rattle.std.proofs.Common.{◌≡◌, ℕ, ◌+◌, ◌*◌, ◌/◌, ◌%◌, ◌<◌, ◌&&◌, ◌==◌, nat_lt, if◌then◌else◌, Bool, true, false, List, length, get_or, IfSome, is_some, true, Some, None, Option, sym, refl, ap, ◌∙◌, arith}
use Rattle.std.proofs.lemmas.Bool.{and_parts, eqb-true}
use Rattle.std.proofs.lemmas.List.{get_or_past}
use Rattle.std.proofs.lemmas.List.Quantifiers.{position-Some}
use Rattle.std.specs.List.{position}
use Rattle.std.specs.Option.{option_or}
use Rattle.plan.specs.Tables.{Planned, free_place, on_page, place_in, slot_at, slot_found}
use Rattle.plan.specs.declared.records.StorePage.{StorePage}

abbrev none : StorePage
none = record { page = 0 }

-- the place that page 0 marks holds no S page
free_placed : (ss : List StorePage) (n k : ℕ) (b : Bool) → (n == 0 && nat_lt (length ss) 8) ≡ b → (if b then Some (length ss) else None) ≡ Some k → (get_or ss k none).page ≡ n
free_placed ss n k false e f = cc
free_placed ss n k true e f =
    let q : length ss ≡ k = cc in
    let z = eqb-true n 0 (and_parts (n == 0) (nat_lt (length ss) 8) e).0 in
    ap (λ (s : StorePage). s.page) (get_or_past ss k none (omega (arith, q))) ∙ sym z

-- the place of a page holds that page, and none for page 0
placed : (ss : List StorePage) (n k : ℕ) (o : Option ℕ) → position (on_page n) ss ≡ o → option_or o (free_place ss n) ≡ Some k → (get_or ss k none).page ≡ n
placed ss n k None e f = free_placed ss n k (n == 0 && nat_lt (length ss) 8) refl f
placed ss n k (Some j) e f =
    let q : j ≡ k = cc in
    let h = position-Some (on_page n) ss j none e in
    rw q at (eqb-true _ n h.1)

record Slot (p : Planned) (b i : ℕ) : Type 0 where
  place : i ≡ 8 * (i / 8) + b % 256 / 32
  page : (get_or p.stores (i / 8) none).page ≡ b / 256

-- the S page of an address stands where its slot says
slot_place : (p : Planned) (b i : ℕ) (o : Option ℕ) → place_in p.stores (b / 256) ≡ o → slot_found b o ≡ Some i → Slot p b i
slot_place p b i None e f = cc
slot_place p b i (Some k) e f =
    let s : 8 * k + b % 256 / 32 ≡ i = cc in
    let q : k ≡ i / 8 = omega (arith, s) in
    record { place = omega (arith, s); page = rw q at (placed p.stores (b / 256) k (position (on_page (b / 256)) p.stores) refl e) }

slot_low : (a i : ℕ) (o : Option ℕ) → IfSome o (λ k. k < 8) → slot_found a o ≡ Some i → i < 64
slot_low a i None w e = cc
slot_low a i (Some k) w e = let s : 8 * k + a % 256 / 32 ≡ i = cc in omega (arith, s, w)

-- an address on an S page has a slot
slot_some : (a : ℕ) (o q : Option ℕ) → is_some o ≡ true → is_some (slot_found a (option_or o q)) ≡ true
slot_some a None q h = cc
slot_some a (Some i) q h = refl

pub slot_there : (p : Planned) (a : ℕ) → is_some (position (on_page (a / 256)) p.stores) ≡ true → is_some (slot_at p a) ≡ true
slot_there p a h = slot_some a (position (on_page (a / 256)) p.stores) (free_place p.stores (a / 256)) h

-- a slot is one of 64, and two addresses that have it lie in the same 32 bytes
pub own_slot : (p : Planned) (a : ℕ) (o : Option ℕ) → IfSome (place_in p.stores (a / 256)) (λ k. k < 8) → o ≡ slot_at p a → IfSome o (λ i. (i < 64) × ((b : ℕ) → slot_at p b ≡ Some i → b / 32 ≡ a / 32))
own_slot p a None w e = tt
own_slot p a (Some i) w e =
    let x = slot_place p a i (place_in p.stores (a / 256)) refl (sym e) in (
      slot_low a i (place_in p.stores (a / 256)) w (sym e),
      λ b f.
          let y = slot_place p b i (place_in p.stores (b / 256)) refl f in
          let g : a / 256 ≡ b / 256 = sym x.page ∙ y.page in
          omega (arith, x.place, y.place, g),
    )
