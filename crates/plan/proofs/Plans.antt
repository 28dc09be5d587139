-- What a plan's tables hold at a place, and what a call of a draft leaves. Assumes nothing.
use Rattle.std.proofs.Common.{◌≡◌, ℕ, zero, suc, ◌<◌, ◌==◌, Bool, not, nat_lt, true, false, List, [], ◌∷◌, ◌++◌, length, get_or, set, replicate, map, is_some, unwrap_or, Some, Ok, Err, Option, Result, sym, subst, refl, ap, ◌∙◌, arith, lit<}
use Rattle.std.proofs.Math.ListN.{get_or-map}
use Rattle.std.proofs.lemmas.Bool.{both_ways, eq-eqb}
use Rattle.std.proofs.lemmas.Grind.{common_steps}
use Rattle.std.proofs.lemmas.List.{get_or-map as read_map, map-set, set-get_or}
use Rattle.std.proofs.lemmas.List.Folds.{position_or_len_push}
use Rattle.std.proofs.lemmas.List.Sums.{prefix_len-le-length}
use Rattle.std.proofs.lemmas.Option.{get_or_from_slice_get}
use Rattle.std.specs.List.{position, slice_get}
use Rattle.arrayvec.specs.ArrayVec.{ArrayVec}
use Rattle.fault.specs.Levels.{level_named}
use Rattle.fault.specs.declared.level.Level.{Level}
use Rattle.fault.specs.declared.refusal.Refusal.{Refusal}
use Rattle.fault.specs.declared.refusal.Refusal.TheVariants.{DraftRepeat, DraftFull}
use Rattle.plan.specs.Drafting.{Drafted, add_entry, blank, draft_after, draft_entry, levelled, listed, owned}
use Rattle.plan.specs.Tables.{Proper, ProperPage, StartsFirst, Stored, first_page, for_tag, on_page, unplanned}
use Rattle.plan.specs.Chart.{has_bit}
use Rattle.plan.proofs.Each.{each_same}
use Rattle.plan.specs.declared.records.Entry.{Entry}
use Rattle.plan.specs.declared.records.Page.{Page}
use Rattle.plan.specs.declared.records.StorePage.{StorePage}

abbrev pub empty : ArrayVec Entry
empty = record { items = [] }

abbrev pub items : ArrayVec Entry → List Entry
items l = l.items

-- a tag's list
pub list_found : (ls : List (ArrayVec Entry)) (t : ℕ) (l : ArrayVec Entry) → slice_get ls t ≡ Some l → get_or (map items ls) t [] ≡ l.items
list_found ls t l e = get_or-map items ls t empty ∙ ap items (get_or_from_slice_get ls t l empty e)

-- the S page that was planned last is found
pub found_last : (n : ℕ) (ss : List StorePage) → is_some (position (on_page n) (ss ++ record { page = n } ∷ [])) ≡ true
found_last n ss =
    let e : (n == n) ≡ true = eq-eqb n n refl in
    let l = prefix_len-le-length (λ s. not (on_page n s)) ss in
    let p = position_or_len_push (on_page n) ss (record { page = n }) in
    grind (arith, common_steps, p)

abbrev page_of : ℕ → ℕ → Page
page_of tag bits = record { tag = tag; bits = bits }

-- a new draft's pages and lists
pub page_blank : (x : Page) → x.tag ≡ 0 → x.bits ≡ 0 → x ≡ unplanned
page_blank x t b = ap (λ (n : ℕ). page_of n x.bits) t ∙ ap (page_of 0) b

blank_proper : ProperPage unplanned
blank_proper = (lit< tt, lit< tt, λ e. absurd (both_ways _ refl e))

pub new_proper : (x : Page) (n : ℕ) → x ≡ unplanned → Proper (first_page ∷ replicate n x)
new_proper x n e zero = (lit< tt, lit< tt, λ e. lit< tt)
new_proper x n e (suc k) = each_same ProperPage unplanned x blank_proper (subst ProperPage (sym e) blank_proper) n k

pub new_stored : (x : Page) (n : ℕ) (ss : List StorePage) → x ≡ unplanned → Stored (first_page ∷ replicate n x) ss
new_stored x n ss e zero h = absurd (both_ways _ refl h)
new_stored x n ss e (suc k) h =
    absurd (each_same (λ (y : Page). has_bit 16 y.bits ≡ true → ⊥) unplanned x (λ g. both_ways _ refl g) (λ g. both_ways _ (ap (λ (y : Page). has_bit 16 y.bits) e) g) n k h)

-- page 0 stays while a later page is planned
pub first_kept : (ps : List Page) (n : ℕ) (x : Page) → 0 < n → StartsFirst ps → StartsFirst (set ps n x)
first_kept [] n x l h = h
first_kept (p ∷ ps) zero x l h = absurd (omega arith)
first_kept (p ∷ ps) (suc n) x l h = h

-- new lists are empty
pub all_empty : (ls : List (ArrayVec Entry)) → ((i : ℕ) → i < length ls → (get_or ls i empty).items ≡ []) → map items ls ≡ replicate (length ls) []
all_empty [] h = refl
all_empty (l ∷ ls) h =
    let e = h 0 (omega arith) in
    let f = all_empty ls (λ i b. h (suc i) (omega arith)) in
    cc

-- an entry's call, once its numbers are found right
pub adding : (d : Drafted) (ls : List (ArrayVec Entry)) (t u l : ℕ) (level : Level) (x : ArrayVec Entry) → d.plan.lists ≡ map items ls → t < length ls → draft_entry d t u l ≡ levelled d t u (level_named l) → level_named l ≡ Some level → draft_entry d t u l ≡ add_entry d t (get_or ls t x).items u level
adding d ls t u l level x lists within e f =
    e ∙ ap (levelled d t u) f ∙ ap (λ y. add_entry d t (get_or y t []) u level) lists ∙ ap (λ y. add_entry d t y u level) (read_map items ls t x [] within)

module _ (d : Drafted) (t u : ℕ) (level : Level) (list : List Entry) (o : Option ℕ) (searched : o ≡ position (for_tag u) list) where
  pub repeats : is_some o ≡ true → add_entry d t list u level ≡ Err DraftRepeat
  repeats h = rw (← searched, h)

  pub fills : is_some o ≡ false → nat_lt (length list) 12 ≡ false → add_entry d t list u level ≡ Err DraftFull
  fills h f = rw (← searched, h, f)

  pub adds : is_some o ≡ false → nat_lt (length list) 12 ≡ true → add_entry d t list u level ≡ Ok (listed t (list ++ record { tag = u; level = level } ∷ []) d)
  adds h f = rw (← searched, h, f)

abbrev drafting : List Page → List StorePage → List (List Entry) → List ℕ → List Bool → Drafted
drafting pages stores lists owners given = record { plan = record { pages = pages; lists = lists; owners = owners; stores = stores }; given = given }

pub blank_is : (x : Page) (ls : List (List Entry)) (ss : List StorePage) → x ≡ unplanned → ls ≡ replicate 64 [] → ss ≡ [] → drafting (first_page ∷ replicate 127 x) ss ls (replicate 17 0) (replicate 17 false) ≡ blank
blank_is x ls ss e f g =
    ap (λ y. drafting (first_page ∷ replicate 127 y) ss ls (replicate 17 0) (replicate 17 false)) e
    ∙ ap (λ y. drafting (first_page ∷ replicate 127 unplanned) ss y (replicate 17 0) (replicate 17 false)) f
    ∙ ap (λ y. drafting (first_page ∷ replicate 127 unplanned) y (replicate 64 []) (replicate 17 0) (replicate 17 false)) g

-- what a call leaves
pub kept : (d : Drafted) (refusal : Refusal) (r : Result Drafted Refusal) → r ≡ Err refusal → d ≡ draft_after d r
kept d refusal r e = rw e

pub left : (d x : Drafted) (r : Result Drafted Refusal) → r ≡ Ok x → x ≡ draft_after d r
left d x r e = rw e

module _ (pages : List Page) (stores : List StorePage) where
  pub owned_map : (lists : List (List Entry)) (os : List (Option ℕ)) (k n : ℕ) → drafting pages stores lists (map (λ o. unwrap_or o 0) (set os k (Some n))) (map is_some (set os k (Some n))) ≡ owned k n (drafting pages stores lists (map (λ o. unwrap_or o 0) os) (map is_some os))
  owned_map lists os k n =
      let e = map-set (λ (o : Option ℕ). unwrap_or o 0) os k (Some n) in
      let f = map-set (is_some {T = ℕ}) os k (Some n) in
      cc

  pub listed_same : (ls : List (ArrayVec Entry)) (owners : List ℕ) (given : List Bool) (t : ℕ) (l : ArrayVec Entry) → drafting pages stores (map items (set ls t (get_or ls t l))) owners given ≡ drafting pages stores (map items ls) owners given
  listed_same ls owners given t l = ap (λ x. drafting pages stores (map items x) owners given) (set-get_or ls t l)

  pub listed_map : (ls : List (ArrayVec Entry)) (owners : List ℕ) (given : List Bool) (t : ℕ) (l : ArrayVec Entry) → drafting pages stores (map items (set ls t l)) owners given ≡ listed t l.items (drafting pages stores (map items ls) owners given)
  listed_map ls owners given t l = let e = map-set items ls t l in cc
