-- What a plan says of pages, tags, counters and slots. Assumes nothing.
use Rattle.std.specs.Prelude.{◌≡◌, ℕ, ◌+◌, ◌*◌, ◌/◌, ◌%◌, ◌<◌, ◌≤◌, Bool, true, if◌then◌else◌, ◌&&◌, List, [], length, is_some, Some, None, Option, ◌==◌, nat_lt, slice_index, slice_index_or}
use Rattle.arrayvec.specs.ArrayVec.{ArrayVec}
use Rattle.std.specs.List.{All, position}
use Rattle.std.specs.Option.{option_or}
use Rattle.fault.specs.declared.level.Level.{Level}
use Rattle.fault.specs.declared.level.Level.TheVariants.{Nothing, Write}
use Rattle.fault.specs.declared.refusal.Refusal.{Refusal}
use Rattle.plan.specs.Chart.{decision, has_bit}
use Rattle.plan.specs.declared.chart.Question.{Question}
use Rattle.plan.specs.declared.chart.Question.TheVariants.{Door, Elsewhere}
use Rattle.plan.specs.declared.records.Entry.{Entry}
use Rattle.plan.specs.declared.records.Page.{Page}
use Rattle.plan.specs.declared.records.StorePage.{StorePage}

-- a plan: the pages by number, each tag's access list, each counter's owner, and the S pages in the order planned
pub record Planned : Type 0 where
  pub pages : List Page
  pub lists : List (List Entry)
  pub owners : List ℕ
  pub stores : List StorePage

abbrev pub unplanned : Page
unplanned = record { tag = 0; bits = 0 }

abbrev pub first_page : Page
first_page = record { tag = 1; bits = 5 }

abbrev pub for_tag : ℕ → Entry → Bool
for_tag t e = e.tag == t

abbrev pub on_page : ℕ → StorePage → Bool
on_page n s = s.page == n

abbrev pub page_at : Planned → ℕ → Page
page_at p a = slice_index_or p.pages (a / 256) unplanned

abbrev pub tag_at : Planned → ℕ → ℕ
tag_at p a = (page_at p a).tag

-- the level of the entry at a place that a search found
abbrev pub level_found : List Entry → Option ℕ → Level
level_found es None = Nothing
level_found es (Some i) = (slice_index_or es i (record { tag = 0; level = Nothing })).level

-- the level that tag t has for tag u: its own Write, another's by its list, none for tag 0
abbrev pub level_for : Planned → ℕ → ℕ → Level
level_for p t u =
    if u == 0 then Nothing else if t == u then Write else level_found (slice_index_or p.lists t []) (position (for_tag u) (slice_index_or p.lists t []))

abbrev pub owner_of : Planned → ℕ → ℕ
owner_of p k = slice_index p.owners k

-- what entering at an address asks; a door is a multiple of 64
abbrev pub entry_at : Planned → ℕ → Question
entry_at p a = if a % 64 == 0 then Door else Elsewhere

-- what the chart says of a question at an address, at a level
abbrev pub decides : Planned → Question → ℕ → Level → Option Refusal
decides p q a l = decision (page_at p a).bits l q

-- the slot of an address on the S page found at a place: eight to a page, of 32 bytes each
abbrev pub slot_found : ℕ → Option ℕ → Option ℕ
slot_found a None = None
slot_found a (Some i) = Some (8 * i + a % 256 / 32)

-- the first of the eight places that no S page has taken; page 0, which is no S page, marks it
abbrev pub free_place : List StorePage → ℕ → Option ℕ
free_place ss n = if n == 0 && nat_lt (length ss) 8 then Some (length ss) else None

-- the place of the S page n
abbrev pub place_in : List StorePage → ℕ → Option ℕ
place_in ss n = option_or (position (on_page n) ss) (free_place ss n)

abbrev pub slot_at : Planned → ℕ → Option ℕ
slot_at p a = slot_found a (place_in p.stores (a / 256))

-- what every plan keeps: bits and tags in range, a tag on every page with X, page 0, every S page found
abbrev pub ProperPage : Page → Type 0
ProperPage x = (x.bits < 32) × (x.tag < 64) × (has_bit 4 x.bits ≡ true → 0 < x.tag)

abbrev pub Proper : List Page → Type 0
Proper ps = (k : ℕ) → ProperPage (slice_index_or ps k unplanned)

abbrev pub StartsFirst : List Page → Type 0
StartsFirst ps = ((slice_index_or ps 0 unplanned).tag ≡ 1) × ((slice_index_or ps 0 unplanned).bits ≡ 5)

abbrev pub Stored : List Page → List StorePage → Type 0
Stored ps ss = (k : ℕ) → has_bit 16 (slice_index_or ps k unplanned).bits ≡ true → is_some (position (on_page k) ss) ≡ true

-- each list has at most twelve entries
abbrev pub Twelves : List (ArrayVec Entry) → Type 0
Twelves ls = All (λ l. length l.items ≤ 12) ls
