-- What the calls of a draft do: PAGE, ENTRY and COUNTER, with their checks in order. Assumes nothing.
use Rattle.std.specs.Prelude.{ℕ, Bool, true, false, if◌then◌else◌, not, ◌&&◌, List, [], ◌∷◌, ◌++◌, length, replicate, is_some, Some, None, Ok, Err, Option, Result, ◌==◌, nat_le, nat_lt, slice_index_or, slice_set}
use Rattle.std.specs.List.{position}
use Rattle.fault.specs.Faults.{bare_fault}
use Rattle.fault.specs.Levels.{level_named}
use Rattle.fault.specs.declared.level.Level.{Level}
use Rattle.fault.specs.declared.refusal.Refusal.{Refusal}
use Rattle.fault.specs.declared.refusal.Refusal.TheVariants.{DraftNumber, DraftTag, DraftBits, DraftRepeat, DraftFull}
use Rattle.fault.specs.declared.report.Fault.{Fault}
use Rattle.plan.specs.Chart.{has_bit}
use Rattle.plan.specs.Tables.{Planned, first_page, for_tag, unplanned}
use Rattle.plan.specs.declared.records.Entry.{Entry}
use Rattle.plan.specs.declared.records.Page.{Page}
use Rattle.plan.specs.declared.records.StorePage.{StorePage}

-- a plan in the making, and which counters were given an owner
pub record Drafted : Type 0 where
  pub plan : Planned
  pub given : List Bool

-- a new draft: page 0 alone is planned, no tag lists another, the host owns every counter
abbrev pub blank : Drafted
blank = record {
  plan = record { pages = first_page ∷ replicate 127 unplanned; lists = replicate 64 []; owners = replicate 17 0; stores = [] };
  given = replicate 17 false;
}

abbrev pub demand : {X : Type 0} → Bool → Refusal → Result X Refusal → Result X Refusal
demand test refusal rest = if test then rest else Err refusal

abbrev pub between : ℕ → ℕ → ℕ → Bool
between low high n = nat_le low n && nat_le n high

abbrev pub paged : ℕ → Page → List StorePage → Drafted → Drafted
paged n page stores d = record {
  plan = record { pages = slice_set d.plan.pages n page; lists = d.plan.lists; owners = d.plan.owners; stores = stores };
  given = d.given;
}

abbrev pub listed : ℕ → List Entry → Drafted → Drafted
listed t list d = record {
  plan = record { pages = d.plan.pages; lists = slice_set d.plan.lists t list; owners = d.plan.owners; stores = d.plan.stores };
  given = d.given;
}

abbrev pub owned : ℕ → ℕ → Drafted → Drafted
owned k owner d = record {
  plan = record { pages = d.plan.pages; lists = d.plan.lists; owners = slice_set d.plan.owners k owner; stores = d.plan.stores };
  given = slice_set d.given k true;
}

-- an S page goes to the end of the S pages, of which there are at most eight
abbrev pub store_page : Drafted → ℕ → Page → Result Drafted Refusal
store_page d n page = demand (nat_lt (length d.plan.stores) 8) DraftFull (Ok (paged n page (d.plan.stores ++ record { page = n } ∷ []) d))

abbrev pub draft_page : Drafted → ℕ → ℕ → ℕ → Result Drafted Refusal
draft_page d n t b =
    demand (between 1 127 n) DraftNumber
    (demand (between 1 63 t) DraftTag
    (demand (nat_le b 31 && not (has_bit 16 b && has_bit 4 b)) DraftBits
    (demand ((slice_index_or d.plan.pages n unplanned).tag == 0) DraftRepeat
    (if has_bit 16 b then store_page d n (record { tag = t; bits = b }) else Ok (paged n (record { tag = t; bits = b }) d.plan.stores d)))))

-- an entry goes to the end of its list, which has at most twelve
abbrev pub put_entry : Drafted → ℕ → List Entry → Entry → Result Drafted Refusal
put_entry d t list e = demand (nat_lt (length list) 12) DraftFull (Ok (listed t (list ++ e ∷ []) d))

abbrev pub add_entry : Drafted → ℕ → List Entry → ℕ → Level → Result Drafted Refusal
add_entry d t list u level =
    demand (not (is_some (position (for_tag u) list))) DraftRepeat (put_entry d t list (record { tag = u; level = level }))

abbrev pub levelled : Drafted → ℕ → ℕ → Option Level → Result Drafted Refusal
levelled d t u None = Err DraftBits
levelled d t u (Some level) = add_entry d t (slice_index_or d.plan.lists t []) u level

abbrev pub draft_entry : Drafted → ℕ → ℕ → ℕ → Result Drafted Refusal
draft_entry d t u l =
    demand (between 1 63 t && (between 1 63 u && not (t == u))) DraftTag (levelled d t u (level_named l))

abbrev pub draft_counter : Drafted → ℕ → ℕ → Result Drafted Refusal
draft_counter d k owner =
    demand (between 1 16 k) DraftNumber
    (demand (nat_le owner 63) DraftTag
    (demand (not (slice_index_or d.given k false)) DraftRepeat (Ok (owned k owner d))))

-- what a call answers, and the draft that it leaves
abbrev pub draft_answer : Result Drafted Refusal → Result Unit Fault
draft_answer (Ok d) = Ok tt
draft_answer (Err refusal) = Err (bare_fault refusal 0)

abbrev pub draft_after : Drafted → Result Drafted Refusal → Drafted
draft_after d (Ok e) = e
draft_after d (Err refusal) = d
