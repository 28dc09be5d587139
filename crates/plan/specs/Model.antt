-- The plan and the draft that the code's tables stand for. Assumes nothing.
use Rattle.std.specs.Prelude.{is_some, map, unwrap_or}
use Rattle.plan.specs.Drafting.{Drafted}
use Rattle.plan.specs.Tables.{Planned}
use Rattle.plan.specs.declared.draft.Draft.{Draft}
use Rattle.plan.specs.declared.tables.Plan.{Plan}

abbrev pub planned : Plan → Planned
planned p = record {
  pages = p.pages;
  lists = map (λ list. list.items) p.lists;
  owners = map (λ owner. unwrap_or owner 0) p.owners;
  stores = p.stores.items;
}

abbrev pub drafted : Draft → Drafted
drafted d = record { plan = planned d.plan; given = map is_some d.plan.owners }
