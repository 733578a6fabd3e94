-- A table as a function of the cell.
use Rattle.std.specs.Prelude.{ℕ, Option, Bool, is_some, nat_eq}
use Rattle.std.specs.HashMap as hash
use Rattle.brc_report.specs.declared.table.Table.{Table}

-- the value of the cell, if it has one
abbrev pub at : {V A : Type 0} → Table V A → ℕ → Option V
at table cell = hash.get nat_eq table.map cell

-- the cell has a value
abbrev pub sees : {V A : Type 0} → Table V A → ℕ → Bool
sees table cell = is_some (at table cell)
