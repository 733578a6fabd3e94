-- A log with more items after it.
use Rattle.std.specs.Prelude.{◌≡◌, List, ◌++◌}
use Rattle.law.specs.declared.rule.told.LogItem.{LogItem}

-- the second log is the first with some items after it
pub record IsLater (old new : List LogItem) : Type 0 where
  pub items : List LogItem
  pub is : new ≡ items ++ old
