-- How long a release is.
use Rattle.std.specs.Prelude.{ℕ, suc, ◌+◌, ◌≤◌, List, [], ◌∷◌}
use Rattle.brc_words.specs.declared.limits.TheConstants.{MOST_EVENTS}
use Rattle.brc_table.specs.law.declared.rule.told.LogItem.{LogItem}
use Rattle.brc_table.specs.law.declared.rule.told.LogItem.TheVariants.{Stepped, Loaded, Lost}

-- how many events are in a log
abbrev pub steps_in : List LogItem → ℕ
steps_in [] = 0
steps_in (Stepped s number moved ∷ log) = suc (steps_in log)
steps_in (Loaded word number ∷ log) = steps_in log
steps_in (Lost word number ∷ log) = steps_in log

-- how many exchanges were lost
abbrev pub losses_in : List LogItem → ℕ
losses_in [] = 0
losses_in (Stepped s number moved ∷ log) = losses_in log
losses_in (Loaded word number ∷ log) = losses_in log
losses_in (Lost word number ∷ log) = suc (losses_in log)

-- at most so many events more, and one lost exchange that the log has
pub record IsBounded (before log : List LogItem) : Type 0 where
  pub steps : steps_in log ≤ steps_in before + MOST_EVENTS
  pub losses : losses_in log ≤ losses_in before + 1
