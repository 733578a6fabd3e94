-- How a script may be run.
use Rattle.std.specs.Prelude.{◌≤◌}
use Rattle.brc_words.specs.declared.limits.TheConstants.{FEWEST_CELLS, MOST_CELLS, MOST_LOCAL}
use Rattle.brc_run.specs.declared.options.RunOptions.{RunOptions}
use Rattle.brc_run.specs.declared.options.TheConstants.{MOST_TURNS}

-- each number is within its limits
pub record AreRunOptions (options : RunOptions) : Type 0 where
  pub enough_cells : FEWEST_CELLS ≤ options.cells
  pub few_cells : options.cells ≤ MOST_CELLS
  pub some_turns : 1 ≤ options.budget
  pub few_turns : options.budget ≤ MOST_TURNS
  pub counts : 1 ≤ options.local_limit
  pub below_immortal : options.local_limit ≤ MOST_LOCAL
