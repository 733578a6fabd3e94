-- What a table that keeps its rule shows.
use Rattle.std.proofs.Common.{ℕ, Option, sym, ◌∙◌, ap}
use Rattle.atomic_table.specs.Table.{State}
use Rattle.brc_block.specs.declared.payload.Payload.{Payload}
use Rattle.law.proofs.known.Starting.{run_histories}
use Rattle.law.specs.known.Items.{events_of}
use Rattle.law.proofs.known.Items_Runs.{events_run}
use Rattle.law.specs.declared.rule.view.View.{View}
use Rattle.law.specs.rule.Logs.{items_of}
use Rattle.law.specs.rule.Rule.{Kept}
use Rattle.law.proofs.rule.Knowing.{kept_reached, kept_headline, knows}
use Rattle.law.proofs.rule.Once.{root_once}
use Rattle.law.specs.known.Start.{start_of}
use Rattle.brc_table.specs.Moment.{ShowsOneRun}
use Rattle.brc_table.specs.Shown.{shows}

module _ {A : Type 0} where
  pub shows_one_run : (n limit : ℕ) (s : State (Option (ℕ × Payload A)) View) → Kept shows n limit s
      → ShowsOneRun n limit s
  shows_one_run n limit s kept = record {
    run = kept.run;
    legal = kept.legal;
    reached = kept_reached shows n limit s kept;
    headline = kept_headline shows n limit s kept;
    histories = run_histories n limit (events_of (items_of kept.run)) kept.options
        (events_run (start_of n limit) (items_of kept.run) kept.legal.items);
    words = kept.each_word;
    homes = kept.each_home;
    seats = λ t stood. (kept.seat t, kept.each_thread t stood);
    one_seat = λ i j v w at_i at_j is_v is_w same. sym (kept.each_seat i v at_i is_v).here ∙ ap kept.seat same
        ∙ (kept.each_seat j w at_j is_w).here;
    logs = λ j v at active. (kept.each_seat j v at active).log;
    counts = λ j v at active some_thread c mortal.
        (knows shows n limit s kept j v at active some_thread).counts c mortal;
    ended = λ j v at active root. (kept.each_seat j v at active).lives root;
    root_once = root_once n limit kept.run kept.options kept.legal.items;
    each_once = kept.each_once;
  }
