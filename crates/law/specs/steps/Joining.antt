-- How the root's seat is split as it registers a thread, and takes a thread's seat in as it gathers it.
use Rattle.std.specs.Prelude.{◌≡◌, ℕ, ◌<◌, ◌≤◌, nat_lt, Bool, true, false, [], ◌∷◌}
use Rattle.brc_words.specs.declared.limits.TheConstants.{MOST_THREADS, MOST_REGISTRATIONS}
use Rattle.law.specs.declared.world.event.Step.TheVariants.{Register, Gather}
use Rattle.law.specs.world.Lists.{is_blank, is_unmarked}
use Rattle.law.specs.world.Steps.{is_left, is_free_hand}
use Rattle.law.specs.known.Start.{runs_in}
use Rattle.law.specs.known.Root.{rows_of, registrations_of, next_number}
use Rattle.law.specs.declared.rule.told.Moved.TheVariants as moves
use Rattle.law.specs.declared.rule.told.LogItem.TheVariants.{Stepped}
use Rattle.law.specs.declared.rule.view.View.{View}
use Rattle.law.specs.rule.Logs.{log_items, begins}
use Rattle.law.specs.rule.Rule.{with_told}
use Rattle.law.specs.rule.Seen.{part_seen}

-- the number that the root registers next, and whether it was used before
abbrev pub next_thread : View → ℕ
next_thread v = next_number runs_in (log_items v.log)

abbrev pub is_again : View → Bool
is_again v = nat_lt (next_thread v) (rows_of (log_items v.log))

-- how many threads were registered
abbrev pub registrations : View → ℕ
registrations v = registrations_of (log_items v.log)

-- the root's view after it
abbrev pub registering : View → View
registering v = with_told (Stepped (Register (next_thread v)) 0 moves.Nothing) v

-- the new thread's
abbrev pub starting : View → View
starting v = record {
  active = true;
  thread = next_thread v;
  log = begins (is_again v) (Stepped (Register (next_thread v)) 0 moves.Nothing);
  gathered = [];
}

-- the root's view with that of a thread that has left
abbrev pub gathering : View → View → View
gathering v w = record (with_told (Stepped (Gather w.thread) 0 moves.Nothing) v) {
  gathered = (w.thread, w.log)
      ∷ v.gathered;
}

-- what is left to the thread's seat
abbrev pub spent : View
spent = record { active = false; thread = 0; log = []; gathered = [] }

-- the root's own, with a thread still to be had
pub record MayRegister (v : View) : Type 0 where
  pub active : v.active ≡ true
  pub root : v.thread ≡ 0
  pub few : next_thread v ≤ MOST_THREADS
  pub more : registrations v < MOST_REGISTRATIONS

-- a thread that has left and holds nothing
pub record HasLeft (n : ℕ) (w : View) : Type 0 where
  pub active : w.active ≡ true
  pub some_thread : 0 < w.thread
  pub left : is_left (part_seen n w.log).row.stage ≡ true
  pub hand : is_free_hand (part_seen n w.log).row.hand ≡ true
  pub popped : is_blank (part_seen n w.log).popped ≡ true
  pub worklist : is_unmarked (part_seen n w.log).worklist ≡ true
