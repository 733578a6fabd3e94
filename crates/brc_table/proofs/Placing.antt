-- What a table says of itself, its key and its sizes, is what its rule asks: so a step that the rule allows at the
-- sizes is one that the table allows.
use Rattle.std.proofs.Common.{◌≡◌, ℕ, ◌<◌, ◌≤◌, ◌==◌, ◌/◌, Bool, true, List, Option, sym, subst, arith}
use prog.Atomic.{either}
use Rattle.atomic_table.specs.Seated.{TableId}
use Rattle.atomic_table.specs.Table.{Me, Allows, Splits, Joins}
use Rattle.law.specs.declared.known.word.Word.{Word}
use Rattle.law.specs.declared.known.word.Word.TheVariants.{Queue, NotifyWord, FreeWord}
use Rattle.law.specs.known.Items.{IsWord}
use Rattle.law.specs.world.Heap.{words_for}
use Rattle.law.specs.steps.Owing.{MayNudge}
use Rattle.law.specs.declared.rule.contents.Contents.{Contents}
use Rattle.law.specs.declared.rule.view.View.{View}
use Rattle.law.specs.rule.Layout.{spot, extent}
use Rattle.law.specs.declared.rule.told.LogItem.{LogItem}
use Rattle.law.specs.declared.rule.told.LogItem.TheVariants.{Loaded}
use Rattle.law.specs.rule.Rule.{with_told, Kept}
use Rattle.law.specs.rule.Seen.{part_seen}
use Rattle.law.specs.world.Lists.{is_blank, is_unmarked}
use Rattle.law.specs.world.Steps.{is_left, is_free_hand}
use Rattle.brc_words.specs.declared.limits.TheConstants.{MOST_CELLS, MOST_THREADS, MOST_REGISTRATIONS}
use Rattle.law.specs.steps.Joining.{next_thread, registrations, registering, starting, gathering, spent, HasLeft}
use Rattle.law.proofs.steps.Root_Steps.{splits, joins}
use Rattle.brc_table.specs.declared.rule.Sizes.{Sizes}
use Rattle.brc_table.specs.Machine.{exchanged, MayTell, MayFind, MayExchange}
use Rattle.brc_table.specs.Seated.{TableSeen, Sized}
use Rattle.law.proofs.rule.Spots.{inside}

-- a word's spot is one of the table's
pub spot_inside : (n at wide : ℕ) (w : Word) → IsWord n w → at ≡ spot n w → wide ≡ extent n → at < wide
spot_inside n at wide w is there size = subst (λ (z : ℕ × ℕ). z.0 < z.1) (λ i. (sym there i, sym size i))
    (inside n w is)

module _ {B : Type 0} (shows : B → ℕ × Contents) where
  -- at the sizes of its rule's key and with its slots
  keyed : (n limit cells most slots at id : ℕ) (me : Me (Option B) View) (f : ℕ → ℕ) (told : ℕ → Me (Option B) View
      → Type 0) (w : Word)
      → cells ≡ n → most ≡ limit → slots ≡ n → at ≡ spot n w
      → Allows (Kept shows n limit) n id me (spot n w) f told
      → Allows (Kept shows cells most) slots id me at f told
  keyed n limit cells most slots at id me f told w same_cells same_most same_slots there allowed =
      subst (λ (z : ℕ × (ℕ × (ℕ × ℕ))). Allows (Kept shows z.0 z.1.0) z.1.1.0 id me z.1.1.1 f told)
      (λ i. (sym same_cells i, (sym same_most i, (sym same_slots i, sym there i)))) allowed

  module _ {key : Sizes} {table seat_at : TableId} {n limit at id : ℕ} {seen : TableSeen} where
    -- What an operation on a word asks of the table itself, by what contracts see of it: the seat is the table's, the
    -- spot is one of its words, and its rule allows the step.
    pub step_allowed : (me : Me (Option B) View) (f : ℕ → ℕ) (told : ℕ → Me (Option B) View → Type 0) (w : Word)
        → Sized key table n limit → record { table = table; cells = n; local_limit = limit } ≡ seen → at ≡ spot n w
        → seat_at ≡ seen.table → IsWord seen.cells w → Allows (Kept shows seen.cells seen.local_limit) seen.cells id me
        (spot seen.cells w) f told
        → (seat_at ≡ table) × (at < table.words) × Allows (Kept shows key.cells key.local_limit) table.slots id
        me at f told
    step_allowed me f told w sized is_seen there =
        subst (λ (z : TableSeen). seat_at ≡ z.table → IsWord z.cells w
        → Allows (Kept shows z.cells z.local_limit) z.cells id me (spot z.cells w) f told
        → (seat_at ≡ table) × (at < table.words) × Allows (Kept shows key.cells key.local_limit) table.slots id me at f
        told) is_seen
        (λ same is allowed. (
          same,
          spot_inside n at table.words w is there sized.words,
          keyed n limit key.cells key.local_limit table.slots at id me f told w sized.same_cells sized.same_limit
              sized.slots there allowed,
        ))

    pub step_told : (me : Me (Option B) View) (f : ℕ → ℕ) (item : ℕ → LogItem) (w : Word)
        → Sized key table n limit → record { table = table; cells = n; local_limit = limit } ≡ seen → at ≡ spot n w
        → seat_at ≡ seen.table → IsWord seen.cells w → MayTell shows seen.cells seen.local_limit id me w f item
        → (seat_at ≡ table) × (at < table.words) × Allows (Kept shows key.cells key.local_limit) table.slots id me at f
        (λ there after. after ≡ (with_told (item there) me.0, me.1))
    step_told me f item w = step_allowed me f (λ there after. after ≡ (with_told (item there) me.0, me.1)) w

    pub step_exchanged : (me : Me (Option B) View) (noted : Word) (old new : ℕ) (won : LogItem) (w : Word)
        → Sized key table n limit → record { table = table; cells = n; local_limit = limit } ≡ seen → at ≡ spot n w
        → seat_at ≡ seen.table → IsWord seen.cells w
        → MayExchange shows seen.cells seen.local_limit id me w noted old new won
        → (seat_at ≡ table) × (at < table.words)
        × Allows (Kept shows key.cells key.local_limit) table.slots id me at (λ there. either (there == old) new there)
        (λ there after. after ≡ (exchanged noted old won there me.0, me.1))
    step_exchanged me noted old new won w = step_allowed me (λ there. either (there == old) new there)
        (λ there after. after ≡ (exchanged noted old won there me.0, me.1)) w

    pub step_found : (me : Me (Option B) View) (noted : Word) (known : Bool) (bound : ℕ) (w : Word)
        → Sized key table n limit → record { table = table; cells = n; local_limit = limit } ≡ seen → at ≡ spot n w
        → seat_at ≡ seen.table → IsWord seen.cells w
        → MayFind shows seen.cells seen.local_limit id me w noted known bound
        → (seat_at ≡ table) × (at < table.words)
        × Allows (Kept shows key.cells key.local_limit) table.slots id me at (λ there. there)
        (λ there after. (after ≡ (with_told (Loaded noted there) me.0, me.1)) × (known ≡ true → there ≤ bound))
    step_found me noted known bound w = step_allowed me (λ there. there)
        (λ there after. (after ≡ (with_told (Loaded noted there) me.0, me.1)) × (known ≡ true → there ≤ bound)) w

  -- a thread's seat is split off, and one that has left is joined
  pub split_allowed : (cells most id : ℕ) (v : View) → v.active ≡ true → v.thread ≡ 0 → next_thread v ≤ MOST_THREADS
      → registrations v < MOST_REGISTRATIONS → Splits (Kept shows cells most) id v (registering v) (starting v)
  split_allowed cells most id v active root few more = splits shows cells most id v
      (record { active = active; root = root; few = few; more = more })

  pub join_allowed : (n cells most id : ℕ) (v : View) (other : ℕ) (w : View) → cells ≡ n → v.active ≡ true
      → v.thread ≡ 0 → HasLeft n w → Joins (Kept shows cells most) id v other w (gathering v w) spent
  join_allowed n cells most id v other w same active root leaves = joins shows cells most id v other w active root
      (subst (λ m. HasLeft m w) (sym same) leaves)

-- the table has some words
pub some_words : (n wide : ℕ) → wide ≡ extent n → 0 < wide
some_words n wide size = omega (arith, size)

-- a view that the seat's thread and log make up
pub leaves_so : (n : ℕ) (v w : View) → w.active ≡ true → w.thread ≡ v.thread → w.log ≡ v.log → HasLeft n v → HasLeft n w
leaves_so n v w active same_thread same_log leaves = record {
  active = active;
  some_thread = subst (λ u. 0 < u) (sym same_thread) leaves.some_thread;
  left = subst (λ l. is_left (part_seen n l).row.stage ≡ true) (sym same_log) leaves.left;
  hand = subst (λ l. is_free_hand (part_seen n l).row.hand ≡ true) (sym same_log) leaves.hand;
  popped = subst (λ l. is_blank (part_seen n l).popped ≡ true) (sym same_log) leaves.popped;
  worklist = subst (λ l. is_unmarked (part_seen n l).worklist ≡ true) (sym same_log) leaves.worklist;
}

-- the queue words of a cell, and of a seat's own thread
pub queue_inside : (n cell owner : ℕ) → cell < n → owner ≤ MOST_THREADS → IsWord n (Queue owner (cell / 32))
queue_inside n cell owner low few = (omega (arith, few), omega (arith, low))

pub own_queue_inside : (n thread word : ℕ) → thread ≤ MOST_THREADS → word < words_for n → IsWord n (Queue thread word)
own_queue_inside n thread word few low = (omega (arith, few), low)

-- who is told has a notify word, and each of its queue words has a bit there
pub told_inside : (n : ℕ) (log : List LogItem) (thread word : ℕ) → MayNudge n log thread word
    → IsWord n (NotifyWord thread)
told_inside n log thread word tells = omega (arith, tells.few)

pub notify_bit : (n : ℕ) (log : List LogItem) (thread word : ℕ) → n ≤ MOST_CELLS → MayNudge n log thread word
    → word / 32 < 64
notify_bit n log thread word few tells = omega (arith, few, tells.word)

-- the free word of a cell
pub free_inside : (n cell : ℕ) → cell < n → IsWord n (FreeWord (cell / 64))
free_inside n cell low = omega (arith, low)
