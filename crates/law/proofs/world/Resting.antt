-- Steps that change no cell and no reference: a thread is told something, or is gathered.
use Rattle.std.proofs.Common.{◌≡◌, ℕ, ◌<◌, ◌≤◌, Bool, true, false, List, [], length, set, refl, sym, ◌∙◌, subst, arith}
use Rattle.std.proofs.Common.{slice_index_or}
use Rattle.std.proofs.lemmas.List.{length-set, set-get_or}
use Rattle.std.proofs.lemmas.Bool.{and_parts, ltb-true, true≢false}
use Rattle.brc_words.specs.declared.limits.TheConstants.{MOST_REGISTRATIONS}
use Rattle.law.specs.declared.world.edition.Edition.TheVariants as editions
use Rattle.law.specs.declared.world.event.Step.TheVariants.{Nudge, Wake, Gather}
use Rattle.law.specs.declared.world.row.Stage.{Stage}
use Rattle.law.specs.declared.world.row.Stage.TheVariants as stages
use Rattle.law.specs.world.Heap.{Heap, row_at, frame_at, popped_at, worklist_at, queue_at, no_row, is_gathered}
use Rattle.law.specs.world.Heap.{words_for}
use Rattle.law.specs.world.Steps.{kept_cells, gathered_in, root_may, notify_words_after, is_left}
use Rattle.law.specs.world.Sound.{IsSound, ThreadFits}
use Rattle.law.proofs.world.Bitwise.{blank_bits}
use Rattle.law.proofs.world.Changes.{read_by}
use Rattle.law.proofs.world.Naming.{free_hand}
use Rattle.law.proofs.world.Queueing.{no_marks}

-- no clause speaks of notify words but for how many there are, and whether a thread is gathered is for its own part
-- alone
pub aside_sound : (h : Heap) (notify_words : List ℕ) (gathered : List Bool) (registrations : ℕ) → IsSound h
    → length notify_words ≡ length h.notify_words → length gathered ≡ length h.gathered
    → ((t : ℕ) → ThreadFits h.edition (words_for (length h.cells)) (row_at h t) (frame_at h t) (popped_at h t)
    (worklist_at h t) (queue_at h t) (slice_index_or gathered t false))
    → h.registrations ≤ registrations → registrations ≤ MOST_REGISTRATIONS
    → (h.edition ≡ editions.One → registrations ≡ h.registrations)
    → IsSound (record h { notify_words = notify_words; gathered = gathered; registrations = registrations })
aside_sound h notify_words gathered registrations sound same_words same_marks threads more few once = record {
  shaped = record {
    options = sound.shaped.options;
    entries = sound.shaped.entries;
    root = sound.shaped.root;
    threads = sound.shaped.threads;
    frames = sound.shaped.frames;
    popped = sound.shaped.popped;
    worklists = sound.shaped.worklists;
    queues = sound.shaped.queues;
    notify_words = same_words ∙ sound.shaped.notify_words;
    gathered = same_marks ∙ sound.shaped.gathered;
    marks = sound.shaped.marks;
    popped_words = sound.shaped.popped_words;
    queue_words = sound.shaped.queue_words;
  };
  counted = sound.counted;
  gripped = sound.gripped;
  most = sound.most;
  least = sound.least;
  hands = λ t d p busy. let fits = sound.hands t d p busy in record { mortal = fits.mortal; fits = fits.fits };
  cells = sound.cells;
  immortals = sound.immortals;
  worklists = sound.worklists;
  threads = threads;
  bits = sound.bits;
  locks = λ t k locked. let old = sound.locks t k locked in
      (old.0, record { thread = old.1.thread; place = old.1.place; names = old.1.names }, old.2);
  mutexes = λ t q some mutex. let old = sound.mutexes t q some mutex in
      (old.0, record { thread = old.1.thread; place = old.1.place; names = old.1.names });
  ledger = sound.ledger;
  past = (omega (arith, sound.past.0, more), few);
  first = λ one. omega (arith, sound.first one, once one);
}

pub told_sound : (h : Heap) (notify_words : List ℕ) → IsSound h → length notify_words ≡ length h.notify_words
    → IsSound (record h { notify_words = notify_words })
told_sound h notify_words sound same = aside_sound h notify_words h.gathered h.registrations sound same refl
    sound.threads (omega arith) sound.past.1 (λ _. refl)

-- a step that takes no word writes back what it read
untaken_sound : (h : Heap) (t : ℕ) (notify_words : List ℕ) → IsSound h → length notify_words ≡ length h.notify_words
    → IsSound (record h {
      rows = set h.rows t (record (row_at h t) { stage = (row_at h t).stage });
      popped = set h.popped t (popped_at h t);
      queues = set h.queues t (queue_at h t);
      notify_words = notify_words;
    })
untaken_sound h t notify_words sound same =
    subst (λ rows. IsSound (record h {
      rows = rows;
      popped = set h.popped t (popped_at h t);
      queues = set h.queues t
          (queue_at h t);
      notify_words = notify_words;
    })) (sym (set-get_or h.rows t no_row))
    (subst (λ popped. IsSound
    (record h { popped = popped; queues = set h.queues t (queue_at h t); notify_words = notify_words }))
    (sym (set-get_or h.popped t []))
    (subst (λ queues. IsSound (record h { queues = queues; notify_words = notify_words }))
    (sym (set-get_or h.queues t []))
    (told_sound h notify_words sound same)))

pub nudge_sound : (h : Heap) (t u k : ℕ) → IsSound h → IsSound (kept_cells h t (Nudge u k))
nudge_sound h t u k sound = untaken_sound h t (notify_words_after t (Nudge u k) h.notify_words) sound
    (length-set h.notify_words u _)

pub wake_sound : (h : Heap) (t : ℕ) → IsSound h → IsSound (kept_cells h t Wake)
wake_sound h t sound = untaken_sound h t (notify_words_after t Wake h.notify_words) sound
    (length-set h.notify_words t 0)

-- ---- gathering

left_stage : (stage : Stage) → is_left stage ≡ true → stage ≡ stages.Left
left_stage stages.Active left = absurd (true≢false (sym left))
left_stage (stages.Closing n) left = absurd (true≢false (sym left))
left_stage stages.Left left = refl
left_stage (stages.Opening n) left = absurd (true≢false (sym left))

pub gathered_sound : (h : Heap) (u : ℕ) → IsSound h → root_may h (Gather u) ≡ true → IsSound (gathered_in h u)
gathered_sound h u sound may =
    let a = and_parts _ _ may in
    let b = and_parts _ _ a.0 in
    let c = and_parts _ _ b.0 in
    let d = and_parts _ _ c.0 in
    let e = and_parts _ _ d.0 in
    let inside : u < length h.rows = ltb-true _ _ (and_parts _ _ e.0).1 in
    let at_gathered : u < length h.gathered = omega (arith, sound.shaped.gathered, inside) in
    let own : (g : Bool) → ThreadFits h.edition (words_for (length h.cells)) (row_at h u) (frame_at h u) (popped_at h u)
    (worklist_at h u) (queue_at h u) g = λ g.
    let old : ThreadFits h.edition (words_for (length h.cells)) (row_at h u) (frame_at h u) (popped_at h u)
    (worklist_at h u) (queue_at h u) (is_gathered h u) = sound.threads u in
    record {
      inactive_hand = old.inactive_hand;
      inactive_frame = old.inactive_frame;
      inactive_lock = old.inactive_lock;
      closing = old.closing;
      closing_work = old.closing_work;
      opening = old.opening;
      opening_rest = old.opening_rest;
      closed = old.closed;
      gathered_left = λ _. left_stage (row_at h u).stage d.1;
      gathered_hand = λ _. free_hand (row_at h u).hand c.1;
      gathered_work = λ _ q. (no_marks (worklist_at h u) a.1 q, blank_bits (popped_at h u) b.1 q);
      locked_hand = old.locked_hand;
      births = old.births;
      places = old.places;
    } in
    aside_sound h h.notify_words (set h.gathered u true) h.registrations sound refl (length-set h.gathered u true)
    (read_by (λ t g. ThreadFits h.edition (words_for (length h.cells)) (row_at h t) (frame_at h t) (popped_at h t)
    (worklist_at h t) (queue_at h t) g) h.gathered u true false at_gathered (own true) (λ t _. sound.threads t))
    (omega arith) sound.past.1 (λ _. refl)
