-- The words of each event, which are the grammar of a line, and the event that words spell.
use Rattle.std.specs.Prelude.{ℕ, Bool, true, false, List, [], ◌∷◌, Option, Some, None, ◌==◌, ◌&&◌, if◌then◌else◌}
use Rattle.brc_words.specs.Kinds.{is_mortal}
use Rattle.law.specs.declared.world.edition.Edition.{Edition}
use Rattle.law.specs.declared.world.edition.Edition.TheVariants as editions
use Rattle.law.specs.declared.world.event.Event.{Event}
use Rattle.law.specs.declared.world.event.Step.{Step}
use Rattle.law.specs.declared.world.event.Step.TheVariants as steps
use Rattle.brc_text.specs.declared.keyword.Keyword.{Keyword}
use Rattle.brc_text.specs.declared.keyword.Keyword.TheVariants as words
use Rattle.brc_text.specs.declared.token.Token.{Token}
use Rattle.brc_text.specs.declared.token.Token.TheVariants as tokens
use Rattle.brc_text.specs.Tokens.{◌>>=◌}
use Rattle.brc_trace.specs.Operands.{kind_token, source_token, dropped_token, last_token, change_words, is_thread}
use Rattle.brc_trace.specs.Operands.{is_cell, is_place, is_queue_word, fits_source, fits_dropped, fits_last}
use Rattle.brc_trace.specs.Operands.{fits_change, number_at, kind_at, source_at, dropped_at, last_at, change_at}
use Rattle.brc_trace.specs.Operands.{is_bare, one_of, two_of}

-- the edition that has offers, and queue words that are opened again; all other events are in both
abbrev pub is_two : Edition → Bool
is_two editions.One = false
is_two editions.Two = true

-- ---- the words of an event: its thread, the word of its step, and the operands

abbrev pub step_words : Step → List Token
step_words (steps.Claim c) = tokens.Word words.Claim ∷ tokens.Number c ∷ []
step_words (steps.InitLocal c) = tokens.Word words.Local ∷ tokens.Number c ∷ []
step_words (steps.InitShared c) = tokens.Word words.Shared ∷ tokens.Number c ∷ []
step_words (steps.Birth c kind k) = tokens.Word words.Born ∷ tokens.Number c ∷ kind_token kind ∷ tokens.Number k ∷ []
step_words (steps.LocalUp source j) = tokens.Word words.Up ∷ source_token source ∷ tokens.Number j ∷ []
step_words (steps.LocalDown dropped) = tokens.Word words.Down ∷ dropped_token dropped ∷ []
step_words (steps.SeeZero c) = tokens.Word words.See ∷ tokens.Number c ∷ []
step_words (steps.Free c) = tokens.Word words.Free ∷ tokens.Number c ∷ []
step_words (steps.Untie c) = tokens.Word words.Untie ∷ tokens.Number c ∷ []
step_words (steps.MergeZero c) = tokens.Word words.Zero ∷ tokens.Number c ∷ []
step_words (steps.SharedUp source j) = tokens.Word words.Shup ∷ source_token source ∷ tokens.Number j ∷ []
step_words (steps.SharedDown dropped) = tokens.Word words.Shdown ∷ dropped_token dropped ∷ []
step_words (steps.Ask dropped) = tokens.Word words.Ask ∷ dropped_token dropped ∷ []
step_words (steps.LastDown dropped) = tokens.Word words.Last ∷ last_token dropped ∷ []
step_words (steps.Enqueue c) = tokens.Word words.Enq ∷ tokens.Number c ∷ []
step_words (steps.Drain k) = tokens.Word words.Drain ∷ tokens.Number k ∷ []
step_words (steps.MergeAdd c) = tokens.Word words.Add ∷ tokens.Number c ∷ []
step_words (steps.Close k) = tokens.Word words.Close ∷ tokens.Number k ∷ []
step_words (steps.Nudge q k) = tokens.Word words.Nudge ∷ tokens.Number q ∷ tokens.Number k ∷ []
step_words steps.Wake = tokens.Word words.Wake ∷ []
step_words (steps.Lock k) = tokens.Word words.Lock ∷ tokens.Number k ∷ []
step_words (steps.Unlock change) = tokens.Word words.Unlock ∷ change_words change
step_words (steps.Register r) = tokens.Word words.Register ∷ tokens.Number r ∷ []
step_words (steps.Gather r) = tokens.Word words.Gather ∷ tokens.Number r ∷ []
step_words (steps.Offer c) = tokens.Word words.Offer ∷ tokens.Number c ∷ []
step_words (steps.Reopen k) = tokens.Word words.Open ∷ tokens.Number k ∷ []

abbrev pub event_words : Event → List Token
event_words event = tokens.Number event.thread ∷ step_words event.step

-- ---- the events that have a spelling

-- the operands are in their ranges, and the step is one of the edition's
abbrev pub fits_step : Edition → Step → Bool
fits_step edition (steps.Claim c) = is_cell c
fits_step edition (steps.InitLocal c) = is_cell c
fits_step edition (steps.InitShared c) = is_cell c
fits_step edition (steps.Birth c kind k) = is_cell c && (is_mortal kind && is_place k)
fits_step edition (steps.LocalUp source j) = fits_source source && is_place j
fits_step edition (steps.LocalDown dropped) = fits_dropped dropped
fits_step edition (steps.SeeZero c) = is_cell c
fits_step edition (steps.Free c) = is_cell c
fits_step edition (steps.Untie c) = is_cell c
fits_step edition (steps.MergeZero c) = is_cell c
fits_step edition (steps.SharedUp source j) = fits_source source && is_place j
fits_step edition (steps.SharedDown dropped) = fits_dropped dropped
fits_step edition (steps.Ask dropped) = fits_dropped dropped
fits_step edition (steps.LastDown dropped) = fits_last dropped
fits_step edition (steps.Enqueue c) = is_cell c
fits_step edition (steps.Drain k) = is_queue_word k
fits_step edition (steps.MergeAdd c) = is_cell c
fits_step edition (steps.Close k) = is_queue_word k
fits_step edition (steps.Nudge q k) = is_thread q && is_queue_word k
fits_step edition steps.Wake = true
fits_step edition (steps.Lock k) = is_place k
fits_step edition (steps.Unlock change) = fits_change change
fits_step edition (steps.Register r) = is_thread r
fits_step edition (steps.Gather r) = is_thread r
fits_step edition (steps.Offer c) = is_two edition && is_cell c
fits_step edition (steps.Reopen k) = is_two edition && is_queue_word k

-- threads are registered and gathered by the root, and make all other steps themselves
abbrev pub is_root_step : Step → Bool
is_root_step (steps.Register r) = true
is_root_step (steps.Gather r) = true
is_root_step _ = false

abbrev pub fits_thread : ℕ → Step → Bool
fits_thread t step = if is_root_step step then t == 0 else is_thread t

abbrev pub fits : Edition → Event → Bool
fits edition event = fits_thread event.thread event.step && fits_step edition event.step

-- ---- the event that words spell

-- a cell, the kind that is born in it, and a place
unfoldable pub birth_at : List Token → Option Step
birth_at (a ∷ b ∷ d ∷ []) = number_at is_cell a >>= λ c. kind_at b >>= λ kind. number_at is_place d >>= λ k. Some
    (steps.Birth c kind k)
birth_at _ = None

-- each step by its word; a word that the edition hasn't spells none
abbrev pub step_at : Edition → Keyword → List Token → Option Step
step_at edition words.Claim operands = one_of (number_at is_cell) operands >>= λ c. Some (steps.Claim c)
step_at edition words.Local operands = one_of (number_at is_cell) operands >>= λ c. Some (steps.InitLocal c)
step_at edition words.Shared operands = one_of (number_at is_cell) operands >>= λ c. Some (steps.InitShared c)
step_at edition words.Born operands = birth_at operands
step_at edition words.Up operands = two_of source_at (number_at is_place) operands >>= λ by. Some
    (steps.LocalUp by.0 by.1)
step_at edition words.Down operands = one_of dropped_at operands >>= λ dropped. Some (steps.LocalDown dropped)
step_at edition words.See operands = one_of (number_at is_cell) operands >>= λ c. Some (steps.SeeZero c)
step_at edition words.Free operands = one_of (number_at is_cell) operands >>= λ c. Some (steps.Free c)
step_at edition words.Untie operands = one_of (number_at is_cell) operands >>= λ c. Some (steps.Untie c)
step_at edition words.Zero operands = one_of (number_at is_cell) operands >>= λ c. Some (steps.MergeZero c)
step_at edition words.Shup operands = two_of source_at (number_at is_place) operands >>= λ by. Some
    (steps.SharedUp by.0 by.1)
step_at edition words.Shdown operands = one_of dropped_at operands >>= λ dropped. Some (steps.SharedDown dropped)
step_at edition words.Ask operands = one_of dropped_at operands >>= λ dropped. Some (steps.Ask dropped)
step_at edition words.Last operands = one_of last_at operands >>= λ dropped. Some (steps.LastDown dropped)
step_at edition words.Enq operands = one_of (number_at is_cell) operands >>= λ c. Some (steps.Enqueue c)
step_at edition words.Drain operands = one_of (number_at is_queue_word) operands >>= λ k. Some (steps.Drain k)
step_at edition words.Add operands = one_of (number_at is_cell) operands >>= λ c. Some (steps.MergeAdd c)
step_at edition words.Close operands = one_of (number_at is_queue_word) operands >>= λ k. Some (steps.Close k)
step_at edition words.Nudge operands = two_of (number_at is_thread) (number_at is_queue_word) operands >>= λ to. Some
    (steps.Nudge to.0 to.1)
step_at edition words.Wake operands = if is_bare operands then Some steps.Wake else None
step_at edition words.Lock operands = one_of (number_at is_place) operands >>= λ k. Some (steps.Lock k)
step_at edition words.Unlock operands = change_at operands >>= λ change. Some (steps.Unlock change)
step_at edition words.Register operands = one_of (number_at is_thread) operands >>= λ r. Some (steps.Register r)
step_at edition words.Gather operands = one_of (number_at is_thread) operands >>= λ r. Some (steps.Gather r)
step_at edition words.Offer operands =
    if is_two edition then (one_of (number_at is_cell) operands >>= λ c. Some (steps.Offer c)) else None
step_at edition words.Open operands = if is_two edition then (one_of (number_at is_queue_word) operands >>= λ k. Some
    (steps.Reopen k)) else None
step_at edition _ operands = None

-- a step by the thread that may make it
abbrev pub made_by : ℕ → Step → Option Event
made_by t step = if fits_thread t step then Some (record { thread = t; step = step }) else None

abbrev pub event_at : Edition → List Token → Option Event
event_at edition (tokens.Number t ∷ tokens.Word word ∷ operands) = step_at edition word operands >>= made_by t
event_at edition _ = None
