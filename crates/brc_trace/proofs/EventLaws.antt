-- The words of an event are read as that event, and no other words are.
use Rattle.std.proofs.Common.{◌≡◌, ℕ, ◌^◌, ◌<◌, ◌≤◌, ◌==◌, Bool, true, false, if◌then◌else◌, ◌&&◌, List, [], ◌∷◌}
use Rattle.std.proofs.Common.{length, Option, Some, None, refl, ap, subst, ◌∙◌, arith}
use Rattle.std.specs.List.{AllByRecursion}
use Rattle.std.proofs.lemmas.Option.{cond_some}
use Rattle.std.proofs.lemmas.Bool.{and_parts, and_from, eqb-true}
use Rattle.brc_words.specs.declared.kind.Kind.{Kind}
use Rattle.brc_words.specs.Kinds.{is_mortal}
use Rattle.law.specs.declared.world.edition.Edition.{Edition}
use Rattle.law.specs.declared.world.edition.Edition.TheVariants as editions
use Rattle.law.specs.declared.world.event.Event.{Event}
use Rattle.law.specs.declared.world.event.Step.{Step}
use Rattle.law.specs.declared.world.event.Step.TheVariants as steps
use Rattle.law.specs.declared.world.event.Source.{Source}
use Rattle.law.specs.declared.world.event.Change.TheVariants as changes
use Rattle.brc_text.specs.declared.keyword.Keyword.{Keyword}
use Rattle.brc_text.specs.declared.keyword.Keyword.TheVariants as words
use Rattle.brc_text.specs.declared.token.Token.{Token}
use Rattle.brc_text.specs.declared.token.Token.TheVariants as tokens
use Rattle.brc_text.specs.Tokens.{◌>>=◌, IsRead}
use Rattle.brc_text.proofs.KeywordLaws.{same_some}
use Rattle.brc_text.proofs.TokenLaws.{some_bind}
use Rattle.brc_text.proofs.LineLaws.{IsLine}
use Rattle.brc_trace.specs.Operands.{kind_token, source_token, fits_source, is_thread, is_cell, is_place, is_queue_word}
use Rattle.brc_trace.specs.Operands.{number_at, kind_at, source_at, change_at, is_bare, one_of, two_of}
use Rattle.brc_trace.specs.Events.{is_two, event_words, step_words, fits, fits_step, fits_thread, is_root_step}
use Rattle.brc_trace.specs.Events.{birth_at, step_at, made_by, event_at}
use Rattle.brc_trace.proofs.OperandLaws.{Form, Spells, threads, cells, places, queue_words, mortal_kinds, all_sources}
use Rattle.brc_trace.proofs.OperandLaws.{all_drops, all_lasts, bare_spells, one_again, one_takes, two_again, two_takes}
use Rattle.brc_trace.proofs.OperandLaws.{made_spells, change_again, change_takes, change_read}

-- ---- the words of an event spell it

-- the step that was read is made by its thread
made_again : (t : ℕ) (s : Step) → fits_thread t s ≡ true → made_by t s ≡ Some (record { thread = t; step = s })
made_again t s h = rw h refl

birth_again : (edition : Edition) (c j : ℕ) (kind : Kind) → fits_step edition (steps.Birth c kind j) ≡ true
    → birth_at (tokens.Number c ∷ kind_token kind ∷ tokens.Number j ∷ []) ≡ Some (steps.Birth c kind j)
unfolding birth_at
birth_again edition c j kind h =
    let parts = and_parts (is_cell c) (is_mortal kind && is_place j) h in
    let others = and_parts (is_mortal kind) (is_place j) parts.1 in
    rw (cells.again c parts.0, mortal_kinds.again kind others.0, places.again j others.1) refl

step_again : (edition : Edition) (t : ℕ) (s : Step) → fits_step edition s ≡ true
    → event_at edition (tokens.Number t ∷ step_words s) ≡ made_by t s
unfolding is_bare
step_again edition t (steps.Claim c) h = rw (one_again cells c h) refl
step_again edition t (steps.InitLocal c) h = rw (one_again cells c h) refl
step_again edition t (steps.InitShared c) h = rw (one_again cells c h) refl
step_again edition t (steps.Birth c kind j) h = rw (birth_again edition c j kind h) refl
step_again edition t (steps.LocalUp source j) h = rw (two_again all_sources places source j h) refl
step_again edition t (steps.LocalDown dropped) h = rw (one_again all_drops dropped h) refl
step_again edition t (steps.SeeZero c) h = rw (one_again cells c h) refl
step_again edition t (steps.Free c) h = rw (one_again cells c h) refl
step_again edition t (steps.Untie c) h = rw (one_again cells c h) refl
step_again edition t (steps.MergeZero c) h = rw (one_again cells c h) refl
step_again edition t (steps.SharedUp source j) h = rw (two_again all_sources places source j h) refl
step_again edition t (steps.SharedDown dropped) h = rw (one_again all_drops dropped h) refl
step_again edition t (steps.Ask dropped) h = rw (one_again all_drops dropped h) refl
step_again edition t (steps.LastDown dropped) h = rw (one_again all_lasts dropped h) refl
step_again edition t (steps.Enqueue c) h = rw (one_again cells c h) refl
step_again edition t (steps.Drain k) h = rw (one_again queue_words k h) refl
step_again edition t (steps.MergeAdd c) h = rw (one_again cells c h) refl
step_again edition t (steps.Close k) h = rw (one_again queue_words k h) refl
step_again edition t (steps.Nudge q k) h = rw (two_again threads queue_words q k h) refl
step_again edition t steps.Wake h = refl
step_again edition t (steps.Lock k) h = rw (one_again places k h) refl
step_again edition t (steps.Unlock change) h = rw (change_again change h) refl
step_again edition t (steps.Register r) h = rw (one_again threads r h) refl
step_again edition t (steps.Gather r) h = rw (one_again threads r h) refl
step_again edition t (steps.Offer c) h = let both = and_parts (is_two edition) (is_cell c) h in
    rw (both.0, one_again cells c both.1) refl
step_again edition t (steps.Reopen k) h = let both = and_parts (is_two edition) (is_queue_word k) h in
    rw (both.0, one_again queue_words k both.1) refl

pub event_again : (edition : Edition) (e : Event) → fits edition e ≡ true → event_at edition (event_words e) ≡ Some e
event_again edition e h =
    let parts = and_parts (fits_thread e.thread e.step) (fits_step edition e.step) h in
    step_again edition e.thread e.step parts.1 ∙ made_again e.thread e.step parts.0

-- ---- words that spell an event are its words

birth_takes : (edition : Edition) (ops : List Token) (s : Step) → birth_at ops ≡ Some s
    → Spells step_words (fits_step edition) (tokens.Word words.Born ∷ ops) s
unfolding birth_at
birth_takes edition (a ∷ b ∷ d ∷ []) s e =
    let c = some_bind (number_at is_cell a) (λ c. kind_at b >>= λ kind. number_at is_place d >>= λ k. Some
    (steps.Birth c kind k)) s e in
    let kind = some_bind (kind_at b) (λ kind. number_at is_place d >>= λ k. Some (steps.Birth c.0 kind k)) s c.2 in
    let k = some_bind (number_at is_place d) (λ k. Some (steps.Birth c.0 kind.0 k)) s kind.2 in
    let is_c = cells.takes a c.0 c.1 in
    let is_kind = mortal_kinds.takes b kind.0 kind.1 in
    let is_k = places.takes d k.0 k.1 in
    subst (Spells step_words (fits_step edition) (tokens.Word words.Born ∷ a ∷ b ∷ d ∷ [])) (same_some k.2) (record {
      fit = and_from (is_cell c.0) (is_mortal kind.0 && is_place k.0) is_c.0
          (and_from (is_mortal kind.0) (is_place k.0) is_kind.0 is_k.0);
      are = ap (λ (x : Token). tokens.Word words.Born ∷ x ∷ kind_token kind.0 ∷ tokens.Number k.0 ∷ []) is_c.1
          ∙ ap (λ (x : Token). tokens.Word words.Born ∷ a ∷ x ∷ tokens.Number k.0 ∷ []) is_kind.1
          ∙ ap (λ (x : Token). tokens.Word words.Born ∷ a ∷ b ∷ x ∷ []) is_k.1;
    })
birth_takes edition _ s e = absurd cc

-- a step of one operand
one_step : (edition : Edition) {A : Type 0} {write : A → Token} {fits : A → Bool} {read : Token → Option A}
    → Form write fits read → (w : Keyword) (make : A → Step) (ops : List Token) (s : Step)
    → ((x : A) → fits_step edition (make x) ≡ fits x) → ((x : A) → step_words (make x) ≡ tokens.Word w ∷ write x ∷ [])
    → (one_of read ops >>= λ x. Some (make x)) ≡ Some s → Spells step_words (fits_step edition) (tokens.Word w ∷ ops) s
one_step edition form w make ops s same_fits same_words e = made_spells _ _ (one_of _) make step_words
    (fits_step edition) (tokens.Word w ∷ []) ops s (one_takes form ops) same_fits same_words e

-- a step that edition Two alone has
two_step : (edition : Edition) (w : Keyword) (ops : List Token) (s : Step) (read : Option Step)
    → (read ≡ Some s → Spells step_words (fits_step editions.Two) (tokens.Word w ∷ ops) s)
    → (if is_two edition then read else None) ≡ Some s → Spells step_words (fits_step edition) (tokens.Word w ∷ ops) s
two_step editions.One w ops s read takes e = absurd cc
two_step editions.Two w ops s read takes e = takes e

step_takes : (edition : Edition) (w : Keyword) (ops : List Token) (s : Step) → step_at edition w ops ≡ Some s
    → Spells step_words (fits_step edition) (tokens.Word w ∷ ops) s
step_takes edition words.Claim ops s e = one_step edition cells words.Claim steps.Claim ops s (λ c. refl) (λ c. refl) e
step_takes edition words.Local ops s e = one_step edition cells words.Local steps.InitLocal ops s (λ c. refl)
    (λ c. refl) e
step_takes edition words.Shared ops s e = one_step edition cells words.Shared steps.InitShared ops s (λ c. refl)
    (λ c. refl) e
step_takes edition words.Born ops s e = birth_takes edition ops s e
step_takes edition words.Up ops s e = made_spells _ _ (two_of source_at (number_at is_place))
    (λ by. steps.LocalUp by.0 by.1) step_words (fits_step edition) (tokens.Word words.Up ∷ []) ops s
    (two_takes all_sources places ops) (λ by. refl) (λ by. refl) e
step_takes edition words.Down ops s e = one_step edition all_drops words.Down steps.LocalDown ops s (λ d. refl)
    (λ d. refl) e
step_takes edition words.See ops s e = one_step edition cells words.See steps.SeeZero ops s (λ c. refl) (λ c. refl) e
step_takes edition words.Free ops s e = one_step edition cells words.Free steps.Free ops s (λ c. refl) (λ c. refl) e
step_takes edition words.Untie ops s e = one_step edition cells words.Untie steps.Untie ops s (λ c. refl) (λ c. refl) e
step_takes edition words.Zero ops s e = one_step edition cells words.Zero steps.MergeZero ops s (λ c. refl)
    (λ c. refl) e
step_takes edition words.Shup ops s e = made_spells _ _ (two_of source_at (number_at is_place))
    (λ by. steps.SharedUp by.0 by.1) step_words (fits_step edition) (tokens.Word words.Shup ∷ []) ops s
    (two_takes all_sources places ops) (λ by. refl) (λ by. refl) e
step_takes edition words.Shdown ops s e = one_step edition all_drops words.Shdown steps.SharedDown ops s (λ d. refl)
    (λ d. refl) e
step_takes edition words.Ask ops s e = one_step edition all_drops words.Ask steps.Ask ops s (λ d. refl) (λ d. refl) e
step_takes edition words.Last ops s e = one_step edition all_lasts words.Last steps.LastDown ops s (λ d. refl)
    (λ d. refl) e
step_takes edition words.Enq ops s e = one_step edition cells words.Enq steps.Enqueue ops s (λ c. refl) (λ c. refl) e
step_takes edition words.Drain ops s e = one_step edition queue_words words.Drain steps.Drain ops s (λ k. refl)
    (λ k. refl) e
step_takes edition words.Add ops s e = one_step edition cells words.Add steps.MergeAdd ops s (λ c. refl) (λ c. refl) e
step_takes edition words.Close ops s e = one_step edition queue_words words.Close steps.Close ops s (λ k. refl)
    (λ k. refl) e
step_takes edition words.Nudge ops s e = made_spells _ _ (two_of (number_at is_thread) (number_at is_queue_word))
    (λ to. steps.Nudge to.0 to.1) step_words (fits_step edition) (tokens.Word words.Nudge ∷ []) ops s
    (two_takes threads queue_words ops) (λ to. refl) (λ to. refl) e
step_takes edition words.Wake ops s e = bare_spells step_words (fits_step edition) (tokens.Word words.Wake) ops
    steps.Wake s refl refl e
step_takes edition words.Lock ops s e = one_step edition places words.Lock steps.Lock ops s (λ k. refl) (λ k. refl) e
step_takes edition words.Unlock ops s e = made_spells _ _ change_at steps.Unlock step_words (fits_step edition)
    (tokens.Word words.Unlock ∷ []) ops s
    (change_takes ops) (λ change. refl) (λ change. refl) e
step_takes edition words.Register ops s e = one_step edition threads words.Register steps.Register ops s (λ r. refl)
    (λ r. refl) e
step_takes edition words.Gather ops s e = one_step edition threads words.Gather steps.Gather ops s (λ r. refl)
    (λ r. refl) e
step_takes edition words.Offer ops s e =
    two_step edition words.Offer ops s _ (λ read. one_step editions.Two cells words.Offer steps.Offer ops s (λ c. refl)
    (λ c. refl) read) e
step_takes edition words.Open ops s e =
    two_step edition words.Open ops s _ (λ read. one_step editions.Two queue_words words.Open steps.Reopen ops s
    (λ k. refl) (λ k. refl) read) e
step_takes edition _ ops s e = absurd cc

pub event_takes : (edition : Edition) (ts : List Token) (e : Event) → event_at edition ts ≡ Some e
    → Spells event_words (fits edition) ts e
event_takes edition (tokens.Number t ∷ tokens.Word w ∷ ops) e h =
    let s = some_bind (step_at edition w ops) (made_by t) e h in
    let spells = step_takes edition w ops s.0 s.1 in
    let made = cond_some (fits_thread t s.0) (record { thread = t; step = s.0 }) e s.2 in
    subst (Spells event_words (fits edition) (tokens.Number t ∷ tokens.Word w ∷ ops)) made.1 (record {
      fit = and_from (fits_thread t s.0) (fits_step edition s.0) made.0 spells.fit;
      are = ap (λ (l : List Token). tokens.Number t ∷ l) spells.are;
    })
event_takes edition _ e h = absurd cc

-- ---- the words of an event make a line

thread_small : (t : ℕ) (root : Bool) → (if root then t == 0 else is_thread t) ≡ true → t < 2 ^ 64
thread_small t true h = omega (arith, eqb-true t 0 h)
thread_small t false h = threads.small t h

-- one operand is read
one_read : {A : Type 0} {write : A → Token} {fits : A → Bool} {read : Token → Option A} → Form write fits read
    → (w : Keyword) (x : A) → fits x ≡ true
    → AllByRecursion IsRead (tokens.Word w ∷ write x ∷ [])
one_read form w x h = (tt, (form.small x h, tt))

source_read : (w : Keyword) (source : Source) (j : ℕ) → (fits_source source && is_place j) ≡ true
    → AllByRecursion IsRead (tokens.Word w ∷ source_token source ∷ tokens.Number j ∷ [])
source_read w source j h = let parts = and_parts (fits_source source) (is_place j) h in
    (tt, (all_sources.small source parts.0, (places.small j parts.1, tt)))

step_read : (edition : Edition) (s : Step) → fits_step edition s ≡ true → AllByRecursion IsRead (step_words s)
step_read edition (steps.Claim c) h = one_read cells words.Claim c h
step_read edition (steps.InitLocal c) h = one_read cells words.Local c h
step_read edition (steps.InitShared c) h = one_read cells words.Shared c h
step_read edition (steps.Birth c kind j) h =
    let parts = and_parts (is_cell c) (is_mortal kind && is_place j) h in
    let others = and_parts (is_mortal kind) (is_place j) parts.1 in
    (tt, (cells.small c parts.0, (tt, (places.small j others.1, tt))))
step_read edition (steps.LocalUp source j) h = source_read words.Up source j h
step_read edition (steps.LocalDown dropped) h = one_read all_drops words.Down dropped h
step_read edition (steps.SeeZero c) h = one_read cells words.See c h
step_read edition (steps.Free c) h = one_read cells words.Free c h
step_read edition (steps.Untie c) h = one_read cells words.Untie c h
step_read edition (steps.MergeZero c) h = one_read cells words.Zero c h
step_read edition (steps.SharedUp source j) h = source_read words.Shup source j h
step_read edition (steps.SharedDown dropped) h = one_read all_drops words.Shdown dropped h
step_read edition (steps.Ask dropped) h = one_read all_drops words.Ask dropped h
step_read edition (steps.LastDown dropped) h = one_read all_lasts words.Last dropped h
step_read edition (steps.Enqueue c) h = one_read cells words.Enq c h
step_read edition (steps.Drain k) h = one_read queue_words words.Drain k h
step_read edition (steps.MergeAdd c) h = one_read cells words.Add c h
step_read edition (steps.Close k) h = one_read queue_words words.Close k h
step_read edition (steps.Nudge q k) h = let parts = and_parts (is_thread q) (is_queue_word k) h in
    (tt, (threads.small q parts.0, (queue_words.small k parts.1, tt)))
step_read edition steps.Wake h = (tt, tt)
step_read edition (steps.Lock k) h = one_read places words.Lock k h
step_read edition (steps.Unlock change) h = (tt, change_read change h)
step_read edition (steps.Register r) h = one_read threads words.Register r h
step_read edition (steps.Gather r) h = one_read threads words.Gather r h
step_read edition (steps.Offer c) h = one_read cells words.Offer c (and_parts (is_two edition) (is_cell c) h).1
step_read edition (steps.Reopen k) h = one_read queue_words words.Open k
    (and_parts (is_two edition) (is_queue_word k) h).1

-- an event has 2 to 5 words
step_length : (s : Step) → length (step_words s) ≤ 4
step_length (steps.Unlock changes.Keep) = omega arith
step_length (steps.Unlock (changes.Put j)) = omega arith
step_length (steps.Unlock (changes.Take i j)) = omega arith
step_length (steps.Unlock (changes.Swap i j)) = omega arith
step_length _ = omega arith

pub event_line : (edition : Edition) (e : Event) → fits edition e ≡ true → IsLine 8 (event_words e)
event_line edition e h =
    let parts = and_parts (fits_thread e.thread e.step) (fits_step edition e.step) h in
    record {
      read = (thread_small e.thread (is_root_step e.step) parts.0, step_read edition e.step parts.1);
      some = omega arith;
      fit = omega (arith, step_length e.step);
    }
