-- Offer: a thread says of an own object, which it counts, that it will hand it over.
use Rattle.std.proofs.Common.{◌≡◌, ℕ, ◌+◌, ◌*◌, ◌<◌, ◌≤◌, ◌==◌, ◌&&◌, not, true, false, List, length, Option, Some, None}
use Rattle.std.proofs.Common.{refl, sym, ◌∙◌, ap, subst, arith}
use Rattle.std.proofs.lemmas.Bool.{eq-eqb, true≢false}
use Rattle.std.specs.Int.RustNames.{bit_or}
use Rattle.std.specs.Cmp.Derive.{both_true}
use Rattle.atomic_table.specs.Table.{State as Table, Allows}
use Rattle.brc_words.specs.declared.limits.TheConstants.{FIRST_MORTAL}
use Rattle.brc_words.specs.declared.owner.Owner.TheVariants as owners
use Rattle.brc_words.specs.declared.state.State.{State}
use Rattle.brc_words.specs.declared.state.State.TheVariants as states
use Rattle.law.specs.declared.world.cell.Cell.{Cell}
use Rattle.law.specs.declared.world.event.Step.{Step}
use Rattle.law.specs.declared.world.event.Step.TheVariants.{Offer}
use Rattle.law.specs.declared.world.row.Row.{Row}
use Rattle.law.specs.declared.world.row.Hand.{Hand}
use Rattle.law.specs.declared.world.row.Stage.{Stage}
use Rattle.law.specs.declared.world.row.Stage.TheVariants as stages
use Rattle.law.specs.world.Lists.{is_marked}
use Rattle.law.specs.world.Heap.{Heap, cell_at, row_at, worklist_at}
use Rattle.law.specs.world.Sound.{IsSound}
use Rattle.law.specs.world.Steps.{cell_after, is_active, is_merged, is_owned_by, stage_ok, lock_ok, hand_ok}
use Rattle.law.proofs.world.Asking.{mine}
use Rattle.law.proofs.world.Reached.{reached_sound}
use Rattle.law.specs.declared.known.word.Field.TheVariants.{Shared}
use Rattle.law.specs.declared.known.word.Word.TheVariants.{Of}
use Rattle.law.specs.known.Items.{Part, WordShows, shared_word, raised}
use Rattle.law.proofs.known.Owned_Law.{counted_off}
use Rattle.law.specs.declared.rule.contents.Contents.{Contents}
use Rattle.law.specs.declared.rule.told.Moved.TheVariants as moves
use Rattle.law.specs.declared.rule.told.LogItem.{LogItem}
use Rattle.law.specs.declared.rule.told.LogItem.TheVariants.{Stepped}
use Rattle.law.specs.declared.rule.view.View.{View}
use Rattle.law.specs.rule.Layout.{spot}
use Rattle.law.specs.rule.Rule.{with_told, Kept}
use Rattle.law.specs.rule.Seen.{part_seen, own_may}
use Rattle.law.proofs.rule.Knowing.{Known, is_enabled}
use Rattle.law.specs.steps.Owing.{Offers}
use Rattle.law.proofs.steps.Local_Steps.{Counted, counted_there, fits_cell, read_cell}
use Rattle.law.proofs.steps.Numbers.{bits_two}
use Rattle.law.proofs.steps.Plain_Steps.{IsPlain, plain_on, same_owner, stays_on, plain_step}

-- an active thread may do every step that its lock and hand allow
active_stage : (g : Stage) (c : ℕ) → is_active g ≡ true → stage_ok g (Offer c) ≡ true
active_stage stages.Active c active = refl
active_stage (stages.Closing m) c active = absurd (true≢false (sym active))
active_stage stages.Left c active = absurd (true≢false (sym active))
active_stage (stages.Opening m) c active = absurd (true≢false (sym active))

-- the bit of queued is set in the word of an object that isn't merged
offered_word : (x : Cell) (there : ℕ) → is_merged x.state ≡ false → there ≡ shared_word x.count x.state
    → bit_or there 2 ≡ shared_word x.count states.Queued
offered_word x there unmerged is = ap (λ m. bit_or m 2) is ∙ by_state x.state unmerged
  where
    by_state : (state : State) → is_merged state ≡ false
        → bit_or (shared_word x.count state) 2 ≡ shared_word x.count states.Queued
    by_state states.Default off = bits_two (raised x.count) states.Default
    by_state states.Queued off = bits_two (raised x.count) states.Queued
    by_state states.Merged off = absurd (true≢false off)

module _ {B : Type 0} (shows : B → ℕ × Contents) (n limit : ℕ) where
  abbrev Rule : Table (Option B) View → Type 0
  Rule = Kept shows n limit

  offered : (h : Heap) (t : ℕ) (log : List LogItem) (c there : ℕ) → 0 < t → Known n limit h t log → Offers n log c
      → WordShows h (Of Shared c) there → IsPlain n h t (Offer c) (Of Shared c) (bit_or there 2) there
  offered h t log c there some_thread known offers shown =
      let s : Step = Offer c in
      let x : Cell = cell_at h c in
      let sound : IsSound h = reached_sound h known.reached in
      let part : Part = part_seen n log in
      let is : Counted n limit h t log c (Rattle.law.specs.rule.Seen.counts_seen n log c) =
      counted_there n limit h t log c (Rattle.law.specs.rule.Seen.counts_seen n log c) known offers.mortal refl
      offers.some_count in
      let owner : x.owner ≡ owners.Thread t = (mine t (row_at h t).stage x is.his).owner in
      let off : is_marked part.worklist c ≡ false = ap (λ (w : List Rattle.std.proofs.Common.Bool). is_marked w c)
      (sym known.part.work_is)
      ∙ counted_off h t c t sound offers.mortal owner (omega (arith, is.count_is, offers.some_count)) in
      let own : own_may n part s ≡ true = both_true (both_true (both_true
      (active_stage part.row.stage c offers.active)
      (ap (λ l. lock_ok l s) offers.unlocked)) (ap (λ g. hand_ok g s) offers.hand)) (ap not off) in
      plain_on n h t s c (Of Shared c) (bit_or there 2) there (record {
        may = is_enabled n limit h t log s some_thread known own refl refl
            (fits_cell n limit h t log s c known refl is.low (ap (is_owned_by t) owner ∙ eq-eqb t t refl));
        target = refl;
        word = refl;
        shown = offered_word x there ((sound.cells c offers.mortal).owned_unmerged t owner) shown
            ∙ sym (ap (λ (y : Cell). shared_word y.count y.state) (read_cell h t s c is.low));
        told = shown;
        finds_none = refl;
        puts_none = refl;
        takes_none = refl;
        stays = stays_on h t s c is.low refl refl (same_owner x (cell_after t s c x) refl refl);
      })

  pub offers_own : (id : ℕ) (v : View) (slots : List (ℕ × Option B)) (c : ℕ) → v.active ≡ true → 0 < v.thread → c < n
      → Offers n v.log c
      → Allows Rule n id (v, slots) (spot n (Of Shared c)) (λ there. bit_or there 2)
      (λ there me. me ≡ (with_told (Stepped (Offer c) there moves.Nothing) v, slots))
  offers_own id v slots c active some_thread low offers =
      plain_step shows n limit id v slots (Offer c) (Of Shared c) (λ there. bit_or there 2) (λ there. there) active
      some_thread low
      (λ h there known shown small. offered h v.thread v.log c there some_thread known offers shown)
