-- A look at the owner word of a cell in the hand: it is a thread's number or 0.
use Rattle.std.proofs.Common.{◌≡◌, ℕ, ◌+◌, ◌<◌, ◌≤◌, true, List, length, get_or, Option, refl, sym, ◌∙◌, ap, arith}
use Rattle.std.proofs.lemmas.Bool.{true≢false}
use Rattle.atomic_table.specs.Table.{State as Table, Allows, keeps}
use Rattle.brc_words.specs.declared.limits.TheConstants.{MOST_THREADS}
use Rattle.brc_words.specs.declared.owner.Owner.{Owner}
use Rattle.brc_words.specs.declared.owner.Owner.TheVariants as owners
use Rattle.brc_words.specs.Owners.{word_of}
use Rattle.law.specs.declared.world.row.Row.{Row}
use Rattle.law.specs.world.Heap.{Heap, cell_at, row_at}
use Rattle.law.specs.world.Holding.{carries, lives}
use Rattle.law.specs.world.Sound.{IsSound}
use Rattle.law.proofs.world.Merging.{carried_held}
use Rattle.law.proofs.world.Naming.{one-true}
use Rattle.law.proofs.world.Reached.{reached_sound}
use Rattle.law.specs.lasting.Ranges.{OwnerFits}
use Rattle.law.proofs.lasting.Lasting.{held_live}
use Rattle.law.proofs.lasting.Ranges_Law.{reached_owners}
use Rattle.law.specs.declared.known.word.Field.TheVariants.{Owner as OwnerWord}
use Rattle.law.specs.declared.known.word.Word.{Word}
use Rattle.law.specs.declared.known.word.Word.TheVariants.{Of}
use Rattle.law.specs.known.Items.{IsWord, WordShows}
use Rattle.law.proofs.known.Free_Law.{live_shown}
use Rattle.law.specs.declared.rule.contents.Contents.{Contents}
use Rattle.law.specs.declared.rule.told.LogItem.{LogItem}
use Rattle.law.specs.declared.rule.told.LogItem.TheVariants.{Loaded}
use Rattle.law.specs.declared.rule.view.View.{View}
use Rattle.law.specs.rule.Layout.{spot}
use Rattle.law.specs.rule.Logs.{world}
use Rattle.law.specs.rule.Rule.{with_told, Kept}
use Rattle.law.specs.rule.Seen.{part_seen}
use Rattle.law.proofs.rule.Knowing.{Known, knows}
use Rattle.law.proofs.rule.Looking.{saw, unmoved}

-- the owner of an object that lives is a thread or nobody
owner_small : (threads : ℕ) (owner : Owner) (number : ℕ) → threads ≤ MOST_THREADS + 1 → OwnerFits threads owner
    → lives owner ≡ true → number ≡ word_of owner → number ≤ MOST_THREADS
owner_small threads owners.Nobody number few fits live is = omega (arith, is)
owner_small threads (owners.Thread q) number few fits live is = omega (arith, is, few, fits.1)
owner_small threads (owners.Claimed q) number few fits live is = absurd (true≢false (sym live))
owner_small threads owners.Free number few fits live is = absurd (true≢false (sym live))

carried_owner : (n limit : ℕ) (h : Heap) (t : ℕ) (log : List LogItem) (c number : ℕ) → Known n limit h t log
    → carries c (part_seen n log).row.hand ≡ true → WordShows h (Of OwnerWord c) number → number ≤ MOST_THREADS
carried_owner n limit h t log c number known carried shown =
    let sound : IsSound h = reached_sound h known.reached in
    let carrying : carries c (row_at h t).hand ≡ true = ap (λ (r : Row). carries c r.hand) known.part.row_is
    ∙ carried in
    let live : lives (cell_at h c).owner ≡ true = held_live h c sound (carried_held h t c (one-true _ carrying)) in
    owner_small (length h.rows) (cell_at h c).owner number sound.shaped.threads (reached_owners h known.reached c) live
    (live_shown (length h.rows) (cell_at h c).owner number live shown)

module _ {B : Type 0} (shows : B → ℕ × Contents) (n limit : ℕ) where
  abbrev Rule : Table (Option B) View → Type 0
  Rule = Kept shows n limit

  -- a load, and what the log says of the number
  looks_and : (id : ℕ) (v : View) (slots : List (ℕ × Option B)) (w : Word) (Says : ℕ → Type 0) → v.active ≡ true
      → 0 < v.thread → IsWord n w
      → ((h : Heap) (there : ℕ) → Known n limit h v.thread v.log → WordShows h w there → Says there)
      → Allows Rule n id (v, slots) (spot n w) (λ number. number)
      (λ number me. (me ≡ (with_told (Loaded w number) v, slots)) × Says number)
  looks_and id v slots w Says active some_thread is says s r deep at small =
      let there : ℕ = get_or s.words (spot n w) 0 in (
        with_told (Loaded w there) v,
        keeps,
        tt,
        unmoved shows n limit s r id v w (Loaded w there) at active is saw,
        (
          refl,
          says (world n limit r.run) there (knows shows n limit s r id v at active some_thread)
              (r.each_word w is),
        ),
      )

  pub looks_owner : (id : ℕ) (v : View) (slots : List (ℕ × Option B)) (c : ℕ) → v.active ≡ true → 0 < v.thread → c < n
      → carries c (part_seen n v.log).row.hand ≡ true
      → Allows Rule n id (v, slots) (spot n (Of OwnerWord c)) (λ number. number)
      (λ number me. (me ≡ (with_told (Loaded (Of OwnerWord c) number) v, slots)) × (number ≤ MOST_THREADS))
  looks_owner id v slots c active some_thread low carried =
      looks_and id v slots (Of OwnerWord c) (λ number. number ≤ MOST_THREADS) active some_thread low
      (λ h there known shown. carried_owner n limit h v.thread v.log c there known carried shown)
