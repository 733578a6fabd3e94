-- By a release, by the turns of the work on dead blocks and by a poll a thread only lets go.
use Rattle.std.proofs.Common.{◌≡◌, ℕ, ◌+◌, ◌*◌, ◌/◌, true, min, ◌∷◌, Option, Some, None, is_some, refl, sym, ◌∙◌}
use Rattle.std.proofs.Common.{ap, subst}
use Rattle.std.proofs.lemmas.Bool.{true≢false}
use Rattle.brc_table.specs.law.declared.world.event.Dropped.TheVariants as drops
use Rattle.brc_table.specs.law.declared.world.event.Step.TheVariants.{Free, Drain, Wake}
use Rattle.brc_table.specs.law.world.Heap.{words_for}
use Rattle.brc_table.specs.law.declared.rule.told.Moved.TheVariants.{Nothing}
use Rattle.brc_table.specs.law.declared.rule.told.LogItem.{LogItem}
use Rattle.brc_table.specs.law.declared.rule.told.LogItem.TheVariants.{Stepped}
use Rattle.brc_table.specs.law.living.Quiet.{is_quiet, Quietly, NoItem, OneMore}
use Rattle.brc_table.specs.law.living.Living.{OwnLog}
use Rattle.brc_table.proofs.law.living.Earlier.{own_before}
use Rattle.brc_table.proofs.law.living.Quiet_Items.{quietly_joined}
use Rattle.brc_table.specs.Seated.{TableSeen}
use Rattle.brc_biased.proofs.Quiet.{released_quietly, settled_quietly}
use Rattle.brc_count.specs.Frames.{FrameSeen, HandleSeen, Owns, place_seen, ReleasedOf, Turned, EntryReleased}
use Rattle.brc_count.specs.Frames.{BlockFreed, Turns}
use Rattle.brc_count.specs.Frames as frames
use Rattle.brc_count.specs.Polling.{Deals, DealsBits, NoBit, NotSet, Dealt, Drains, DrainsEach, NoWord, DrainsNamed}
use Rattle.brc_count.specs.Polling.{NoName, NotNamed, Named, Polled}
use Rattle.brc_count.specs.Polling as polling

module _ {A : Type 0} where
  -- a frame's log goes on quietly
  abbrev pub GoesQuietly : FrameSeen A → FrameSeen A → Type 0
  GoesQuietly old new = Quietly old.seat.log new.seat.log

  joined : (a b c : FrameSeen A) → GoesQuietly a b → GoesQuietly b c → GoesQuietly a c
  joined a b c = quietly_joined a.seat.log b.seat.log c.seat.log

  -- one such item
  one : (x : LogItem) (old new : FrameSeen A) → is_quiet x ≡ true → new.seat.log ≡ x ∷ old.seat.log
      → GoesQuietly old new
  one x old new quiet is = subst (Quietly old.seat.log) (sym is) (OneMore x old.seat.log NoItem quiet)

  pub release_quietly : (old new : FrameSeen A) (k c : ℕ) → ReleasedOf old new k c → GoesQuietly old new
  release_quietly old new k c released = released_quietly old.heap.cells (drops.Frame k) c released.seen released.block
      old.seat.log new.seat.log released.events

  -- whatever cell the handle is to
  pub let_go_quietly : (old new : FrameSeen A) (handle : HandleSeen) → Owns old handle
      → ((c : ℕ) → place_seen old.heap.cells old.seat.log handle.place ≡ Some c → ReleasedOf old new handle.place c)
      → GoesQuietly old new
  let_go_quietly old new handle owns released = by_cell (place_seen old.heap.cells old.seat.log handle.place) refl
      owns.filled
    where
      by_cell : (o : Option ℕ) → place_seen old.heap.cells old.seat.log handle.place ≡ o
          → is_some (place_seen old.heap.cells old.seat.log handle.place) ≡ true → GoesQuietly old new
      by_cell None is filled = absurd (true≢false (sym filled ∙ ap is_some is))
      by_cell (Some c) is filled = release_quietly old new handle.place c (released c is)

  pub turned_quietly : (old new : FrameSeen A) → Turned old new → GoesQuietly old new
  turned_quietly old new (EntryReleased entry mid pops seen block same released works) =
      released_quietly old.heap.cells (drops.Work pops.cell) entry seen block old.seat.log new.seat.log released
  turned_quietly old new (BlockFreed front found same works empty is) =
      one (Stepped (Free front.0) found Nothing) old new refl is

  pub turns_quietly : (old : FrameSeen A) (n : ℕ) (new : FrameSeen A) → Turns old n new → GoesQuietly old new
  turns_quietly old _ _ frames.NoTurn = NoItem
  turns_quietly old _ new (frames.OneMore n mid _ more turned) = joined old mid new (turns_quietly old n mid more)
      (turned_quietly mid new turned)

  -- ---- polls

  deals_quietly : (old new : FrameSeen A) (c : ℕ) → Deals old new c → GoesQuietly old new
  deals_quietly old new c deals = settled_quietly c deals.block old.seat.log new.seat.log deals.events

  bits_quietly : (k bits : ℕ) (old : FrameSeen A) (i : ℕ) (new : FrameSeen A) → DealsBits k bits old i new
      → GoesQuietly old new
  bits_quietly k bits old _ _ NoBit = NoItem
  bits_quietly k bits old _ new (NotSet i _ more off) = bits_quietly k bits old i new more
  bits_quietly k bits old _ new (Dealt i mid _ more on deals) = joined old mid new (bits_quietly k bits old i mid more)
      (deals_quietly mid new (k * 32 + i) deals)

  drains_quietly : (old new : FrameSeen A) (k : ℕ) → Drains old new k → GoesQuietly old new
  drains_quietly old new k drains =
      joined old drains.mid new (one (Stepped (Drain k) drains.bits Nothing) old drains.mid refl drains.drained)
      (bits_quietly k drains.bits drains.mid 32 new drains.dealt)

  each_quietly : (from : ℕ) (old : FrameSeen A) (to : ℕ) (new : FrameSeen A) → DrainsEach from old to new
      → GoesQuietly old new
  each_quietly from old _ _ NoWord = NoItem
  each_quietly from old _ new (polling.OneMore k mid _ more drains) =
      joined old mid new (each_quietly from old k mid more) (drains_quietly mid new k drains)

  named_quietly : (told words : ℕ) (old : FrameSeen A) (i : ℕ) (new : FrameSeen A) → DrainsNamed told words old i new
      → GoesQuietly old new
  named_quietly told words old _ _ NoName = NoItem
  named_quietly told words old _ new (NotNamed i _ more off) = named_quietly told words old i new more
  named_quietly told words old _ new (Named i mid _ more on each) =
      joined old mid new (named_quietly told words old i mid more)
      (each_quietly (i * 32) mid (min words (i * 32 + 32)) new each)

  pub polled_quietly : (old new : FrameSeen A) (told : ℕ) → Polled old new told → GoesQuietly old new
  polled_quietly old new told polled =
      joined old polled.mid new (one (Stepped Wake told Nothing) old polled.mid refl polled.woken)
      (named_quietly told (words_for old.heap.cells) polled.mid ((words_for old.heap.cells + 31) / 32) new
      polled.drains)

  -- ---- own logs

  -- what was an own log once it went on is one
  pub own_earlier : (old new : FrameSeen A) → new.heap ≡ old.heap → GoesQuietly old new
      → OwnLog new.heap.cells new.seat.log → OwnLog old.heap.cells old.seat.log
  own_earlier old new heap quiet own = own_before old.heap.cells old.seat.log new.seat.log quiet
      (subst (λ (h : TableSeen). OwnLog h.cells new.seat.log) heap own)
