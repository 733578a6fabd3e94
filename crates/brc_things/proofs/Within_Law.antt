-- What is done within a lock, from what its steps say.
use Rattle.std.proofs.Common.{◌≡◌, ◌<◌, ◌≤◌, ◌+◌, ◌++◌, ◌∷◌, [], ℕ, List, Some, None, true, length, remove, slice_get}
use Rattle.std.proofs.Common.{slice_set, refl, sym, ◌∙◌, ap, subst}
use Rattle.brc_words.specs.declared.entry.Entry.{Entry}
use Rattle.brc_words.specs.declared.note.Note.{Note}
use Rattle.brc_words.specs.Notes.{noted, cells_of}
use Rattle.brc_words.proofs.Cells.{cells_long}
use Rattle.brc_words.specs.declared.fault.Fault.{Fault}
use Rattle.brc_words.specs.declared.kind.Kind.{Kind}
use Rattle.brc_words.specs.declared.kind.Kind.TheVariants as kinds
use Rattle.brc_words.specs.declared.limits.TheConstants.{MOST_ENTRIES}
use Rattle.brc_count.specs.block.declared.payload.Payload.{Payload}
use Rattle.brc_count.specs.block.Payload.{kind_of, noted_of, entries_of}
use Rattle.brc_count.specs.law.declared.world.event.Change.{Change}
use Rattle.brc_count.specs.law.declared.world.event.Change.TheVariants.{Put, Take, Swap}
use Rattle.brc_count.specs.law.declared.world.event.Step.TheVariants.{Unlock}
use Rattle.brc_count.specs.law.declared.rule.contents.Contents.{Contents}
use Rattle.brc_count.specs.law.declared.rule.told.Moved.TheVariants as moves
use Rattle.brc_count.specs.law.declared.rule.told.LogItem.TheVariants.{Stepped}
use Rattle.brc_count.specs.law.rule.Logs.{kind_in, noted_in}
use Rattle.brc_count.specs.law.rule.Seen.{part_seen}
use Rattle.brc_count.specs.table.Shown.{contents_of}
use Rattle.brc_count.specs.Frames.{FrameSeen, HandleSeen, IsAsBefore, popped_seen}
use Rattle.brc_count.specs.Locking.{UnlockedBy, ChangesPlace, cell_in, cell_locked, contents_found}
use Rattle.brc_things.specs.Plain_Lists.{plain_set}
use Rattle.brc_things.specs.Rows.{is_row, plain_put, plain_at, plain_take}
use Rattle.brc_things.specs.Within.{HasLockedList, PutsIn, SwapsIn, TakesOut, RefusesPlace}
use Rattle.brc_things.proofs.Rows_Law.{kind_shown, noted_shown, put_gives, at_gives}

module _ {A : Type 0} where
  -- what was found is of the block's kind, and has its entries
  pub found_kind : {kind : Kind} (found : Contents) (payload : Payload A) → found ≡ contents_of payload
      → kind_of payload ≡ kind → kind_in found ≡ kind
  found_kind found payload is same = ap kind_in is ∙ kind_shown payload ∙ same

  pub found_noted : (found : Contents) (payload : Payload A) → found ≡ contents_of payload
      → noted_in found ≡ noted_of payload
  found_noted found payload is = ap noted_in is ∙ noted_shown payload

  -- an object that is locked hasn't too many entries
  pub few_entries : (frame : FrameSeen A) (block : ℕ × Payload A) → HasLockedList frame block
      → length (entries_of block.1) ≤ MOST_ENTRIES
  few_entries frame block has =
      subst (λ es. length (cells_of es) ≤ MOST_ENTRIES) (found_noted (contents_found frame) block.1 has.found) has.locked.few

  pub puts_in : (old new : FrameSeen A) (kind : Kind) (v value : ℕ) (note : Note) (block : ℕ × Payload A)
      (before : Payload A)
      → is_row kind ≡ true
      → cell_locked old ≡ Some block.0 → contents_found old ≡ contents_of before → cell_in old v ≡ Some value
      → kind_of before ≡ kind → length (entries_of before) < MOST_ENTRIES
      → kind_of block.1 ≡ kind_of before → noted_of block.1 ≡ noted_of before ++ noted value note ∷ []
      → UnlockedBy old new (Put v) block → ChangesPlace old new v None → new.len + 1 ≡ old.len
      → PutsIn old new v (λ c. plain_put kind (noted c note)) tt
  puts_in old new kind v value note block before row locks found of_value is few same_kind more ended places len =
      let entries = found_noted (contents_found old) before found in
      record {
        value = value;
        of_value = of_value;
        put = contents_of block.1;
        plain = put_gives kind row (contents_found old) (contents_of block.1) (noted value note)
            (found_kind (contents_found old) before found is)
            (kind_shown block.1 ∙ same_kind ∙ is)
            (subst (λ es. length es < MOST_ENTRIES) (sym entries) (subst (λ n. n < MOST_ENTRIES)
            (cells_long (noted_of before)) few))
            (noted_shown block.1 ∙ more ∙ ap (λ es. es ++ noted value note ∷ []) (sym entries));
        ends = record { block = block; locks_cell = locks; holds = refl; ended = ended };
        places = places;
        len = len;
      }

  pub swaps_in : (old new : FrameSeen A) (v value : ℕ) (note : Note) (index : ℕ) (entry : Entry)
      (block : ℕ × Payload A) (before : Payload A)
      → cell_locked old ≡ Some block.0 → contents_found old ≡ contents_of before → cell_in old v ≡ Some value
      → kind_of before ≡ kinds.«List» → slice_get (noted_of before) index ≡ Some entry
      → kind_of block.1 ≡ kind_of before → noted_of block.1 ≡ slice_set (noted_of before) index (noted value note)
      → UnlockedBy old new (Swap index v) block → ChangesPlace old new v (Some entry.cell) → new.len ≡ old.len
      → (swaps : SwapsIn old new v (λ c. plain_set index (noted c note)) (λ e. e)) × (swaps.entry ≡ entry)
  swaps_in old new v value note index entry block before locks found of_value is there same_kind set ended places len =
      let entries = found_noted (contents_found old) before found in
      let here = ap (λ es. slice_get es index) entries ∙ there in (
        record {
          value = value;
          of_value = of_value;
          put = contents_of block.1;
          index = index;
          entry = entry;
          at_index = here;
          plain = at_gives kinds.«List» refl (contents_found old) (contents_of block.1) index entry
              (λ es. slice_set es index (noted value note))
              (found_kind (contents_found old) before found is) (kind_shown block.1 ∙ same_kind ∙ is) here
              (noted_shown block.1 ∙ set ∙ ap (λ es. slice_set es index (noted value note)) (sym entries));
          ends = record { block = block; locks_cell = locks; holds = refl; ended = ended };
          places = places;
          len = len;
        },
        refl,
      )

  -- more places that need no memory are no matter
  ended_as : (old ready new : FrameSeen A) (change : Change) (block : ℕ × Payload A) → IsAsBefore old ready
      → UnlockedBy ready new change block → UnlockedBy old new change block
  ended_as old ready new change block same ended = record {
    event = ended.event ∙ ap (λ (f : FrameSeen A). Stepped (Unlock change) 0 (moves.Put block.0 (contents_of block.1))
        ∷ f.seat.log) same;
    unlocked = ended.unlocked;
    keeps = record {
      heap = ended.keeps.heap ∙ ap (λ (f : FrameSeen A). f.heap) same;
      thread = ended.keeps.thread ∙ ap (λ (f : FrameSeen A). f.seat.thread) same;
      stage = ended.keeps.stage ∙ ap (λ (f : FrameSeen A). (part_seen f.heap.cells f.seat.log).row.stage) same;
      popped = ended.keeps.popped ∙ ap (λ (f : FrameSeen A). popped_seen f) same;
      works = ended.keeps.works ∙ ap (λ (f : FrameSeen A). f.works) same;
      from = ended.keeps.from ∙ ap (λ (f : FrameSeen A). f.from) same;
      near = ended.keeps.near ∙ ap (λ (f : FrameSeen A). f.near) same;
    };
  }

  pub takes_out : (old ready new : FrameSeen A) (kind : Kind) (index : ℕ) (entry : Entry) (given : HandleSeen)
      (block : ℕ × Payload A) (before : Payload A)
      → IsAsBefore old ready → is_row kind ≡ true → cell_locked old ≡ Some block.0
      → contents_found old ≡ contents_of before
      → kind_of before ≡ kind → slice_get (noted_of before) index ≡ Some entry
      → kind_of block.1 ≡ kind_of before → noted_of block.1 ≡ remove (noted_of before) index
      → given.heap ≡ ready.heap → given.thread ≡ ready.seat.thread → given.place ≡ ready.next
      → cell_in ready given.place ≡ None
      → UnlockedBy ready new (Take index given.place) block → ChangesPlace ready new given.place (Some entry.cell)
      → new.len ≡ ready.len + 1
      → (takes : TakesOut old new (plain_take kind index) given) × (takes.entry ≡ entry)
  takes_out old ready new kind index entry given block before same row locks found is there same_kind left heap thread
      next vacant ended places len =
      let entries = found_noted (contents_found old) before found in
      let here = ap (λ es. slice_get es index) entries ∙ there in (
        record {
          put = contents_of block.1;
          index = index;
          entry = entry;
          at_index = here;
          plain = at_gives kind row (contents_found old) (contents_of block.1) index entry (λ es. remove es index)
              (found_kind (contents_found old) before found is) (kind_shown block.1 ∙ same_kind ∙ is) here
              (noted_shown block.1 ∙ left ∙ ap (λ es. remove es index) (sym entries));
          ends = record {
            block = block;
            locks_cell = locks;
            holds = refl;
            ended = ended_as old ready new (Take index given.place) block same ended;
          };
          heap = heap ∙ ap (λ (f : FrameSeen A). f.heap) same;
          thread = thread ∙ ap (λ (f : FrameSeen A). f.seat.thread) same;
          next = next ∙ ap (λ (f : FrameSeen A). f.next) same;
          vacant = ap (λ (f : FrameSeen A). cell_in f given.place) (sym same) ∙ vacant;
          places = record {
            has = places.has;
            others = λ j other. places.others j other
                ∙ ap (λ (f : FrameSeen A). cell_in f j) same;
          };
          len = len ∙ ap (λ (f : FrameSeen A). f.len + 1) same;
        },
        refl,
      )

  -- why there is no entry, of what was found
  pub place_found : (frame : FrameSeen A) (kind : Kind) (index : ℕ) (left : List Entry → List Entry) (found : Contents)
      (payload : Payload A) (fault : Fault)
      → found ≡ contents_of payload → RefusesPlace frame (plain_at kind index left (contents_of payload)) fault
      → RefusesPlace frame (plain_at kind index left found) fault
  place_found frame kind index left found payload fault is why =
      subst (λ p. RefusesPlace frame (plain_at kind index left p) fault) (sym is) why
