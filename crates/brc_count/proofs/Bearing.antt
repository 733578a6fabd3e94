-- What becomes of what a thread holds when an object is made.
use Rattle.std.proofs.Common.{true≢false, ◌≡◌, ℕ, ◌+◌, ◌<◌, Bool, true, false, List, [], ◌∷◌, Option, Some, None, refl}
use Rattle.std.proofs.Common.{sym, ◌∙◌, ap, subst, inl, inr}
use Rattle.std.proofs.lemmas.Bool.{cases_eq, eq-eqb}
use Rattle.brc_count.specs.Places.{PlacesSeen, held_at, Updates, cell_held}
use Rattle.atomic_table.specs.Table.{rest}
use Rattle.brc_table.specs.block.declared.payload.Payload.{Payload}
use Rattle.brc_table.specs.block.declared.payload.Payload.TheVariants as payloads
use Rattle.brc_table.specs.block.Payload.{kind_of}
use Rattle.brc_table.specs.law.rule.Logs.{kind_in}
use Rattle.brc_table.specs.Shown.{contents_of}
use Rattle.brc_table.specs.law.declared.world.event.Dropped.TheVariants as drops
use Rattle.brc_table.specs.law.declared.world.row.Hand.TheVariants as hands
use Rattle.brc_table.specs.law.declared.world.row.Phase.TheVariants as phases
use Rattle.brc_table.specs.law.world.Lists.{names, place_at, filled}
use Rattle.brc_table.proofs.law.world.Framing.{place_at-filled_here, place_at-filled_else}
use Rattle.brc_table.specs.law.known.Items.{Part, put}
use Rattle.brc_table.specs.law.known.Going_On.{filling, bearing, handing}
use Rattle.brc_table.specs.law.known.Taken.{Blocks, listed_at}
use Rattle.brc_table.specs.law.declared.rule.told.LogItem.{LogItem}
use Rattle.brc_table.specs.law.rule.Seen.{part_seen, risen_seen, taken_seen}
use Rattle.brc_table.specs.Knowing.{known_seen, KeepsNotes}
use Rattle.brc_table.specs.Seated.{TableSeen, SeatSeen}
use Rattle.brc_biased.specs.Up.{KnowsPart}
use Rattle.brc_count.specs.declared.held.PlaceEntry.{PlaceEntry}
use Rattle.brc_count.specs.declared.ledger.Ledger.{Ledger}
use Rattle.brc_count.specs.Frames.{Buried, Holding, locked_place, place_seen}
use Rattle.brc_count.proofs.Buried.{put_else}
use Rattle.brc_count.proofs.Changes.{none_held, nothing_locked, out_unlocked}

-- a payload's kind is that of its contents
pub contents_kind : {A : Type 0} (payload : Payload A) → kind_of payload ≡ kind_in (contents_of payload)
contents_kind (payloads.Int number) = refl
contents_kind (payloads.Text text) = refl
contents_kind (payloads.«List» cells) = refl
contents_kind (payloads.Dict pairs) = refl
contents_kind (payloads.Mailbox letters) = refl
contents_kind payloads.Nothing = refl
contents_kind (payloads.Truth true) = refl
contents_kind (payloads.Truth false) = refl

none_listed : {X : Type 0} {o : Option X} {x : X} → o ≡ None → o ≡ Some x → ⊥
none_listed none some = cc

-- a cell that isn't listed has no entries now; what is listed is as it was
buried_still : {n : ℕ} {marks : List Bool} {has : ℕ → List ℕ} {blocks : Blocks} (c : ℕ) → Buried n marks has blocks
    → listed_at blocks c ≡ None
    → Buried n marks (put c [] has) blocks
buried_still {has = has} {blocks = blocks} c b fresh = record {
  marked = b.marked;
  has_them = λ q es at. put_else c [] has q (λ same. none_listed (ap (listed_at blocks) same ∙ fresh) at)
      ∙ b.has_them q es at;
  inside = b.inside;
  are_cells = b.are_cells;
  apart = b.apart;
  only = b.only;
}

same_held : {a b : PlaceEntry} → Some a ≡ Some b → a ≡ b
same_held same = cc

-- what the log says of the thread's part, after a cell was claimed and an object born in it
pub born_known : (n : ℕ) (before mid log : List LogItem) (k c : ℕ)
    → KnowsPart n mid (handing (hands.Busy phases.Claimed c) (known_seen n before))
    → KnowsPart n log (filling k c (bearing c (known_seen n mid)))
    → part_seen n log ≡ (filling k c (bearing c (known_seen n before))).part
born_known n before mid log k c claimed born = born.part ∙ ap (λ (p : Part). record p {
  row = record p.row { hand = hands.Free; allocs = p.row.allocs + 1 };
  has = put c [] p.has;
  frame = filled p.frame k c;
}) claimed.part

module _ {A : Type 0} {heap : TableSeen} (before mid seat : SeatSeen A) {old places : PlacesSeen}
    {works : List (ℕ × Payload A)} {popped : List ℕ} {ledger : Ledger} where
  placed_born : (k c : ℕ) → Holding A heap before old works popped ledger
      → part_seen heap.cells seat.log ≡ (filling k c (bearing c (known_seen heap.cells before.log))).part
      → Updates old places k (Some (record { cell = c; risen = false })) → (j : ℕ)
      → place_seen heap.cells seat.log j ≡ cell_held (held_at places j)
  placed_born k c keeps part updates j = ap (λ (p : Part). place_at p.frame j) part ∙ elim (cases_eq j k) [
    | inl same ↦ ap (place_at (filled (part_seen heap.cells before.log).frame k c)) same
        ∙ place_at-filled_here (part_seen heap.cells before.log).frame k c
        ∙ sym (ap cell_held (ap (held_at places) same ∙ updates.changed))
    | inr other ↦ place_at-filled_else (part_seen heap.cells before.log).frame k c j other
        ∙ keeps.placed j ∙ sym (ap cell_held (updates.others j other))
  ]

  pub after_birth : (k c : ℕ) → Holding A heap before old works popped ledger
      → KnowsPart heap.cells mid.log (handing (hands.Busy phases.Claimed c) (known_seen heap.cells before.log))
      → KnowsPart heap.cells seat.log (filling k c (bearing c (known_seen heap.cells mid.log)))
      → KeepsNotes heap.cells before.log mid.log
      → ((j q : ℕ) → place_seen heap.cells mid.log j ≡ Some q → risen_seen heap.cells mid.log (drops.Frame j) q ≡ true
      → risen_seen heap.cells seat.log (drops.Frame j) q ≡ true)
      → mid.slots ≡ (c, None) ∷ before.slots → seat.slots ≡ rest mid.slots
      → listed_at (taken_seen heap.cells before.log) c ≡ None → c < heap.cells
      → Updates old places k (Some (record { cell = c; risen = false })) → held_at old k ≡ None
      → locked_place heap.cells before.log ≡ None
      → Holding A heap seat places works popped (record ledger { allocs = ledger.allocs + 1 })
  after_birth k c keeps claimed born first second out home fresh low updates vacant unlocked =
      let part = born_known heap.cells before.log mid.log seat.log k c claimed born in
      let gone : locked_place heap.cells seat.log ≡ None = ap (λ (p : Part). p.row.locked) part ∙ unlocked in
      record {
        hand_is = ap (λ (p : Part). p.row.hand) part;
        placed = placed_born k c keeps part updates;
        risen = λ j held there is. elim (cases_eq j k) [
          | inl same ↦ absurd (true≢false
              (sym is ∙ ap (λ (x : PlaceEntry). x.risen)
              (sym (same_held (sym updates.changed ∙ ap (held_at places) (sym same) ∙ there)))))
          | inr other ↦
              let was_there = keeps.placed j ∙ ap cell_held (sym (updates.others j other) ∙ there) in
              let there_then = ap (λ (p : Part). place_at p.frame j) claimed.part ∙ was_there in
              second j held.cell there_then
              (first.risen (drops.Frame j) held.cell (keeps.risen j held (sym (updates.others j other) ∙ there) is)
              ∙ ap (names held.cell) there_then ∙ eq-eqb held.cell held.cell refl)
        ];
        inside = λ j held there. elim (cases_eq j k) [
          | inl same ↦ subst (λ (x : PlaceEntry). x.cell < heap.cells)
              (same_held (sym updates.changed ∙ ap (held_at places) (sym same) ∙ there)) low
          | inr other ↦ keeps.inside j held (sym (updates.others j other) ∙ there)
        ];
        out = home ∙ ap rest out ∙ keeps.out ∙ out_unlocked heap.cells before.log works unlocked
            ∙ sym (out_unlocked heap.cells seat.log works gone);
        lock_filled = λ j is. absurd (none_held (sym gone ∙ is));
        lock_has = λ d is. absurd (none_held (sym (nothing_locked heap.cells seat.log gone) ∙ is));
        listed = born.blocks ∙ claimed.blocks ∙ keeps.listed;
        buried = rw (part, born.blocks, claimed.blocks) (buried_still c keeps.buried fresh);
        popped_is = keeps.popped_is ∙ sym (ap (λ (p : Part). p.popped) part);
        words = keeps.words;
        bits = keeps.bits;
        allocs = ap (λ m. m + 1) keeps.allocs ∙ sym (ap (λ (p : Part). p.row.allocs) part);
        frees = keeps.frees ∙ sym (ap (λ (p : Part). p.row.frees) part);
      }
