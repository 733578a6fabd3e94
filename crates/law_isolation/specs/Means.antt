-- What a running section's frame and registers mean: each object of its plain meaning that lives has a private cell of
-- its own, in which it lies with cells for objects.
use Rattle.std.specs.Prelude.{◌≡◌, ℕ, ◌+◌, ◌-◌, ℤ, pos, negsuc, Bool, true, false, ◌&&◌, not, List, map, length, Option}
use Rattle.std.specs.Prelude.{Some, None, is_some, slice_get, slice_index_or}
use Rattle.brc_words.specs.declared.entry.Entry.{Entry}
use Rattle.brc_words.specs.Notes.{bare}
use Rattle.brc_words.specs.declared.key.Key.{Key}
use Rattle.brc_count.specs.law.declared.rule.contents.Contents.{Contents}
use Rattle.brc_count.specs.law.declared.rule.contents.Contents.TheVariants as contents
use Rattle.brc_count.specs.law.declared.rule.told.LogItem.{LogItem}
use Rattle.brc_count.specs.table.Shown.{plain_key}
use Rattle.brc_count.specs.Frames.{FrameSeen, HandleSeen, place_seen, ledger_seen}
use Rattle.brc_handles.specs.Handles.{slot}
use Rattle.brc_meaning.specs.declared.reference.Reference.{Reference}
use Rattle.brc_meaning.specs.declared.reference.Reference.TheVariants as references
use Rattle.brc_meaning.specs.declared.object.Object.{Object}
use Rattle.brc_meaning.specs.declared.object.Object.TheVariants as objects
use Rattle.brc_meaning.specs.declared.state.State.{State}
use Rattle.brc_meaning.specs.Objects.{is_small}
use Rattle.brc_meaning.specs.Wholes.{Each}
use Rattle.brc_count.specs.law.payloads.Payloads.{payloads_of}
use Rattle.brc_count.specs.law.living.Living.{is_dead}

-- ---- cells for objects

-- the integers from -5 to 256 are immortals: integer i is cell i + 8
abbrev pub cell_of_small : ℤ → ℕ
cell_of_small (pos n) = n + 8
cell_of_small (negsuc n) = 7 - n

-- the cell of what a reference means, where each object has its own
abbrev pub cell_meant : (ℕ → ℕ) → Reference → ℕ
cell_meant cells (references.Small number) = cell_of_small number
cell_meant cells (references.Object place) = cells place

-- the entry that refers to it: nothing is noted beside what a script puts in
abbrev pub entry_meant : (ℕ → ℕ) → Reference → Entry
entry_meant cells reference = bare (cell_meant cells reference)

-- it means an object of the part, or an integer that is there always
abbrev pub IsMeant : (ℕ → Bool) → Reference → Type 0
IsMeant part (references.Small number) = is_small number ≡ true
IsMeant part (references.Object place) = part place ≡ true

module _ {A : Type 0} where
  -- the object as a block has it
  abbrev pub contents_meant : (ℕ → ℕ) → Object A → Contents
  contents_meant cells (objects.Int number) = contents.Int number
  contents_meant cells (objects.Text bytes) = contents.Text bytes
  contents_meant cells (objects.List entries) = contents.«List» (map (entry_meant cells) entries)
  contents_meant cells (objects.Dict pairs) =
      contents.Dict (map (λ (pair : Key A × Reference). (plain_key pair.0, entry_meant cells pair.1)) pairs)
  contents_meant cells (objects.Mailbox entries) = contents.Mailbox (map (entry_meant cells) entries)

  -- ---- objects

  -- The object lies in its cell, which is private to the log's thread and isn't dead; and what it refers to lives too.
  pub record LivesAt (n : ℕ) (log : List LogItem) (cells : ℕ → ℕ) (part : ℕ → Bool) (made : List (Object A))
      (place : ℕ) : Type 0 where
    pub object : Object A
    pub stands : slice_get made place ≡ Some object
    pub payload : payloads_of n log (cells place) ≡ Some (contents_meant cells object)
    pub alive : is_dead n log (cells place) ≡ false
    pub leads : Each (IsMeant part) object

  -- so of each object of the part, and no two have one cell
  pub record Lives (n : ℕ) (log : List LogItem) (cells : ℕ → ℕ) (part : ℕ → Bool)
      (made : List (Object A)) : Type 0 where
    pub there : (place : ℕ) → part place ≡ true → LivesAt n log cells part made place
    pub apart : (p q : ℕ) → part p ≡ true → part q ≡ true → cells p ≡ cells q → p ≡ q

-- what is left of the part once some objects have ended: those whose cells are still private, and aren't dead
abbrev pub left : ℕ → List LogItem → (ℕ → ℕ) → (ℕ → Bool) → ℕ → Bool
left n log cells part place =
    part place && (is_some (payloads_of n log (cells place)) && not (is_dead n log (cells place)))

-- ---- references

-- the place of the frame has what the reference means, which lives
pub record HasAt (n : ℕ) (log : List LogItem) (cells : ℕ → ℕ) (part : ℕ → Bool) (k : ℕ)
    (reference : Reference) : Type 0 where
  pub cell : place_seen n log k ≡ Some (cell_meant cells reference)
  pub meant : IsMeant part reference

-- a register has a handle to what the plain one refers to; or both are empty
abbrev pub HeldAs : ℕ → List LogItem → (ℕ → ℕ) → (ℕ → Bool) → Option HandleSeen → Option Reference → Type 0
HeldAs n log cells part None None = Unit {0}
HeldAs n log cells part (Some handle) (Some reference) = HasAt n log cells part handle.place reference
HeldAs n log cells part _ _ = ⊥

-- ---- sections

-- how many registers there are
abbrev pub SIXTEEN : ℕ
SIXTEEN = 16

module _ {A : Type 0} where
  -- The frame and the registers show the state, with these cells for objects, of which those of the part live. `base`
  -- is how many objects the thread had made when the section began.
  pub record ShowsState (base : ℕ) (cells : ℕ → ℕ) (part : ℕ → Bool) (frame : FrameSeen A)
      (registers : List (Option HandleSeen)) (s : State A) : Type 0 where
    pub lives : Lives frame.heap.cells frame.seat.log cells part s.objects
    pub held : (r : ℕ) → HeldAs frame.heap.cells frame.seat.log cells part (slot registers r)
        (slice_index_or s.registers r None)
    pub size : length s.registers ≡ SIXTEEN
    pub same_size : length registers ≡ SIXTEEN
    pub made : (ledger_seen frame).allocs ≡ base + length s.objects

  -- they show it with some cells
  pub record Means (base : ℕ) (frame : FrameSeen A) (registers : List (Option HandleSeen)) (s : State A) : Type 0 where
    pub cells : ℕ → ℕ
    pub part : ℕ → Bool
    pub shows : ShowsState base cells part frame registers s

  -- so, and beside the registers one handle more has what the reference means
  pub record MeansBesides (base : ℕ) (frame : FrameSeen A) (registers : List (Option HandleSeen)) (s : State A)
      (loose : HandleSeen) (reference : Reference) : Type 0 where
    pub cells : ℕ → ℕ
    pub part : ℕ → Bool
    pub shows : ShowsState base cells part frame registers s
    pub has : HasAt frame.heap.cells frame.seat.log cells part loose.place reference
