-- Which call of the crates below each name here stands for: of the frame before and after it, of the place of its object
-- in the frame, and of its answer.
use Rattle.std.specs.Prelude.{◌≡◌, ◌⊎◌, ℕ, [], Option, Some, None, Result, Ok, Err, IfOk, IfErr, OnErr}
use Rattle.brc_words.specs.declared.fault.Fault.{Fault}
use Rattle.brc_words.specs.declared.fault.Fault.TheVariants as faults
use Rattle.brc_words.specs.declared.limits.TheConstants.{GLOBALS}
use Rattle.brc_count.specs.block.Lent_Keys.{key_lent}
use Rattle.brc_count.specs.law.declared.world.event.Source.TheVariants as sources
use Rattle.brc_count.specs.law.declared.rule.contents.Contents.TheVariants as contents
use Rattle.brc_count.specs.declared.handed.HandedBack.{HandedBack}
use Rattle.brc_count.specs.Frames.{FrameSeen, HandleSeen, GivenHandle, Refused, IsAsBefore}
use Rattle.brc_count.specs.Making.{Made, RefusedMaking}
use Rattle.brc_things.specs.Makers.{small_cell, truth_cell, Answered, RefusedTo}
use Rattle.brc_things.specs.Called.{Late}
use Rattle.brc_things.specs.List_Calls.{ListPush, ListPop, ListTake, ListGet, ListSet, MailboxSend, MailboxReceive}
use Rattle.brc_things.specs.Dict_Calls.{DictPut, DictFind, DictDel}
use Rattle.brc_places.specs.declared.place_makers.Make.{Make}
use Rattle.brc_places.specs.declared.place_makers.Make.TheVariants as makes
use Rattle.brc_places.specs.declared.giving.GiveBy.{GiveBy}
use Rattle.brc_places.specs.declared.giving.GiveBy.TheVariants as gives
use Rattle.brc_places.specs.declared.taking.TakeBy.{TakeBy}
use Rattle.brc_places.specs.declared.taking.TakeBy.TheVariants as takes

module _ {V : Type 0} where
  -- so of a call that answers nothing; and of one that answers what the value came for
  abbrev pub AnswersNone : (Result (Unit {0}) (HandedBack V) → Type 0) → Result (Option V) (HandedBack V) → Type 0
  AnswersNone call (Ok None) = call (Ok tt)
  AnswersNone call (Ok (Some given)) = ⊥
  AnswersNone call (Err handed) = call (Err handed)

  abbrev pub AnswersOld : (Result V (HandedBack V) → Type 0) → Result (Option V) (HandedBack V) → Type 0
  AnswersOld call (Ok None) = ⊥
  AnswersOld call (Ok (Some given)) = call (Ok given)
  AnswersOld call (Err handed) = call (Err handed)

-- a handle of which this was done, or why there is none
pub record HandleOr (done : HandleSeen → Type 0) (why : Fault → Type 0) (result : Result HandleSeen Fault)
    : Type 0 where
  pub made : IfOk result done
  pub refused : IfErr result why

module _ {A : Type 0} where
  -- a handle to the immortal in this cell, or why there is none
  pub record ToImmortal (c : ℕ) (old new : FrameSeen A) (result : Result HandleSeen Fault) : Type 0 where
    pub given : IfOk result (GivenHandle old new (sources.Immortal c) c)
    pub refused : IfErr result (Refused old)
    pub unchanged : OnErr result (IsAsBefore old new)

  -- why a text wasn't made: memory for a copy was missing, and nothing was done; or an object wasn't to be had
  abbrev pub RefusedText : FrameSeen A → FrameSeen A → Fault → Type 0
  RefusedText old new fault = ((fault ≡ faults.OutOfMemory) × (new ≡ old)) ⊎ RefusedMaking old new fault

  -- what was made, or why nothing was
  abbrev pub MadeBy : Make → FrameSeen A → FrameSeen A → Result HandleSeen Fault → Type 0
  MadeBy makes.Nothing old new result = ToImmortal 0 old new result
  MadeBy (makes.Truth is_true) old new result = ToImmortal (truth_cell is_true) old new result
  MadeBy makes.Globals old new result = ToImmortal GLOBALS old new result
  MadeBy (makes.Int number) old new result =
      HandleOr (Answered old new (small_cell number) (contents.Int number)) (RefusedTo old new (small_cell number)) result
  MadeBy (makes.Text text) old new result =
      HandleOr (Made old new (contents.Text text.now)) (RefusedText old new) result
  MadeBy (makes.Bytes bytes) old new result =
      HandleOr (Made old new (contents.Text bytes.now)) (RefusedText old new) result
  MadeBy makes.«List» old new result = HandleOr (Made old new (contents.«List» [])) (RefusedMaking old new) result
  MadeBy (makes.ListFor entries) old new result = HandleOr (Made old new (contents.«List» [])) (RefusedMaking old new) result
  MadeBy makes.Dict old new result = HandleOr (Made old new (contents.Dict [])) (RefusedMaking old new) result
  MadeBy (makes.DictFor pairs) old new result = HandleOr (Made old new (contents.Dict [])) (RefusedMaking old new) result
  MadeBy makes.Mailbox old new result = HandleOr (Made old new (contents.Mailbox [])) (RefusedMaking old new) result

  -- a call that gives a handle
  abbrev pub GaveBy : GiveBy → FrameSeen A → FrameSeen A → ℕ → Result HandleSeen Fault → Type 0
  GaveBy gives.Pop old new k result = ListPop old new k result
  GaveBy (gives.Get index) old new k result = ListGet old new k index result
  GaveBy (gives.Take index) old new k result = ListTake old new k index result
  GaveBy gives.Receive old new k result = MailboxReceive old new k result
  GaveBy (gives.Find key) old new k result = DictFind old new k (key_lent key) result
  GaveBy (gives.Delete key) old new k result = DictDel old new k (key_lent key) result

  -- that call, once no other thread has the object locked
  abbrev pub GaveLate : GiveBy → FrameSeen A → FrameSeen A → ℕ → Result HandleSeen Fault → Type 0
  GaveLate by old new k result = Late old k (λ mid. GaveBy by mid new k result)

  -- a call that takes a value's handle
  abbrev pub TookBy : TakeBy → FrameSeen A → FrameSeen A → ℕ → HandleSeen
      → Result (Option HandleSeen) (HandedBack HandleSeen) → Type 0
  TookBy takes.Push old new k value result = AnswersNone (ListPush old new k value.place) result
  TookBy (takes.Set index) old new k value result = AnswersOld (ListSet old new k index value.place) result
  TookBy takes.Send old new k value result = AnswersNone (MailboxSend old new k value.place) result
  TookBy (takes.Put key) old new k value result = DictPut old new k (key_lent key) value result

  -- that call, once no other thread has the object locked
  abbrev pub TookLate : TakeBy → FrameSeen A → FrameSeen A → ℕ → HandleSeen
      → Result (Option HandleSeen) (HandedBack HandleSeen) → Type 0
  TookLate by old new k value result = Late old k (λ mid. TookBy by mid new k value result)
