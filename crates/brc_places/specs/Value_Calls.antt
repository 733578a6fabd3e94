-- Which call by values each name here stands for, as `specs/Calls.antt` has it of those by handles. `none` is the frame's
-- handle to None before the call, `after` the one that it has then.
use Rattle.std.specs.Prelude.{◌≡◌, ℕ, Option, Result}
use Rattle.brc_words.specs.declared.fault.Fault.{Fault}
use Rattle.brc_count.specs.block.Lent_Keys.{key_lent}
use Rattle.brc_count.specs.declared.handed.HandedBack.{HandedBack}
use Rattle.brc_count.specs.Frames.{FrameSeen, HandleSeen}
use Rattle.brc_things.specs.declared.value.Value.{Value}
use Rattle.brc_things.specs.Called.{Late}
use Rattle.brc_things.specs.Value_Calls.{ListPushValue, ListPopValue, ListTakeValue, ListGetValue, ListSetValue, ListPutValue}
use Rattle.brc_things.specs.Value_Calls.{SendValue, RecvValue, DictFindValue, DictDelValue, DictSetValue, DictPutNewValue}
use Rattle.brc_places.specs.Calls.{AnswersNone, AnswersOld}
use Rattle.brc_places.specs.declared.giving.GiveBy.{GiveBy}
use Rattle.brc_places.specs.declared.giving.GiveBy.TheVariants as gives
use Rattle.brc_places.specs.declared.valued.PutBy.{PutBy}
use Rattle.brc_places.specs.declared.valued.PutBy.TheVariants as puts

module _ {A : Type 0} where
  -- a call that gives a value
  abbrev pub TookOutValueBy : GiveBy → FrameSeen A → FrameSeen A → ℕ → Result (Value A) Fault → Type 0
  TookOutValueBy gives.Pop old new k result = ListPopValue old new k result
  TookOutValueBy (gives.Get index) old new k result = ListGetValue old new k index result
  TookOutValueBy (gives.Take index) old new k result = ListTakeValue old new k index result
  TookOutValueBy gives.Receive old new k result = RecvValue old new k result
  TookOutValueBy (gives.Find key) old new k result = DictFindValue old new k (key_lent key) result
  TookOutValueBy (gives.Delete key) old new k result = DictDelValue old new k (key_lent key) result

  -- that call, once no other thread has the object locked
  abbrev pub TookOutValueLate : GiveBy → FrameSeen A → FrameSeen A → ℕ → Result (Value A) Fault → Type 0
  TookOutValueLate by old new k result = Late old k (λ mid. TookOutValueBy by mid new k result)

  -- a call that takes a value
  abbrev pub PutValueBy : PutBy → FrameSeen A → FrameSeen A → ℕ → HandleSeen → HandleSeen → Value A
      → Result (Option (Value A)) (HandedBack (Value A)) → Type 0
  PutValueBy puts.Push old new k none after value result =
      (after ≡ none) × AnswersNone (ListPushValue old new k none value) result
  PutValueBy (puts.Set index) old new k none after value result =
      AnswersOld (ListSetValue old new k index none after value) result
  PutValueBy (puts.PutAt index) old new k none after value result = ListPutValue old new k index none after value result
  PutValueBy puts.Send old new k none after value result =
      (after ≡ none) × AnswersNone (SendValue old new k none value) result
  PutValueBy (puts.Put key) old new k none after value result =
      DictSetValue old new k (key_lent key) none after value result
  PutValueBy (puts.PutNew key) old new k none after value result =
      (after ≡ none) × DictPutNewValue old new k (key_lent key) none value result

  -- that call, once no other thread has the object locked
  abbrev pub PutValueLate : PutBy → FrameSeen A → FrameSeen A → ℕ → HandleSeen → HandleSeen → Value A
      → Result (Option (Value A)) (HandedBack (Value A)) → Type 0
  PutValueLate by old new k none after value result = Late old k (λ mid. PutValueBy by mid new k none after value result)
