-- Which call of the heap an export of this name makes, where its bytes or numbers of C stand for something else; and what
-- it writes, where that is more than one number.
use Rattle.std.specs.Prelude.{◌≡◌, ◌++◌, ◌+◌, ◌*◌, ℕ, zero, suc, pos, Bool, true, false, List, Option, Some, None, Result, Ok, Err, length}
use Rattle.std.specs.Prelude.{take, drop}
use Rattle.std.specs.declared.alloc.Global.{Global}
use Rattle.brc_words.specs.declared.entry.Entry.{Entry}
use Rattle.brc_words.specs.declared.fault.Fault.{Fault}
use Rattle.brc_words.specs.declared.key.Key.{Key}
use Rattle.brc_words.specs.declared.key.Key.TheVariants as keys
use Rattle.brc_count.specs.law.declared.rule.contents.Contents.TheVariants as contents
use Rattle.brc_count.specs.declared.handed.HandedBack.{HandedBack}
use Rattle.brc_count.specs.Frames.{FrameSeen, HandleSeen}
use Rattle.brc_count.specs.Making.{Made}
use Rattle.brc_things.specs.declared.value.SwapIf.{SwapIf}
use Rattle.brc_things.specs.declared.value.Value.{Value}
use Rattle.brc_things.specs.Dict_Calls.{DictPut, DictFind, DictDel}
use Rattle.brc_things.specs.Value_Calls.{DictFindValue, DictDelValue, DictSetValue, DictPutNewValue}
use Rattle.brc_things.specs.Still.{DictSwapIf}
use Rattle.brc_places.specs.declared.place_makers.Make.TheVariants as making
use Rattle.brc_places.specs.Calls.{HandleOr, RefusedText, MadeBy}
use Rattle.brc_client.specs.declared.data.Datum.{Datum}
use Rattle.brc_client.specs.declared.data.Datum.TheVariants as datums
use Rattle.brc_client.specs.declared.data.PairDatum.{PairDatum}
use Rattle.brc_client.specs.declared.status.Status.{Status}
use Rattle.brc_client.specs.declared.conditional.SwapTold.{SwapTold}
use Rattle.brc_client.specs.Clients.{ClientSeen}
use Rattle.brc_client.specs.Answers.{Makes, BeginsClaims}
use Rattle.brc_c.specs.Exports.{OrNotValue, truth_number}
use Rattle.brc_c.specs.declared.dicts.CKey.{CKey}
use Rattle.brc_c.specs.declared.values.CValue.{CValue}

-- C says yes by any number but 0
abbrev pub is_yes : ℕ → Bool
is_yes zero = false
is_yes (suc n) = true

abbrev pub MakesTruth : ℕ → ClientSeen → ClientSeen → Result ℕ Status → Type 0
MakesTruth is_true = Makes (MadeBy (making.Truth (is_yes is_true)))

abbrev pub ClaimsAt : ℕ → ℕ → ClientSeen → ClientSeen → Type 0
ClaimsAt cell near_last = BeginsClaims cell (is_yes near_last)

-- ---- bytes that are a text

abbrev pub MakesText : List ℕ → FrameSeen Global → FrameSeen Global → Result HandleSeen Fault → Type 0
MakesText bytes old new result = HandleOr (Made old new (contents.Text bytes)) (RefusedText old new) result

abbrev pub FindsByText : List ℕ → FrameSeen Global → FrameSeen Global → ℕ → Result HandleSeen Fault → Type 0
FindsByText bytes old new k result = DictFind old new k (keys.Text bytes) result

abbrev pub DeletesByText : List ℕ → FrameSeen Global → FrameSeen Global → ℕ → Result HandleSeen Fault → Type 0
DeletesByText bytes old new k result = DictDel old new k (keys.Text bytes) result

abbrev pub PutsByText : List ℕ → FrameSeen Global → FrameSeen Global → ℕ → HandleSeen
    → Result (Option HandleSeen) (HandedBack HandleSeen) → Type 0
PutsByText bytes old new k value result = DictPut old new k (keys.Text bytes) value result

abbrev pub FindsValueByText : List ℕ → FrameSeen Global → FrameSeen Global → ℕ → Result (Value Global) Fault → Type 0
FindsValueByText bytes old new k result = DictFindValue old new k (keys.Text bytes) result

abbrev pub DeletesValueByText : List ℕ → FrameSeen Global → FrameSeen Global → ℕ → Result (Value Global) Fault → Type 0
DeletesValueByText bytes old new k result = DictDelValue old new k (keys.Text bytes) result

abbrev pub PutsValueByText : List ℕ → FrameSeen Global → FrameSeen Global → ℕ → HandleSeen → HandleSeen → Value Global
    → Result (Option (Value Global)) (HandedBack (Value Global)) → Type 0
PutsValueByText bytes old new k none after value result = DictSetValue old new k (keys.Text bytes) none after value result

abbrev pub PutsNewByText : List ℕ → FrameSeen Global → FrameSeen Global → ℕ → HandleSeen → HandleSeen → Value Global
    → Result (Option (Value Global)) (HandedBack (Value Global)) → Type 0
PutsNewByText bytes old new k none after value result =
    (after ≡ none) × DictPutNewValue old new k (keys.Text bytes) none value result

abbrev pub SwapsIfByText : List ℕ → FrameSeen Global → FrameSeen Global → ℕ → Entry → HandleSeen → HandleSeen → Value Global
    → Result (SwapIf Global) (HandedBack (Value Global)) → Type 0
SwapsIfByText bytes old new k expected none after value result =
    DictSwapIf old new k (keys.Text bytes) expected none after value result

-- ---- what is written of a value

-- a scalar's bits and label; of a reference its number and its label
abbrev pub value_of : Datum → CValue
value_of (datums.Scalar note) = record { bits = note.bits; label = note.label; holds = 1 }
value_of (datums.Object number note) = record { bits = number; label = note.label; holds = 2 }

-- what came out, or that nothing did
abbrev pub came_of : Option Datum → CValue
came_of None = record { bits = 0; label = 0; holds = 0 }
came_of (Some datum) = value_of datum

-- ---- what is written of a text and of a pair

-- as many of the bytes as there is room for; the rest of the room is as it was
abbrev pub prefix_into : List ℕ → List ℕ → List ℕ
prefix_into bytes room = take (length room) bytes ++ drop (length bytes) room

-- the number of an integer, or the length of a text and as many of its bytes as there is room for
abbrev pub KeyWritten : Key Global → CKey → List ℕ → List ℕ → Type 0
KeyWritten (keys.Int number) key room to =
    (key.number ≡ number) × (key.len ≡ 0) × (key.is_text ≡ 0) × (to ≡ room)
KeyWritten (keys.Text text) key room to =
    (key.number ≡ pos 0) × (key.len ≡ length text) × (key.is_text ≡ 1) × (to ≡ prefix_into text room)

abbrev pub WritesPair : ℕ → ℕ → CKey → CKey → List ℕ → List ℕ → Result (Key Global × ℕ) Status → Type 0
WritesPair value_was value key_was key room to (Ok pair) = (value ≡ pair.1) × KeyWritten pair.0 key room to
WritesPair value_was value key_was key room to (Err status) = (value ≡ value_was) × (key ≡ key_was) × (to ≡ room)

abbrev pub WritesValuePair : CValue → CValue → CKey → CKey → List ℕ → List ℕ → ℕ → ℕ → Result PairDatum Status → Type 0
WritesValuePair value_was value key_was key room to pairs_was pairs (Ok pair) =
    (value ≡ value_of pair.datum) × KeyWritten pair.key key room to × (pairs ≡ pair.of)
WritesValuePair value_was value key_was key room to pairs_was pairs (Err status) =
    (value ≡ value_was) × (key ≡ key_was) × (to ≡ room) × (pairs ≡ pairs_was)

-- a value of C's in the two words by which C hands one over
abbrev pub packed : CValue → ℕ
packed value = value.holds * 4294967296 + value.label

-- whether it was swapped, and what came
abbrev pub WritesSwap : CValue → CValue → ℕ → ℕ → Result SwapTold Status → Type 0
WritesSwap value_was value was is (Ok did) = (value ≡ value_of did.came) × (is ≡ truth_number did.swapped)
WritesSwap value_was value was is (Err status) = (value ≡ value_was) × (is ≡ was)

-- The call on two values of C's: what is expected, and what goes in. If either holds what none can hold, nothing is done.
abbrev pub OfTwoValues : ℕ → ℕ → CValue → (Datum → Datum → ClientSeen → ClientSeen → Result SwapTold Status → Type 0)
    → ClientSeen → ClientSeen → Result SwapTold Status → Type 0
OfTwoValues bits noted value call =
    OrNotValue bits noted (λ expected. OrNotValue value.bits (packed value) (λ datum. call expected datum))
