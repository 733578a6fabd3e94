use Rattle.std.specs.Prelude.{ℕ, zero, suc, ◌+◌, ◌-◌, ◌*◌, ◌/◌, ◌^◌, nat_le, Bool, ◌&&◌, List, [], ◌∷◌, length, Option}
use Rattle.std.specs.Prelude.{◌==◌, if◌then◌else◌, codes, find, slice_index}
use Rattle.std.specs.Str.{bytes_eq}
use Rattle.brc_text.specs.declared.keyword.Keyword.{Keyword}
use Rattle.brc_text.specs.declared.keyword.Keyword.TheVariants as words

-- each keyword as it stands in a text
abbrev pub keyword : Keyword → List ℕ
keyword words.Heap = codes "heap"
keyword words.Register = codes "register"
keyword words.Claim = codes "claim"
keyword words.Local = codes "local"
keyword words.Shared = codes "shared"
keyword words.Born = codes "born"
keyword words.Up = codes "up"
keyword words.Down = codes "down"
keyword words.See = codes "see"
keyword words.Free = codes "free"
keyword words.Untie = codes "untie"
keyword words.Shup = codes "shup"
keyword words.Shdown = codes "shdown"
keyword words.Ask = codes "ask"
keyword words.Last = codes "last"
keyword words.Enq = codes "enq"
keyword words.Drain = codes "drain"
keyword words.Add = codes "add"
keyword words.Close = codes "close"
keyword words.Nudge = codes "nudge"
keyword words.Wake = codes "wake"
keyword words.Lock = codes "lock"
keyword words.Unlock = codes "unlock"
keyword words.Gather = codes "gather"
keyword words.Offer = codes "offer"
keyword words.Open = codes "open"
keyword words.Trace = codes "trace"
keyword words.InHand = codes "h"
keyword words.Keep = codes "keep"
keyword words.Put = codes "put"
keyword words.Take = codes "take"
keyword words.Swap = codes "swap"
keyword words.Int = codes "int"
keyword words.Text = codes "text"
keyword words.List = codes "list"
keyword words.Dict = codes "dict"
keyword words.Mailbox = codes "mailbox"
keyword words.World = codes "world"
keyword words.Thread = codes "thread"
keyword words.Hand = codes "hand"
keyword words.Locked = codes "locked"
keyword words.Frame = codes "frame"
keyword words.Queued = codes "queued"
keyword words.Popped = codes "popped"
keyword words.Work = codes "work"
keyword words.Entry = codes "entry"
keyword words.Object = codes "object"
keyword words.Ledger = codes "ledger"
keyword words.Edition = codes "edition"
keyword words.Active = codes "active"
keyword words.Closing = codes "closing"
keyword words.Left = codes "left"
keyword words.Gathered = codes "gathered"
keyword words.Opening = codes "opening"
keyword words.Claimed = codes "claimed"
keyword words.Counted = codes "counted"
keyword words.Ready = codes "ready"
keyword words.Zero = codes "zero"
keyword words.Over = codes "over"
keyword words.Untied = codes "untied"
keyword words.Asked = codes "asked"
keyword words.Shut = codes "shut"
keyword words.Taking = codes "taking"
keyword words.Held = codes "held"
keyword words.Popping = codes "popping"
keyword words.Offered = codes "offered"
keyword words.Yielding = codes "yielding"
keyword words.Default = codes "default"
keyword words.Merged = codes "merged"
keyword words.Dash = codes "-"

-- bytes as one number, the first one highest, behind the number that was packed before
abbrev pub packed : ℕ → List ℕ → ℕ
packed before [] = before
packed before (byte ∷ bytes) = packed (before * 256 + byte) bytes

-- so many bytes from the front of a text, zeros behind its end
abbrev pub bytes_ahead : ℕ → List ℕ → List ℕ
bytes_ahead zero text = []
bytes_ahead (suc count) [] = 0 ∷ bytes_ahead count []
bytes_ahead (suc count) (byte ∷ bytes) = byte ∷ bytes_ahead count bytes

-- of the first eight bytes those of the word's length are the word, and no letter stands behind them
abbrev pub stands_ahead : List ℕ → Keyword → Bool
stands_ahead text word =
    (packed 0 (bytes_ahead 8 text) / 2 ^ (64 - 8 * length (keyword word)) == packed 0 (keyword word))
    && nat_le (slice_index text (length (keyword word))) 32

-- the keywords by their first byte
abbrev pub candidates_at : ℕ → List Keyword
candidates_at first =
    if first == 45 then words.Dash ∷ []
    else if first == 97 then words.Ask ∷ words.Add ∷ words.Active ∷ words.Asked ∷ []
    else if first == 98 then words.Born ∷ []
    else if first == 99 then words.Claim ∷ words.Close ∷ words.Closing ∷ words.Claimed ∷ words.Counted ∷ []
    else if first == 100 then words.Down ∷ words.Drain ∷ words.Dict ∷ words.Default ∷ []
    else if first == 101 then words.Enq ∷ words.Entry ∷ words.Edition ∷ []
    else if first == 102 then words.Free ∷ words.Frame ∷ []
    else if first == 103 then words.Gather ∷ words.Gathered ∷ []
    else if first == 104 then words.InHand ∷ words.Heap ∷ words.Hand ∷ words.Held ∷ []
    else if first == 105 then words.Int ∷ []
    else if first == 107 then words.Keep ∷ []
    else if first == 108 then words.Local ∷ words.Last ∷ words.Lock ∷ words.List ∷ words.Locked ∷ words.Ledger
    ∷ words.Left ∷ []
    else if first == 109 then words.Mailbox ∷ words.Merged ∷ []
    else if first == 110 then words.Nudge ∷ []
    else if first == 111 then words.Offer ∷ words.Open ∷ words.Object ∷ words.Over ∷ words.Offered ∷ words.Opening ∷ []
    else if first == 112 then words.Put ∷ words.Popped ∷ words.Popping ∷ []
    else if first == 113 then words.Queued ∷ []
    else if first == 114 then words.Register ∷ words.Ready ∷ []
    else if first == 115 then words.Shared ∷ words.See ∷ words.Shup ∷ words.Shdown ∷ words.Swap ∷ words.Shut ∷ []
    else if first == 116 then words.Take ∷ words.Text ∷ words.Thread ∷ words.Taking ∷ words.Trace ∷ []
    else if first == 117 then words.Up ∷ words.Unlock ∷ words.Untie ∷ words.Untied ∷ []
    else if first == 119 then words.Wake ∷ words.World ∷ words.Work ∷ []
    else if first == 121 then words.Yielding ∷ []
    else if first == 122 then words.Zero ∷ []
    else []

-- the keyword whose spelling the bytes are, sought among those with their first byte
unfoldable pub keyword_at : List ℕ → Option Keyword
keyword_at bytes = find (λ word. bytes_eq (keyword word) bytes) (candidates_at (slice_index bytes 0))
