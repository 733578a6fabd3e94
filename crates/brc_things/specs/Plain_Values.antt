-- The plain calls by which a value goes into a container, all of one form: each answers what stood where it went.
use Rattle.std.specs.Prelude.{◌≡◌, ℕ, length, Option, Some, None, Result, Ok, Err, true, is_ok, nat_eq, if◌then◌else◌, slice_set, remove}
use Rattle.brc_words.specs.declared.entry.Entry.{Entry}
use Rattle.brc_words.specs.declared.fault.Fault.{Fault}
use Rattle.brc_count.specs.block.declared.payload.Payload.{Payload}
use Rattle.brc_count.specs.block.Payload.{kind_of, noted_of, keys_of}
use Rattle.brc_count.specs.law.declared.rule.contents.Contents.{Contents}
use Rattle.brc_count.specs.law.rule.Logs.{noted_in}
use Rattle.brc_count.specs.table.Shown.{contents_of}
use Rattle.brc_things.specs.Changing.{PlainCall}
use Rattle.brc_things.specs.Plain_Lists.{plain_push, plain_set}

-- by the entry that goes in; the answer is the entry that stood there, if one did
abbrev pub PutCall : Type 0
PutCall = Entry → PlainCall (Option Entry)

module _ {R S C : Type 0} where
  -- the same outcome, with another word for its answer
  abbrev pub answering : (R → S) → Result (R × C) Fault → Result (S × C) Fault
  answering word (Ok done) = Ok (word done.0, done.1)
  answering word (Err fault) = Err fault

-- a call that puts an entry where nothing stood, and one that puts it where the answer stood
abbrev pub at_new : (Entry → PlainCall (Unit {0})) → PutCall
at_new call entry found = answering (λ done. None) (call entry found)

abbrev pub at_old : (Entry → PlainCall Entry) → PutCall
at_old call entry found = answering Some (call entry found)

-- another entry at a place of a list; at the index that is its length, one more
abbrev pub plain_put_at : ℕ → PutCall
plain_put_at index entry found =
    if nat_eq index (length (noted_in found)) then at_new plain_push entry found
    else at_old (plain_set index) entry found

-- two calls do the same to what was found
abbrev pub Alike : Contents → PutCall → PutCall → Type 0
Alike found call other = (entry : Entry) → call entry found ≡ other entry found

module _ {A : Type 0} where
  -- the plain call sets the place of this block, at which this entry stands, and nothing else
  pub record SetsAt (old : Payload A) (index : ℕ) (entry : Entry) (call : PutCall) : Type 0 where
    pub may : (put : Entry) → (left : Contents) × (call put (contents_of old) ≡ Ok (Some entry, left))
    pub sets : (put : Entry) (left : Payload A) → kind_of left ≡ kind_of old → keys_of left ≡ keys_of old
        → noted_of left ≡ slice_set (noted_of old) index put → call put (contents_of old) ≡ Ok (Some entry, contents_of left)

  -- the plain call takes the entry out of this block, and the later ones close up
  pub record TakesAt (old : Payload A) (index : ℕ) (entry : Entry) (call : PlainCall Entry) : Type 0 where
    pub may : is_ok (call (contents_of old)) ≡ true
    pub takes : (left : Payload A) → kind_of left ≡ kind_of old → keys_of left ≡ remove (keys_of old) index
        → noted_of left ≡ remove (noted_of old) index → call (contents_of old) ≡ Ok (entry, contents_of left)

  -- the plain call finds the entry there in this block
  abbrev pub FindsAt : Payload A → Entry → PlainCall Entry → Type 0
  FindsAt old entry call = call (contents_of old) ≡ Ok (entry, contents_of old)
