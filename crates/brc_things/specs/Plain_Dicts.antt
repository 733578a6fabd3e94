-- The calls on dictionaries as calls on plain data: those of `brc_plain`, on the pairs of an object's contents.
use Rattle.std.specs.Prelude.{ℕ, suc, List, [], ◌∷◌, map, Option, Some, None, Result, Ok, Err, if◌then◌else◌}
use Rattle.std.specs.Option.{option_map}
use Rattle.brc_words.specs.declared.entry.Entry.{Entry}
use Rattle.brc_words.specs.declared.fault.Fault.{Fault}
use Rattle.brc_words.specs.declared.fault.Fault.TheVariants as faults
use Rattle.brc_words.specs.declared.key.Key.{Key}
use Rattle.brc_words.specs.declared.key.Key.TheVariants as keys
use Rattle.brc_plain.specs.Dicts as dicts
use Rattle.brc_words.specs.Keys.{same_key}
use Rattle.brc_plain.specs.Outcomes.{leaving, or_fault}
use Rattle.brc_count.specs.law.declared.rule.contents.PlainKey.{PlainKey}
use Rattle.brc_count.specs.law.declared.rule.contents.PlainKey.TheVariants as plain
use Rattle.brc_count.specs.law.declared.rule.contents.Contents.{Contents}
use Rattle.brc_count.specs.law.declared.rule.contents.Contents.TheVariants.{Dict}
use Rattle.brc_count.specs.table.Shown.{plain_key}
use Rattle.brc_things.specs.Changing.{PlainCall}

module _ {A : Type 0} where
  -- the key that is shown so
  abbrev pub key_of : PlainKey → Key A
  key_of (plain.Int number) = keys.Int number
  key_of (plain.Text text) = keys.Text text

  -- a dictionary's pairs, from its contents and to them
  abbrev pub pairs_of : List (PlainKey × Entry) → List (Key A × Entry)
  pairs_of shown = map (λ (pair : PlainKey × Entry). (key_of pair.0, pair.1)) shown

  abbrev pub dict_of : List (Key A × Entry) → Contents
  dict_of pairs = Dict (map (λ (pair : Key A × Entry). (plain_key pair.0, pair.1)) pairs)

  -- what a call leaves is a dictionary's contents
  abbrev pub leaving_dict : {R : Type 0} → Result (R × List (Key A × Entry)) Fault → Result (R × Contents) Fault
  leaving_dict (Ok done) = Ok (done.0, dict_of done.1)
  leaving_dict (Err fault) = Err fault

  -- the value goes beside the key; the answer is the one that stood there
  abbrev pub plain_put : Key A → Entry → PlainCall (Option Entry)
  plain_put key value (Dict shown) = leaving_dict (dicts.put (pairs_of shown) key value)
  plain_put key value _ = Err faults.WrongKind

  -- the value beside the key
  abbrev pub plain_find : Key A → PlainCall Entry
  plain_find key (Dict shown) = leaving (Dict shown) (dicts.find (pairs_of shown) key)
  plain_find key _ = Err faults.WrongKind

  -- the value beside the key, and the pair goes
  abbrev pub plain_del : Key A → PlainCall Entry
  plain_del key (Dict shown) = leaving_dict (dicts.delete (pairs_of shown) key)
  plain_del key _ = Err faults.WrongKind

  -- at which place the key stands, in the order in which the keys came
  abbrev pub place_of : Key A → List (Key A × Entry) → Option ℕ
  place_of key [] = None
  place_of key (pair ∷ pairs) = if same_key pair.0 key then Some 0 else option_map suc (place_of key pairs)

  abbrev pub plain_place : Key A → PlainCall ℕ
  plain_place key (Dict shown) = leaving (Dict shown) (or_fault faults.NoSuchKey (place_of key (pairs_of shown)))
  plain_place key _ = Err faults.WrongKind

  -- the first, and the second, of what comes out
  abbrev pub first_of : Result (Key A × Entry) Fault → Result (Key A) Fault
  first_of (Ok pair) = Ok pair.0
  first_of (Err fault) = Err fault

  abbrev pub second_of : Result (Key A × Entry) Fault → Result Entry Fault
  second_of (Ok pair) = Ok pair.1
  second_of (Err fault) = Err fault

  -- the key at a place, in the order in which the keys came
  abbrev pub plain_key_at : ℕ → PlainCall (Key A)
  plain_key_at index (Dict shown) = leaving (Dict shown) (first_of (dicts.pair_at (pairs_of shown) index))
  plain_key_at index _ = Err faults.WrongKind

-- the value beside the key at a place
abbrev pub plain_value_at : (A : Type 0) → ℕ → PlainCall Entry
plain_value_at A index (Dict shown) = leaving (Dict shown) (second_of (dicts.pair_at (pairs_of {A = A} shown) index))
plain_value_at A index _ = Err faults.WrongKind
