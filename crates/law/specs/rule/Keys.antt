-- The keys of a dictionary, and what becomes of them as it is unlocked.
use Rattle.std.specs.Prelude.{◌≡◌, ◌≢◌, ◌++◌, List, [], ◌∷◌, map, remove}
use Rattle.std.specs.List.{All, AllPairs}
use Rattle.brc_words.specs.declared.entry.Entry.{Entry}
use Rattle.law.specs.declared.world.event.Change.{Change}
use Rattle.law.specs.declared.world.event.Change.TheVariants.{Keep, Put, Take, Swap}
use Rattle.law.specs.declared.world.event.Step.{Step}
use Rattle.law.specs.declared.world.event.Step.TheVariants.{Unlock}
use Rattle.law.specs.declared.rule.contents.PlainKey.{PlainKey}
use Rattle.law.specs.declared.rule.contents.Contents.{Contents}
use Rattle.law.specs.declared.rule.contents.Contents.TheVariants.{Dict}

-- the keys of a dictionary, in the order in which they came; nothing else has keys
abbrev pub keys_in : Contents → List PlainKey
keys_in (Dict pairs) = map (λ (pair : PlainKey × Entry). pair.0) pairs
keys_in _ = []

-- no key stands twice
abbrev pub HasDistinctKeys : Contents → Type 0
HasDistinctKeys contents = AllPairs (λ first later. first ≢ later) (keys_in contents)

-- a key that wasn't there comes last
pub record OneKeyMore (found home : List PlainKey) : Type 0 where
  pub key : PlainKey
  pub absent : All (λ other. other ≢ key) found
  pub last : home ≡ found ++ key ∷ []

-- one entry more comes with a key in a dictionary, and else with none
abbrev pub KeyPut : Contents → Contents → Type 0
KeyPut (Dict pairs) home = OneKeyMore (keys_in (Dict pairs)) (keys_in home)
KeyPut found home = keys_in home ≡ []

-- What an unlocking puts home has the keys that its locking found; where an entry was put in, one more; and where one
-- was taken, all but that entry's.
abbrev pub KeysGo : Change → Contents → Contents → Type 0
KeysGo Keep found home = keys_in home ≡ keys_in found
KeysGo (Put j) found home = KeyPut found home
KeysGo (Take i j) found home = keys_in home ≡ remove (keys_in found) i
KeysGo (Swap i j) found home = keys_in home ≡ keys_in found

-- the same of each step that puts a block home: what is born has no keys
abbrev pub KeysAfter : Step → Contents → Contents → Type 0
KeysAfter (Unlock change) found home = KeysGo change found home
KeysAfter _ found home = keys_in home ≡ []
