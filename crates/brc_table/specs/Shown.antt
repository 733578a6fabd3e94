-- What a block shows: its cell, and its payload as plain data.
use Rattle.std.specs.Prelude.{ℕ, map}
use Rattle.brc_words.specs.declared.entry.Entry.{Entry}
use Rattle.brc_words.specs.declared.key.Key.{Key}
use Rattle.brc_words.specs.declared.key.Key.TheVariants as keys
use Rattle.brc_block.specs.declared.payload.Payload.{Payload}
use Rattle.brc_block.specs.declared.payload.Payload.TheVariants as payloads
use Rattle.law.specs.declared.rule.contents.PlainKey.{PlainKey}
use Rattle.law.specs.declared.rule.contents.PlainKey.TheVariants as plain
use Rattle.law.specs.declared.rule.contents.Contents.{Contents}
use Rattle.law.specs.declared.rule.contents.Contents.TheVariants as contents

module _ {A : Type 0} where
  abbrev pub plain_key : Key A → PlainKey
  plain_key (keys.Int number) = plain.Int number
  plain_key (keys.Text text) = plain.Text text

  abbrev pub contents_of : Payload A → Contents
  contents_of (payloads.Int number) = contents.Int number
  contents_of (payloads.Text text) = contents.Text text
  contents_of (payloads.«List» cells) = contents.«List» cells.items
  contents_of (payloads.Dict pairs) = contents.Dict (map (λ (pair : Key A × Entry). (plain_key pair.0, pair.1)) pairs.items)
  contents_of (payloads.Mailbox letters) = contents.Mailbox letters.items
  contents_of payloads.Nothing = contents.Nothing
  contents_of (payloads.Truth truth) = contents.Truth truth

  abbrev pub shows : ℕ × Payload A → ℕ × Contents
  shows block = (block.0, contents_of block.1)
