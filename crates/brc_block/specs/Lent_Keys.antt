-- Which key a lent one stands for.
use Rattle.std.specs.Hash as fed
use Rattle.std.specs.Hash.{HashWrites}
use Rattle.std.specs.Prelude.{◌≡◌, true}
use Rattle.std.proofs.Common.{refl, sym, ap, ◌∙◌}
use Rattle.brc_words.specs.Keys.{same_key, fed_of, same_key-fed}
use Rattle.brc_words.specs.declared.key.Key.{Key}
use Rattle.brc_words.specs.declared.key.Key.TheVariants.{Int, Text}
use Rattle.brc_block.specs.declared.key_ref.KeyRef.{KeyRef}
use Rattle.brc_block.specs.declared.key_ref.KeyRef.TheVariants as lent

-- the key that is lent
abbrev pub key_lent : {A : Type 0} → KeyRef → Key A
key_lent (lent.Int number) = Int number
key_lent (lent.Text text) = Text text.now

-- it feeds a hasher as that key does
abbrev pub lent_fed : KeyRef → HashWrites
lent_fed (lent.Int number) = fed.i64 number
lent_fed (lent.Text text) = fed.str text.now

lent_as_key : {A : Type 0} (key : KeyRef) (meant : Key A) → meant ≡ key_lent key → lent_fed key ≡ fed_of meant
lent_as_key (lent.Int number) meant is = ap fed_of (sym is)
lent_as_key (lent.Text text) meant is = ap fed_of (sym is)

-- a key that it stands for is fed alike
pub lent_alike : {A : Type 0} (key : KeyRef) (other : Key A) → same_key (key_lent key) other ≡ true
    → lent_fed key ≡ fed_of other
lent_alike key other same = lent_as_key key (key_lent key) refl ∙ same_key-fed (key_lent key) other same
