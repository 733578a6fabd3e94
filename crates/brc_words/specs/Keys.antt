-- When two keys are the same. The laws stand here, since the impl of `==` cites them.
use Rattle.std.specs.Prelude.{◌≡◌, Bool, true, false, Decides}
use Rattle.std.specs.Ordering.{int_eq}
use Rattle.std.specs.Str.{bytes_eq}
use Rattle.std.specs.Cmp.{IsEquivalence, decided}
use Rattle.std.specs.Hash as fed
use Rattle.std.specs.Hash.{HashWrites}
use Rattle.std.proofs.Common.{ap, refl, sym, subst, true≢false}
use Rattle.std.proofs.lemmas.Bool.Decides.{Decides-int_eq}
use Rattle.std.proofs.lemmas.Slice.Eq.{bytes_eq-Decides}
use Rattle.brc_words.specs.declared.key.Key.{Key}
use Rattle.brc_words.specs.declared.key.Key.TheVariants.{Int, Text}

module _ {A : Type 0} where
  -- two keys are the same: two equal integers, or two texts with the same bytes
  abbrev pub same_key : Key A → Key A → Bool
  same_key (Int number) (Int other) = int_eq number other
  same_key (Text bytes) (Text others) = bytes_eq bytes others
  same_key _ _ = false

  pub same_key-exact : (key other : Key A) → same_key key other ≡ true → key ≡ other
  same_key-exact (Int number) (Int other) h = ap Int ((Decides-int_eq number other).0 h)
  same_key-exact (Int number) (Text other) h = absurd (true≢false (sym h))
  same_key-exact (Text bytes) (Int other) h = absurd (true≢false (sym h))
  same_key-exact (Text bytes) (Text others) h = ap Text ((bytes_eq-Decides bytes others).0 h)

  pub same_key-itself : (key : Key A) → same_key key key ≡ true
  same_key-itself (Int number) = (Decides-int_eq number number).1 refl
  same_key-itself (Text bytes) = (bytes_eq-Decides bytes bytes).1 refl

  pub same_key-decides : (key other : Key A) → Decides (same_key key other) (key ≡ other)
  same_key-decides key other =
      (same_key-exact key other, λ same. subst (λ k. same_key key k ≡ true) same (same_key-itself key))

  pub same_key-equiv : IsEquivalence (λ (key other : Key A). same_key key other)
  same_key-equiv = decided same_key same_key-decides

  -- what a key feeds a hasher: its number, or its text
  abbrev pub fed_of : Key A → HashWrites
  fed_of (Int number) = fed.i64 number
  fed_of (Text bytes) = fed.str bytes

  pub same_key-fed : (key other : Key A) → same_key key other ≡ true → fed_of key ≡ fed_of other
  same_key-fed key other same = ap fed_of (same_key-exact key other same)
