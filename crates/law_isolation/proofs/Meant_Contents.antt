-- An object's references and the entries of what it lies there as.
use Rattle.std.proofs.Common.{◌≡◌, ℕ, Bool, true, List, [], ◌∷◌, Some, map, get_or, slice_get, refl, ◌∙◌, ap}
use Rattle.std.specs.List.{All}
use Rattle.std.specs.Option.{option_map}
use Rattle.std.proofs.lemmas.List.Elements.{All-head, All-tail}
use Rattle.std.proofs.lemmas.Option.{slice_get-map, slice_get-get_or}
use Rattle.brc_words.specs.declared.entry.Entry.{Entry}
use Rattle.brc_words.specs.Notes.{bare}
use Rattle.brc_words.proofs.Cells.{cells_there}
use Rattle.brc_words.specs.declared.key.Key.{Key}
use Rattle.brc_count.specs.law.declared.rule.contents.PlainKey.{PlainKey}
use Rattle.brc_count.specs.law.declared.rule.contents.Contents.TheVariants as contents
use Rattle.brc_count.specs.law.rule.Logs.{entries_in}
use Rattle.brc_count.specs.table.Shown.{plain_key}
use Rattle.brc_meaning.specs.declared.reference.Reference.{Reference}
use Rattle.brc_meaning.specs.declared.reference.Reference.TheVariants as references
use Rattle.brc_meaning.specs.declared.object.Object.{Object}
use Rattle.brc_meaning.specs.declared.object.Object.TheVariants as objects
use Rattle.brc_meaning.specs.Wholes.{Each}
use Rattle.law_isolation.specs.Means.{cell_meant, entry_meant, contents_meant, IsMeant}

-- two functions that agree on each element make one list
map_agree : {X Y : Type 0} (f g : X → Y) (P : X → Type 0) (xs : List X) → ((x : X) → P x → f x ≡ g x) → All P xs
    → map f xs ≡ map g xs
map_agree f g P [] same each = refl
map_agree {Y = Y} f g P (x ∷ xs) same each =
    ap (λ (y : Y). y ∷ map f xs) (same x (All-head P x xs each))
    ∙ ap (λ (ys : List Y). g x ∷ ys) (map_agree f g P xs same (All-tail P x xs each))

-- it means what it meant, where cells of the part are the same
pub meant_same : (cells now : ℕ → ℕ) (part : ℕ → Bool) → ((place : ℕ) → part place ≡ true → now place ≡ cells place)
    → (reference : Reference) → IsMeant part reference → cell_meant now reference ≡ cell_meant cells reference
meant_same cells now part same (references.Small number) is = refl
meant_same cells now part same (references.Object place) is = same place is

module _ {A : Type 0} where
  -- what is so of each reference of an object, which is an entry of what lies there
  pub each_entry : (cells : ℕ → ℕ) (P Q : Reference → Type 0) (object : Object A)
      → ((i : ℕ) (reference : Reference) → slice_get (entries_in (contents_meant cells object)) i ≡ Some
      (cell_meant cells reference) → P reference → Q reference)
      → Each P object → Each Q object
  each_entry cells P Q (objects.Int number) more each = tt
  each_entry cells P Q (objects.Text bytes) more each = tt
  each_entry cells P Q (objects.List entries) more each = λ k d below.
      more k (get_or entries k d)
      (cells_there (map (entry_meant cells) entries) k (entry_meant cells (get_or entries k d))
      (slice_get-map (entry_meant cells) entries k
      ∙ ap (option_map (entry_meant cells)) (slice_get-get_or entries k d below)))
      (each k d below)
  each_entry cells P Q (objects.Dict pairs) more each = λ k d below.
      let plain : Key A × Reference → PlainKey × Entry = λ pair. (plain_key pair.0, entry_meant cells pair.1) in
      let entry : PlainKey × Entry → Entry = λ pair. pair.1 in
      more k (get_or pairs k d).1
      (cells_there (map entry (map plain pairs)) k (entry_meant cells (get_or pairs k d).1)
      (slice_get-map entry (map plain pairs) k
      ∙ ap (option_map entry) (slice_get-map plain pairs k ∙ ap (option_map plain) (slice_get-get_or pairs k d below))))
      (each k d below)
  each_entry cells P Q (objects.Mailbox entries) more each = λ k d below.
      more k (get_or entries k d)
      (cells_there (map (entry_meant cells) entries) k (entry_meant cells (get_or entries k d))
      (slice_get-map (entry_meant cells) entries k
      ∙ ap (option_map (entry_meant cells)) (slice_get-get_or entries k d below)))
      (each k d below)

  -- an object lies there as it did, where its references mean what they meant
  pub contents_agree : (cells now : ℕ → ℕ) (P : Reference → Type 0) (object : Object A)
      → ((reference : Reference) → P reference → cell_meant now reference ≡ cell_meant cells reference)
      → Each P object → contents_meant now object ≡ contents_meant cells object
  contents_agree cells now P (objects.Int number) same each = refl
  contents_agree cells now P (objects.Text bytes) same each = refl
  contents_agree cells now P (objects.List entries) same each =
      ap contents.«List» (map_agree (entry_meant now) (entry_meant cells) P entries (λ reference is. ap bare (same reference is)) each)
  contents_agree cells now P (objects.Dict pairs) same each =
      ap contents.Dict (map_agree (λ (pair : Key A × Reference). (plain_key pair.0, entry_meant now pair.1))
      (λ (pair : Key A × Reference). (plain_key pair.0, entry_meant cells pair.1))
      (λ (pair : Key A × Reference). P pair.1) pairs (λ pair is. ap (λ c. (plain_key pair.0, bare c))
      (same pair.1 is)) each)
  contents_agree cells now P (objects.Mailbox entries) same each =
      ap contents.Mailbox (map_agree (entry_meant now) (entry_meant cells) P entries (λ reference is. ap bare (same reference is)) each)
