-- Which plain calls by values set an entry of a block, take it out, or find it there.
use Rattle.std.proofs.Common.{All, ◌≡◌, ◌≢◌, inl, inr, ◌++◌, ◌<◌, ℕ, true, false, [], ◌∷◌, Some, None, Ok, sym, ◌∙◌, ap, refl}
use Rattle.std.proofs.Common.{subst, is_ok, length, nat_eq, remove, slice_get, slice_set, if◌then◌else◌}
use Rattle.std.proofs.lemmas.Bool.{eq-eqb}
use Rattle.std.proofs.lemmas.Bool.Decides.{eqb_tells}
use Rattle.std.proofs.lemmas.Option.{slice_get_within}
use Rattle.brc_words.specs.declared.entry.Entry.{Entry}
use Rattle.brc_words.specs.declared.key.Key.{Key}
use Rattle.brc_words.specs.declared.kind.Kind.{Kind}
use Rattle.brc_words.specs.declared.kind.Kind.TheVariants as kinds
use Rattle.brc_words.specs.declared.limits.TheConstants.{MOST_ENTRIES}
use Rattle.brc_words.proofs.Cells.{cells_long}
use Rattle.brc_count.specs.block.declared.payload.Payload.{Payload}
use Rattle.brc_count.specs.block.Payload.{kind_of, noted_of, entries_of, keys_of}
use Rattle.brc_count.proofs.Keys_Shown.{keyed_put}
use Rattle.brc_count.specs.law.rule.Keys.{KeyPut}
use Rattle.brc_count.specs.law.declared.rule.contents.Contents.{Contents}
use Rattle.brc_count.specs.law.rule.Logs.{noted_in}
use Rattle.brc_count.specs.table.Shown.{contents_of}
use Rattle.brc_plain.specs.Dicts.{replaced}
use Rattle.brc_things.specs.Changing.{PlainCall}
use Rattle.brc_things.specs.Plain_Dicts.{dict_of, plain_put, plain_del}
use Rattle.brc_things.specs.Plain_Lists.{plain_push, plain_get, plain_set}
use Rattle.brc_things.specs.Plain_Values.{PutCall, Alike, answering, at_new, at_old, plain_put_at, SetsAt, TakesAt, FindsAt}
use Rattle.brc_things.specs.Rows.{is_row, plain_put as plain_row_put, plain_take}
use Rattle.brc_things.specs.Seeking.{HasKeyAt, IsAbsent}
use Rattle.brc_things.proofs.Standing.{others_than}
use Rattle.brc_things.proofs.Rows_Law.{row, put_gives, put_plain, at_gives, at_plain}
use Rattle.brc_things.proofs.Shown.{kind_shown, noted_shown, put_over, put_there, put_new, del_may, del_there}

module _ {A : Type 0} where
  -- what does the same to what was found does so to the block
  pub alike_there : (found : Contents) (block : Payload A) (call other : PutCall) → found ≡ contents_of block
      → Alike found call other → Alike (contents_of block) call other
  alike_there found block call other is same = subst (λ f. Alike f call other) is same

  -- where an entry stands is within the block
  pub there_within : (block : Payload A) (index : ℕ) (entry : Entry) → slice_get (noted_of block) index ≡ Some entry
      → index < length (entries_of block)
  there_within block index entry there = subst (λ n. index < n) (sym (cells_long (noted_of block)))
      (slice_get_within (noted_of block) index entry there)

  -- ---- rows

  -- one entry more, at the end of a row
  pub put_plainly : (kind : Kind) (old left : Payload A) (entry : Entry) → is_row kind ≡ true → kind_of old ≡ kind
      → length (entries_of old) < MOST_ENTRIES → kind_of left ≡ kind_of old
      → noted_of left ≡ noted_of old ++ entry ∷ []
      → at_new (plain_row_put kind) entry (contents_of old) ≡ Ok (None, contents_of left)
  put_plainly kind old left entry row is few same more =
      ap (answering (λ done. None)) (put_gives kind row (contents_of old) (contents_of left) entry (kind_shown old ∙ is)
      (kind_shown left ∙ same ∙ is)
      (subst (λ es. length es < MOST_ENTRIES) (sym (noted_shown old))
      (subst (λ n. n < MOST_ENTRIES) (cells_long (noted_of old)) few))
      (noted_shown left ∙ more ∙ ap (λ es. es ++ entry ∷ []) (sym (noted_shown old))))

  -- so there is something left, whether or not memory for it was there
  pub put_may_row : (kind : Kind) (old : Payload A) (entry : Entry) → is_row kind ≡ true → kind_of old ≡ kind
      → length (entries_of old) < MOST_ENTRIES
      → at_new (plain_row_put kind) entry (contents_of old)
      ≡ Ok (None, row kind (noted_in (contents_of old) ++ entry ∷ []))
  put_may_row kind old entry row is few =
      ap (answering (λ done. None)) (put_plain kind row (contents_of old) entry (kind_shown old ∙ is)
      (subst (λ es. length es < MOST_ENTRIES) (sym (noted_shown old))
      (subst (λ n. n < MOST_ENTRIES) (cells_long (noted_of old)) few)))

  -- another entry at a place of a list
  pub list_sets : (old : Payload A) (index : ℕ) (entry : Entry) (call : PutCall) → kind_of old ≡ kinds.«List»
      → slice_get (noted_of old) index ≡ Some entry → Alike (contents_of old) call (at_old (plain_set index))
      → SetsAt old index entry call
  list_sets old index entry call is there same =
      let at = ap (λ es. slice_get es index) (noted_shown old) ∙ there in
      record {
        may = λ put. (
          row kinds.«List» (slice_set (noted_in (contents_of old)) index put),
          same put ∙ ap (answering Some) (at_plain kinds.«List» refl (contents_of old) index entry
              (λ es. slice_set es index put) (kind_shown old ∙ is) at),
        );
        sets = λ put left kept keys set. same put ∙ ap (answering Some) (at_gives kinds.«List» refl (contents_of old)
            (contents_of left) index entry (λ es. slice_set es index put) (kind_shown old ∙ is)
            (kind_shown left ∙ kept ∙ is) at
            (noted_shown left ∙ set ∙ ap (λ es. slice_set es index put) (sym (noted_shown old))));
      }

  pub row_takes : (kind : Kind) (old : Payload A) (index : ℕ) (entry : Entry) (call : PlainCall Entry)
      → is_row kind ≡ true → kind_of old ≡ kind → slice_get (noted_of old) index ≡ Some entry
      → call (contents_of old) ≡ plain_take kind index (contents_of old) → TakesAt old index entry call
  row_takes kind old index entry call row is there same =
      let at = ap (λ es. slice_get es index) (noted_shown old) ∙ there in
      record {
        may = ap is_ok (same ∙ at_plain kind row (contents_of old) index entry (λ es. remove es index)
            (kind_shown old ∙ is) at);
        takes = λ left kept keys rest. same ∙ at_gives kind row (contents_of old) (contents_of left) index entry
            (λ es. remove es index) (kind_shown old ∙ is) (kind_shown left ∙ kept ∙ is) at
            (noted_shown left ∙ rest ∙ ap (λ es. remove es index) (sym (noted_shown old)));
      }

  pub list_finds : (old : Payload A) (index : ℕ) (entry : Entry) → kind_of old ≡ kinds.«List»
      → slice_get (noted_of old) index ≡ Some entry → FindsAt old entry (plain_get index)
  list_finds old index entry is there =
      at_gives kinds.«List» refl (contents_of old) (contents_of old) index entry (λ es. es) (kind_shown old ∙ is)
      (kind_shown old ∙ is) (ap (λ es. slice_get es index) (noted_shown old) ∙ there) refl

  -- ---- dictionaries

  pub dict_sets : (key : Key A) (old : Payload A) (index : ℕ) (entry : Entry) → HasKeyAt old key index entry
      → SetsAt old index entry (plain_put key)
  dict_sets key old index entry there = record {
    may = λ put. (dict_of (replaced key put there.pairs.items), put_over key put old index entry there);
    sets = λ put left kept keys set. put_there key put old left index entry there kept keys set;
  }

  -- a copy of a key that isn't there comes last, with its entry
  pub new_absent : (key copy : Key A) (block ready : Payload A) → IsAbsent block key → copy ≡ key
      → keys_of ready ≡ keys_of block → All (λ other. other ≢ copy) (keys_of ready)
  new_absent key copy block ready absent same keys =
      subst (λ (k : Key A). All (λ other. other ≢ k) (keys_of ready)) (sym same)
      (subst (All (λ other. other ≢ key)) (sym (keys ∙ ap keys_of absent.is))
      (others_than key absent.pairs.items absent.none))

  pub new_keyed : (found : Contents) (key copy : Key A) (block ready left : Payload A) → found ≡ contents_of block
      → IsAbsent block key → copy ≡ key → keys_of ready ≡ keys_of block → keys_of left ≡ keys_of ready ++ copy ∷ []
      → KeyPut found (contents_of left)
  new_keyed found key copy block ready left is absent same kept more =
      keyed_put block left found key is (ap kind_of absent.is)
      (subst (All (λ other. other ≢ key)) (sym (ap keys_of absent.is)) (others_than key absent.pairs.items absent.none))
      (more ∙ ap (λ ks. ks ++ copy ∷ []) kept ∙ ap (λ k. keys_of block ++ k ∷ []) same)

  pub new_pair : (key copy : Key A) (entry : Entry) (block ready left : Payload A) → IsAbsent block key → copy ≡ key
      → length (entries_of block) < MOST_ENTRIES → kind_of ready ≡ kind_of block → keys_of ready ≡ keys_of block
      → noted_of ready ≡ noted_of block → kind_of left ≡ kind_of ready → keys_of left ≡ keys_of ready ++ copy ∷ []
      → noted_of left ≡ noted_of ready ++ entry ∷ []
      → plain_put key entry (contents_of block) ≡ Ok (None, contents_of left)
  new_pair key copy entry block ready left absent same few kind keys noted kept more put =
      put_new key entry block left absent few (kept ∙ kind)
      (more ∙ ap (λ ks. ks ++ copy ∷ []) keys ∙ ap (λ k. keys_of block ++ k ∷ []) same)
      (put ∙ ap (λ es. es ++ entry ∷ []) noted)

  pub dict_takes : (key : Key A) (old : Payload A) (index : ℕ) (entry : Entry) → HasKeyAt old key index entry
      → TakesAt old index entry (plain_del key)
  dict_takes key old index entry there = record {
    may = del_may key old index entry there;
    takes = λ left kept keys rest. del_there key old left index entry there kept keys rest;
  }

-- ---- a list's place, or its end

at_end : (index : ℕ) (found : Contents) → index ≡ length (noted_in found)
    → Alike found (plain_put_at index) (at_new plain_push)
at_end index found is entry =
    ap (λ b. if b then at_new plain_push entry found else at_old (plain_set index) entry found)
    (eq-eqb index (length (noted_in found)) is)

apart_is : (a b : ℕ) → a ≢ b → nat_eq a b ≡ false
apart_is a b other = elim (eqb_tells a b) [
  | inl same ↦ absurd (other same.1)
  | inr apart ↦ apart.0
]

within : (index : ℕ) (found : Contents) → index ≢ length (noted_in found)
    → Alike found (plain_put_at index) (at_old (plain_set index))
within index found other entry =
    ap (λ b. if b then at_new plain_push entry found else at_old (plain_set index) entry found)
    (apart_is index (length (noted_in found)) other)

module _ {A : Type 0} where
  -- the same, told by the block's length
  long_as_found : (found : Contents) (block : Payload A) → found ≡ contents_of block
      → length (noted_in found) ≡ length (entries_of block)
  long_as_found found block is =
      ap (λ f. length (noted_in f)) is ∙ ap length (noted_shown block) ∙ sym (cells_long (noted_of block))

  pub put_at_end : (index : ℕ) (found : Contents) (block : Payload A) → found ≡ contents_of block
      → index ≡ length (entries_of block) → Alike found (plain_put_at index) (at_new (plain_row_put kinds.«List»))
  put_at_end index found block is same = at_end index found (same ∙ sym (long_as_found found block is))

  pub put_within : (index : ℕ) (found : Contents) (block : Payload A) → found ≡ contents_of block
      → index ≢ length (entries_of block) → Alike found (plain_put_at index) (at_old (plain_set index))
  put_within index found block is other = within index found (λ same. other (same ∙ long_as_found found block is))
