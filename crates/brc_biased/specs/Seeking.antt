-- A search for a free cell: the free words are looked at from one on, to the last and then from the first, and of each
-- the bits that were found are tried, lowest first, until the thread has a cell. A search that begins with the first
-- word takes the lowest. That is this heap's own choice, and it holds in the sense of notes: of each mortal cell to
-- which the search came before the one claimed the thread has found that it wasn't free.
use Rattle.std.specs.Prelude.{◌≡◌, ◌≤◌, ◌<◌, ◌==◌, ◌&&◌, ◌||◌, ◌*◌, ◌/◌, ◌%◌, ◌⊎◌, ℕ, Bool, true, false, List, [], ◌∷◌}
use Rattle.std.specs.Prelude.{◌++◌}
use Rattle.std.specs.Int.{bit_at}
use Rattle.brc_words.specs.declared.limits.TheConstants.{FIRST_MORTAL}
use Rattle.brc_table.specs.law.declared.world.event.Step.TheVariants.{Claim}
use Rattle.brc_table.specs.law.declared.known.word.Word.{Word}
use Rattle.brc_table.specs.law.declared.known.word.Word.TheVariants.{FreeWord}
use Rattle.brc_table.specs.law.declared.rule.told.Moved.TheVariants.{Nothing}
use Rattle.brc_table.specs.law.declared.rule.told.LogItem.{LogItem}
use Rattle.brc_table.specs.law.declared.rule.told.LogItem.TheVariants.{Stepped, Loaded, Lost}

-- the cell's free word, with the cell's bit 0
abbrev pub lacks_cell : ℕ → Word → ℕ → Bool
lacks_cell c (FreeWord k) number = (k == c / 64) && (bit_at number (c % 64) == 0)
lacks_cell c _ number = false

-- a note that the cell wasn't free: its free word was looked at, or it was tried, and its bit was 0
abbrev pub tells_taken : ℕ → LogItem → Bool
tells_taken c (Loaded word number) = lacks_cell c word number
tells_taken c (Lost word number) = lacks_cell c word number
tells_taken c (Stepped s number moved) = false

abbrev pub is_free_word : Word → Bool
is_free_word (FreeWord k) = true
is_free_word _ = false

-- a note of a free word
abbrev pub is_free_look : LogItem → Bool
is_free_look (Loaded word number) = is_free_word word
is_free_look (Lost word number) = is_free_word word
is_free_look (Stepped s number moved) = false

abbrev pub are_free_looks : List LogItem → Bool
are_free_looks [] = true
are_free_looks (x ∷ looks) = is_free_look x && are_free_looks looks

-- one of the notes tells that the cell wasn't free
abbrev pub have_told_taken : ℕ → List LogItem → Bool
have_told_taken c [] = false
have_told_taken c (x ∷ looks) = tells_taken c x || have_told_taken c looks

-- The thread has only looked at free words since, and of each mortal cell from the first on, up to but not with this
-- one, it has a note that it wasn't free.
pub record PassesFrom (first : ℕ) (before : List LogItem) (c : ℕ) (log : List LogItem) : Type 0 where
  pub looks : List LogItem
  pub above : log ≡ looks ++ before
  pub only : are_free_looks looks ≡ true
  pub taken : (d : ℕ) → FIRST_MORTAL ≤ d → first ≤ d → d < c → have_told_taken d looks ≡ true

-- of each mortal cell below this one
abbrev pub PassesOver : List LogItem → ℕ → List LogItem → Type 0
PassesOver = PassesFrom FIRST_MORTAL

-- the cell's bit was there, and so the cell is claimed; those from the first on were passed over
pub record ClaimsFrom (first c : ℕ) (before log : List LogItem) : Type 0 where
  pub mid : List LogItem
  pub number : ℕ
  pub passed : PassesFrom first before c mid
  pub told : log ≡ Stepped (Claim c) number Nothing ∷ mid
  pub was_free : bit_at number (c % 64) ≡ 1

-- the cell is the first that was to be had
abbrev pub ClaimsFirst : ℕ → List LogItem → List LogItem → Type 0
ClaimsFirst = ClaimsFrom FIRST_MORTAL

-- Cell d is one to which a search from cell s on comes before cell c, in a heap of n cells: where c stands at s or past
-- it, those from s on; else those from s to the end, and then those below c.
abbrev pub IsBetween : ℕ → ℕ → ℕ → ℕ → Type 0
IsBetween n s d c = ((s ≤ d) × (d < c)) ⊎ ((c < s) × (((s ≤ d) × (d < n)) ⊎ (d < c)))

-- The thread has only looked at free words since, and of each mortal cell to which a search from this word on comes
-- before cell c it has a note that it wasn't free.
pub record PassesAround (n start c : ℕ) (before log : List LogItem) : Type 0 where
  pub looks : List LogItem
  pub above : log ≡ looks ++ before
  pub only : are_free_looks looks ≡ true
  pub taken : (d : ℕ) → FIRST_MORTAL ≤ d → IsBetween n (start * 64) d c → have_told_taken d looks ≡ true

-- the cell's bit was there, and so the cell is claimed; those before it, from this word on, were passed over
pub record ClaimsAround (n start c : ℕ) (before log : List LogItem) : Type 0 where
  pub mid : List LogItem
  pub number : ℕ
  pub passed : PassesAround n start c before mid
  pub told : log ≡ Stepped (Claim c) number Nothing ∷ mid
  pub was_free : bit_at number (c % 64) ≡ 1

-- one try: the cell is claimed
pub record ClaimsCell (c : ℕ) (before log : List LogItem) : Type 0 where
  pub number : ℕ
  pub told : log ≡ Stepped (Claim c) number Nothing ∷ before
  pub was_free : bit_at number (c % 64) ≡ 1

-- or its bit was taken before
pub record Misses (c : ℕ) (before log : List LogItem) : Type 0 where
  pub number : ℕ
  pub told : log ≡ Lost (FreeWord (c / 64)) number ∷ before
  pub taken : bit_at number (c % 64) ≡ 0
