-- Each operand is read as it was written, and only so.
use Rattle.std.proofs.Common.{◌≡◌, ℕ, ◌/◌, ◌^◌, ◌<◌, Bool, true, ◌&&◌, if◌then◌else◌, List, [], ◌∷◌, ◌++◌, Option, Some}
use Rattle.std.proofs.Common.{None, refl, sym, ap, subst, ◌∙◌, arith, leb}
use Rattle.std.specs.List.{AllByRecursion}
use Rattle.std.proofs.lemmas.Option.{cond_some}
use Rattle.std.proofs.lemmas.Bool.{and_parts, and_from, leb-true, ltb-true}
use Rattle.brc_words.specs.declared.kind.Kind.{Kind}
use Rattle.brc_words.specs.declared.kind.Kind.TheVariants as kinds
use Rattle.brc_words.specs.Kinds.{is_mortal}
use Rattle.brc_words.specs.declared.limits.TheConstants.{MOST_THREADS, MOST_CELLS, MOST_ENTRIES}
use Rattle.law.specs.declared.world.event.Source.{Source}
use Rattle.law.specs.declared.world.event.Source.TheVariants as sources
use Rattle.law.specs.declared.world.event.Dropped.{Dropped}
use Rattle.law.specs.declared.world.event.Dropped.TheVariants as drops
use Rattle.law.specs.declared.world.event.LastDropped.{LastDropped}
use Rattle.law.specs.declared.world.event.LastDropped.TheVariants as lasts
use Rattle.law.specs.declared.world.event.Change.{Change}
use Rattle.law.specs.declared.world.event.Change.TheVariants as changes
use Rattle.brc_text.specs.declared.keyword.Keyword.{Keyword}
use Rattle.brc_text.specs.declared.keyword.Keyword.TheVariants as words
use Rattle.brc_text.specs.declared.token.Letter.TheVariants as letters
use Rattle.brc_text.specs.declared.token.Token.{Token}
use Rattle.brc_text.specs.declared.token.Token.TheVariants as tokens
use Rattle.brc_text.specs.Tokens.{◌>>=◌, IsRead}
use Rattle.brc_text.proofs.KeywordLaws.{same_some}
use Rattle.brc_text.proofs.TokenLaws.{some_bind}
use Rattle.brc_trace.specs.Operands.{kind_word, kind_token, source_token, dropped_token, last_token, change_words}
use Rattle.brc_trace.specs.Operands.{is_thread, is_cell, is_place, is_entry, is_queue_word, fits_source, fits_dropped}
use Rattle.brc_trace.specs.Operands.{fits_last, fits_change, number_at, kind_named, kind_at, source_at, dropped_at}
use Rattle.brc_trace.specs.Operands.{last_at, is_bare, only, both, one_of, two_of, change_named, change_at}

-- what is in its range is written in one way, is read again from that, and from nothing else
pub record Form {A : Type 0} (write : A → Token) (fits : A → Bool) (read : Token → Option A) : Type 0 where
  pub again : (x : A) → fits x ≡ true → read (write x) ≡ Some x
  pub takes : (a : Token) (x : A) → read a ≡ Some x → (fits x ≡ true) × (write x ≡ a)
  pub small : (x : A) → fits x ≡ true → IsRead (write x)

-- the value was read where its test holds
tested : {A : Type 0} (write : A → Token) (fits : A → Bool) (b : Bool) (y x : A) → fits y ≡ b
    → (if b then Some y else None) ≡ Some x
    → (fits x ≡ true) × (write x ≡ write y)
tested write fits b y x test e =
    let parts = cond_some b y x e in
    subst (λ z. (fits z ≡ true) × (write z ≡ write y)) parts.1 (test ∙ parts.0, refl)

-- ---- numbers

number_takes : (fits : ℕ → Bool) (a : Token) (n : ℕ) → number_at fits a ≡ Some n
    → (fits n ≡ true) × (tokens.Number n ≡ a)
number_takes fits (tokens.Number m) n e = tested tokens.Number fits (fits m) m n refl e
number_takes fits _ n e = absurd cc

numbers : (fits : ℕ → Bool) → ((n : ℕ) → fits n ≡ true → n < 2 ^ 64) → Form tokens.Number fits (number_at fits)
numbers fits small = record {
  again = λ n h. rw h refl;
  takes = number_takes fits;
  small = small;
}

pub threads : Form tokens.Number is_thread (number_at is_thread)
threads = numbers is_thread
    (λ t h. omega (arith, leb-true t MOST_THREADS (and_parts (leb 1 t) (leb t MOST_THREADS) h).1))

cell_small : (c : ℕ) → is_cell c ≡ true → c < 2 ^ 64
cell_small c h = omega (arith, ltb-true c MOST_CELLS h)

entry_small : (i : ℕ) → is_entry i ≡ true → i < 2 ^ 64
entry_small i h = omega (arith, ltb-true i MOST_ENTRIES h)

pub cells : Form tokens.Number is_cell (number_at is_cell)
cells = numbers is_cell cell_small

pub places : Form tokens.Number is_place (number_at is_place)
places = numbers is_place cell_small

pub entries : Form tokens.Number is_entry (number_at is_entry)
entries = numbers is_entry entry_small

pub queue_words : Form tokens.Number is_queue_word (number_at is_queue_word)
queue_words = numbers is_queue_word (λ k h. omega (arith, ltb-true k (MOST_CELLS / 32) h))

-- ---- kinds

kind_again : (k : Kind) → is_mortal k ≡ true → kind_at (kind_token k) ≡ Some k
kind_again kinds.Int h = refl
kind_again kinds.Text h = refl
kind_again kinds.List h = refl
kind_again kinds.Dict h = refl
kind_again kinds.Mailbox h = refl
kind_again kinds.Nothing h = absurd cc
kind_again kinds.False h = absurd cc
kind_again kinds.True h = absurd cc

named : (w : Keyword) (y k : Kind) → is_mortal y ≡ true → kind_word y ≡ w → Some y ≡ Some k
    → (is_mortal k ≡ true) × (kind_token k ≡ tokens.Word w)
named w y k mortal word e = subst (λ z. (is_mortal z ≡ true) × (kind_token z ≡ tokens.Word w)) (same_some e)
    (mortal, ap tokens.Word word)

named_takes : (w : Keyword) (k : Kind) → kind_named w ≡ Some k → (is_mortal k ≡ true) × (kind_token k ≡ tokens.Word w)
named_takes words.Int k e = named words.Int kinds.Int k refl refl e
named_takes words.Text k e = named words.Text kinds.Text k refl refl e
named_takes words.List k e = named words.List kinds.List k refl refl e
named_takes words.Dict k e = named words.Dict kinds.Dict k refl refl e
named_takes words.Mailbox k e = named words.Mailbox kinds.Mailbox k refl refl e
named_takes _ k e = absurd cc

kind_takes : (a : Token) (k : Kind) → kind_at a ≡ Some k → (is_mortal k ≡ true) × (kind_token k ≡ a)
kind_takes (tokens.Word w) k e = named_takes w k e
kind_takes _ k e = absurd cc

pub mortal_kinds : Form kind_token is_mortal kind_at
mortal_kinds = record { again = kind_again; takes = kind_takes; small = λ k h. tt }

-- ---- sources and drops

source_again : (s : Source) → fits_source s ≡ true → source_at (source_token s) ≡ Some s
source_again (sources.Frame k) h = rw h refl
source_again (sources.Entry i) h = rw h refl
source_again (sources.Immortal c) h = rw h refl

source_takes : (a : Token) (s : Source) → source_at a ≡ Some s → (fits_source s ≡ true) × (source_token s ≡ a)
source_takes (tokens.Place letters.Frame k) s e = tested source_token fits_source (is_place k)
    (sources.Frame k) s refl e
source_takes (tokens.Place letters.Entry i) s e = tested source_token fits_source (is_entry i)
    (sources.Entry i) s refl e
source_takes (tokens.Place letters.Immortal c) s e = tested source_token fits_source (is_cell c)
    (sources.Immortal c) s refl e
source_takes _ s e = absurd cc

source_small : (s : Source) → fits_source s ≡ true → IsRead (source_token s)
source_small (sources.Frame k) h = cell_small k h
source_small (sources.Entry i) h = entry_small i h
source_small (sources.Immortal c) h = cell_small c h

pub all_sources : Form source_token fits_source source_at
all_sources = record { again = source_again; takes = source_takes; small = source_small }

dropped_again : (d : Dropped) → fits_dropped d ≡ true → dropped_at (dropped_token d) ≡ Some d
dropped_again (drops.Frame k) h = rw h refl
dropped_again (drops.Work c) h = rw h refl

dropped_takes : (a : Token) (d : Dropped) → dropped_at a ≡ Some d → (fits_dropped d ≡ true) × (dropped_token d ≡ a)
dropped_takes (tokens.Place letters.Frame k) d e = tested dropped_token fits_dropped (is_place k)
    (drops.Frame k) d refl e
dropped_takes (tokens.Place letters.Work c) d e = tested dropped_token fits_dropped (is_cell c) (drops.Work c) d refl e
dropped_takes _ d e = absurd cc

dropped_small : (d : Dropped) → fits_dropped d ≡ true → IsRead (dropped_token d)
dropped_small (drops.Frame k) h = cell_small k h
dropped_small (drops.Work c) h = cell_small c h

pub all_drops : Form dropped_token fits_dropped dropped_at
all_drops = record { again = dropped_again; takes = dropped_takes; small = dropped_small }

last_again : (d : LastDropped) → fits_last d ≡ true → last_at (last_token d) ≡ Some d
last_again (lasts.Dropped (drops.Frame k)) h = rw h refl
last_again (lasts.Dropped (drops.Work c)) h = rw h refl
last_again (lasts.Popped c) h = rw h refl
last_again lasts.Hand h = refl

last_takes : (a : Token) (d : LastDropped) → last_at a ≡ Some d → (fits_last d ≡ true) × (last_token d ≡ a)
last_takes (tokens.Place letters.Frame k) d e = tested last_token fits_last (is_place k)
    (lasts.Dropped (drops.Frame k)) d refl e
last_takes (tokens.Place letters.Work c) d e = tested last_token fits_last (is_cell c)
    (lasts.Dropped (drops.Work c)) d refl e
last_takes (tokens.Place letters.Popped c) d e = tested last_token fits_last (is_cell c) (lasts.Popped c) d refl e
last_takes (tokens.Word words.InHand) d e = tested last_token fits_last true lasts.Hand d refl e
last_takes _ d e = absurd cc

last_small : (d : LastDropped) → fits_last d ≡ true → IsRead (last_token d)
last_small (lasts.Dropped dropped) h = dropped_small dropped h
last_small (lasts.Popped c) h = cell_small c h
last_small lasts.Hand h = tt

pub all_lasts : Form last_token fits_last last_at
all_lasts = record { again = last_again; takes = last_takes; small = last_small }

-- ---- operands in a row

bare_takes : (ops : List Token) → is_bare ops ≡ true → [] ≡ ops
unfolding is_bare
bare_takes [] e = refl
bare_takes (a ∷ ops) e = absurd cc

only_again : (a : Token) → only (a ∷ []) ≡ Some a
unfolding only
only_again a = refl

only_takes : (ops : List Token) (a : Token) → only ops ≡ Some a → (a ∷ []) ≡ ops
unfolding only
only_takes (b ∷ []) a e = ap (λ (c : Token). c ∷ []) (sym (same_some e))
only_takes _ a e = absurd cc

both_again : (a b : Token) → both (a ∷ b ∷ []) ≡ Some (a, b)
unfolding both
both_again a b = refl

both_takes : (ops : List Token) (them : Token × Token) → both ops ≡ Some them → (them.0 ∷ them.1 ∷ []) ≡ ops
unfolding both
both_takes (a ∷ b ∷ []) them e = ap (λ (p : Token × Token). p.0 ∷ p.1 ∷ []) (sym (same_some e))
both_takes _ them e = absurd cc

-- what a row of words is read as is in its range, and is written as these words
pub record Spells {S : Type 0} (write : S → List Token) (fits : S → Bool) (ops : List Token) (s : S) : Type 0 where
  pub fit : fits s ≡ true
  pub are : write s ≡ ops

-- no operand
pub bare_spells : {S : Type 0} (write : S → List Token) (fits : S → Bool) (w : Token) (ops : List Token) (y s : S)
    → fits y ≡ true → write y ≡ w ∷ []
    → (if is_bare ops then Some y else None) ≡ Some s → Spells write fits (w ∷ ops) s
bare_spells write fits w ops y s fit are e =
    let parts = cond_some (is_bare ops) y s e in
    subst (Spells write fits (w ∷ ops)) parts.1
    (record { fit = fit; are = are ∙ ap (λ (l : List Token). w ∷ l) (bare_takes ops parts.0) })

pub one_again : {A : Type 0} {write : A → Token} {fits : A → Bool} {read : Token → Option A} → Form write fits read
    → (x : A) → fits x ≡ true → one_of read (write x ∷ []) ≡ Some x
one_again {write = write} form x h = rw (only_again (write x)) (form.again x h)

pub one_takes : {A : Type 0} {write : A → Token} {fits : A → Bool} {read : Token → Option A} → Form write fits read
    → (ops : List Token) (x : A) → one_of read ops ≡ Some x → Spells (λ y. write y ∷ []) fits ops x
one_takes {read = read} form ops x e =
    let a = some_bind (only ops) read x e in
    let is = form.takes a.0 x a.2 in
    record { fit = is.0; are = ap (λ (b : Token). b ∷ []) is.1 ∙ only_takes ops a.0 a.1 }

pub two_again : {A B : Type 0} {write_a : A → Token} {fits_a : A → Bool} {read_a : Token → Option A} {write_b : B
    → Token} {fits_b : B → Bool} {read_b : Token → Option B}
    → Form write_a fits_a read_a → Form write_b fits_b read_b → (x : A) (y : B) → (fits_a x && fits_b y) ≡ true
    → two_of read_a read_b (write_a x ∷ write_b y ∷ []) ≡ Some (x, y)
two_again {write_a = write_a} {write_b = write_b} first second x y h =
    let parts = and_parts _ _ h in
    rw (both_again (write_a x) (write_b y), first.again x parts.0, second.again y parts.1) refl

pair_takes : {A B : Type 0} {write_a : A → Token} {fits_a : A → Bool} {read_a : Token → Option A} {write_b : B → Token}
    {fits_b : B → Bool} {read_b : Token → Option B}
    → Form write_a fits_a read_a → Form write_b fits_b read_b → (a b : Token) (them : A × B)
    → (read_a a >>= λ x. read_b b >>= λ y. Some (x, y)) ≡ Some them
    → Spells (λ (p : A × B). write_a p.0 ∷ write_b p.1 ∷ []) (λ (p : A × B). fits_a p.0 && fits_b p.1) (a ∷ b ∷ []) them
pair_takes {A = A} {B = B} {write_a = write_a} {fits_a = fits_a} {read_a = read_a} {write_b = write_b} {fits_b = fits_b}
    {read_b = read_b} first second a b them e =
    by_parts (read_a a) (read_b b) refl refl e
  where
    Them : A × B → Type 0
    Them = Spells (λ (p : A × B). write_a p.0 ∷ write_b p.1 ∷ []) (λ (p : A × B). fits_a p.0 && fits_b p.1) (a ∷ b ∷ [])

    by_parts : (m : Option A) (n : Option B) → read_a a ≡ m → read_b b ≡ n
        → (m >>= λ x. n >>= λ y. Some (x, y)) ≡ Some them → Them them
    by_parts None n p q e = absurd cc
    by_parts (Some x) None p q e = absurd cc
    by_parts (Some x) (Some y) p q e =
        let is_x = first.takes a x p in
        let is_y = second.takes b y q in
        subst Them (same_some e) (record {
          fit = and_from (fits_a x) (fits_b y) is_x.0 is_y.0;
          are = ap (λ (c : Token). c ∷ write_b y ∷ []) is_x.1 ∙ ap (λ (c : Token). a ∷ c ∷ []) is_y.1;
        })

pub two_takes : {A B : Type 0} {write_a : A → Token} {fits_a : A → Bool} {read_a : Token → Option A} {write_b : B
    → Token} {fits_b : B → Bool} {read_b : Token → Option B}
    → Form write_a fits_a read_a → Form write_b fits_b read_b → (ops : List Token) (them : A × B)
    → two_of read_a read_b ops ≡ Some them
    → Spells (λ (p : A × B). write_a p.0 ∷ write_b p.1 ∷ []) (λ (p : A × B). fits_a p.0 && fits_b p.1) ops them
two_takes {A = A} {B = B} {write_a = write_a} {fits_a = fits_a} {read_a = read_a} {write_b = write_b} {fits_b = fits_b}
    {read_b = read_b} first second ops them e =
    by_words (both ops) refl e
  where
    By : List Token → Type 0
    By words = Spells (λ (p : A × B). write_a p.0 ∷ write_b p.1 ∷ []) (λ (p : A × B). fits_a p.0 && fits_b p.1)
        words them

    by_words : (words : Option (Token × Token)) → both ops ≡ words
        → (words >>= λ (p : Token × Token). read_a p.0 >>= λ x. read_b p.1 >>= λ y. Some (x, y)) ≡ Some them
        → By ops
    by_words None is e = absurd cc
    by_words (Some p) is e = subst By (both_takes ops p is) (pair_takes first second p.0 p.1 them e)

-- what is made of a row that was read
pub made_spells : {A S : Type 0} (write : A → List Token) (fits : A → Bool) (read : List Token → Option A)
    (make : A → S) (write_s : S → List Token) (fits_s : S → Bool) (front : List Token) (ops : List Token) (s : S)
    → ((x : A) → read ops ≡ Some x → Spells write fits ops x) → ((x : A) → fits_s (make x) ≡ fits x)
    → ((x : A) → write_s (make x) ≡ front ++ write x)
    → (read ops >>= λ x. Some (make x)) ≡ Some s → Spells write_s fits_s (front ++ ops) s
made_spells write fits read make write_s fits_s front ops s takes same_fits same_words e =
    let x = some_bind (read ops) (λ x. Some (make x)) s e in
    let spells = takes x.0 x.1 in
    subst (Spells write_s fits_s (front ++ ops)) (same_some x.2) (record {
      fit = same_fits x.0 ∙ spells.fit;
      are = same_words x.0 ∙ ap (λ l. front ++ l) spells.are;
    })

-- ---- the change of an unlock

pub change_again : (change : Change) → fits_change change ≡ true → change_at (change_words change) ≡ Some change
unfolding change_at is_bare
change_again changes.Keep h = refl
change_again (changes.Put j) h = rw (one_again places j h) refl
change_again (changes.Take i j) h = rw (two_again entries places i j h) refl
change_again (changes.Swap i j) h = rw (two_again entries places i j h) refl

change_spells : (w : Keyword) (ops : List Token) (change : Change) → change_named w ops ≡ Some change
    → Spells change_words fits_change (tokens.Word w ∷ ops) change
change_spells words.Keep ops change e = bare_spells change_words fits_change (tokens.Word words.Keep) ops changes.Keep
    change refl refl e
change_spells words.Put ops change e =
    made_spells _ _ (one_of (number_at is_place)) changes.Put change_words fits_change (tokens.Word words.Put ∷ [])
    ops change
    (one_takes places ops) (λ j. refl) (λ j. refl) e
change_spells words.Take ops change e =
    made_spells _ _ (two_of (number_at is_entry) (number_at is_place)) (λ at. changes.Take at.0 at.1) change_words
    fits_change (tokens.Word words.Take ∷ []) ops change
    (two_takes entries places ops) (λ at. refl) (λ at. refl) e
change_spells words.Swap ops change e =
    made_spells _ _ (two_of (number_at is_entry) (number_at is_place)) (λ at. changes.Swap at.0 at.1) change_words
    fits_change (tokens.Word words.Swap ∷ []) ops change
    (two_takes entries places ops) (λ at. refl) (λ at. refl) e
change_spells _ ops change e = absurd cc

pub change_takes : (ops : List Token) (change : Change) → change_at ops ≡ Some change
    → Spells change_words fits_change ops change
unfolding change_at
change_takes (tokens.Word w ∷ ops) change e = change_spells w ops change e
change_takes _ change e = absurd cc

pub change_read : (change : Change) → fits_change change ≡ true → AllByRecursion IsRead (change_words change)
change_read changes.Keep h = (tt, tt)
change_read (changes.Put j) h = (tt, (places.small j h, tt))
change_read (changes.Take i j) h = let parts = and_parts (is_entry i) (is_place j) h in
    (tt, (entries.small i parts.0, (places.small j parts.1, tt)))
change_read (changes.Swap i j) h = let parts = and_parts (is_entry i) (is_place j) h in
    (tt, (entries.small i parts.0, (places.small j parts.1, tt)))
