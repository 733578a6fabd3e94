-- The life of a cell's block: Claim, InitLocal, InitShared and Birth make an object, and Free gives its cell back.
use Rattle.std.proofs.Common.{◌≡◌, ◌≢◌, ℕ, ◌+◌, ◌-◌, ◌*◌, ◌/◌, ◌%◌, ◌<◌, ◌≤◌, ◌^◌, ◌==◌, nat_le, ◌&&◌, Bool, true}
use Rattle.std.proofs.Common.{false, if◌then◌else◌, pos, List, [], ◌∷◌, length, set, get_or, Option, Some, None, refl}
use Rattle.std.proofs.Common.{sym, ◌∙◌, ap, subst, inl, inr, arith}
use Rattle.std.specs.Prelude.{bit_and, bit_or}
use Rattle.std.specs.Int.{bit_at}
use Rattle.std.proofs.lemmas.Bool.{cases_Bool, cases_eq, eq-eqb, ne_eqb, le-leb, lt-ltb, and_parts, true≢false}
use Rattle.std.proofs.lemmas.List.{length-set}
use Rattle.std.specs.Cmp.Derive.{both_true}
use mathlib.Core.Option.{some, none}
use lib.ListN.{get_elem?}
use Rattle.atomic_table.specs.Table.{State as Table, Allows, keeps, takes, gives}
use Rattle.atomic_table.proofs.Lists.{set_here}
use Rattle.brc_words.specs.declared.kind.Kind.{Kind}
use Rattle.brc_words.specs.declared.owner.Owner.TheVariants as owners
use Rattle.law.specs.declared.world.cell.Cell.{Cell}
use Rattle.law.specs.declared.world.event.Step.{Step}
use Rattle.law.specs.declared.world.event.Step.TheVariants.{Claim, InitLocal, InitShared, Birth, Free}
use Rattle.law.specs.declared.world.row.Hand.TheVariants as hands
use Rattle.law.specs.declared.world.row.Phase.TheVariants as phases
use Rattle.law.specs.world.Lists.{is_marked, one}
use Rattle.law.specs.world.Heap.{Heap, cell_at, row_at, worklist_at}
use Rattle.law.specs.world.Holding.{lives}
use Rattle.law.specs.world.Sound.{IsSound}
use Rattle.law.specs.world.Steps.{cell_after, is_free, stepped}
use Rattle.law.proofs.world.Naming.{busy_hand, free_owner}
use Rattle.law.proofs.world.Reached.{reached_sound}
use Rattle.law.proofs.lasting.Progress.{inside}
use Rattle.law.proofs.lasting.Telling.{hand_tells}
use Rattle.law.specs.declared.known.word.Field.TheVariants.{Owner as OwnerWord, Local, Shared}
use Rattle.law.specs.declared.known.word.Word.{Word}
use Rattle.law.specs.declared.known.word.Word.TheVariants.{Of, FreeWord}
use Rattle.law.specs.known.Free_Words.{is_free_cell, ShowsOwner}
use Rattle.law.specs.known.Items.{shared_word, IsWord, WordShows}
use Rattle.law.specs.known.Taken.{listed_at}
use Rattle.law.proofs.known.Free_Law.{told_true, told_bit, bit_taken, bit_given, cell_of_bit, bit_of_cell}
use Rattle.law.proofs.known.Words_Law.{cell_free}
use Rattle.law.specs.declared.rule.contents.Contents.{Contents}
use Rattle.law.specs.declared.rule.told.Moved.TheVariants as moves
use Rattle.law.specs.declared.rule.told.LogItem.{LogItem}
use Rattle.law.specs.declared.rule.told.LogItem.TheVariants.{Stepped, Lost}
use Rattle.law.specs.declared.rule.view.View.{View}
use Rattle.law.specs.rule.Layout.{spot}
use Rattle.law.specs.rule.Logs.{Run, world, contents_at}
use Rattle.law.specs.rule.Rule.{with_told, Kept}
use Rattle.law.specs.rule.Seen.{taken_seen}
use Rattle.law.specs.steps.Owing.{MayCarry, MayClaimCell, MayBear}
use Rattle.law.specs.steps.Taking.{Claimed}
use Rattle.law.proofs.rule.Homing.{home_out}
use Rattle.law.proofs.rule.Keys_Law.{bare_keys}
use Rattle.law.proofs.rule.Knowing.{Known, knows, is_enabled, hand_there}
use Rattle.law.proofs.steps.Local_Steps.{fits_cell, read_cell}
use Rattle.law.proofs.rule.Looking.{lost, unmoved}
use Rattle.law.proofs.steps.Plain_Steps.{IsPlain, plain_on, same_owner, stays_on, plain_step, quiet_step}
use Rattle.law.proofs.steps.Block_Steps.{block_moved}
use Rattle.law.proofs.steps.Taking_Steps.{unlisted_seen}

-- a cell that a thread is making an object in
making_low : (h : Heap) (t c : ℕ) → (cell_at h c).owner ≡ owners.Claimed t → c < length h.cells
making_low h t c is = inside h c (λ free. claimed_free (sym is ∙ free))
  where
    claimed_free : owners.Claimed t ≡ owners.Free → ⊥
    claimed_free bad = absurd (cc)

-- a cell's free word is one of the table's
free_inside : (n c : ℕ) → c < n → IsWord n (FreeWord (c / 64))
free_inside n c low = omega (arith, low)

-- a cell whose bit is 1 is free
bit_free : (h : Heap) (c there : ℕ) → WordShows h (FreeWord (c / 64)) there → bit_at there (c % 64) ≡ 1
    → (cell_at h c).owner ≡ owners.Free
bit_free h c there shows bit =
    let told : is_free_cell h (c / 64 * 64 + c % 64) ≡ true = told_true (λ i. is_free_cell h (c / 64 * 64 + i)) 64
    (c % 64) (omega arith) (ap (λ m. bit_at m (c % 64)) (sym shows) ∙ bit) in
    free_owner _ (and_parts _ _ (sym (ap (is_free_cell h) (cell_of_bit c)) ∙ told)).1

-- the bits of other cells stay
other_bits : (h : Heap) (t : ℕ) (s : Step) (c i : ℕ) → i < 64 → i ≢ c % 64
    → is_free_cell (stepped h t s c) (c / 64 * 64 + i) ≡ is_free_cell h (c / 64 * 64 + i)
other_bits h t s c i low other = cell_free h t s c (c / 64 * 64 + i) (λ e. other (bit_of_cell c (c / 64) i low e).1)

-- the free word after a claim, which takes the cell's bit
bit_is_taken : (h : Heap) (t : ℕ) (s : Step) (c there : ℕ) → WordShows h (FreeWord (c / 64)) there
    → is_free (cell_at (stepped h t s c) c).owner ≡ false
    → WordShows (stepped h t s c) (FreeWord (c / 64)) (bit_and there (2 ^ 64 - 1 - 2 ^ (c % 64)))
bit_is_taken h t s c there shows gone =
    ap (λ m. bit_and m (2 ^ 64 - 1 - 2 ^ (c % 64))) shows
    ∙ bit_taken (λ i. is_free_cell h (c / 64 * 64 + i)) (λ i. is_free_cell (stepped h t s c) (c / 64 * 64 + i)) (c % 64)
    (omega arith) (λ i low other. other_bits h t s c i low other)
    (ap (is_free_cell (stepped h t s c)) (cell_of_bit c) ∙ both_false _ _ gone)
  where
    both_false : (a b : Bool) → b ≡ false → (a && b) ≡ false
    both_false true b is = is
    both_false false b is = refl

-- and after a free, which gives it
bit_is_given : (h : Heap) (t : ℕ) (s : Step) (c there : ℕ) → WordShows h (FreeWord (c / 64)) there → c < length h.cells
    → is_free (cell_at (stepped h t s c) c).owner ≡ true
    → WordShows (stepped h t s c) (FreeWord (c / 64)) (bit_or there (2 ^ (c % 64)))
bit_is_given h t s c there shows low given =
    ap (λ m. bit_or m (2 ^ (c % 64))) shows
    ∙ bit_given (λ i. is_free_cell h (c / 64 * 64 + i)) (λ i. is_free_cell (stepped h t s c) (c / 64 * 64 + i)) (c % 64)
    (omega arith) (λ i inside other. other_bits h t s c i inside other)
    (ap (is_free_cell (stepped h t s c)) (cell_of_bit c)
    ∙ both_true (lt-ltb c _ (omega (arith, low, length-set h.cells c (cell_after t s c (cell_at h c))))) given)

-- a claim of a cell that has no bit leaves the word
bit_missed : (h : Heap) (c there : ℕ) → WordShows h (FreeWord (c / 64)) there → bit_at there (c % 64) ≢ 1
    → bit_and there (2 ^ 64 - 1 - 2 ^ (c % 64)) ≡ there
bit_missed h c there shows missing =
    let f : ℕ → Bool = λ i. is_free_cell h (c / 64 * 64 + i) in
    ap (λ m. bit_and m (2 ^ 64 - 1 - 2 ^ (c % 64))) shows
    ∙ bit_taken f f (c % 64) (omega arith) (λ i low other. refl)
    (no_one (f (c % 64)) (λ e. missing (ap (λ m. bit_at m (c % 64)) shows ∙ told_bit f 64 (c % 64) (omega arith) ∙ e)))
    ∙ sym shows
  where
    no_one : (b : Bool) → one b ≢ 1 → b ≡ false
    no_one true bad = absurd (bad refl)
    no_one false bad = refl

-- what is on a worklist lives, so a free cell is on none
free_unmarked : (h : Heap) (u c : ℕ) → IsSound h → (cell_at h c).owner ≡ owners.Free
    → is_marked (worklist_at h u) c ≡ false
free_unmarked h u c sound free = elim (cases_Bool (is_marked (worklist_at h u) c)) [
  | inl on ↦ absurd (true≢false (sym (sound.worklists u c on).lives ∙ ap lives free))
  | inr off ↦ off
]

module _ {B : Type 0} (shows : B → ℕ × Contents) (n limit : ℕ) where
  abbrev Rule : Table (Option B) View → Type 0
  Rule = Kept shows n limit

  -- ---- InitLocal and InitShared

  inits_local : (h : Heap) (t : ℕ) (log : List LogItem) (c : ℕ) → 0 < t → Known n limit h t log
      → MayCarry n log (InitLocal c) c → IsPlain n h t (InitLocal c) (Of Local c) 1 1
  inits_local h t log c some_thread known carries =
      let s : Step = InitLocal c in
      let x : Cell = cell_at h c in
      let busy : (row_at h t).hand ≡ hands.Busy phases.Claimed c = busy_hand phases.Claimed c _
      (hand_there n limit h t log s known carries.own) in
      let low : c < length h.cells = making_low h t c (hand_tells h t c phases.Claimed known.reached busy).1 in
      plain_on n h t s c (Of Local c) 1 1 (record {
        may = is_enabled n limit h t log s some_thread known carries.own refl refl
            (fits_cell n limit h t log s c known refl low refl);
        target = refl;
        word = refl;
        shown = sym (ap (λ (y : Cell). y.local) (read_cell h t s c low));
        told = refl;
        finds_none = refl;
        puts_none = refl;
        takes_none = refl;
        stays = stays_on h t s c low refl refl (same_owner x (cell_after t s c x) refl refl);
      })

  pub sets_local : (id : ℕ) (v : View) (slots : List (ℕ × Option B)) (u : Word) (c : ℕ) → v.active ≡ true
      → 0 < v.thread → MayCarry n v.log (InitLocal c) c
      → Allows Rule n id (v, slots) (spot n u) (λ there. there)
      (λ there me. me ≡ (with_told (Stepped (InitLocal c) 1 moves.Nothing) v, slots))
  sets_local id v slots u c active some_thread carries =
      quiet_step shows n limit id v slots (InitLocal c) (Of Local c) u 1 1 active some_thread (λ none. none)
      (λ h known. inits_local h v.thread v.log c some_thread known carries)

  inits_shared : (h : Heap) (t : ℕ) (log : List LogItem) (c : ℕ) → 0 < t → Known n limit h t log
      → MayCarry n log (InitShared c) c → IsPlain n h t (InitShared c) (Of Shared c) (2 ^ 42) (2 ^ 42)
  inits_shared h t log c some_thread known carries =
      let s : Step = InitShared c in
      let x : Cell = cell_at h c in
      let busy : (row_at h t).hand ≡ hands.Busy phases.Counted c = busy_hand phases.Counted c _
      (hand_there n limit h t log s known carries.own) in
      let low : c < length h.cells = making_low h t c (hand_tells h t c phases.Counted known.reached busy).1.0 in
      plain_on n h t s c (Of Shared c) (2 ^ 42) (2 ^ 42) (record {
        may = is_enabled n limit h t log s some_thread known carries.own refl refl
            (fits_cell n limit h t log s c known refl low refl);
        target = refl;
        word = refl;
        shown = sym (ap (λ (y : Cell). shared_word y.count y.state) (read_cell h t s c low));
        told = refl;
        finds_none = refl;
        puts_none = refl;
        takes_none = refl;
        stays = stays_on h t s c low refl refl (same_owner x (cell_after t s c x) refl refl);
      })

  pub sets_shared : (id : ℕ) (v : View) (slots : List (ℕ × Option B)) (c : ℕ) → v.active ≡ true → 0 < v.thread → c < n
      → MayCarry n v.log (InitShared c) c
      → Allows Rule n id (v, slots) (spot n (Of Shared c)) (λ there. 2 ^ 42)
      (λ there me. me ≡ (with_told (Stepped (InitShared c) (2 ^ 42) moves.Nothing) v, slots))
  sets_shared id v slots c active some_thread low carries =
      plain_step shows n limit id v slots (InitShared c) (Of Shared c) (λ there. 2 ^ 42) (λ there. 2 ^ 42) active
      some_thread low
      (λ h there known shown small. inits_shared h v.thread v.log c some_thread known carries)

  -- ---- Claim

  found_free : (st : Table (Option B) View) (r : Rule st) (c : ℕ) → c < n
      → bit_at (get_or st.words (spot n (FreeWord (c / 64))) 0) (c % 64) ≡ 1
      → (cell_at (world n limit r.run) c).owner ≡ owners.Free
  found_free st r c low found =
      bit_free (world n limit r.run) c (get_or st.words (spot n (FreeWord (c / 64))) 0)
      (r.each_word (FreeWord (c / 64)) (free_inside n c low)) found

  -- it is none of the dead blocks that the log tells
  found_fresh : (st : Table (Option B) View) (r : Rule st) (id : ℕ) (v : View) (c : ℕ) → get_elem? st.views id ≡ some v
      → v.active ≡ true → 0 < v.thread → c < n
      → bit_at (get_or st.words (spot n (FreeWord (c / 64))) 0) (c % 64) ≡ 1 → listed_at (taken_seen n v.log) c ≡ None
  found_fresh st r id v c at active some_thread low found =
      let h : Heap = world n limit r.run in
      let known : Known n limit h v.thread v.log = knows shows n limit st r id v at active some_thread in
      unlisted_seen n limit h v.thread v.log c known some_thread
      (free_unmarked h v.thread c (reached_sound h known.reached) (found_free st r c low found))

  claiming : (st : Table (Option B) View) (r : Rule st) (id : ℕ) (v : View) (c there : ℕ)
      → get_elem? st.views id ≡ some v → v.active ≡ true → 0 < v.thread → c < n → MayClaimCell n v.log c
      → get_or st.words (spot n (FreeWord (c / 64))) 0 ≡ there → bit_at there (c % 64) ≡ 1
      → (get_elem? st.homes c ≡ some (some None))
      × Rule (record {
        words = set st.words (spot n (FreeWord (c / 64))) (bit_and there (2 ^ 64 - 1 - 2 ^ (c % 64)));
        homes = set st.homes c none;
        views = set st.views id (with_told (Stepped (Claim c) there moves.Nothing) v);
      })
  claiming st r id v c there at active some_thread low claims is found =
      let t : ℕ = v.thread in
      let s : Step = Claim c in
      let h : Heap = world n limit r.run in
      let x : Cell = cell_at h c in
      let known : Known n limit h t v.log = knows shows n limit st r id v at active some_thread in
      let inside_is : c < length h.cells = omega (arith, known.cells, low) in
      let shows_word : WordShows h (FreeWord (c / 64)) there = sym is
      ∙ r.each_word (FreeWord (c / 64)) (free_inside n c low) in
      let free : x.owner ≡ owners.Free = bit_free h c there shows_word found in
      let now : (cell_at (stepped h t s c) c).owner ≡ owners.Claimed t = ap (λ (y : Cell). y.owner)
      (read_cell h t s c inside_is) in (
        (r.each_home c low).bare free,
        block_moved shows n limit st r id v s c (FreeWord (c / 64)) (bit_and there (2 ^ 64 - 1 - 2 ^ (c % 64))) there
            moves.Nothing none at active (free_inside n c low)
            (record {
              some_thread = some_thread;
              may = is_enabled n limit h t v.log s some_thread known claims.own refl refl
                  (fits_cell n limit h t v.log s c known refl inside_is
                  (both_true (le-leb _ _ claims.mortal) (ap is_free free)));
              target = refl;
              low = inside_is;
              word = refl;
              shown = bit_is_taken h t s c there shows_word (ap is_free now);
              told = shows_word;
              entries = refl;
              moves = (refl, refl);
              elsewhere = λ d other. refl;
            })
            (home_out shows (set st.homes c none) (stepped h t s c) ((t, Stepped s there moves.Nothing) ∷ r.run) c
            (λ bad. claimed_free t (sym now ∙ bad)) (λ live unlocked off. true≢false (sym live ∙ ap lives now))),
      )
    where
      claimed_free : (t : ℕ) → owners.Claimed t ≡ owners.Free → ⊥
      claimed_free t bad = absurd (cc)

  pub claims_cell : (id : ℕ) (v : View) (slots : List (ℕ × Option B)) (c : ℕ) → v.active ≡ true → 0 < v.thread → c < n
      → MayClaimCell n v.log c
      → Allows Rule n id (v, slots) (spot n (FreeWord (c / 64))) (λ there. bit_and there (2 ^ 64 - 1 - 2 ^ (c % 64)))
      (λ there me. Claimed n v slots c there (bit_at there (c % 64) == 1) me)
  claims_cell id v slots c active some_thread low claims st r deep at small =
      let w = FreeWord (c / 64) in
      let there : ℕ = get_or st.words (spot n w) 0 in
      elim (cases_eq (bit_at there (c % 64)) 1) [
        | inl same ↦
            let done = claiming st r id v c there at active some_thread low claims refl same in (
              with_told (Stepped (Claim c) there moves.Nothing) v,
              takes c None,
              done.0,
              done.1,
              subst (λ b. Claimed n v slots c there b (
                with_told (Stepped (Claim c) there moves.Nothing) v,
                (c, None) ∷ slots,
              )) (sym (eq-eqb (bit_at there (c % 64)) 1 same))
                  (record { fresh = found_fresh st r id v c at active some_thread low same; after_is = refl }),
            )
        | inr other ↦ (
          with_told (Lost w there) v,
          keeps,
          tt,
          subst (λ m. Rule (record {
            words = set st.words (spot n w) m;
            homes = st.homes;
            views = set st.views id
                (with_told (Lost w there) v);
          }))
              (sym (bit_missed (world n limit r.run) c there (r.each_word w (free_inside n c low)) other))
              (unmoved shows n limit st r id v w (Lost w there) at active (free_inside n c low) lost),
          subst (λ b. Claimed n v slots c there b (with_told (Lost w there) v, slots))
              (sym (ne_eqb (bit_at there (c % 64)) 1 other)) refl,
        )
      ]

  -- ---- Birth

  bearing : (st : Table (Option B) View) (r : Rule st) (id : ℕ) (v : View) (block : B) (kind : Kind) (k c : ℕ)
      → get_elem? st.views id ≡ some v → v.active ≡ true → 0 < v.thread → c < n
      → MayBear n v.log (shows block) kind k c
      → Rule (record {
        words = set st.words (spot n (Of OwnerWord c)) v.thread;
        homes = set st.homes c
            (some (Some block));
        views = set st.views id (with_told (Stepped (Birth c kind k) v.thread (moves.Put c (shows block).1)) v);
      })
  bearing st r id v block kind k c at active some_thread low bears =
      let t : ℕ = v.thread in
      let s : Step = Birth c kind k in
      let p : Contents = (shows block).1 in
      let h : Heap = world n limit r.run in
      let x : Cell = cell_at h c in
      let later : Run = (t, Stepped s t (moves.Put c p)) ∷ r.run in
      let known : Known n limit h t v.log = knows shows n limit st r id v at active some_thread in
      let busy : (row_at h t).hand ≡ hands.Busy phases.Ready c = busy_hand phases.Ready c _
      (hand_there n limit h t v.log s known bears.own) in
      let inside_is : c < length h.cells = omega (arith, known.cells, low) in
      let now : cell_at (stepped h t s c) c ≡ cell_after t s c x = read_cell h t s c inside_is in
      let put_here : contents_at later c ≡ p = ap (λ b. if b then p else contents_at r.run c) (eq-eqb c c refl) in
      block_moved shows n limit st r id v s c (Of OwnerWord c) t t (moves.Put c p) (some (Some block)) at active low
      (record {
        some_thread = some_thread;
        may = is_enabled n limit h t v.log s some_thread known bears.own refl refl
            (fits_cell n limit h t v.log s c known refl inside_is refl);
        target = refl;
        low = inside_is;
        word = refl;
        shown = subst (λ o. ShowsOwner (length (stepped h t s c).rows) o t) (sym (ap (λ (y : Cell). y.owner) now)) refl;
        told = refl;
        entries = refl;
        moves = record {
          cell = refl;
          finds_none = refl;
          kind = bears.kind_is ∙ sym (ap (λ (y : Cell). y.kind) now);
          entries = bears.empty ∙ sym (set_empty h.entries c);
          keys = bare_keys p bears.empty;
          kept = λ bad. absurd (true≢false (sym bad));
        };
        elsewhere = λ d other. ap (λ b. if b then p else contents_at r.run d) (ne_eqb c d (λ e. other (sym e)));
      })
      (record {
        bare = λ free. absurd (thread_free t (sym (ap (λ (y : Cell). y.owner) now) ∙ free));
        lies = λ live unlocked off. record {
          block = block;
          there = set_here st.homes c (some (Some block)) (omega (arith, r.deep, low));
          of_cell = bears.of_cell;
          holds = sym put_here;
        };
      })
    where
      thread_free : (t : ℕ) → owners.Thread t ≡ owners.Free → ⊥
      thread_free t bad = absurd (cc)

      set_empty : (lists : List (List ℕ)) (c : ℕ) → get_or (set lists c []) c [] ≡ []
      set_empty [] c = refl
      set_empty (xs ∷ lists) Rattle.std.proofs.Common.zero = refl
      set_empty (xs ∷ lists) (Rattle.std.proofs.Common.suc c) = set_empty lists c

  pub bears_object : (id : ℕ) (v : View) (rest : List (ℕ × Option B)) (block : B) (kind : Kind) (k c : ℕ)
      → v.active ≡ true → 0 < v.thread → c < n → MayBear n v.log (shows block) kind k c
      → Allows Rule n id (v, (c, Some block) ∷ rest) (spot n (Of OwnerWord c)) (λ there. v.thread)
      (λ there me. me ≡ (with_told (Stepped (Birth c kind k) v.thread (moves.Put c (shows block).1)) v, rest))
  bears_object id v rest block kind k c active some_thread low bears st r deep at small = (
    with_told (Stepped (Birth c kind k) v.thread (moves.Put c (shows block).1)) v,
    gives,
    tt,
    bearing st r id v block kind k c at active some_thread low bears,
    refl,
  )

  -- ---- Free

  freeing : (st : Table (Option B) View) (r : Rule st) (id : ℕ) (v : View) (c there : ℕ)
      → get_elem? st.views id ≡ some v → v.active ≡ true → 0 < v.thread → c < n → MayCarry n v.log (Free c) c
      → get_or st.words (spot n (FreeWord (c / 64))) 0 ≡ there
      → Rule (record {
        words = set st.words (spot n (FreeWord (c / 64))) (bit_or there (2 ^ (c % 64)));
        homes = set st.homes c (some None);
        views = set st.views id (with_told (Stepped (Free c) there moves.Nothing) v);
      })
  freeing st r id v c there at active some_thread low carries is =
      let t : ℕ = v.thread in
      let s : Step = Free c in
      let h : Heap = world n limit r.run in
      let known : Known n limit h t v.log = knows shows n limit st r id v at active some_thread in
      let inside_is : c < length h.cells = omega (arith, known.cells, low) in
      let shows_word : WordShows h (FreeWord (c / 64)) there = sym is
      ∙ r.each_word (FreeWord (c / 64)) (free_inside n c low) in
      let now : (cell_at (stepped h t s c) c).owner ≡ owners.Free = ap (λ (y : Cell). y.owner)
      (read_cell h t s c inside_is) in
      block_moved shows n limit st r id v s c (FreeWord (c / 64)) (bit_or there (2 ^ (c % 64))) there moves.Nothing
      (some None) at active (free_inside n c low)
      (record {
        some_thread = some_thread;
        may = is_enabled n limit h t v.log s some_thread known carries.own refl refl
            (fits_cell n limit h t v.log s c known refl inside_is refl);
        target = refl;
        low = inside_is;
        word = refl;
        shown = bit_is_given h t s c there shows_word inside_is (ap is_free now);
        told = shows_word;
        entries = refl;
        moves = (refl, refl);
        elsewhere = λ d other. refl;
      })
      (record {
        bare = λ free. set_here st.homes c (some None) (omega (arith, r.deep, low));
        lies = λ live unlocked off. absurd (true≢false (sym live ∙ ap lives now));
      })

  pub frees_cell : (id : ℕ) (v : View) (rest : List (ℕ × Option B)) (c : ℕ) → v.active ≡ true → 0 < v.thread → c < n
      → MayCarry n v.log (Free c) c
      → Allows Rule n id (v, (c, None) ∷ rest) (spot n (FreeWord (c / 64))) (λ there. bit_or there (2 ^ (c % 64)))
      (λ there me. me ≡ (with_told (Stepped (Free c) there moves.Nothing) v, rest))
  frees_cell id v rest c active some_thread low carries st r deep at small =
      let there : ℕ = get_or st.words (spot n (FreeWord (c / 64))) 0 in (
        with_told (Stepped (Free c) there moves.Nothing) v,
        gives,
        tt,
        freeing st r id v c there at active some_thread low
            carries refl,
        refl,
      )
