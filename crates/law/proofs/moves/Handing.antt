-- Handovers on the way through a merge queue: from the hand to a queue bit, and from the bits of one word to popped
-- bits.
use Rattle.std.proofs.Common.{◌≡◌, ◌≢◌, ℕ, ◌+◌, ◌*◌, ◌/◌, ◌%◌, ◌<◌, ◌≤◌, ◌==◌, nat_lt, ◌&&◌, not, zero, suc, Bool, true}
use Rattle.std.proofs.Common.{false, if◌then◌else◌, List, [], ◌∷◌, length, get_or, set, Some, refl, sym, ◌∙◌, ap, subst}
use Rattle.std.proofs.Common.{inl, inr, arith}
use Rattle.std.specs.Int.{bit_at}
use Rattle.std.proofs.lemmas.Bool.{cases_eq, cases_lt, cases_Bool, eq-eqb, ne_eqb, eqb-true, and_left, and_from}
use Rattle.std.proofs.lemmas.Bool.{and_right, or_parts, lt-ltb, le-ltb, true≢false}
use Rattle.brc_words.specs.declared.limits.TheConstants.{FIRST_MORTAL}
use Rattle.brc_model.specs.declared.holder.Holder.{Holder}
use Rattle.brc_model.specs.declared.holder.Holder.TheVariants as holders
use Rattle.brc_model.specs.declared.moves.Handover.{Handover}
use Rattle.brc_model.specs.Holders.{Map, Same, MayAllBeHanded, all_handed, with_holder, without_holder}
use Rattle.law.specs.declared.world.event.Step.{Step}
use Rattle.law.specs.declared.world.event.Step.TheVariants.{Enqueue}
use Rattle.law.specs.declared.world.row.Row.{Row}
use Rattle.law.specs.declared.world.row.Hand.{Hand}
use Rattle.law.specs.declared.world.row.Hand.TheVariants as hands
use Rattle.law.specs.declared.world.row.Phase.TheVariants as phases
use Rattle.law.specs.world.Lists.{one, bit_of, word_at, with_bit}
use Rattle.law.specs.world.Heap.{Heap, cell_at, entries_at, row_at, frame_at, popped_at, queue_at, no_row, words_for}
use Rattle.law.specs.world.Steps.{thread_may, stepped, kept_cells, hand_after, is_shut, is_default, drained_word}
use Rattle.law.specs.world.Steps.{with_drained, without_drained}
use Rattle.law.specs.world.Holding.{lives, lives_at, carries}
use Rattle.law.specs.moves.Moves.{map_of, moves_of, passes, each_bit, popping, MakesMoves}
use Rattle.law.specs.world.Sound.{IsSound, held}
use Rattle.law.proofs.world.Naming.{no_bit, one-le, sum_one, busy_hand, busy_carrier}
use Rattle.law.proofs.world.Bitwise.{bit_of-lt, with_bit_here, with_bit_else, taken_here, taken_else, untaken_here}
use Rattle.law.proofs.world.Bitwise.{untaken_else}
use Rattle.law.proofs.world.Asking.{May}
use Rattle.law.proofs.world.Changes.{read_by, read_here, read_there}
use Rattle.law.proofs.world.Lifetimes.{alive_lives, held_lives}
use Rattle.law.proofs.world.Merging.{held_owner, carried_held}
use Rattle.law.proofs.world.Queueing.{bits_once}
use Rattle.law.proofs.moves.Moving.{is_none, is_either, either_first, either_second, other_cell, from_one, instead_as}
use Rattle.law.proofs.moves.Moving.{Own, by_owner, own_elsewhere, kept_own, Elsewhere, elsewhere, Lasting, AtCell}
use Rattle.law.proofs.moves.Moving.{at_named, same_held, same_map, passed_map, hand_shows, hand_hides, queue_shows}
use Rattle.law.proofs.moves.Moving.{queue_hides, popped_shows, popped_hides}

-- ---- what is queued is held, and is in no hand

queued_held : (h : Heap) (t c : ℕ) → bit_of (queue_at h t) c ≡ 1 → 1 ≤ held h c
queued_held h t c on = omega (arith, on, sum_one (λ (words : List ℕ). bit_of words c) h.queues t [] (no_bit c))

carried_or_queued : (h : Heap) (t s c : ℕ) → IsSound h → FIRST_MORTAL ≤ c
    → bit_of (queue_at h t) c + one (carries c (row_at h s).hand) ≤ 1
carried_or_queued h t s c sound mortal =
    omega (
      arith,
      sound.most c mortal,
      one-le (not (is_default (cell_at h c).state)),
      sum_one (λ (words : List ℕ). bit_of words c) h.queues t [] (no_bit c),
      sum_one (λ (row : Row). one (carries c row.hand)) h.rows s no_row refl,
    )

-- ---- one word is popped

-- the places that change: queue bits of the word that are set, and the popped bits beside them
abbrev pub is_taken : Heap → ℕ → ℕ → ℕ → Holder → Bool
is_taken h t k q p = ((q / 32 == k) && (bit_of (queue_at h t) q == 1)) && is_either q (holders.Queue t q) q
    (holders.Popped t q) q p

-- a thread's popped and queue words after one word was taken
pub record Taken (h h' : Heap) (t k : ℕ) : Type 0 where
  pub own : Own h h' t (frame_at h t) (with_drained (Some k) (queue_at h t) (popped_at h t)) (row_at h t).hand
  pub queue : queue_at h' t ≡ without_drained (Some k) (queue_at h t)
  pub queues : (j : ℕ) → j ≢ t → queue_at h' j ≡ queue_at h j
  pub inside : k < length (popped_at h t)
  pub lasting : Lasting h h'
  pub entries : (q : ℕ) → entries_at h' q ≡ entries_at h q

-- a bit of the word that stays was not set
not_taken : (h : Heap) (t k q : ℕ) (p : Holder) → is_either q (holders.Queue t q) q (holders.Popped t q) q p ≡ true
    → is_taken h t k q p ≡ false → q / 32 ≡ k → bit_of (queue_at h t) q ≡ 0
not_taken h t k q p this kept word = elim (cases_eq (bit_of (queue_at h t) q) 1) [
  | inr other ↦ let low : bit_of (queue_at h t) q < 2 = bit_of-lt (queue_at h t) q in omega (arith, low, other)
  | inl same ↦ absurd (true≢false
      (sym (and_from _ _ (and_from _ _ (eq-eqb (q / 32) k word) (eq-eqb _ 1 same)) this) ∙ kept))
]

-- the cells of the word below a bit
abbrev pub is_before : ℕ → ℕ → ℕ → Bool
is_before k i q = (q / 32 == k) && nat_lt (q % 32) i

-- the cell of a bit
word_of_cell : (k i : ℕ) → i < 32 → (k * 32 + i) / 32 ≡ k
word_of_cell k i low = omega (arith, low)

bit_of_cell : (k i : ℕ) → i < 32 → (k * 32 + i) % 32 ≡ i
bit_of_cell k i low = omega (arith, low)

-- one bit further, only that bit's cell is told otherwise
before_else : (k i q : ℕ) → i < 32 → q ≢ k * 32 + i → is_before k (suc i) q ≡ is_before k i q
before_else k i q low other = elim (cases_eq (q / 32) k) [
  | inr apart ↦ ap (λ b. b && nat_lt (q % 32) (suc i)) (ne_eqb (q / 32) k apart)
      ∙ sym (ap (λ b. b && nat_lt (q % 32) i) (ne_eqb (q / 32) k apart))
  | inl same ↦ ap (λ b. (q / 32 == k) && b) (elim (cases_lt (q % 32) i) [
    | inl less ↦ lt-ltb (q % 32) (suc i) (omega (arith, less)) ∙ sym (lt-ltb (q % 32) i less)
    | inr more ↦ le-ltb (q % 32) (suc i) (omega (arith, more, same, other)) ∙ sym (le-ltb (q % 32) i more)
  ])
]

before_here : (k i : ℕ) → i < 32 → is_before k (suc i) (k * 32 + i) ≡ true
before_here k i low = and_from _ _ (eq-eqb _ k (word_of_cell k i low))
    (lt-ltb _ (suc i) (omega (arith, bit_of_cell k i low)))

not_before : (k i : ℕ) → i < 32 → is_before k i (k * 32 + i) ≡ false
not_before k i low = and_right _ _ (le-ltb _ i (omega (arith, bit_of_cell k i low)))

before_all : (k q : ℕ) → q / 32 ≡ k → is_before k 32 q ≡ true
before_all k q same = and_from _ _ (eq-eqb _ k same) (lt-ltb _ 32 (omega arith))

-- the handovers left are allowed one after the other, and lead to the new world's map
abbrev pub Passes : Map → List Handover → Map → Type 0
Passes m list new = MayAllBeHanded m list × Same (all_handed m list) new

abbrev pub popping_one : ℕ → ℕ → ℕ → Handover
popping_one t k i = record {
  object = k * 32 + i;
  «from» = holders.Queue t (k * 32 + i);
  to = holders.Popped t (k * 32 + i);
}

-- a set bit's cell, before and after
pub record Popped (h h' : Heap) (t c : ℕ) : Type 0 where
  pub live : lives_at h c ≡ true
  pub queued : (map_of h).held c (holders.Queue t c) ≡ true
  pub unpopped : (map_of h).held c (holders.Popped t c) ≡ false
  pub unqueued : (map_of h').held c (holders.Queue t c) ≡ false
  pub popped : (map_of h').held c (holders.Popped t c) ≡ true

module _ (h h' : Heap) (t k : ℕ) (sound : IsSound h) (taken : Taken h h' t k) where
  abbrev old : ℕ → Holder → Bool
  old = (map_of h).held

  abbrev new : ℕ → Holder → Bool
  new = (map_of h').held

  taken_elsewhere : Elsewhere h h' (is_taken h t k)
  taken_elsewhere =
      own_elsewhere h h' t (frame_at h t) (with_drained (Some k) (queue_at h t) (popped_at h t)) (row_at h t).hand
      (is_taken h t k) taken.own
      (λ i q mortal kept. refl)
      (λ q kept. elim (cases_eq (q / 32) k) [
        | inr other ↦ taken_else k (queue_at h t) (popped_at h t) q other
        | inl same ↦ omega (
          arith,
          taken_here k (queue_at h t) (popped_at h t) q taken.inside same,
          not_taken h t k q (holders.Popped t q) (either_second q (holders.Queue t q) q (holders.Popped t q)) kept same,
        )
      ])
      (λ q kept. refl)
      (λ j q. by_owner (λ n (words : List ℕ). is_taken h t k q (holders.Queue n q) ≡ false
      → bit_of words q ≡ bit_of (queue_at h n) q)
      (queue_at h) (queue_at h') t (without_drained (Some k) (queue_at h t)) taken.queue taken.queues
      (λ kept. elim (cases_eq (q / 32) k) [
        | inr other ↦ untaken_else k (queue_at h t) q other
        | inl same ↦ untaken_here k (queue_at h t) q same
            ∙ sym (not_taken h t k q (holders.Queue t q) (either_first q (holders.Queue t q) q (holders.Popped t q))
            kept same)
      ])
      (λ n kept. refl) j)

  outside : (q : ℕ) (p : Holder) → is_taken h t k q p ≡ false → new q p ≡ old q p
  outside = elsewhere h h' (is_taken h t k) taken_elsewhere

  -- which of the two maps tells of a cell, and what is told when the cells below a bit are popped
  abbrev told : ℕ → Holder → Bool → Bool
  told q p b = if b then new q p else old q p

  abbrev between : ℕ → ℕ → Holder → Bool
  between i q p = told q p (is_before k i q)

  -- at the bit's cell the map turns from the old to the new
  between_old : (i : ℕ) (p : Holder) → i < 32 → between i (k * 32 + i) p ≡ old (k * 32 + i) p
  between_old i p low = ap (told (k * 32 + i) p) (not_before k i low)

  between_new : (i : ℕ) (p : Holder) → i < 32 → between (suc i) (k * 32 + i) p ≡ new (k * 32 + i) p
  between_new i p low = ap (told (k * 32 + i) p) (before_here k i low)

  -- all other cells stay, and this one where both worlds show the same
  between_else : (i q : ℕ) (p : Holder) → i < 32 → (q ≡ k * 32 + i → new q p ≡ old q p)
      → between (suc i) q p ≡ between i q p
  between_else i q p low here = elim (cases_eq q (k * 32 + i)) [
    | inl same ↦ subst (λ n. between (suc i) n p ≡ between i n p) (sym same)
        (between_new i p low ∙ subst (λ n. new n p ≡ old n p) same (here same) ∙ sym (between_old i p low))
    | inr other ↦ ap (told q p) (before_else k i q low other)
  ]

  popped_one : (c : ℕ) → c / 32 ≡ k → bit_of (queue_at h t) c ≡ 1 → Popped h h' t c
  popped_one c word on =
      let mortal : FIRST_MORTAL ≤ c = (sound.bits t c (omega (arith, on))).0 in
      let off : bit_of (popped_at h t) c ≡ 0 = omega (arith, on, bits_once h t c sound) in
      record {
        live = held_lives h c sound mortal (queued_held h t c on);
        queued = queue_shows h t c mortal on;
        unpopped = popped_hides h t c c off;
        unqueued = queue_hides h' t c c (ap (λ words. bit_of words c) taken.queue
            ∙ untaken_here k (queue_at h t) c word);
        popped = popped_shows h' t c mortal (ap (λ words. bit_of words c) taken.own.popped
            ∙ omega (arith, taken_here k (queue_at h t) (popped_at h t) c taken.inside word, on, off));
      }

  pop_from : (more i : ℕ) → i + more ≡ 32 → (held : ℕ → Holder → Bool)
      → ((q : ℕ) (p : Holder) → held q p ≡ between i q p)
      → Passes (record (map_of h) { held = held }) (each_bit (popping_one t k) (word_at (queue_at h t) k) i more)
      (map_of h')
  pop_from zero i e held is = (
    tt,
    same_held h h' held taken.lasting taken.entries (λ q p. is q p ∙ elim (cases_eq (q / 32) k) [
      | inl same ↦ ap (told q p) (ap (λ n. is_before k n q) (omega (arith, e)) ∙ before_all k q same)
      | inr other ↦ ap (λ b. told q p (b && nat_lt (q % 32) i)) (ne_eqb (q / 32) k other)
          ∙ sym (outside q p (and_left _ _ (and_left _ _ (ne_eqb (q / 32) k other))))
    ]),
  )
  pop_from (suc more) i e held is =
      let low : i < 32 = omega (arith, e) in
      let next : suc i + more ≡ 32 = omega (arith, e) in
      let c : ℕ = k * 32 + i in
      let word : ℕ = word_at (queue_at h t) k in
      let rest : List Handover = each_bit (popping_one t k) word (suc i) more in
      let from : Holder = holders.Queue t c in
      let to : Holder = holders.Popped t c in
      let in_word : c / 32 ≡ k = word_of_cell k i low in
      let same_bit : bit_of (queue_at h t) c ≡ bit_at word i =
      ap (λ n. bit_at (word_at (queue_at h t) n) (c % 32)) in_word ∙ ap (bit_at word) (bit_of_cell k i low) in
      elim (cases_Bool (bit_at word i == 1)) [
        | inr unset ↦ subst (λ b. Passes (record (map_of h) { held = held })
            (if b then (popping_one t k i ∷ rest) else rest) (map_of h')) (sym unset)
            (pop_from more (suc i) next held
            (λ q p. is q p ∙ sym (between_else i q p low
            (λ same. subst (λ n. new n p ≡ old n p) (sym same)
            (outside c p (and_left _ _ (and_right _ _ (ap (λ n. n == 1) same_bit ∙ unset))))))))
        | inl set ↦
            let one : Popped h h' t c = popped_one c in_word (same_bit ∙ eqb-true _ 1 set) in
            subst (λ b. Passes (record (map_of h) { held = held }) (if b then (popping_one t k i ∷ rest) else rest)
            (map_of h')) (sym set)
            (let later : Passes (record (map_of h) { held = with_holder (without_holder held c from) c to }) rest
            (map_of h') =
            pop_from more (suc i) next (with_holder (without_holder held c from) c to)
            (instead_as held (between (suc i)) c from c to (λ _. between_new i from low ∙ one.unqueued)
            (between_new i to low ∙ one.popped)
            (λ q p none. between_else i q p low
            (λ same. outside q p (and_right _ _
            (subst (λ n. is_either n (holders.Queue t n) n (holders.Popped t n) q p ≡ false) (sym same) none)))
            ∙ sym (is q p))) in (
              (
                record {
                  from_no_entry = tt;
                  held = and_from _ _ one.live (is c from ∙ between_old i from low ∙ one.queued);
                  not_yet = and_right (lives_at h c) _ (is c to ∙ between_old i to low ∙ one.unpopped);
                  holder_is_new = refl;
                },
                later.0,
              ),
              later.1,
            ))
      ]

  -- all of a word's bits, one after the other
  pub pop_moves : Passes (map_of h) (popping t k (word_at (queue_at h t) k)) (map_of h')
  pop_moves = pop_from 32 0 refl old
      (λ q p. sym (ap (told q p) (and_right (q / 32 == k) (nat_lt (q % 32) 0) (le-ltb (q % 32) 0 (omega arith)))))

-- a thread's step that takes a word of its queue
pub taken_by : (h : Heap) (t : ℕ) (s : Step) (k : ℕ) → IsSound h → May h t s → drained_word s ≡ Some k
    → k < words_for (length h.cells) → Lasting h (kept_cells h t s) → Taken h (kept_cells h t s) t k
taken_by h t s k sound may takes inside last =
    let h' : Heap = kept_cells h t s in record {
      own = subst (λ o. Own h h' t (frame_at h t) (with_drained o (queue_at h t) (popped_at h t)) (row_at h t).hand)
          takes (kept_own h t s sound may.inside);
      queue = read_here h.queues t _ [] (omega (arith, sound.shaped.queues, may.inside))
          ∙ ap (λ o. without_drained o (queue_at h t)) takes;
      queues = λ j other. read_there h.queues t j _ [] other;
      inside = omega (arith, inside, sound.shaped.popped_words t may.some_thread may.inside);
      lasting = last;
      entries = λ q. refl;
    }

-- ---- an asked one is queued

-- whoever bore a live object has a queue, with a word for it
pub record Queued (h : Heap) (c : ℕ) : Type 0 where
  pub queue : (cell_at h c).bearer < length h.queues
  pub word : c / 32 < length (queue_at h (cell_at h c).bearer)

pub queued_at : (h : Heap) (c : ℕ) → IsSound h → FIRST_MORTAL ≤ c → c < length h.cells
    → lives (cell_at h c).owner ≡ true → Queued h c
queued_at h c sound mortal inside live =
    let born = (sound.cells c mortal).born live in
    record {
      queue = omega (arith, born.1, sound.shaped.queues);
      word = omega (arith, sound.shaped.queue_words (cell_at h c).bearer born.0 born.1, inside);
    }

pub enqueue_moves : (A : Type 0) (h : Heap) (t c : ℕ) → IsSound h → thread_may h t (Enqueue c) ≡ true
    → MakesMoves {A = A} (map_of h) (moves_of h t (Enqueue c) (Some c)) (map_of (stepped h t (Enqueue c) c))
enqueue_moves A h t c sound ok =
    let s : Step = Enqueue c in
    let h' : Heap = stepped h t s c in
    let b : ℕ = (cell_at h c).bearer in
    let shut : Bool = is_shut h c in
    let at : AtCell h t s c = at_named h t s c refl sound ok refl in
    let busy : (row_at h t).hand ≡ hands.Busy phases.Asked c = busy_hand phases.Asked c _ at.may.hand in
    let mortal : FIRST_MORTAL ≤ c = (sound.hands t c phases.Asked busy).mortal in
    let carried : one (carries c (row_at h t).hand) ≡ 1 = busy_carrier phases.Asked c _ refl busy in
    let alive : lives (cell_at h c).owner ≡ true = held_owner h c sound mortal (carried_held h t c carried) in
    let queued : Queued h c = queued_at h c sound mortal at.inside alive in
    let own : (hand : Hand) → hand_after s c (cell_at h c) shut (row_at h t).hand ≡ hand
    → Own h h' t (frame_at h t) (popped_at h t) hand = λ hand e.
    subst (λ x. Own h h' t (frame_at h t) (popped_at h t) x) e at.own in
    let from : Holder = holders.Hand t c in
    let to : Holder = holders.Queue b c in
    elim (cases_Bool shut) [
      | inl closed ↦
          let same : Own h h' t (frame_at h t) (popped_at h t) (hands.Busy phases.Shut c) =
          own (hands.Busy phases.Shut c) (ap (λ x. hand_after s c (cell_at h c) x (row_at h t).hand) closed) in
          subst (λ x. MakesMoves {A = A} (map_of h) (if x then [] else passes c from to) (map_of h')) (sym closed)
          (same_map h h' at.lasting (λ q. refl) (own_elsewhere h h' t _ _ _ is_none same (λ i q _ _. refl) (λ q _. refl)
          (λ q _. sym (ap (carries q) busy))
          (λ j q _. ap (λ x. bit_of (get_or (if x then h.queues else set h.queues b (with_bit (queue_at h b) c)) j [])
          q) closed)))
      | inr unshut ↦
          let free : Own h h' t (frame_at h t) (popped_at h t) hands.Free =
          own hands.Free (ap (λ x. hand_after s c (cell_at h c) x (row_at h t).hand) unshut) in
          let queues : (j q : ℕ) → bit_of (queue_at h' j) q ≡ bit_of
          (get_or (set h.queues b (with_bit (queue_at h b) c)) j []) q = λ j q.
          ap (λ x. bit_of (get_or (if x then h.queues else set h.queues b (with_bit (queue_at h b) c)) j [])
          q) unshut in
          subst (λ x. MakesMoves {A = A} (map_of h) (if x then [] else passes c from to) (map_of h')) (sym unshut) (
            (
              record {
                from_no_entry = tt;
                held = and_from _ _ (alive_lives h c mortal alive) (hand_shows h t c mortal (from_one _ carried));
                not_yet = and_right (lives_at h c) _
                    (queue_hides h b c c (omega (arith, carried, carried_or_queued h b t c sound mortal)));
                holder_is_new = refl;
              },
              tt,
            ),
            passed_map h h' c from c to at.lasting (λ q. refl)
                (λ _. hand_hides h' t c c (ap (carries c) free.hand))
                (queue_shows h' b c mortal (queues b c
                ∙ ap (λ words. bit_of words c) (read_here h.queues b _ [] queued.queue)
                ∙ with_bit_here (queue_at h b) c queued.word))
                (own_elsewhere h h' t _ _ _ (is_either c from c to) free (λ i q _ _. refl) (λ q _. refl)
                (λ q kept. sym (ap (carries q) busy
                ∙ ne_eqb c q (λ e. other_cell c (holders.Hand t) q (or_parts _ _ kept).0 (sym e))))
                (λ j q kept. queues j q
                ∙ read_by (λ n (words : List ℕ). is_either c from c to q (holders.Queue n q) ≡ false
                → bit_of words q ≡ bit_of (queue_at h n) q) h.queues b (with_bit (queue_at h b) c) [] queued.queue
                (λ kept. with_bit_else (queue_at h b) c q (other_cell c (holders.Queue b) q (or_parts _ _ kept).1))
                (λ n _ _. refl) j kept)),
          )
    ]
