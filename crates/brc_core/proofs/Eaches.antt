-- The holders of a world are those of its parts, number by number.
use Rattle.std.proofs.Common.{◌≡◌, ◌==◌, ℕ, zero, suc, ◌+◌, ◌<◌, List, [], ◌∷◌, ◌++◌, None, length, get_or, slice_get}
use Rattle.std.proofs.Common.{refl, sym, ◌∙◌, ap, append_assoc, add-zero, zero-add, add-one, arith}
use Rattle.std.proofs.lemmas.List.{append-nil}
use Rattle.std.proofs.lemmas.Option.{slice_get-get_or}
use Rattle.brc_core.specs.declared.holders.HolderPart.TheVariants as parts
use Rattle.brc_core.specs.Holders.{below, in_part, in_frames, in_entries}
use Rattle.brc_model.specs.declared.holder.Holder.{Holder}
use Rattle.brc_model.specs.declared.holder.Holder.TheVariants as holders
use Rattle.law.specs.world.Lists.{names, bit_of}
use Rattle.law.specs.world.Heap.{Heap, entries_at, frame_at, no_row}
use Rattle.law.specs.world.Holding.{each, if_so, carries, holders_of}
use Rattle.law.specs.world.Sound.{IsShaped}

-- one number more
pub below-more : (f : ℕ → List Holder) (n : ℕ) → below f (n + 1) ≡ below f n ++ f n
below-more f n = ap (below f) (add-one n)

-- what is found below a number, behind what there was
pub record Found (f : ℕ → List Holder) (n : ℕ) (old now : List Holder) : Type 0 where
  pub is : now ≡ old ++ below f n

pub found_none : (f : ℕ → List Holder) (old : List Holder) → Found f 0 old old
found_none f old = record { is = sym (append-nil old) }

pub found_more : (f : ℕ → List Holder) (n : ℕ) (old now next : List Holder) → Found f n old now → next ≡ now ++ f n
    → Found f (n + 1) old next
found_more f n old now next found more =
    record {
      is = more ∙ ap (λ xs. xs ++ f n) found.is ∙ append_assoc old (below f n) (f n)
          ∙ ap (λ xs. old ++ xs) (sym (below-more f n));
    }

-- the first number apart
below-first : (f : ℕ → List Holder) (n : ℕ) → below f (suc n) ≡ f 0 ++ below (λ k. f (suc k)) n
below-first f zero = sym (append-nil (f 0))
below-first f (suc n) = ap (λ xs. xs ++ f (suc n)) (below-first f n) ∙ append_assoc (f 0) (below (λ k. f (suc k)) n)
    (f (suc n))

below-same : (f g : ℕ → List Holder) (n : ℕ) → ((k : ℕ) → k < n → f k ≡ g k) → below f n ≡ below g n
below-same f g zero same = refl
below-same f g (suc n) same = ap (λ xs. xs ++ f n) (below-same f g n (λ k h. same k (omega arith)))
    ∙ ap (λ xs. below g n ++ xs) (same n (omega arith))

-- item by item is number by number
each-below : {A : Type 0} (f : ℕ → A → List Holder) (i : ℕ) (xs : List A) (d : A)
    → each f i xs ≡ below (λ k. f (i + k) (get_or xs k d)) (length xs)
each-below f i [] d = refl
each-below f i (x ∷ xs) d =
    let rest : each f (suc i) xs ≡ below (λ k. f (i + suc k) (get_or xs k d)) (length xs) =
    each-below f (suc i) xs d ∙ below-same _ _ (length xs) (λ k h. let e : suc i + k ≡ i + suc k = omega arith in
    ap (λ j. f j (get_or xs k d)) e) in
    ap (λ ys. f i x ++ ys) rest
    ∙ ap (λ j. f j x ++ below (λ k. f (i + suc k) (get_or xs k d)) (length xs)) (sym (add-zero i))
    ∙ sym (below-first (λ k. f (i + k) (get_or (x ∷ xs) k d)) (length xs))

each-from_0 : {A : Type 0} (f : ℕ → A → List Holder) (xs : List A) (d : A) (n : ℕ) → length xs ≡ n
    → each f 0 xs ≡ below (λ k. f k (get_or xs k d)) n
each-from_0 f xs d n long =
    each-below f 0 xs d ∙ below-same _ _ (length xs) (λ k h. ap (λ j. f j (get_or xs k d)) (zero-add k))
    ∙ ap (below (λ k. f k (get_or xs k d))) long

frames_by_parts : (h : Heap) (q : ℕ) → length h.frames ≡ length h.rows
    → each (λ t frame. each (λ k x. if_so (names q x) (holders.Frame t k)) 0 frame) 0 h.frames ≡ in_frames h q
frames_by_parts h q long =
    each-from_0 (λ t frame. each (λ k x. if_so (names q x) (holders.Frame t k)) 0 frame) h.frames []
    (length h.rows) long
    ∙ below-same _ _ (length h.rows) (λ t within. each-from_0 (λ k x. if_so (names q x) (holders.Frame t k))
    (frame_at h t) None (length (frame_at h t)) refl)

entry_names : (q : ℕ) (xs : List ℕ) (i : ℕ) → i < length xs → (get_or xs i 0 == q) ≡ names q (slice_get xs i)
entry_names q xs i within = ap (names q) (sym (slice_get-get_or xs i 0 within))

entries_by_parts : (h : Heap) (q : ℕ) → length h.entries ≡ length h.cells
    → each (λ c entries. each (λ i x. if_so (x == q) (holders.Entry c i)) 0 entries) 0 h.entries ≡ in_entries h q
entries_by_parts h q long =
    each-from_0 (λ c entries. each (λ i x. if_so (x == q) (holders.Entry c i)) 0 entries) h.entries []
    (length h.cells) long
    ∙ below-same _ _ (length h.cells) (λ c within.
    each-from_0 (λ i x. if_so (x == q) (holders.Entry c i)) (entries_at h c) 0 (length (entries_at h c)) refl
    ∙ below-same _ _ (length (entries_at h c))
    (λ i inside. ap (λ b. if_so b (holders.Entry c i)) (entry_names q (entries_at h c) i inside)))

pub holders_by_parts : (h : Heap) (q : ℕ) → IsShaped h
    → holders_of h q ≡ in_frames h q ++ in_entries h q ++ in_part h parts.Queues q ++ in_part h parts.Popped q
    ++ in_part h parts.Hands q
holders_by_parts h q shaped =
    let frames = frames_by_parts h q shaped.frames in
    let entries = entries_by_parts h q shaped.entries in
    let queues : each (λ t words. if_so (bit_of words q == 1) (holders.Queue t q)) 0 h.queues ≡ in_part h parts.Queues
    q = each-from_0 (λ t words. if_so (bit_of words q == 1) (holders.Queue t q)) h.queues []
    (length h.rows) shaped.queues in
    let popped : each (λ t words. if_so (bit_of words q == 1) (holders.Popped t q)) 0 h.popped ≡ in_part h parts.Popped
    q = each-from_0 (λ t words. if_so (bit_of words q == 1) (holders.Popped t q)) h.popped []
    (length h.rows) shaped.popped in
    let hands : each (λ t row. if_so (carries q row.hand) (holders.Hand t q)) 0 h.rows ≡ in_part h parts.Hands q =
    each-from_0 (λ t row. if_so (carries q row.hand) (holders.Hand t q)) h.rows no_row (length h.rows) refl in
    cc

-- one more part
pub one_more : (old a b now next : List Holder) → now ≡ old ++ a → next ≡ now ++ b → next ≡ old ++ (a ++ b)
one_more old a b now next is more = more ∙ ap (λ xs. xs ++ b) is ∙ append_assoc old a b
