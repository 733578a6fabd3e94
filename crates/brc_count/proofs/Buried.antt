-- What becomes of the dead blocks that a frame lists: one more is taken, the front one loses its last entry, or is
-- given back.
use Rattle.std.proofs.Common.{◌≡◌, ◌≢◌, ℕ, ◌-◌, ◌<◌, ◌≤◌, ◌==◌, ◌&&◌, Bool, true, false, if◌then◌else◌, List, [], ◌∷◌}
use Rattle.std.proofs.Common.{◌++◌, length, take, set, map, Option, Some, None, IfSome, is_none, inl, inr, refl, sym}
use Rattle.std.proofs.Common.{◌∙◌, ap, subst, arith, slice_get}
use Rattle.std.proofs.Math.Seq.{take-append_seam, get_or-append_seam}
use Rattle.std.proofs.lemmas.List.{length-append, get_or_append_left, length-set, get_or-set_same, get_or_past}
use Rattle.std.proofs.lemmas.Option.{slice_get_within, slice_get-get_or, get_or_from_slice_get}
use Rattle.std.proofs.lemmas.Bool.{cases_eq, cases_lt, eq-eqb, ne_eqb}
use Rattle.brc_words.specs.Notes.{cells_of}
use Rattle.brc_table.specs.block.declared.payload.Payload.{Payload}
use Rattle.brc_table.specs.block.declared.payload.Payload.TheVariants as payloads
use Rattle.brc_table.specs.block.Payload.{entries_of}
use Rattle.brc_table.specs.law.world.Lists.{is_marked, front_of, last_of}
use Rattle.brc_table.proofs.law.world.Changes.{read_here, read_there}
use Rattle.brc_table.specs.law.known.Items.{put, has_found}
use Rattle.brc_table.specs.law.known.Taken.{Blocks, listed_at, cut, off, taken_on}
use Rattle.brc_table.specs.law.rule.Logs.{entries_in}
use Rattle.brc_table.specs.law.steps.Taking.{AreCells}
use Rattle.brc_table.specs.Knowing.{entries_of as answered}
use Rattle.brc_table.specs.Moving.{is_there}
use Rattle.brc_table.specs.Shown.{contents_of, plain_key}
use Rattle.brc_count.specs.Frames.{are_apart, Buried}

some_is : {X : Type 0} {a b : X} → Some a ≡ Some b → a ≡ b
some_is same = cc

none_is_none : {X : Type 0} {a : X} → None ≡ Some a → ⊥
none_is_none same = cc

-- ---- lists of blocks

pub listed_here : (c : ℕ) (es : List ℕ) (blocks : Blocks) → listed_at ((c, es) ∷ blocks) c ≡ Some es
listed_here c es blocks = ap (λ t. if t then Some es else listed_at blocks c) (eq-eqb c c refl)

listed_else : (c : ℕ) (es : List ℕ) (blocks : Blocks) (q : ℕ) → q ≢ c
    → listed_at ((c, es) ∷ blocks) q ≡ listed_at blocks q
listed_else c es blocks q other = ap (λ t. if t then Some es else listed_at blocks q)
    (ne_eqb c q (λ same. other (sym same)))

put_here : (c : ℕ) (es : List ℕ) (has : ℕ → List ℕ) → put c es has c ≡ es
put_here c es has = ap (λ t. if t then es else has c) (eq-eqb c c refl)

pub put_else : (c : ℕ) (es : List ℕ) (has : ℕ → List ℕ) (q : ℕ) → q ≢ c → put c es has q ≡ has q
put_else c es has q other = ap (λ t. if t then es else has q) (ne_eqb q c other)

unlisted : (o : Option (List ℕ)) (rest : Bool) → (is_none o && rest) ≡ true → o ≡ None
unlisted None rest is = refl
unlisted (Some es) rest is = cc

rest_apart : (o : Option (List ℕ)) (rest : Bool) → (is_none o && rest) ≡ true → rest ≡ true
rest_apart None rest is = is
rest_apart (Some es) rest is = cc

cut_absent : (d : ℕ) (blocks : Blocks) → listed_at blocks d ≡ None → cut d blocks ≡ blocks
cut_absent d [] is = refl
cut_absent d (b ∷ blocks) is = elim (cases_eq b.0 d) [
  | inl same ↦ absurd (none_is_none (sym is ∙ ap (λ t. if t then Some b.1 else listed_at blocks d) (eq-eqb b.0 d same)))
  | inr other ↦ ap (λ t. (b.0, if t then front_of b.1 else b.1) ∷ cut d blocks) (ne_eqb b.0 d other)
      ∙ ap (λ bs. b ∷ bs) (cut_absent d blocks
      (sym (ap (λ t. if t then Some b.1 else listed_at blocks d) (ne_eqb b.0 d other)) ∙ is))
]

off_absent : (d : ℕ) (blocks : Blocks) → listed_at blocks d ≡ None → off d blocks ≡ blocks
off_absent d [] is = refl
off_absent d (b ∷ blocks) is = elim (cases_eq b.0 d) [
  | inl same ↦ absurd (none_is_none (sym is ∙ ap (λ t. if t then Some b.1 else listed_at blocks d) (eq-eqb b.0 d same)))
  | inr other ↦ ap (λ t. if t then off d blocks else b ∷ off d blocks) (ne_eqb b.0 d other)
      ∙ ap (λ bs. b ∷ bs) (off_absent d blocks
      (sym (ap (λ t. if t then Some b.1 else listed_at blocks d) (ne_eqb b.0 d other)) ∙ is))
]

-- a block that loses an entry is still the only one of its cell
pub unlisted_front : (d : ℕ) (es fewer : List ℕ) (rest : Blocks) (c : ℕ) → listed_at ((d, es) ∷ rest) c ≡ None
    → listed_at ((d, fewer) ∷ rest) c ≡ None
unlisted_front d es fewer rest c is = by_test (d == c) is
  where
    by_test : (t : Bool) → (if t then Some es else listed_at rest c) ≡ None
        → (if t then Some fewer else listed_at rest c) ≡ None
    by_test true is = absurd (none_is_none (sym is))
    by_test false is = is

unmarked_here : (marks : List Bool) (d : ℕ) → is_marked (set marks d false) d ≡ false
unmarked_here marks d = elim (cases_lt d (length marks)) [
  | inl inside ↦ get_or-set_same marks d false false inside
  | inr past ↦ get_or_past (set marks d false) d false (omega (arith, past, length-set marks d false))
]

pub nothing_buried : (n : ℕ) (marks : List Bool) (has : ℕ → List ℕ) → ((c : ℕ) → is_marked marks c ≡ false)
    → Buried n marks has []
nothing_buried n marks has none = record {
  marked = λ c es at. absurd (none_is_none at);
  has_them = λ c es at. absurd (none_is_none at);
  inside = λ c es at. absurd (none_is_none at);
  are_cells = λ c es at. absurd (none_is_none at);
  apart = refl;
  only = λ c at. none c;
}

module _ {n : ℕ} {marks : List Bool} {has : ℕ → List ℕ} where
  -- a block that wasn't listed joins, in front
  pub after_take : {blocks : Blocks} (c : ℕ) (es : List ℕ) → Buried n marks has blocks → listed_at blocks c ≡ None
      → c < n → length marks ≡ n
      → AreCells n es → Buried n (set marks c true) (put c es has) ((c, es) ∷ blocks)
  after_take {blocks = blocks} c es b fresh low wide cells = record {
    marked = λ q xs at. elim (cases_eq q c) [
      | inl same ↦ ap (is_marked (set marks c true)) same
          ∙ read_here marks c true false (subst (λ m. c < m) (sym wide) low)
      | inr other ↦ read_there marks c q true false other ∙ b.marked q xs (sym (listed_else c es blocks q other) ∙ at)
    ];
    has_them = λ q xs at. elim (cases_eq q c) [
      | inl same ↦ ap (put c es has) same ∙ put_here c es has
          ∙ some_is (sym (listed_here c es blocks) ∙ ap (listed_at ((c, es) ∷ blocks)) (sym same) ∙ at)
      | inr other ↦ put_else c es has q other ∙ b.has_them q xs (sym (listed_else c es blocks q other) ∙ at)
    ];
    inside = λ q xs at. elim (cases_eq q c) [
      | inl same ↦ subst (λ i. i < n) (sym same) low
      | inr other ↦ b.inside q xs (sym (listed_else c es blocks q other) ∙ at)
    ];
    are_cells = λ q xs at. elim (cases_eq q c) [
      | inl same ↦ subst (AreCells n)
          (some_is (sym (listed_here c es blocks) ∙ ap (listed_at ((c, es) ∷ blocks)) (sym same) ∙ at)) cells
      | inr other ↦ b.are_cells q xs (sym (listed_else c es blocks q other) ∙ at)
    ];
    apart = ap (λ o. is_none o && are_apart blocks) fresh ∙ b.apart;
    only = λ q at. elim (cases_eq q c) [
      | inl same ↦ absurd (none_is_none (sym at ∙ ap (listed_at ((c, es) ∷ blocks)) same ∙ listed_here c es blocks))
      | inr other ↦ read_there marks c q true false other ∙ b.only q (sym (listed_else c es blocks q other) ∙ at)
    ];
  }

  -- the front block loses its last entry
  pub after_cut : {rest : Blocks} (d : ℕ) (es fewer : List ℕ) → Buried n marks has ((d, es) ∷ rest) → AreCells n fewer
      → front_of es ≡ fewer → Buried n marks (put d (front_of (has d)) has) ((d, fewer) ∷ rest)
  after_cut {rest = rest} d es fewer b cells less = record {
    marked = λ q xs at. elim (cases_eq q d) [
      | inl same ↦ ap (is_marked marks) same ∙ b.marked d es (listed_here d es rest)
      | inr other ↦ b.marked q xs (listed_else d es rest q other ∙ sym (listed_else d fewer rest q other) ∙ at)
    ];
    has_them = λ q xs at. elim (cases_eq q d) [
      | inl same ↦ ap (put d (front_of (has d)) has) same ∙ put_here d (front_of (has d)) has
          ∙ ap front_of (b.has_them d es (listed_here d es rest)) ∙ less
          ∙ some_is (sym (listed_here d fewer rest) ∙ ap (listed_at ((d, fewer) ∷ rest)) (sym same) ∙ at)
      | inr other ↦ put_else d (front_of (has d)) has q other
          ∙ b.has_them q xs (listed_else d es rest q other ∙ sym (listed_else d fewer rest q other) ∙ at)
    ];
    inside = λ q xs at. elim (cases_eq q d) [
      | inl same ↦ subst (λ i. i < n) (sym same) (b.inside d es (listed_here d es rest))
      | inr other ↦ b.inside q xs (listed_else d es rest q other ∙ sym (listed_else d fewer rest q other) ∙ at)
    ];
    are_cells = λ q xs at. elim (cases_eq q d) [
      | inl same ↦ subst (AreCells n)
          (some_is (sym (listed_here d fewer rest) ∙ ap (listed_at ((d, fewer) ∷ rest)) (sym same) ∙ at)) cells
      | inr other ↦ b.are_cells q xs (listed_else d es rest q other ∙ sym (listed_else d fewer rest q other) ∙ at)
    ];
    apart = b.apart;
    only = λ q at. b.only q (unlisted_front d fewer es rest q at);
  }

  -- the front block is given back
  pub after_free : {rest : Blocks} (d : ℕ) (es : List ℕ) → Buried n marks has ((d, es) ∷ rest)
      → Buried n (set marks d false) has rest
  after_free {rest = rest} d es b =
      let none : listed_at rest d ≡ None = unlisted (listed_at rest d) (are_apart rest) b.apart in
      let apart : (q : ℕ) (xs : List ℕ) → listed_at rest q ≡ Some xs
      → q ≢ d = λ q xs at same. none_is_none (sym none ∙ ap (listed_at rest) (sym same) ∙ at) in
      record {
        marked = λ q xs at. read_there marks d q false false (apart q xs at)
            ∙ b.marked q xs (listed_else d es rest q (apart q xs at) ∙ at);
        has_them = λ q xs at. b.has_them q xs (listed_else d es rest q (apart q xs at) ∙ at);
        inside = λ q xs at. b.inside q xs (listed_else d es rest q (apart q xs at) ∙ at);
        are_cells = λ q xs at. b.are_cells q xs (listed_else d es rest q (apart q xs at) ∙ at);
        apart = rest_apart (listed_at rest d) (are_apart rest) b.apart;
        only = λ q at. elim (cases_eq q d) [
          | inl same ↦ ap (is_marked (set marks d false)) same ∙ unmarked_here marks d
          | inr other ↦ read_there marks d q false false other ∙ b.only q (listed_else d es rest q other ∙ at)
        ];
      }

  pub front_cut : {rest : Blocks} (d : ℕ) (es : List ℕ) → Buried n marks has ((d, es) ∷ rest)
      → cut d ((d, es) ∷ rest) ≡ (d, front_of es) ∷ rest
  front_cut {rest = rest} d es b =
      ap (λ t. (d, if t then front_of es else es) ∷ cut d rest) (eq-eqb d d refl)
      ∙ ap (λ bs. (d, front_of es) ∷ bs) (cut_absent d rest (unlisted (listed_at rest d) (are_apart rest) b.apart))

  pub front_off : {rest : Blocks} (d : ℕ) (es : List ℕ) → Buried n marks has ((d, es) ∷ rest)
      → off d ((d, es) ∷ rest) ≡ rest
  front_off {rest = rest} d es b =
      ap (λ t. if t then off d rest else (d, es) ∷ off d rest) (eq-eqb d d refl)
      ∙ off_absent d rest (unlisted (listed_at rest d) (are_apart rest) b.apart)

-- the block that a release answers, if any, joins
pub after_given : {A : Type 0} {n : ℕ} {marks : List Bool} {has : ℕ → List ℕ} {blocks : Blocks} (c : ℕ)
    (block : Option (ℕ × Payload A)) → Buried n marks has blocks
    → IfSome block (λ there. listed_at blocks c ≡ None) → c < n → length marks ≡ n → AreCells n (answered block)
    → Buried n (if is_there block then set marks c true else marks) (has_found (is_there block) c (answered block) has)
    (taken_on false (is_there block) c (answered block) blocks)
after_given c None b fresh low wide cells = b
after_given c (Some there) b fresh low wide cells = after_take c (answered (Some there)) b fresh low wide cells

-- ---- payloads and their contents

values_of : {K L E : Type 0} (f : K → L) (pairs : List (K × E))
    → map (λ (p : L × E). p.1) (map (λ (pair : K × E). (f pair.0, pair.1)) pairs) ≡ map (λ (p : K × E). p.1) pairs
values_of f [] = refl
values_of f (pair ∷ pairs) = ap (λ xs. pair.1 ∷ xs) (values_of f pairs)

pub contents_have : {A : Type 0} (payload : Payload A) → entries_in (contents_of payload) ≡ entries_of payload
contents_have (payloads.Int number) = refl
contents_have (payloads.Text text) = refl
contents_have (payloads.«List» cells) = refl
contents_have (payloads.Dict pairs) = ap cells_of (values_of plain_key pairs.items)
contents_have (payloads.Mailbox letters) = refl
contents_have payloads.Nothing = refl
contents_have (payloads.Truth truth) = refl

-- ---- a list with one more at its end

one_more : (xs : List ℕ) (x : ℕ) → length (xs ++ x ∷ []) - 1 ≡ length xs
one_more xs x = omega (arith, length-append xs (x ∷ []))

more_than : (xs : List ℕ) (x i : ℕ) → i ≤ length xs → i < length (xs ++ x ∷ [])
more_than xs x i low = omega (arith, low, length-append xs (x ∷ []))

at_end : (xs : List ℕ) (x : ℕ) → slice_get (xs ++ x ∷ []) (length xs) ≡ Some x
at_end xs x = slice_get-get_or (xs ++ x ∷ []) (length xs) 0 (more_than xs x (length xs) (omega arith))
    ∙ ap Some (get_or-append_seam xs x [] 0)

pub front_put : (xs : List ℕ) (x : ℕ) → front_of (xs ++ x ∷ []) ≡ xs
front_put xs x = ap (λ m. take m (xs ++ x ∷ [])) (one_more xs x) ∙ take-append_seam xs (x ∷ [])

pub last_put : (xs : List ℕ) (x : ℕ) → last_of (xs ++ x ∷ []) ≡ Some x
last_put xs x = ap (slice_get (xs ++ x ∷ [])) (one_more xs x) ∙ at_end xs x

pub cells_front : (n : ℕ) (xs : List ℕ) (x : ℕ) → AreCells n (xs ++ x ∷ []) → AreCells n xs
cells_front n xs x cells = λ i c there.
    let low : i < length xs = slice_get_within xs i c there in
    cells i c (slice_get-get_or (xs ++ x ∷ []) i c (more_than xs x i (omega (arith, low)))
    ∙ ap Some (get_or_append_left xs (x ∷ []) c i low ∙ get_or_from_slice_get xs i c c there))

pub cells_last : (n : ℕ) (xs : List ℕ) (x : ℕ) → AreCells n (xs ++ x ∷ []) → x < n
cells_last n xs x cells = cells (length xs) x (at_end xs x)
