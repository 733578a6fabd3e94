-- Threads of one heap, dealt with one after the other.
use Rattle.std.proofs.Common.{◌≡◌, ◌+◌, ◌≤◌, ◌++◌, ℕ, List, [], ◌∷◌, map, length, reverse, Option, Some, None}
use Rattle.std.proofs.Common.{refl, sym}
use Rattle.std.proofs.Common.{subst, ap, arith, ◌∙◌}
use Rattle.std.specs.Prelude.{IfSome, IsSomeAnd}
use Rattle.std.specs.List.{All}
use Rattle.std.proofs.lemmas.List.{append_assoc, append-nil, map-append, length_push, reverse-append}
use Rattle.std.proofs.lemmas.List.Elements.{All-head, All-rest, All-push}
use Rattle.brc_count.specs.Frames.{FrameSeen}
use Rattle.brc_count.specs.table.Seated.{TableSeen, RootSeen}
use Rattle.brc_run.specs.declared.crew.Done.{Done}
use Rattle.brc_run.specs.Runs.{IsReady, ThreadLife, RootTakesIn}
use Rattle.brc_run.proofs.Taken.{takes_none, takes_both}

no_others : {D : Type 0} (left : List D) → length left ≡ 0 → left ≡ []
no_others [] none = refl
no_others (one ∷ left) none = absurd (omega (arith, none))

module _ {A : Type 0} where
  pub first_at : (heap : TableSeen) (x : FrameSeen A) (before left : List (FrameSeen A)) → before ≡ x ∷ left
      → All (IsReady heap) before → IsReady heap x
  first_at heap x before left next all = All-head (IsReady heap) x left (subst (All (IsReady heap)) next all)

  pub others_at : (heap : TableSeen) (x : FrameSeen A) (before left : List (FrameSeen A)) → before ≡ x ∷ left
      → All (IsReady heap) before → All (IsReady heap) left
  others_at heap x before left next all = All-rest (IsReady heap) x left before next all

  -- one more is put to them
  pub one_at : (heap : TableSeen) (x : FrameSeen A) (before after : List (FrameSeen A)) → after ≡ before ++ x ∷ []
      → IsReady heap x
      → All (IsReady heap) before
      → All (IsReady heap) after
  one_at heap x before after more so all =
      subst (All (IsReady heap)) (sym more) (All-push (IsReady heap) before x all so)

  pub first_done : (heap : TableSeen) (x : Done A) (before left : List (Done A)) → before ≡ x ∷ left
      → All (λ (one : Done A). one.retired.heap ≡ heap) before → x.retired.heap ≡ heap
  first_done heap x before left next all =
      All-head (λ (one : Done A). one.retired.heap ≡ heap) x left
      (subst (All (λ (one : Done A). one.retired.heap ≡ heap)) next all)

  pub others_done : (heap : TableSeen) (x : Done A) (before left : List (Done A)) → before ≡ x ∷ left
      → All (λ (one : Done A). one.retired.heap ≡ heap) before → All (λ (one : Done A). one.retired.heap ≡ heap) left
  others_done heap x before left next all = All-rest (λ (one : Done A). one.retired.heap ≡ heap) x left before next all

-- of all of them, those before these are taken in
pub record Gathering {D : Type 0} (life : D → ThreadLife) (old now : RootSeen) (all left : List D) : Type 0 where
  pub lives : List ThreadLife
  pub took : RootTakesIn old now 0 lives
  pub those : reverse (map life all) ≡ reverse (map life left) ++ lives

module _ {D : Type 0} (life : D → ThreadLife) where
  pub gathers_first : (root : RootSeen) (all left : List D) → left ≡ all → Gathering life root root all left
  gathers_first root all left same = record {
    lives = [];
    took = takes_none root;
    those = ap (λ (ds : List D). reverse (map life ds)) (sym same) ∙ sym (append-nil (reverse (map life left)));
  }

  -- the last one's life comes first
  lives_next : (one : D) (left : List D) (lives : List ThreadLife)
      → reverse (map life (one ∷ left)) ++ lives ≡ reverse (map life left) ++ life one ∷ lives
  lives_next one left lives =
      ap (λ (front : List ThreadLife). front ++ lives) (reverse-append (life one ∷ []) (map life left))
      ∙ append_assoc (reverse (map life left)) (life one ∷ []) lives

  pub gathers_next : (old mid new : RootSeen) (all before left : List D) (one : D) → before ≡ one ∷ left
      → Gathering life old mid all before
      → RootTakesIn mid new 0 (life one ∷ []) → Gathering life old new all left
  gathers_next old mid new all before left one next so took = record {
    lives = life one ∷ so.lives;
    took = takes_both old mid new 0 so.lives 0 (life one ∷ []) 0 (life one ∷ so.lives) so.took took refl refl;
    those = so.those ∙ ap (λ (ds : List D). reverse (map life ds) ++ so.lives) next ∙ lives_next one left so.lives;
  }

  pub gathers_last : (old now : RootSeen) (all left : List D) → left ≡ [] → Gathering life old now all left
      → RootTakesIn old now 0 (reverse (map life all))
  gathers_last old now all left none so =
      subst (RootTakesIn old now 0)
      (sym (so.those ∙ ap (λ (ds : List D). reverse (map life ds) ++ so.lives) none)) so.took

module _ {V X D : Type 0} where
  -- the ends are there of all before these
  pub record Ended (items : V → List X) (end_of : D → Option X) (all left : List D) (ends : V) : Type 0 where
    pub those : map end_of all ≡ map Some (items ends) ++ map end_of left

  ended_more : (items : V → List X) (end_of : D → Option X) (all left : List D) (one : D) (o : Option X)
      (before after : V) → end_of one ≡ o
      → map end_of all ≡ map Some (items before) ++ map end_of (one ∷ left)
      → IsSomeAnd o (λ e. items after ≡ items before ++ e ∷ [])
      → map end_of all ≡ map Some (items after) ++ map end_of left
  ended_more items end_of all left one None before after is those more = absurd more
  ended_more items end_of all left one (Some e) before after is those more =
      those
      ∙ ap (λ o. map Some (items before) ++ o ∷ map end_of left) is
      ∙ sym (append_assoc (map Some (items before)) (Some e ∷ []) (map end_of left))
      ∙ ap (λ xs. xs ++ map end_of left) (sym (map-append Some (items before) (e ∷ [])) ∙ ap (map Some) (sym more))

  pub ended_next : (items : V → List X) (end_of : D → Option X) (all before left : List D) (one : D)
      (ends after : Option V) → before ≡ one ∷ left
      → IfSome ends (Ended items end_of all before)
      → IfSome after (λ a. IsSomeAnd ends (λ b. IsSomeAnd (end_of one) (λ e. items a ≡ items b ++ e ∷ [])))
      → IfSome after (Ended items end_of all left)
  ended_next items end_of all before left one ends None next so more = tt {0}
  ended_next items end_of all before left one None (Some a) next so more = absurd more
  ended_next items end_of all before left one (Some b) (Some a) next so more = record {
    those = ended_more items end_of all left one (end_of one) b a refl
        (subst (λ ys. map end_of all ≡ map Some (items b) ++ map end_of ys) next so.those) more;
  }

  room_more : (items : V → List X) (capacity : V → ℕ) (left : List D) (o : Option X) (b a : V)
      → length (items b) + (length left + 1) ≤ capacity b
      → IsSomeAnd o (λ e. items a ≡ items b ++ e ∷ []) → capacity a ≡ capacity b
      → length (items a) + length left ≤ capacity a
  room_more items capacity left None b a room more same = absurd more
  room_more items capacity left (Some e) b a room more same =
      omega (arith, room, ap length more, length_push (items b) e, same)

  -- and there is room for the others'
  pub room_next : (items : V → List X) (capacity : V → ℕ) (end_of : D → Option X) (before left : List D) (one : D)
      (ends after : Option V)
      → before ≡ one ∷ left → IfSome ends (λ v. length (items v) + length before ≤ capacity v)
      → IfSome after (λ a. IsSomeAnd ends (λ b. IsSomeAnd (end_of one) (λ e. items a ≡ items b ++ e ∷ [])))
      → IfSome after (λ a. IsSomeAnd ends (λ b. capacity a ≡ capacity b))
      → IfSome after (λ v. length (items v) + length left ≤ capacity v)
  room_next items capacity end_of before left one ends None next room more same = tt {0}
  room_next items capacity end_of before left one None (Some a) next room more same = absurd more
  room_next items capacity end_of before left one (Some b) (Some a) next room more same =
      room_more items capacity left (end_of one) b a (omega (arith, room, ap length next)) more same

  -- the ends of all are there
  pub ended_last : (items : V → List X) (end_of : D → Option X) (all left : List D) (ends : Option V) → length left ≡ 0
      → IfSome ends (Ended items end_of all left) → IfSome ends (λ v. map end_of all ≡ map Some (items v))
  ended_last items end_of all left None none so = tt {0}
  ended_last items end_of all left (Some v) none so =
      so.those ∙ ap (λ ys. map Some (items v) ++ map end_of ys) (no_others left none) ∙ append-nil (map Some (items v))
