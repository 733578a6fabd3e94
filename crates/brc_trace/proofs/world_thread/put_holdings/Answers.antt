use Rattle.std.proofs.Common.{◌≡◌, ℕ, List, ◌++◌, length, refl, sym, ap}
use Rattle.std.proofs.lemmas.Result.{err_from_is_err_and}
use Rattle.law.specs.declared.world.row.Hand.{Hand}
use Rattle.law.specs.world.Heap.{Heap, row_at, frame_at}
use Rattle.brc_trace.specs.declared.world_thread.Pile.TheVariants as piles
use Rattle.brc_trace.specs.Worlds.{over, hand_text, locked_text, frame_text, pile_text, holdings_text}
use Rattle.brc_text.proofs.PutLaws.{starts, goes_on, fails}
use Rattle.brc_trace.proofs.WorldLaws.{last_puts}
use Rattle.brc_trace.proofs.world_thread.put_holdings.Goals as goal

-- what stands behind each part of the text
abbrev behind_queued : Heap → ℕ → List ℕ
behind_queued h t = pile_text h t piles.Popped ++ pile_text h t piles.Work

abbrev behind_frame : Heap → ℕ → List ℕ
behind_frame h t = pile_text h t piles.Queued ++ behind_queued h t

abbrev behind_locked : Heap → ℕ → List ℕ
behind_locked h t = over (frame_text h t) 0 (length (frame_at h t)) ++ behind_frame h t

abbrev behind_hand : Heap → ℕ → List ℕ
behind_hand h t = locked_text h t (row_at h t).locked ++ behind_locked h t

holdings_is : (h : Heap) (t : ℕ) (hand : Hand) → hand ≡ (row_at h t).hand
    → holdings_text h t ≡ hand_text t hand ++ behind_hand h t
unfolding holdings_text
holdings_is h t hand is = ap (λ (x : Hand). hand_text t x ++ behind_hand h t) (sym is)

pub returns-in_err-put_hand : goal.returns-in_err-put_hand
returns-in_err-put_hand g c =
    let p = err_from_is_err_and c.from_residual.result c.from_residual.ensures.1 in
    let short = fails (hand_text c.args.thread c.args.hand) (behind_hand c.args.world.now c.args.thread)
    (starts (g.W.Write.contents c.args.writer.now) (holdings_text c.args.world.now c.args.thread))
    (holdings_is c.args.world.now c.args.thread c.args.hand c.requires) c.in_err-put_hand.ensures.2 in
    rw (p.1, p.2) (
      c.in_err-put_hand.ensures.0,
      c.in_err-put_hand.ensures.1
          ++ (behind_hand c.args.world.now c.args.thread),
      short,
    )

pub returns-in_err-put_locked : goal.returns-in_err-put_locked
returns-in_err-put_locked g c =
    let p = err_from_is_err_and c.from_residual-in_err-put_locked.result c.from_residual-in_err-put_locked.ensures.1 in
    let after_1 = goes_on _ (hand_text c.args.thread c.args.hand) (behind_hand c.args.world.now c.args.thread)
    (starts (g.W.Write.contents c.args.writer.now) (holdings_text c.args.world.now c.args.thread))
    (holdings_is c.args.world.now c.args.thread c.args.hand c.requires) c.in_ok-put_hand.ensures in
    let short = fails (locked_text c.args.world.now c.args.thread (row_at c.args.world.now c.args.thread).locked)
    (behind_locked c.args.world.now c.args.thread) after_1 refl c.in_err-put_locked.ensures.2 in
    rw (p.1, p.2) (
      c.in_err-put_locked.ensures.0,
      c.in_err-put_locked.ensures.1
          ++ (behind_locked c.args.world.now c.args.thread),
      short,
    )

pub returns-in_err-put_frame : goal.returns-in_err-put_frame
returns-in_err-put_frame g c =
    let p = err_from_is_err_and c.from_residual-in_err-put_frame.result c.from_residual-in_err-put_frame.ensures.1 in
    let after_1 = goes_on _ (hand_text c.args.thread c.args.hand) (behind_hand c.args.world.now c.args.thread)
    (starts (g.W.Write.contents c.args.writer.now) (holdings_text c.args.world.now c.args.thread))
    (holdings_is c.args.world.now c.args.thread c.args.hand c.requires) c.in_ok-put_hand.ensures in
    let after_2 = goes_on _ (locked_text c.args.world.now c.args.thread (row_at c.args.world.now c.args.thread).locked)
    (behind_locked c.args.world.now c.args.thread) after_1 refl c.in_ok-put_locked.ensures in
    let short = fails (over (frame_text c.args.world.now c.args.thread) 0
    (length (frame_at c.args.world.now c.args.thread))) (behind_frame c.args.world.now c.args.thread) after_2 refl
    c.in_err-put_frame.ensures.2 in
    rw (p.1, p.2) (
      c.in_err-put_frame.ensures.0,
      c.in_err-put_frame.ensures.1
          ++ (behind_frame c.args.world.now c.args.thread),
      short,
    )

pub returns-in_err-put_pile : goal.returns-in_err-put_pile
returns-in_err-put_pile g c =
    let p = err_from_is_err_and c.from_residual-in_err-put_pile.result c.from_residual-in_err-put_pile.ensures.1 in
    let after_1 = goes_on _ (hand_text c.args.thread c.args.hand) (behind_hand c.args.world.now c.args.thread)
    (starts (g.W.Write.contents c.args.writer.now) (holdings_text c.args.world.now c.args.thread))
    (holdings_is c.args.world.now c.args.thread c.args.hand c.requires) c.in_ok-put_hand.ensures in
    let after_2 = goes_on _ (locked_text c.args.world.now c.args.thread (row_at c.args.world.now c.args.thread).locked)
    (behind_locked c.args.world.now c.args.thread) after_1 refl c.in_ok-put_locked.ensures in
    let after_3 = goes_on _ (over (frame_text c.args.world.now c.args.thread) 0
    (length (frame_at c.args.world.now c.args.thread))) (behind_frame c.args.world.now c.args.thread) after_2 refl
    c.in_ok-put_frame.ensures in
    let short = fails (pile_text c.args.world.now c.args.thread piles.Queued)
    (behind_queued c.args.world.now c.args.thread) after_3 refl c.in_err-put_pile.ensures.2 in
    rw (p.1, p.2) (
      c.in_err-put_pile.ensures.0,
      c.in_err-put_pile.ensures.1
          ++ (behind_queued c.args.world.now c.args.thread),
      short,
    )

pub returns-in_err-put_pile-2 : goal.returns-in_err-put_pile-2
returns-in_err-put_pile-2 g c =
    let p = err_from_is_err_and c.from_residual-in_err-put_pile-2.result c.from_residual-in_err-put_pile-2.ensures.1 in
    let after_1 = goes_on _ (hand_text c.args.thread c.args.hand) (behind_hand c.args.world.now c.args.thread)
    (starts (g.W.Write.contents c.args.writer.now) (holdings_text c.args.world.now c.args.thread))
    (holdings_is c.args.world.now c.args.thread c.args.hand c.requires) c.in_ok-put_hand.ensures in
    let after_2 = goes_on _ (locked_text c.args.world.now c.args.thread (row_at c.args.world.now c.args.thread).locked)
    (behind_locked c.args.world.now c.args.thread) after_1 refl c.in_ok-put_locked.ensures in
    let after_3 = goes_on _ (over (frame_text c.args.world.now c.args.thread) 0
    (length (frame_at c.args.world.now c.args.thread))) (behind_frame c.args.world.now c.args.thread) after_2 refl
    c.in_ok-put_frame.ensures in
    let after_4 = goes_on _ (pile_text c.args.world.now c.args.thread piles.Queued)
    (behind_queued c.args.world.now c.args.thread) after_3 refl c.in_ok-put_pile.ensures in
    let short = fails (pile_text c.args.world.now c.args.thread piles.Popped)
    (pile_text c.args.world.now c.args.thread piles.Work) after_4 refl c.in_err-put_pile-2.ensures.2 in
    rw (p.1, p.2) (
      c.in_err-put_pile-2.ensures.0,
      c.in_err-put_pile-2.ensures.1
          ++ (pile_text c.args.world.now c.args.thread piles.Work),
      short,
    )

pub returns : goal.returns
returns g c =
    let after_1 = goes_on _ (hand_text c.args.thread c.args.hand) (behind_hand c.args.world.now c.args.thread)
    (starts (g.W.Write.contents c.args.writer.now) (holdings_text c.args.world.now c.args.thread))
    (holdings_is c.args.world.now c.args.thread c.args.hand c.requires) c.in_ok-put_hand.ensures in
    let after_2 = goes_on _ (locked_text c.args.world.now c.args.thread (row_at c.args.world.now c.args.thread).locked)
    (behind_locked c.args.world.now c.args.thread) after_1 refl c.in_ok-put_locked.ensures in
    let after_3 = goes_on _ (over (frame_text c.args.world.now c.args.thread) 0
    (length (frame_at c.args.world.now c.args.thread))) (behind_frame c.args.world.now c.args.thread) after_2 refl
    c.in_ok-put_frame.ensures in
    let after_4 = goes_on _ (pile_text c.args.world.now c.args.thread piles.Queued)
    (behind_queued c.args.world.now c.args.thread) after_3 refl c.in_ok-put_pile.ensures in
    let after_5 = goes_on _ (pile_text c.args.world.now c.args.thread piles.Popped)
    (pile_text c.args.world.now c.args.thread piles.Work) after_4 refl c.in_ok-put_pile-2.ensures in
    last_puts (g.W.Write.contents c.put_pile-3.new.writer) c.put_pile-3.result
    (pile_text c.args.world.now c.args.thread piles.Work) after_5 refl c.put_pile-3.ensures
