use Rattle.std.proofs.Common.{◌≡◌, ◌+◌, ◌*◌, ℕ, sym, subst}
use Rattle.brc_table.specs.law.world.Lists.{word_at}
use Rattle.brc_count.specs.Frames.{FrameSeen, KeepsHandles, popped_seen}
use Rattle.brc_count.specs.Polling.{DrainsEach, DrainsNamed, NoName, NotNamed, Named}
use Rattle.brc_count.proofs.Changes.{kept, kept_on}
use Rattle.brc_count.proofs.holdings.Holdings.drain_named.Goals as goal
use Rattle.brc_count.proofs.holdings.Holdings.drain_named.Goals.{then-is_named, else-is_named}

pub loop-bit-init : goal.loop-bit-init
loop-bit-init g c = (NoName, kept c.args.self.now, c.requires.blank)

pub loop-bit-preserved : goal.loop-bit-preserved
loop-bit-preserved g c =
    let inv = c.loop-bit.invariant in
    let bit = c.loop-bit.bit in
    let words = c.words-words.result in
    let P = λ (s : FrameSeen g.row.A.Denot). DrainsNamed c.args.named words c.args.self.now (bit + 1) s
    × KeepsHandles c.args.self.now s
    × ((k : ℕ) → word_at (popped_seen s) k ≡ 0) in
    elim c.if-is_named.branch [
      | then-is_named w ↦
          let each = w.drain_each.ensures in
          let drains = subst (λ m. DrainsEach (bit * 32) c.loop-bit.self m w.drain_each.new.self) w.past_named.ensures
          each.drains in
          subst P (sym w.self-is) (
            Named bit c.loop-bit.self w.drain_each.new.self inv.0 (c.is_named.ensures.named w.if-is_named.true) drains,
            kept_on inv.1 each.keeps,
            each.blank,
          )
      | else-is_named w ↦
          subst P (sym w.self-is) (
            NotNamed bit c.loop-bit.self inv.0 (c.is_named.ensures.other w.if-is_named.false),
            inv.1,
            inv.2,
          )
    ]
