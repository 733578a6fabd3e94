use Rattle.std.proofs.Common.{◌≡◌, ◌<◌, length, sym, subst, ap, ◌∙◌, arith, inl, inr}
use Rattle.std.proofs.lemmas.Bool.{cases_eq, cases_lt}
use Rattle.std.proofs.lemmas.List.{get_or_past}
use Rattle.brc_table.specs.law.world.Lists.{word_at}
use Rattle.brc_count.specs.Frames.{FrameSeen, popped_seen}
use Rattle.brc_count.proofs.Popping.{word_read, blank_from}
use Rattle.brc_count.proofs.holdings.Holdings.first_popped.Goals as goal

pub loop-word-preserved : goal.loop-word-preserved
loop-word-preserved g c = λ k low. elim (cases_eq k c.loop-word.word) [
  | inr other ↦ c.loop-word.invariant k (omega (arith, low, other))
  | inl same ↦
      let wide = subst (λ m. c.loop-word.word < m)
      (sym (c.self.invariant.words ∙ (rw (← c.self.view_is) at (sym c.words-words.ensures.words))))
      c.loop-word-test.true in
      let here = word_read c.self.inside.popped.items c.loop-word.word c.index.result.now c.index.ensures wide
      ∙ c.if-index-ne0.false in
      ap (word_at (popped_seen c.args.self.now)) same
      ∙ subst (λ (f : FrameSeen g.row.A.Denot). word_at (popped_seen f) c.loop-word.word ≡ 0) c.self.view_is
      (ap (λ ws. word_at ws c.loop-word.word) (sym c.self.invariant.popped_is) ∙ here)
]

pub returns-clause-none : goal.returns-clause-none
returns-clause-none g c =
    let wide = ap length (sym c.self.invariant.popped_is) ∙ c.self.invariant.words
    ∙ (rw (← c.self.view_is) at (sym c.words-words.ensures.words)) in
    blank_from (popped_seen c.args.self.now) (λ k. elim (cases_lt k c.loop-word.word) [
      | inl low ↦ c.loop-word.invariant k low
      | inr past ↦ subst (λ (f : FrameSeen g.row.A.Denot). word_at (popped_seen f) k ≡ 0) c.self.view_is
          (get_or_past _ k 0 (omega (arith, wide, past, c.loop-word-test.false)))
    ])
