use Rattle.std.proofs.Common.{rules, ◌≡◌, ◌<◌, inl, inr, sym, ◌∙◌, subst, arith}
use Rattle.std.proofs.lemmas.Bool.{cases_lt}
use Rattle.brc_table.specs.law.rule.Seen.{counts_seen}
use Rattle.brc_biased.specs.Counter.{CounterSeen}
use Rattle.brc_biased.proofs.Owning.{none_in_word}
use Rattle.brc_biased.proofs.counter.Counter.next_owned.Goals as goal

pub loop-cell-preserved-then-bits_from-eq0 : goal.loop-cell-preserved-then-bits_from-eq0
loop-cell-preserved-then-bits_from-eq0 g c = (
  omega (arith, c.loop-cell.invariant.0),
  λ k past low mortal inside. elim (cases_lt k c.loop-cell.cell) [
    | inl below ↦ c.loop-cell.invariant.1 k past below mortal inside
    | inr above ↦ subst (λ (s : CounterSeen g.row.A.Denot). counts_seen s.heap.cells s.seat.log k ≡ 0) c.self.view_is
        (sym (c.self.invariant.fit.mortal k mortal
        (subst (λ (s : CounterSeen g.row.A.Denot). k < s.heap.cells) (sym c.self.view_is) inside))
        ∙ none_in_word _ c.self.inside.counts.items c.self.inside.owned.items c.loop-cell.cell k c.self.invariant.owns
        (search rules) mortal (subst (λ (s : CounterSeen g.row.A.Denot). k < s.heap.cells) (sym c.self.view_is) inside)
        above low)
  ],
)
