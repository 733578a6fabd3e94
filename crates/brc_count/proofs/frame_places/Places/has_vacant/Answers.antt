use Rattle.std.proofs.Common.{inl, inr, sym, ◌∙◌}
use Rattle.std.proofs.lemmas.Bool.{cases_lt, lt-ltb, true≢false}
use Rattle.brc_words.specs.declared.limits.TheConstants.{MOST_PLACES}
use Rattle.brc_count.proofs.Place_Lists.{all_held}
use Rattle.brc_count.proofs.frame_places.Places.has_vacant.Goals as goal

pub returns-clause-full : goal.returns-clause-full
returns-clause-full g c = λ no. elim (cases_lt c.self.inside.next MOST_PLACES) [
  | inl low ↦ absurd (true≢false (sym (lt-ltb c.self.inside.next MOST_PLACES low) ∙ no))
  | inr high ↦ rw (← c.self.view_is) (all_held c.self.inside.slots.items c.self.inside.next c.self.inside.len
      c.self.invariant high)
]
