use Rattle.std.proofs.Common.{◌++◌, [], ◌∷◌, List, ℕ, Some, None, ap, sym, subst, refl, ◌∙◌, append-nil, get_or}
use Rattle.std.proofs.lemmas.List.{drop_all}
use Rattle.std.specs.Option.{option_copied}
use Rattle.brc_words.specs.declared.kind.Kind.TheVariants as kinds
use Rattle.brc_report.specs.declared.content.Remain.{Remain}
use Rattle.brc_report.specs.Cycles.{holder_in, CycleAt, CyclesAt}
use Rattle.brc_report.proofs.Searching.{listed_more}
use Rattle.brc_report.proofs.cycles.find_cycles.Goals as goal
use Rattle.brc_report.proofs.cycles.find_cycles.Goals.{in-Some+in_ok-from_slice+in_ok-push, in_default}

pub loop-remain-preserved : goal.loop-remain-preserved
loop-remain-preserved g c =
    let d : Remain = record { cell = 0; kind = kinds.Int; held_by = 0 } in
    let told = c.in_ok-found.ensures c.loop-remain.remain-index d c.loop-remain-test.true in
    elim c.match-get.branch [
      | in-Some+in_ok-from_slice+in_ok-push w ↦
          listed_more (holder_in c.args.remains.now) c.args.remains.now c.loop-remain.remain-index d
          (Some w.in-Some.cycle.now) c.loop-remain.cycles.items _ c.loop-remain-test.true
          (subst (CycleAt (holder_in c.args.remains.now) (get_or c.args.remains.now c.loop-remain.remain-index d).cell)
          (sym c.get.ensures ∙ ap option_copied w.in-Some.is) told)
          (ap (λ v. v.items) w.cycles-is ∙ (w.in_ok-push.ensures.items
          ∙ ap (λ (x : List ℕ). c.loop-remain.cycles.items ++ x ∷ [])
          (w.new.ensures ∙ (w.in_ok-from_slice.ensures.items ∙ w.as_slice.ensures))))
          c.loop-remain.invariant
      | in_default w ↦
          listed_more (holder_in c.args.remains.now) c.args.remains.now c.loop-remain.remain-index d
          None c.loop-remain.cycles.items _ c.loop-remain-test.true
          (subst (CycleAt (holder_in c.args.remains.now) (get_or c.args.remains.now c.loop-remain.remain-index d).cell)
          (sym c.get.ensures ∙ ap option_copied w.in_default.is) told)
          (ap (λ v. v.items) w.cycles-is ∙ sym (append-nil c.loop-remain.cycles.items)) c.loop-remain.invariant
    ]

pub returns-clause-cycles : goal.returns-clause-cycles
returns-clause-cycles g c =
    subst (CyclesAt (holder_in c.args.remains.now) c.args.remains.now) (append-nil c.loop-remain.cycles.items)
    (c.loop-remain.invariant []
    (subst (λ w. CyclesAt (holder_in c.args.remains.now) w [])
    (sym (drop_all c.loop-remain.remain-index c.args.remains.now c.loop-remain-test.false)) refl))
