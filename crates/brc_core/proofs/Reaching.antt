-- The opening world is reached, and so is the world after an event that is enabled in a reached one.
use Rattle.std.proofs.Common.{◌≡◌, ℕ, true, [], ◌∷◌, ap, subst, sym, refl}
use Rattle.law.specs.declared.world.edition.Edition.{Edition}
use Rattle.law.specs.declared.world.event.Event.{Event}
use Rattle.law.specs.world.Heap.{Heap, opening_in, AreOptions}
use Rattle.law.specs.world.Steps.{enabled, after}
use Rattle.law.specs.world.Runs.{IsReached}

pub reached_opening : (edition : Edition) (cells limit : ℕ) → AreOptions cells limit
    → IsReached (opening_in edition cells limit)
reached_opening edition cells limit options = record {
  edition = edition;
  cells = cells;
  limit = limit;
  options = options;
  run = [];
  is_run = tt;
  leads_here = refl;
}

pub reached_after : (h : Heap) (e : Event) → IsReached h → enabled h e ≡ true → IsReached (after h e)
reached_after h e reached may =
    let P : Heap → Type 0 = λ world. enabled world e ≡ true in
    record {
      edition = reached.edition;
      cells = reached.cells;
      limit = reached.limit;
      options = reached.options;
      run = e ∷ reached.run;
      is_run = (reached.is_run, subst P (sym reached.leads_here) may);
      leads_here = ap (λ (world : Heap). after world e) reached.leads_here;
    }
