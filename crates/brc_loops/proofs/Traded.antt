-- A handle that was traded for another, which is traded or lost in turn.
use Rattle.std.proofs.Common.{refl, ◌∙◌}
use Rattle.brc_count.specs.Frames.{FrameSeen, HandleSeen, Owns}
use Rattle.brc_count.specs.Owned.{Loses, Trades}

module _ {A : Type 0} where
  -- before the first turn the handle stands for itself
  pub traded_not : (frame : FrameSeen A) (handle : HandleSeen) → Owns frame handle → Trades frame frame handle handle
  traded_not frame handle owned = record {
    heap = refl;
    len = refl;
    owns = λ h owns apart. owns;
    owned = owned;
    apart = λ h owns apart. apart;
  }

  pub traded_on : (old mid new : FrameSeen A) (gone held given : HandleSeen) → Trades old mid gone held
      → Trades mid new held given → Trades old new gone given
  traded_on old mid new gone held given first second = record {
    heap = second.heap ∙ first.heap;
    len = second.len ∙ first.len;
    owns = λ h owns apart. second.owns h (first.owns h owns apart) (first.apart h owns apart);
    owned = second.owned;
    apart = λ h owns apart. second.apart h (first.owns h owns apart) (first.apart h owns apart);
  }

  pub traded_away : (old mid new : FrameSeen A) (gone held : HandleSeen) → Trades old mid gone held
      → Loses mid new held → Loses old new gone
  traded_away old mid new gone held first second = record {
    heap = second.heap ∙ first.heap;
    len = second.len ∙ first.len;
    owns = λ h owns apart. second.owns h (first.owns h owns apart) (first.apart h owns apart);
  }
