-- A new handle goes from turn to turn, and is kept or released.
use Rattle.std.proofs.Common.{◌≡◌, ◌∙◌, ◌<◌, sym, arith}
use Rattle.brc_words.specs.declared.limits.TheConstants.{MOST_PLACES}
use Rattle.brc_count.specs.Frames.{FrameSeen, HandleSeen, Owns}
use Rattle.brc_count.specs.Owned.{Keeps, Gains, Loses, Trades}

module _ {A : Type 0} (old made passed : FrameSeen A) (first last : HandleSeen) where
  pub chained_gains : Gains old made first → Trades made passed first last → last.place < MOST_PLACES
      → Gains old passed last
  chained_gains gains trades room = record {
    heap = trades.heap ∙ gains.heap;
    len = trades.len ∙ gains.len;
    owns = λ h is. trades.owns h (gains.owns h is) (gains.apart h is);
    owned = trades.owned;
    room = room;
    apart = λ h is. trades.apart h (gains.owns h is) (gains.apart h is);
  }

  pub chained_keeps : (new : FrameSeen A) → Gains old made first → Trades made passed first last
      → Loses passed new last → Keeps old new
  chained_keeps new gains trades loses = record {
    heap = loses.heap ∙ trades.heap ∙ gains.heap;
    len = omega (arith, loses.len, trades.len, gains.len);
    owns = λ h is.
        loses.owns h (trades.owns h (gains.owns h is) (gains.apart h is))
        (trades.apart h (gains.owns h is) (gains.apart h is));
  }

module _ {A : Type 0} (old mid new : FrameSeen A) (gone after : HandleSeen) where
  -- a handle came, and another one went
  pub gone_trades : Gains old mid after → Loses mid new gone → Owns old gone → Trades old new gone after
  gone_trades gains loses owned = record {
    heap = loses.heap ∙ gains.heap;
    len = omega (arith, loses.len, gains.len);
    owns = λ h is apart. loses.owns h (gains.owns h is) apart;
    owned = loses.owns after gains.owned (λ same. gains.apart gone owned (sym same));
    apart = λ h is apart. gains.apart h is;
  }
