-- A new session is written to, and then kept or dropped.
use Rattle.std.proofs.Common.{◌≡◌, ◌∙◌, arith}
use Rattle.brc_heap.specs.Words.{FrameSeen, HandleSeen, Keeps, Gains, Loses}

module _ {A : Type 0} (old made written : FrameSeen A) (session : HandleSeen) where
  pub written_gains : Gains old made session → Keeps made written → Gains old written session
  written_gains gains keeps = record {
    heap = keeps.heap ∙ gains.heap;
    len = keeps.len ∙ gains.len;
    owns = λ h is. keeps.owns h (gains.owns h is);
    owned = keeps.owns session gains.owned;
    room = gains.room;
    apart = gains.apart;
  }

  pub dropped_keeps : (new : FrameSeen A) → Gains old made session → Keeps made written → Loses written new session
      → Keeps old new
  dropped_keeps new gains keeps loses = record {
    heap = loses.heap ∙ keeps.heap ∙ gains.heap;
    len = omega (arith, loses.len, keeps.len, gains.len);
    owns = λ h is. loses.owns h (keeps.owns h (gains.owns h is)) (gains.apart h is);
  }
