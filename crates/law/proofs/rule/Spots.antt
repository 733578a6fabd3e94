-- Each word of the table has a spot of its own.
use Rattle.std.proofs.Common.{◌≡◌, ℕ, ◌<◌, ◌≤◌, ap, ◌∙◌, arith}
use Rattle.brc_words.specs.declared.limits.TheConstants.{MOST_CELLS}
use Rattle.law.specs.declared.known.word.Field.TheVariants.{Owner, Local, Shared, Mutex}
use Rattle.law.specs.declared.known.word.Word.{Word}
use Rattle.law.specs.declared.known.word.Word.TheVariants.{Of, Queue, NotifyWord, FreeWord}
use Rattle.law.specs.known.Items.{IsWord}
use Rattle.law.specs.rule.Layout.{spot, extent}

-- the word at the spot is one of the table's
pub inside : (n : ℕ) (w : Word) → IsWord n w → spot n w < extent n
inside n (Of Owner c) is = omega (arith, is)
inside n (Of Local c) is = absurd is
inside n (Of Shared c) is = omega (arith, is)
inside n (Of Mutex c) is = omega (arith, is)
inside n (Queue t k) is = omega (arith, is.0, is.1)
inside n (NotifyWord t) is = omega (arith, is)
inside n (FreeWord k) is = omega (arith, is)

-- two words of the table that share a spot are one word
pub apart : (n : ℕ) (w v : Word) → n ≤ MOST_CELLS → IsWord n w → IsWord n v → spot n w ≡ spot n v → w ≡ v
apart n (Of Owner c) (Of Owner d) _ is that same = let e : c ≡ d = omega (arith, is, that, same) in ap (Of Owner) e
apart n (Of Owner c) (Of Local d) _ is that same = absurd that
apart n (Of Owner c) (Of Shared d) _ is that same = absurd (omega (arith, is, that, same))
apart n (Of Owner c) (Of Mutex d) _ is that same = absurd (omega (arith, is, that, same))
apart n (Of Owner c) (Queue u j) _ is that same = absurd (omega (arith, is, that.0, that.1, same))
apart n (Of Owner c) (NotifyWord u) _ is that same = absurd (omega (arith, is, that, same))
apart n (Of Owner c) (FreeWord j) few is that same = absurd (omega (arith, few, is, that, same))
apart n (Of Local c) v _ is that same = absurd is
apart n (Of Shared c) (Of Owner d) _ is that same = absurd (omega (arith, is, that, same))
apart n (Of Shared c) (Of Local d) _ is that same = absurd that
apart n (Of Shared c) (Of Shared d) _ is that same = let e : c ≡ d = omega (arith, is, that, same) in ap (Of Shared) e
apart n (Of Shared c) (Of Mutex d) _ is that same = absurd (omega (arith, is, that, same))
apart n (Of Shared c) (Queue u j) _ is that same = absurd (omega (arith, is, that.0, that.1, same))
apart n (Of Shared c) (NotifyWord u) _ is that same = absurd (omega (arith, is, that, same))
apart n (Of Shared c) (FreeWord j) few is that same = absurd (omega (arith, few, is, that, same))
apart n (Of Mutex c) (Of Owner d) _ is that same = absurd (omega (arith, is, that, same))
apart n (Of Mutex c) (Of Local d) _ is that same = absurd that
apart n (Of Mutex c) (Of Shared d) _ is that same = absurd (omega (arith, is, that, same))
apart n (Of Mutex c) (Of Mutex d) _ is that same = let e : c ≡ d = omega (arith, is, that, same) in ap (Of Mutex) e
apart n (Of Mutex c) (Queue u j) _ is that same = absurd (omega (arith, is, that.0, that.1, same))
apart n (Of Mutex c) (NotifyWord u) _ is that same = absurd (omega (arith, is, that, same))
apart n (Of Mutex c) (FreeWord j) few is that same = absurd (omega (arith, few, is, that, same))
apart n (Queue t k) (Of Owner d) _ is that same = absurd (omega (arith, is.0, is.1, that, same))
apart n (Queue t k) (Of Local d) _ is that same = absurd that
apart n (Queue t k) (Of Shared d) _ is that same = absurd (omega (arith, is.0, is.1, that, same))
apart n (Queue t k) (Of Mutex d) _ is that same = absurd (omega (arith, is.0, is.1, that, same))
apart n (Queue t k) (Queue u j) _ is that same = let at : t ≡ u = omega (arith, is.0, is.1, that.0, that.1, same) in
    let e : k ≡ j = omega (arith, is.0, is.1, that.0, that.1, same) in ap (λ x. Queue x k) at ∙ ap (Queue u) e
apart n (Queue t k) (NotifyWord u) _ is that same = absurd (omega (arith, is.0, is.1, that, same))
apart n (Queue t k) (FreeWord j) few is that same = absurd (omega (arith, few, is.0, is.1, that, same))
apart n (NotifyWord t) (Of Owner d) _ is that same = absurd (omega (arith, is, that, same))
apart n (NotifyWord t) (Of Local d) _ is that same = absurd that
apart n (NotifyWord t) (Of Shared d) _ is that same = absurd (omega (arith, is, that, same))
apart n (NotifyWord t) (Of Mutex d) _ is that same = absurd (omega (arith, is, that, same))
apart n (NotifyWord t) (Queue u j) _ is that same = absurd (omega (arith, is, that.0, that.1, same))
apart n (NotifyWord t) (NotifyWord u) _ is that same = let e : t ≡ u = omega (arith, is, that, same) in ap NotifyWord e
apart n (NotifyWord t) (FreeWord j) few is that same = absurd (omega (arith, few, is, that, same))
apart n (FreeWord k) (Of Owner d) few is that same = absurd (omega (arith, few, is, that, same))
apart n (FreeWord k) (Of Local d) few is that same = absurd that
apart n (FreeWord k) (Of Shared d) few is that same = absurd (omega (arith, few, is, that, same))
apart n (FreeWord k) (Of Mutex d) few is that same = absurd (omega (arith, few, is, that, same))
apart n (FreeWord k) (Queue u j) few is that same = absurd (omega (arith, few, is, that.0, that.1, same))
apart n (FreeWord k) (NotifyWord u) few is that same = absurd (omega (arith, few, is, that, same))
apart n (FreeWord k) (FreeWord j) few is that same = let e : k ≡ j = omega (arith, few, is, that, same) in ap FreeWord e
