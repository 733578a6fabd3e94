-- What one more item makes of the payloads of private cells.
use Rattle.std.proofs.Common.{◌≡◌, ℕ, ◌==◌, Bool, true, false, if◌then◌else◌, List, ◌∷◌, Option, Some, None, refl, sym}
use Rattle.std.proofs.Common.{◌∙◌, ap}
use Rattle.std.proofs.lemmas.Bool.{eqb-true, true≢false}
use Rattle.brc_words.specs.declared.kind.Kind.{Kind}
use Rattle.law.specs.declared.world.event.Change.{Change}
use Rattle.law.specs.declared.world.event.Step.{Step}
use Rattle.law.specs.declared.world.event.Step.TheVariants.{Birth, Free, Unlock, Offer}
use Rattle.law.specs.declared.rule.contents.Contents.{Contents}
use Rattle.law.specs.declared.rule.told.Moved.{Moved}
use Rattle.law.specs.declared.rule.told.Moved.TheVariants as moves
use Rattle.law.specs.declared.rule.told.LogItem.{LogItem}
use Rattle.law.specs.declared.rule.told.LogItem.TheVariants.{Stepped}
use Rattle.law.specs.rule.Seen.{part_seen}
use Rattle.law.specs.private.Private.{is_shared, is_plain}
use Rattle.law.proofs.private.Going_On.{same_set}
use Rattle.law.specs.payloads.Payloads.{private_seen, last_put, payloads_of, locked_seen}

-- of one cell: whether it is private, and what was put there
abbrev payload_if : Bool → Contents → Option Contents
payload_if b put = if b then Some put else None

born_there : (b m : Bool) (new old : Contents) → payload_if (if b then true else m) (if b then new else old)
    ≡ (if b then Some new else payload_if m old)
born_there true m new old = refl
born_there false m new old = refl

pub born : (n : ℕ) (log : List LogItem) (d : ℕ) (kind : Kind) (k number : ℕ) (contents : Contents) (c : ℕ)
    → payloads_of n (Stepped (Birth d kind k) number (moves.Put d contents) ∷ log) c
    ≡ (if d == c then Some contents else payloads_of n log c)
born n log d kind k number contents c = born_there (d == c) (private_seen n log c) contents (last_put log c)

freed_there : (b m : Bool) (old : Contents)
    → payload_if (if b then false else m) old ≡ (if b then None else payload_if m old)
freed_there true m old = refl
freed_there false m old = refl

pub freed : (n : ℕ) (log : List LogItem) (d number c : ℕ)
    → payloads_of n (Stepped (Free d) number moves.Nothing ∷ log) c
    ≡ (if d == c then None else payloads_of n log c)
freed n log d number c = freed_there (d == c) (private_seen n log c) (last_put log c)

pub offered : (n : ℕ) (log : List LogItem) (d number c : ℕ)
    → payloads_of n (Stepped (Offer d) number moves.Nothing ∷ log) c
    ≡ (if private_seen n log d then None else payloads_of n log c)
offered n log d number c = freed_there (private_seen n log d) (private_seen n log c) (last_put log c)

pub shared : (n : ℕ) (log : List LogItem) (change : Change) (number : ℕ) (moved : Moved) (c : ℕ)
    → is_shared (private_seen n log) (part_seen n log).frame (locked_seen n log) change ≡ true
    → payloads_of n (Stepped (Unlock change) number moved ∷ log) c ≡ None
shared n log change number moved c is =
    ap (λ b. payload_if (if b then false else private_seen n log c)
    (last_put (Stepped (Unlock change) number moved ∷ log) c)) is

unshared_there : (b m : Bool) (new old : Contents) → (b ≡ true → m ≡ true)
    → payload_if m (if b then new else old) ≡ (if b then Some new else payload_if m old)
unshared_there true true new old own = refl
unshared_there true false new old own = absurd (true≢false (sym (own refl)))
unshared_there false m new old own = refl

outside_there : (b m : Bool) (new old : Contents) → (b ≡ true → m ≡ false)
    → payload_if m (if b then new else old) ≡ payload_if m old
outside_there true true new old out = absurd (true≢false (out refl))
outside_there true false new old out = refl
outside_there false m new old out = refl

pub changed : (n : ℕ) (log : List LogItem) (change : Change) (number d : ℕ) (contents : Contents) (c : ℕ)
    → is_shared (private_seen n log) (part_seen n log).frame (locked_seen n log) change ≡ false
    → private_seen n log d ≡ true → payloads_of n (Stepped (Unlock change) number (moves.Put d contents) ∷ log) c
    ≡ (if d == c then Some contents else payloads_of n log c)
changed n log change number d contents c kept own =
    ap (λ b. payload_if (if b then false else private_seen n log c) (if d == c then contents else last_put log c)) kept
    ∙ unshared_there (d == c) (private_seen n log c) contents (last_put log c)
    (λ same. ap (private_seen n log) (sym (eqb-true d c same)) ∙ own)

pub outside : (n : ℕ) (log : List LogItem) (change : Change) (number d : ℕ) (contents : Contents) (c : ℕ)
    → is_shared (private_seen n log) (part_seen n log).frame (locked_seen n log) change ≡ false
    → private_seen n log d ≡ false → payloads_of n (Stepped (Unlock change) number (moves.Put d contents) ∷ log) c
    ≡ payloads_of n log c
outside n log change number d contents c kept out =
    ap (λ b. payload_if (if b then false else private_seen n log c) (if d == c then contents else last_put log c)) kept
    ∙ outside_there (d == c) (private_seen n log c) contents (last_put log c)
    (λ same. ap (private_seen n log) (sym (eqb-true d c same)) ∙ out)

pub plain : (n : ℕ) (log : List LogItem) (s : Step) (number c : ℕ) → is_plain s ≡ true
    → payloads_of n (Stepped s number moves.Nothing ∷ log) c ≡ payloads_of n log c
plain n log s number c is = ap (λ b. payload_if b (last_put log c))
    (same_set (part_seen n log).frame (locked_seen n log) s (private_seen n log) c is)

pub found : (n : ℕ) (log : List LogItem) (s : Step) (number d : ℕ) (contents : Contents) (c : ℕ) → is_plain s ≡ true
    → payloads_of n (Stepped s number (moves.Found d contents) ∷ log) c ≡ payloads_of n log c
found n log s number d contents c is = ap (λ b. payload_if b (last_put log c))
    (same_set (part_seen n log).frame (locked_seen n log) s (private_seen n log) c is)
