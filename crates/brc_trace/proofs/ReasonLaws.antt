-- Reasons: each is so, and one is told exactly where a test fails.
use Rattle.std.proofs.Common.{◌≡◌, ℕ, ◌&&◌, ◌||◌, not, Bool, true, false, if◌then◌else◌, Option, Some, None}
use Rattle.std.proofs.Common.{is_none, is_some, refl, sym}
use Rattle.std.specs.Prelude.{IfSome}
use Rattle.std.specs.Option.{option_map}
use Rattle.brc_trace.specs.OwnReasons.{unless, IsSoOfLowest}

-- ---- tests

pub and_assoc : (a b c : Bool) → (a && b && c) ≡ (a && (b && c))
and_assoc true b c = refl
and_assoc false b c = refl

pub and_true : (a : Bool) → (a && true) ≡ a
and_true true = refl
and_true false = refl

pub true_not_false : {A : Type 0} {b : Bool} → b ≡ true → b ≡ false → A
true_not_false is isnt = absurd cc

pub not_false : (b : Bool) → not b ≡ false → b ≡ true
not_false true is = refl
not_false false is = absurd cc

pub not_true : (b : Bool) → not b ≡ true → b ≡ false
not_true true is = absurd cc
not_true false is = refl

pub first_true : (a b : Bool) → (a && b) ≡ true → a ≡ true
first_true true b is = refl
first_true false b is = absurd cc

pub second_true : (a b : Bool) → (a && b) ≡ true → b ≡ true
second_true true b is = is
second_true false b is = absurd cc

-- ---- where one is told

pub is_none-unless : {R : Type 0} (b : Bool) (reason : R) (next : Option R)
    → is_none (unless b reason next) ≡ (b && is_none next)
is_none-unless true reason next = refl
is_none-unless false reason next = refl

pub is_none-otherwise : {R : Type 0} (b : Bool) (next : Option R)
    → is_none (if b then None else next) ≡ (b || is_none next)
is_none-otherwise true next = refl
is_none-otherwise false next = refl

pub is_none-option_map : {A B : Type 0} (f : A → B) (o : Option A) → is_none (option_map f o) ≡ is_none o
is_none-option_map f None = refl
is_none-option_map f (Some x) = refl

pub told_where_failed : {A B : Type 0} (f : A → B) (o : Option A) (ok : Bool) → is_none o ≡ ok → ok ≡ false
    → is_some (option_map f o) ≡ true
told_where_failed f None ok is fails = true_not_false (sym is) fails
told_where_failed f (Some x) ok is fails = refl

-- ---- what is told

pub unless_so : {R : Type 0} (P : R → Type 0) (b : Bool) (reason : R) (next : Option R) → (b ≡ false → P reason)
    → IfSome next P → IfSome (unless b reason next) P
unless_so P true reason next so rest = rest
unless_so P false reason next so rest = so refl

pub otherwise_so : {R : Type 0} (P : R → Type 0) (b : Bool) (next : Option R) → IfSome next P
    → IfSome (if b then None else next) P
otherwise_so P true next rest = tt
otherwise_so P false next rest = rest

pub option_map_so : {A B : Type 0} (P : A → Type 0) (Q : B → Type 0) (f : A → B) (o : Option A)
    → ((x : A) → P x → Q (f x)) → IfSome o P → IfSome (option_map f o) Q
option_map_so P Q f None each so = tt
option_map_so P Q f (Some x) each so = each x so

pub lowest_so : (P : ℕ → Type 0) (pile : Type 0) (found : Option ℕ) → IfSome found P → pile
    → IsSoOfLowest P pile found
lowest_so P pile None so is = is
lowest_so P pile (Some n) so is = so
