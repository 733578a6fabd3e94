-- A cell's entries in a list of facts, and the fact that gives one of them.
use Rattle.std.proofs.Common.{◌≡◌, ℕ, ◌+◌, ◌<◌, suc, zero, true, false, Option, Some, None, List, [], ◌∷◌, length, take}
use Rattle.std.proofs.Common.{refl, ap, get_or, slice_get}
use Rattle.std.specs.Option.{is_some}
use Rattle.brc_model.specs.declared.fact.Fact.{Fact}
use Rattle.brc_model.specs.declared.fact.Fact.TheVariants.{Contains}
use Rattle.brc_model.specs.Tests.{IsEntryAt}
use Rattle.std.proofs.lemmas.Option.{get_or_from_slice_get}
use Rattle.brc_model.specs.Facts.{entries_in, entry_in}
use Rattle.std.specs.List.{filter_map, cons_option}
use Rattle.std.proofs.lemmas.List.{take_more, length-append}
use Rattle.std.proofs.lemmas.List.Elements.{filter_map-append}
use Rattle.std.proofs.lemmas.Bool.{eq-eqb}

-- the entry is what the fact at its place says
pub slice_get-entries_in : (facts : List Fact) (cell place : ℕ) (fact : Fact) → slice_get facts place ≡ Some fact
    → (object : ℕ) → entry_in cell fact ≡ Some object
    → slice_get (entries_in facts cell) (length (entries_in (take place facts) cell)) ≡ Some object
slice_get-entries_in [] cell place fact there object says = cc
slice_get-entries_in (x ∷ xs) cell zero fact there object says =
    let e : x ≡ fact = cc in rw (e, says) refl
slice_get-entries_in (x ∷ xs) cell (suc place) fact there object says =
    slice_get-cons_option (entry_in cell x) (entries_in xs cell) (entries_in (take place xs) cell) object
    (slice_get-entries_in xs cell place fact there object says)
  where
    slice_get-cons_option : (o : Option ℕ) (ys zs : List ℕ) (object : ℕ) → slice_get ys (length zs) ≡ Some object
        → slice_get (cons_option o ys) (length (cons_option o zs)) ≡ Some object
    slice_get-cons_option None ys zs object h = h
    slice_get-cons_option (Some y) ys zs object h = h

pub entry_in_own : (cell object : ℕ) → entry_in cell (Contains cell object) ≡ Some object
entry_in_own cell object = rw (eq-eqb cell cell refl) refl

pub entry_at : (facts : List Fact) (cell index place : ℕ) → (there : IsEntryAt facts cell index place)
    → slice_get (entries_in facts cell) index ≡ Some there.object
entry_at facts cell index place there =
    rw (← there.before) (slice_get-entries_in facts cell place (Contains cell there.object) there.stands there.object
    (entry_in_own cell there.object))

-- what stands at the place gives the entry
pub entry_read : (facts : List Fact) (cell index place : ℕ) (d : Fact) → IsEntryAt facts cell index place
    → entry_in cell (get_or facts place d) ≡ slice_get (entries_in facts cell) index
entry_read facts cell index place d there =
    rw (
      get_or_from_slice_get facts place (Contains cell there.object) d there.stands,
      entry_in_own cell there.object,
      entry_at facts cell index place there,
    ) refl

-- how many entries a fact gives
abbrev pub count_said : Option ℕ → ℕ
count_said None = 0
count_said (Some object) = 1

pub length-cons_option : (o : Option ℕ) → length (cons_option o []) ≡ count_said o
length-cons_option None = refl
length-cons_option (Some x) = refl

-- one fact more gives at most one entry more
pub length-entries_in_more : (facts : List Fact) (cell i : ℕ) (d : Fact) → i < length facts
    → length (entries_in (take (i + 1) facts) cell) ≡ length (entries_in (take i facts) cell) + count_said
    (entry_in cell (get_or facts i d))
length-entries_in_more facts cell i d within =
    rw (
      take_more facts i d within,
      filter_map-append (entry_in cell) (take i facts) (get_or facts i d ∷ []),
      length-append (filter_map (entry_in cell) (take i facts)) (filter_map (entry_in cell) (get_or facts i d ∷ [])),
    ) (ap (λ n. length (entries_in (take i facts) cell) + n) (length-cons_option (entry_in cell (get_or facts i d))))

pub count_said-some : (o : Option ℕ) → is_some o ≡ true → count_said o ≡ 1
count_said-some None h = cc
count_said-some (Some x) h = refl

pub count_said-none : (o : Option ℕ) → is_some o ≡ false → count_said o ≡ 0
count_said-none None h = refl
count_said-none (Some x) h = cc
