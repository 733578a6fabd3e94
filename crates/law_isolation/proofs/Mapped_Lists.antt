-- The calls of lists and queues commute with a map of their entries.
use Rattle.std.proofs.Common.{◌≡◌, ◌∙◌, refl, sym, ap, ℕ, ◌-◌, Bool, true, false, cond, ltb, List, [], ◌∷◌, ◌++◌, map}
use Rattle.std.proofs.Common.{length, take, drop, set, Option, Some, None, Result, Ok, Err, slice_get}
use Rattle.std.specs.Option.{option_map}
use Rattle.std.proofs.lemmas.List.{map-append, length-map, take-map, drop-map, map-set}
use Rattle.std.proofs.lemmas.Option.{slice_get-map}
use Rattle.brc_words.specs.declared.fault.Fault.{Fault}
use Rattle.brc_words.specs.declared.fault.Fault.TheVariants as faults
use Rattle.brc_words.specs.declared.limits.TheConstants.{MOST_ENTRIES}
use Rattle.brc_plain.specs.Outcomes.{or_fault, leaving}
use Rattle.brc_plain.specs.Lists as lists
use Rattle.brc_plain.specs.Queues as queues

-- what a call answers and leaves, each mapped
module _ {R S C D : Type 0} where
  abbrev pub outcome_mapped : (R → S) → (C → D) → Result (R × C) Fault → Result (S × D) Fault
  outcome_mapped answer rest (Ok done) = Ok (answer done.0, rest done.1)
  outcome_mapped answer rest (Err fault) = Err fault

abbrev pub same : {R : Type 0} → R → R
same r = r

module _ {X Y : Type 0} (f : X → Y) where
  abbrev pub answer_mapped : Result X Fault → Result Y Fault
  answer_mapped (Ok x) = Ok (f x)
  answer_mapped (Err fault) = Err fault

  pub or_fault_mapped : (fault : Fault) (o : Option X) → or_fault fault (option_map f o) ≡ answer_mapped
      (or_fault fault o)
  or_fault_mapped fault None = refl
  or_fault_mapped fault (Some x) = refl

  pub leaving_mapped : {C D : Type 0} (rest : C → D) (left : C) (r : Result X Fault)
      → leaving (rest left) (answer_mapped r) ≡ outcome_mapped f rest (leaving left r)
  leaving_mapped rest left (Ok x) = refl
  leaving_mapped rest left (Err fault) = refl

  pub get_mapped : (entries : List X) (index : ℕ) → lists.get (map f entries) index ≡ answer_mapped
      (lists.get entries index)
  get_mapped entries index =
      ap (or_fault faults.NoSuchPlace) (slice_get-map f entries index)
      ∙ or_fault_mapped faults.NoSuchPlace (slice_get entries index)

  -- an entry comes out, and others are left
  taken_mapped : (entries left : List X) (index : ℕ) (mapped : List Y) → mapped ≡ map f left
      → leaving mapped (lists.get (map f entries) index) ≡ outcome_mapped f (map f)
      (leaving left (lists.get entries index))
  taken_mapped entries left index mapped is =
      ap (λ (rest : List Y). leaving rest (lists.get (map f entries) index)) is
      ∙ ap (leaving (map f left)) (get_mapped entries index)
      ∙ leaving_mapped (map f) left (lists.get entries index)

  pushed_if : (b : Bool) (entries : List X) (value : X)
      → cond b (Ok (tt, map f entries ++ f value ∷ [])) (Err faults.Full)
      ≡ outcome_mapped {R = Unit {0}} same (map f) (cond b (Ok (tt, entries ++ value ∷ [])) (Err faults.Full))
  pushed_if true entries value = ap (λ (rest : List Y). Ok (tt, rest)) (sym (map-append f entries (value ∷ [])))
  pushed_if false entries value = refl

  pub push_mapped : (entries : List X) (value : X)
      → lists.push (map f entries) (f value) ≡ outcome_mapped same (map f) (lists.push entries value)
  push_mapped entries value =
      ap (λ (len : ℕ). cond (ltb len MOST_ENTRIES) (Ok (tt, map f entries ++ f value ∷ [])) (Err faults.Full))
      (length-map entries f)
      ∙ pushed_if (ltb (length entries) MOST_ENTRIES) entries value

  pub pop_mapped : (entries : List X) → lists.pop (map f entries) ≡ outcome_mapped f (map f) (lists.pop entries)
  pop_mapped entries =
      ap (λ (len : ℕ). leaving (take (len - 1) (map f entries)) (lists.get (map f entries) (len - 1)))
      (length-map entries f)
      ∙ taken_mapped entries (take (length entries - 1) entries) (length entries - 1)
      (take (length entries - 1) (map f entries))
      (take-map f (length entries - 1) entries)

  pub set_mapped : (entries : List X) (index : ℕ) (value : X)
      → lists.set (map f entries) index (f value) ≡ outcome_mapped f (map f) (lists.set entries index value)
  set_mapped entries index value =
      taken_mapped entries (set entries index value) index (set (map f entries) index (f value))
      (sym (map-set f entries index value))

  pub receive_mapped : (entries : List X) → queues.receive (map f entries) ≡ outcome_mapped f (map f)
      (queues.receive entries)
  receive_mapped entries = taken_mapped entries (drop 1 entries) 0 (drop 1 (map f entries)) (drop-map f 1 entries)
